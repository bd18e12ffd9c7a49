use Rattle.std.proofs.Common.{◌≡◌, true, ◌++◌, codes, refl, ap, ap₂, sym, ◌∙◌, rules}
use Rattle.std.specs.Fmt.{IsPlainFormatter}
use Rattle.std.specs.Str.{encode_utf8_all}
use Rattle.std.proofs.lemmas.Grind.{put_two}
use Rattle.lexical.specs.Token.{raw_front}
use Rattle.pm_token.proofs.NameLemmas.{written_is}
use Rattle.pm_token.proofs.identifiers.IdentDisplay.fmt.Goals.{then-is_raw+in_ok-write_str, else-is_raw}
use Rattle.pm_token.proofs.identifiers.IdentDisplay.fmt.Goals as goal

-- `r#` if the identifier is raw, and then the name
pub returns-clause-writes : goal.returns-clause-writes
returns-clause-writes g c = elim c.if-is_raw.branch [
  | then-is_raw+in_ok-write_str w ↦ λ plain ok.
      let raw : c.args.self.now.raw ≡ true = sym (ap (λ x. x.raw) c.self.view_is)
      ∙ (sym c.is_raw.ensures ∙ w.if-is_raw.true) in
      let name : c.args.self.now.name ≡ c.self.inside.name.name = sym (ap (λ x. x.name) c.self.view_is) in
      let same : encode_utf8_all (raw_front c.args.self.now.raw ++ c.args.self.now.name)
      ≡ codes "r#" ++ encode_utf8_all c.self.inside.name.name =
      written_is c.args.self.now.raw c.args.self.now.name ∙ ap₂ (λ b n. raw_front b ++ encode_utf8_all n) raw name in
      let first = w.in_ok-write_str.ensures.writes plain (refl {a = true}) in
      let after : IsPlainFormatter {W = g.row.W.Denot} c.if-is_raw.f = rw w.f-is first.plain in
      put_two g.W.Write.write_str_gives _ c.if-is_raw.f _ (codes "r#") (encode_utf8_all c.self.inside.name.name) _
      (rw w.f-is first) (c.fmt.ensures.writes after ok) (sym same)
  | else-is_raw w ↦ search rules
]
