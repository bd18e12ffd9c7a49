use Rattle.std.proofs.Common.{ap, sym, ◌∙◌}
use Rattle.std.specs.Cmp.Lexicographic.{bytes_decides}
use Rattle.std.proofs.lemmas.Bool.Decides.{same_from_decides}
use Rattle.std.proofs.lemmas.Slice.Eq.{bytes_eq-Decides}
use Rattle.pm_token.proofs.NameLemmas.{plain_is}
use Rattle.pm_token.proofs.SpellingLemmas.{spelled_is}
use Rattle.pm_token.proofs.identifiers.Ident.eq_str.Goals as goal

pub returns-in-Some : goal.returns-in-Some
returns-in-Some c =
    let kept = c.in-Some.ensures in
    let raw = sym (ap (λ x. x.raw) c.self.view_is) ∙ kept.2 in
    let name = sym (ap (λ x. x.name) c.self.view_is) ∙ sym kept.0 in
    let turned = bytes_eq-Decides c.args.text.now c.in-Some.name.now in
    let same = same_from_decides _ _ (λ h. sym (turned.0 h), λ h. turned.1 (sym h))
    (bytes_eq-Decides c.in-Some.name.now c.args.text.now) in
    let exactly = plain_is _ _ c.in-Some.name.now c.args.text.now c.eq.result raw name
    kept.1
    c.utf8.text ((rw c.as_bytes.ensures.value at c.eq.ensures) ∙ same) in
    let value = same_from_decides _ _ exactly (bytes_decides _ _) in
    rw spelled_is (record { exactly = exactly; value = value; spelled = exactly; computed = value })
