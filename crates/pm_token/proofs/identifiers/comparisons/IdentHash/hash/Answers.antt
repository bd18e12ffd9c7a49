use Rattle.std.proofs.Common.{◌≡◌, true, false, fold, sym, ap, ◌∙◌}
use Rattle.std.specs.Hash as fed
use Rattle.pm_token.proofs.CompareLemmas.{name_of, fed_raw, fed_plain}
use Rattle.pm_token.proofs.identifiers.comparisons.IdentHash.hash.Goals.{then-is_raw, else-is_raw}
use Rattle.pm_token.proofs.identifiers.comparisons.IdentHash.hash.Goals as goal

pub returns-clause-value : goal.returns-clause-value
returns-clause-value g c =
    let own = name_of _ c.self.view_is c.as_str-name.ensures c.as_str-name.utf8 c.self.invariant in
    elim c.if-is_raw.branch [
      | then-is_raw w ↦
          let raw : c.args.self.now.raw ≡ true = sym (ap (λ x. x.raw) c.self.view_is)
          ∙ (sym c.is_raw.ensures ∙ w.if-is_raw.true) in
          c.hash.ensures ∙ (ap (λ x. fold g.H.Hasher.write x (fed.str c.as_str-name.result.now))
          (w.state-is ∙ w.write.ensures)
          ∙ ap (fold g.H.Hasher.write c.args.state.now) (sym (fed_raw _ _ own raw)))
      | else-is_raw w ↦
          let raw : c.args.self.now.raw ≡ false = sym (ap (λ x. x.raw) c.self.view_is)
          ∙ (sym c.is_raw.ensures ∙ w.if-is_raw.false) in
          c.hash.ensures ∙ (ap (λ x. fold g.H.Hasher.write x (fed.str c.as_str-name.result.now)) w.state-is
          ∙ ap (fold g.H.Hasher.write c.args.state.now) (sym (fed_plain _ _ own raw)))
    ]
