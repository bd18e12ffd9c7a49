use Rattle.std.proofs.Common.{ap, ap₂, sym, ◌∙◌}
use Rattle.pm_token.specs.Kept.{KeptName}
use Rattle.pm_token.specs.Leaf.{Name}
use Rattle.pm_token.proofs.CompareLemmas.{name_by_bytes, eq_by_fields, eq_text}
use Rattle.pm_token.proofs.identifiers.comparisons.IdentPartialEq.eq.Goals as goal

pub returns-clause-fields : goal.returns-clause-fields
returns-clause-fields c =
    let own = ap (λ (x : Name). x.name) c.self.view_is in
    let other = ap (λ (x : Name). x.name) c.other.view_is in
    let raw = ap (λ (x : Name). x.raw) c.self.view_is in
    let other_raw = ap (λ (x : Name). x.raw) c.other.view_is in (
      λ yes. let same = c.same.ensures.0 yes in (
        sym own ∙ (ap (λ (x : KeptName). x.name) same ∙ other),
        sym raw ∙ (ap (λ (x : KeptName). x.raw) same ∙ other_raw),
      ),
      λ fields. c.same.ensures.1 (ap₂ (λ name raw. record { name = name; raw = raw })
          (own ∙ (fields.0 ∙ sym other)) (raw ∙ (fields.1 ∙ sym other_raw))),
    )

pub returns-clause-value : goal.returns-clause-value
returns-clause-value c = eq_by_fields c.args.self.now c.args.other.now _ _ c.same.result
    (name_by_bytes c.self.view_is c.self.invariant) (name_by_bytes c.other.view_is c.other.invariant)
    (returns-clause-fields c)

pub returns-clause-text : goal.returns-clause-text
returns-clause-text c = eq_text c.args.self.now c.args.other.now c.same.result (returns-clause-value c)
