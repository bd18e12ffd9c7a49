use Rattle.std.proofs.Common.{◌≡◌, ap, ap₂, sym, ◌∙◌, arith, take, drop, replicate}
use Rattle.std.specs.Str.{chars}
use Rattle.std.proofs.lemmas.Bool.Decides.{Decides-eqb}
use Rattle.std.proofs.lemmas.Slice.Eq.{bytes_eq-Decides}
use Rattle.std.proofs.lemmas.Str.{IsUtf8-had}
use Rattle.pm_token.specs.declared.symbols.short.TheConstants.{ROOM}
use Rattle.pm_token.proofs.ShortLemmas.{halves, same_bytes, same_length}
use Rattle.pm_token.proofs.symbols.short.Short.same.Goals as goal

pub returns-then-self-other : goal.returns-then-self-other
returns-then-self-other c =
    let len : c.self.inside.len ≡ c.other.inside.len = c.if-self-other.true in
    let bytes = bytes_eq-Decides c.self.inside.bytes c.other.inside.bytes in (
      λ yes. ap chars (sym c.self.view_is ∙ (ap₂ take len (bytes.0 (sym c.eq.ensures ∙ yes)) ∙ c.other.view_is)),
      λ same.
          let fronts = same_bytes _ _ (IsUtf8-had _ c.self.invariant.1) (IsUtf8-had _ c.other.invariant.1)
          (ap chars c.self.view_is ∙ (same ∙ ap chars (sym c.other.view_is))) in
          c.eq.ensures ∙ bytes.1 (halves c.self.inside.len _ _
          (fronts ∙ ap (λ n. take n c.other.inside.bytes) (sym len))
          (c.self.invariant.2 ∙ (ap (λ n. drop n (replicate ROOM 0)) len
          ∙ (sym c.other.invariant.2 ∙ ap (λ n. drop n c.other.inside.bytes) (sym len))))),
    )

pub returns-else-self-other : goal.returns-else-self-other
returns-else-self-other c = (
  λ yes. absurd (c.if-self-other.false ((Decides-eqb _ _).0 yes)),
  λ same.
      let fronts = same_bytes _ _ (IsUtf8-had _ c.self.invariant.1) (IsUtf8-had _ c.other.invariant.1)
      (ap chars c.self.view_is ∙ (same ∙ ap chars (sym c.other.view_is))) in
      absurd (c.if-self-other.false (same_length _ _ c.self.inside.bytes c.other.inside.bytes
      (omega (arith, c.self.told, c.self.invariant.0)) (omega (arith, c.other.told, c.other.invariant.0)) fronts)),
)
