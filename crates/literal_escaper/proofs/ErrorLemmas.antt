-- The errors among items, one after another.
use Rattle.std.proofs.Common.{◌≡◌, ℕ, List, [], ◌∷◌, Result, Ok, Err, refl, sym, ap, ◌∙◌}
use Rattle.std.specs.declared.ops.Range.{Range}
use Rattle.literal_escaper.specs.declared.errors.EscapeError.{EscapeError}
use Rattle.literal_escaper.specs.Errors.{errors_among}
use Rattle.literal_escaper.specs.Items.{Item}

-- if no items are left, no errors are
pub errors_none : {U : Type 0} (items start : List (Item U)) → errors_among items ≡ errors_among start → items ≡ []
    → errors_among start ≡ []
unfolding errors_among
errors_none items start same none = sym same ∙ ap errors_among none

-- if the next item is an error, it is the next error
pub errors_here : {U : Type 0} (items start rest : List (Item U)) (range : Range ℕ) (unit : Result U EscapeError)
    (e : EscapeError)
    → errors_among items ≡ errors_among start → items ≡ (range, unit) ∷ rest → unit ≡ Err e
    → errors_among start ≡ (range, e) ∷ errors_among rest
unfolding errors_among
errors_here items start rest range unit e same first is =
    sym same ∙ (ap errors_among first ∙ ap (λ u. errors_among ((range, u) ∷ rest)) is)

-- if the next item is no error, it is skipped
pub errors_past : {U : Type 0} (items start rest : List (Item U)) (range : Range ℕ) (unit : Result U EscapeError)
    → errors_among items ≡ errors_among start → items ≡ (range, unit) ∷ rest → ((e : EscapeError) → unit ≡ Err e → ⊥)
    → errors_among rest ≡ errors_among start
unfolding errors_among
errors_past items start rest range (Ok unit) same first other = sym (ap errors_among first) ∙ same
errors_past items start rest range (Err e) same first other = absurd (other e refl)
