-- What a contract says of a `Span`: its positions.
use Rattle.std.specs.Prelude.{ℕ, Bool, ◌==◌}
use Rattle.std.specs.Ordering.{eq_of_both, on}

-- the positions from `lo` to `hi`, in characters
pub record Extent : Type 0 where
  pub lo : ℕ
  pub hi : ℕ

-- the span of a token that was not read from a text: from 0 to 0
abbrev pub nowhere : Extent
nowhere = record { lo = 0; hi = 0 }

-- whether both have the same positions
abbrev pub extent_eq : Extent → Extent → Bool
extent_eq = eq_of_both (on (λ extent. extent.lo) ◌==◌) (on (λ extent. extent.hi) ◌==◌)
