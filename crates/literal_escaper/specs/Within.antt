-- Ranges of whole characters.
use Rattle.std.specs.Prelude.{ℕ, ◌≤◌, List, All, length}
use Rattle.std.specs.Str.{IsCharBoundary}
use Rattle.std.specs.declared.ops.Range.{Range}

-- whether the range begins and ends between two characters of this text, which is given as its bytes
pub record IsRangeIn (text : List ℕ) (range : Range ℕ) : Type 0 where
  pub ordered : range.start ≤ range.end
  pub within : range.end ≤ length text
  pub start : IsCharBoundary text range.start
  pub end : IsCharBoundary text range.end

-- `item-range`: whether the range of each item or error is in the text and ends at whole characters on both sides
abbrev pub AreWithin : {A : Type 0} → List ℕ → List (Range ℕ × A) → Type 0
AreWithin text items = All (λ item. IsRangeIn text item.0) items
