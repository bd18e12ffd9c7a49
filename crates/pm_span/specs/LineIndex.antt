-- What the index of lines contains.
use Rattle.std.specs.Prelude.{ℕ, if◌then◌else◌, ◌+◌, ◌*◌, ◌<◌, ◌≤◌, List, [], ◌∷◌, length, slice_index}
use Rattle.std.specs.List.Sorted.{IsNonDecreasing}
use Rattle.pm_span.specs.CharOffset.{is_line_feed}

-- the offset after each line feed, if the text begins at the offset k
abbrev pub after_line_feeds_from : ℕ → List ℕ → List ℕ
after_line_feeds_from k [] = []
after_line_feeds_from k (c ∷ text) =
    if is_line_feed c then (k + 1) ∷ after_line_feeds_from (k + 1) text else after_line_feeds_from (k + 1) text

-- the offset after each line feed, where the next line begins
abbrev pub after_line_feeds : List ℕ → List ℕ
after_line_feeds text = after_line_feeds_from 0 text

-- whether the first n of the offsets are at most `char_offset`
pub record AreUpTo (offsets : List ℕ) (n char_offset : ℕ) : Type 0 where
  pub within : n ≤ length offsets
  pub before : (k : ℕ) → k < n → slice_index offsets k ≤ char_offset

-- whether each entry counts only line starts that are at or before the start of its block of `size` characters
abbrev pub AreBlocks : ℕ → List ℕ → List ℕ → Type 0
AreBlocks size starts blocks =
    (block : ℕ) → block < length blocks → AreUpTo starts (slice_index blocks block) (block * size)

-- whether the line starts ascend, and the counts for the blocks are right
pub record IsLineIndex (starts blocks : List ℕ) (size : ℕ) : Type 0 where
  pub rising : IsNonDecreasing starts
  pub counts : AreBlocks size starts blocks
  pub some : 0 < size
