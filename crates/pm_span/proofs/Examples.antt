-- The definitions, evaluated at small texts and maps.
use Rattle.std.proofs.Common.{◌≡◌, ℕ, List, [], ◌∷◌, refl, lit≤, arith}
use lib.Utf8.{encode}
use Rattle.std.specs.Prelude.{codes}
use Rattle.pm_span.specs.LineIndex.{after_line_feeds}
use Rattle.pm_span.specs.Files.{Files, next_lo, Fits, with_file}
use Rattle.pm_span.specs.CharOffset.{line_column, byte_offset}

abbrev two_lines : List ℕ
two_lines = codes "aaa\nbbb"

-- the start of a text
first_line : line_column two_lines 0 ≡ record { line = 1; column = 0 }
first_line = refl

-- before the line feed
line_end : line_column two_lines 3 ≡ record { line = 1; column = 3 }
line_end = refl

-- after the line feed
line_start : line_column two_lines 4 ≡ record { line = 2; column = 0 }
line_start = refl

-- the end of the text
last_line : line_column two_lines 7 ≡ record { line = 2; column = 3 }
last_line = refl

-- CR does not end a line
return_alone : line_column (codes "a\rb") 3 ≡ record { line = 1; column = 3 }
return_alone = refl

-- a character that isn't ASCII: U+13015 takes four bytes
byte_lengths : byte_offset (77845 ∷ codes "a") 2 ≡ 5
unfolding encode
byte_lengths = refl

starts : after_line_feeds (codes "a\n\nb\n") ≡ 2 ∷ 3 ∷ 5 ∷ []
starts = refl

-- the first file begins at 1
no_file : next_lo (record { texts = []; limit = 5 }) ≡ 1
no_file = refl

abbrev of_limit : ℕ → Files
of_limit limit = record { texts = []; limit = limit }

-- with the limit 5, the text `abcd` fits, and after it no text does
fits_at_5 : Fits (of_limit 5) 4
fits_at_5 = lit≤ tt

full_at_5 : Fits (with_file (of_limit 5) (codes "abcd")) 0 → ⊥
full_at_5 h = absurd (omega arith)

-- with the limit 6, the empty text still fits after `abcd`, at position 6
fits_at_6 : Fits (with_file (of_limit 6) (codes "abcd")) 0
fits_at_6 = lit≤ tt

stands_at_6 : next_lo (with_file (of_limit 6) (codes "abcd")) ≡ 6
stands_at_6 = refl
