-- The files of a source map follow one another.
use Rattle.std.specs.Prelude.{ℕ, ◌+◌, ◌<◌, ◌≤◌, ◌≡◌, List, [], ◌∷◌, length, map, slice_index_or}
use Rattle.pm_span.specs.FileInfo.{MappedText}
use Rattle.pm_span.specs.Files.{Files, positions, IsFile}
use Rattle.pm_span.specs.declared.source_map.FileRange.{FileRange}

-- file 0: the empty text at position 0
abbrev pub file_0 : MappedText
file_0 = record { text = []; lo = 0 }

-- whether the first file begins at the position, and each later one begins one past the end of the file before it
abbrev pub AreConsecutive : ℕ → List MappedText → Type 0
AreConsecutive position [] = Unit {0}
AreConsecutive position (file ∷ files) = (file.lo ≡ position) × AreConsecutive (position + (length file.text + 1)) files

-- the positions from the start to the end of a file
abbrev pub place_of : MappedText → FileRange
place_of file = record { lo = file.lo; hi = file.lo + length file.text }

abbrev pub places_of : List MappedText → List FileRange
places_of files = map place_of files

-- whether the files from 1 on follow one another at these positions, and the last file ends within the limit
pub record AreWithin (limit : ℕ) (files : List MappedText) (places : List FileRange) : Type 0 where
  pub consecutive : AreConsecutive 1 files
  pub within : positions (map (λ file. file.text) files) ≤ limit
  pub taken : places ≡ places_of files

-- whether exactly the first n of these files begin at or before the position
pub record AreBegun (places : List FileRange) (position n : ℕ) : Type 0 where
  pub within : n ≤ length places
  pub before : (k : ℕ) (d : FileRange) → k < n → (slice_index_or places k d).lo ≤ position
  pub after : (k : ℕ) (d : FileRange) → n ≤ k → k < length places → position < (slice_index_or places k d).lo

-- whether this file, with its number, begins at or before the position, and no other file can have the position
pub record IsFileOf (map : Files) (position number : ℕ) (file : MappedText) : Type 0 where
  pub is_file : IsFile map file.text file.lo
  pub begins : file.lo ≤ position
  pub only :
      (text : List ℕ) (lo : ℕ) (other : IsFile map text lo) → lo ≤ position → position ≤ lo + length text
      → (text ≡ file.text) × (lo ≡ file.lo) × (length other.before ≡ number)
