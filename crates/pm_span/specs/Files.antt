-- What a contract says of a `SourceMap`: its files. Each file is a text with positions of its own.
use Rattle.std.specs.Prelude.{ℕ, zero, suc, ◌+◌, ◌≤◌, ◌≡◌, List, [], ◌∷◌, ◌++◌, length, sum_by, codes, decimal}
use Rattle.pm_span.specs.Extent.{Extent}

-- the texts of the files 1, 2, .. in order, and the largest position that may be used
pub record Files : Type 0 where
  pub texts : List (List ℕ)
  pub limit : ℕ

-- a map that has only file 0, with the largest limit
abbrev pub new_map : Files
new_map = record { texts = []; limit = 4294967295 }

-- `file-0`: the texts of all files, of which the empty text is the first
abbrev pub all_texts : Files → List (List ℕ)
all_texts map = [] ∷ map.texts

-- `positions`: how many positions these files take; each takes one more than it has characters
abbrev pub positions : List (List ℕ) → ℕ
positions texts = sum_by (λ text. length text + 1) texts

-- `next-position`: where the next file begins, one past the end of the last
abbrev pub next_lo : Files → ℕ
next_lo map = positions (all_texts map)

-- `fits`: whether a next file with this number of characters ends within the limit
abbrev pub Fits : Files → ℕ → Type 0
Fits map count = next_lo map + count ≤ map.limit

-- whether some file of the map has this text and begins at the position `lo`
pub record IsFile (map : Files) (text : List ℕ) (lo : ℕ) : Type 0 where
  pub before : List (List ℕ)
  pub after : List (List ℕ)
  pub whole : all_texts map ≡ before ++ (text ∷ after)
  pub begins : lo ≡ positions before

-- `file-name`: the name of the file with this number
abbrev pub file_name : ℕ → List ℕ
file_name zero = codes "<unspecified>"
file_name (suc n) = codes "<parsed string " ++ (decimal (suc n) ++ codes ">")

-- `holds`: whether some file of the map has all the positions of the span
pub record Holds (map : Files) (span : Extent) : Type 0 where
  pub text : List ℕ
  pub lo : ℕ
  pub file : IsFile map text lo
  pub from : lo ≤ span.lo
  pub to : span.hi ≤ lo + length text

-- the map with one more file, which has this text
abbrev pub with_file : Files → List ℕ → Files
with_file map text = record { texts = map.texts ++ (text ∷ []); limit = map.limit }

-- `extends`: whether the first files of the new map are those of the old one
abbrev pub Extends : Files → Files → Type 0
Extends old new = (more : List (List ℕ)) × (new.texts ≡ old.texts ++ more)
