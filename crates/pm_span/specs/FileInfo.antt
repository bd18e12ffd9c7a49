-- What a contract says of one file of a source map, and what the file keeps for fast look-ups.
use Rattle.std.specs.Prelude.{ℕ, ◌+◌, ◌≡◌, List, length}
use Rattle.std.specs.Str.{chars}
use Rattle.std.specs.String.{string_bytes}
use Rattle.pm_span.specs.LineIndex.{after_line_feeds}
use Rattle.pm_span.specs.declared.file_info.FileText.{FileText}
use Rattle.pm_span.specs.declared.file_info.FileText.TheVariants.{Ascii, Wide}

-- a text and the position of its first character
pub record MappedText : Type 0 where
  pub text : List ℕ
  pub lo : ℕ

-- the characters of a file's text
abbrev pub text_of : FileText → List ℕ
text_of (Ascii text) = chars (string_bytes text)
text_of (Wide index) = index.value

-- whether a text that is kept as ASCII has as many bytes as characters
abbrev pub HasItsSize : FileText → Type 0
HasItsSize (Ascii text) = length (string_bytes text) ≡ length (chars (string_bytes text))
HasItsSize (Wide index) = Unit {0}

-- whether the fields of a file that begins at position `lo` agree with its text
pub record IsKept (text : FileText) (lo hi : ℕ) (line_starts : List ℕ) : Type 0 where
  pub ends : hi ≡ lo + length (text_of text)
  pub lines : line_starts ≡ after_line_feeds (text_of text)
  pub size : HasItsSize text
