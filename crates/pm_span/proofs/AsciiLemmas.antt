-- No text has more characters than bytes. File names have as many of both.
use Rattle.std.proofs.Common.{◌≡◌, ℕ, zero, suc, ◌^◌, ◌++◌, codes, ◌<◌, ◌≤◌, true, Bool, List, [], ◌∷◌, length, refl}
use Rattle.std.proofs.Common.{ap, arith, ltb-true}
use Rattle.std.specs.Prelude.{nat_lt}
use Rattle.std.specs.List.{list_all}
use Rattle.std.specs.Str.{chars, IsUtf8, IsAscii}
use Rattle.std.specs.Fmt.{decimal}
use Rattle.std.proofs.lemmas.Bool.{and_parts}
use Rattle.std.proofs.lemmas.Fmt.{IsAscii-decimal}
use Rattle.std.proofs.lemmas.Str.Ascii.{IsAscii-nil, IsAscii-cons}
use Rattle.std.proofs.lemmas.Str.{chars-IsAscii, IsAscii-append, encodes-chars, length-le-encodes}
use Rattle.pm_span.specs.Files.{file_name}

-- a text has at most as many characters as bytes
pub length_chars_le : (bytes : List ℕ) → IsUtf8 bytes → length (chars bytes) ≤ length bytes
length_chars_le bytes utf8 = omega (arith, length-le-encodes (chars bytes), ap length (encodes-chars bytes utf8))

-- whether each character is below 128
abbrev all_ascii : List ℕ → Bool
all_ascii text = list_all (λ c. nat_lt c 128) text

-- a name of a file, as characters and as bytes
pub IsAscii-from_test : (text : List ℕ) → all_ascii text ≡ true → IsAscii text
IsAscii-from_test [] h = IsAscii-nil
IsAscii-from_test (c ∷ text) h =
    let parts = and_parts (nat_lt c 128) (all_ascii text) h in
    IsAscii-cons c text (ltb-true c 128 parts.0) (IsAscii-from_test text parts.1)

pub chars-parsed_name : (n : ℕ) → (n ≡ 0 → ⊥) → n < 2 ^ 64
    → chars (codes "<parsed string " ++ (decimal n ++ codes ">")) ≡ file_name n
chars-parsed_name zero some fits = absurd (some refl)
chars-parsed_name (suc n) some fits =
    chars-IsAscii (codes "<parsed string " ++ (decimal (suc n) ++ codes ">"))
    (IsAscii-append (codes "<parsed string ") (decimal (suc n) ++ codes ">")
    (IsAscii-from_test (codes "<parsed string ") refl)
    (IsAscii-append (decimal (suc n)) (codes ">") (IsAscii-decimal (suc n) fits) (IsAscii-from_test (codes ">") refl)))

pub chars-unspecified : chars (codes "<unspecified>") ≡ file_name 0
chars-unspecified = chars-IsAscii (codes "<unspecified>") (IsAscii-from_test (codes "<unspecified>") refl)
