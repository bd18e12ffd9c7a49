-- The characters of a text can be counted among its bytes.
use Rattle.std.proofs.Common.{◌≡◌, ℕ, ◌+◌, ◌-◌, nat_lt, List, [], ◌∷◌, length, take, drop, refl}
use Rattle.std.proofs.Common.{sym, ap, ◌∙◌, arith, length-append}
use Rattle.std.specs.Char.{encode_utf8}
use Rattle.std.specs.List.{count_by, slice_range}
use Rattle.std.specs.Str.{chars, IsAscii, IsUtf8, IsCharBoundary, encode_utf8_all}
use Rattle.std.proofs.lemmas.Bool.{cond_both, ltb-true}
use Rattle.std.proofs.lemmas.List.{take-append-drop}
use Rattle.std.proofs.lemmas.List.Sums.{sum_by-append}
use Rattle.std.proofs.lemmas.Str.{encodes-chars, chars-append, chars-IsAscii, IsUtf8-from_ascii, IsUtf8-take}
use Rattle.lexical.specs.Text.{is_first_byte}

-- exactly one byte of a character begins it
one_first : (c : ℕ) → count_by is_first_byte (encode_utf8 c) ≡ 1
unfolding encode_utf8
one_first c =
    let single : List ℕ → Type 0 = λ bytes. count_by is_first_byte bytes ≡ 1 in
    cond_both (nat_lt c 128) _ _ single (λ low. grind (arith, ltb-true c 128 low)) (λ past.
    cond_both (nat_lt c 2048) _ _ single (λ low. grind arith) (λ past.
    cond_both (nat_lt c 65536) _ _ single (λ low. grind arith) (λ past. grind arith)))

firsts : (cs : List ℕ) → count_by is_first_byte (encode_utf8_all cs) ≡ length cs
firsts [] = refl
firsts (c ∷ cs) = simp (sum_by-append, one_first, firsts cs) (omega arith)

pub chars_counted : (text : List ℕ) → IsUtf8 text → count_by is_first_byte text ≡ length (chars text)
chars_counted text utf8 = ap (count_by is_first_byte) (sym (encodes-chars text utf8)) ∙ firsts (chars text)

-- the parts of a text that is cut between two characters have all its characters
pub chars_cut : (text : List ℕ) (n : ℕ) → IsUtf8 text → IsCharBoundary text n
    → length (chars (take n text)) + length (chars (drop n text)) ≡ length (chars text)
chars_cut text n utf8 cut =
    sym (ap length (ap chars (sym (take-append-drop n text))
    ∙ chars-append (take n text) (drop n text) (IsUtf8-take text n utf8 cut))
    ∙ length-append (chars (take n text)) (chars (drop n text)))

-- a range from 0 is a prefix of the text
pub front_range : (text : List ℕ) (n : ℕ) → slice_range text 0 n ≡ take n text
front_range text n = let same : n - 0 ≡ n = omega arith in ap (λ m. take m text) same

-- each ASCII byte is one character
pub ascii_counted : (bytes : List ℕ) → IsAscii bytes → length bytes ≡ count_by is_first_byte bytes
ascii_counted bytes low =
    let same = chars-IsAscii bytes low in
    sym (chars_counted bytes (IsUtf8-from_ascii bytes low) ∙ ap length same)

-- a prefix and the rest have all bytes that begin a character
pub firsts_cut : (bytes : List ℕ) (n : ℕ)
    → count_by is_first_byte (take n bytes) + count_by is_first_byte (drop n bytes) ≡ count_by is_first_byte bytes
firsts_cut bytes n =
    sym (sum_by-append _ (take n bytes) (drop n bytes))
    ∙ ap (count_by is_first_byte) (take-append-drop n bytes)
