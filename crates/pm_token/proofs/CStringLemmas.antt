-- What the constructor of C strings writes is a literal, and its parts are the bytes.
use Rattle.std.proofs.Common.{◌≡◌, ◌≢◌, ℕ, ◌<◌, ◌≤◌, ◌-◌, Bool, true, false, not, ◌&&◌, ◌==◌, if◌then◌else◌, List, []}
use Rattle.std.proofs.Common.{◌∷◌, ◌++◌, codes, length, take, drop, refl, sym, ap, ap₂, ◌∙◌, subst, arith, inl, inr}
use Rattle.std.proofs.Common.{zero, suc, append_assoc, append-nil, length-append, eqb-true, nat_lt}
use Rattle.std.specs.Prelude.{encode_utf8, map}
use Rattle.std.specs.List.{concat, list_all}
use Rattle.std.specs.Char.{IsScalar}
use Rattle.std.specs.Char.Escape.{escape_unicode}
use Rattle.std.specs.Str.{chars, IsUtf8, is_utf8, encode_utf8_all, all_scalars}
use Rattle.std.specs.Str.Lossy.{utf8_valid_len, valid_len_up_to}
use Rattle.std.proofs.lemmas.Bool.{cond_both, and_from, and_parts, both_ways, false_from_ne_true, not-true, lt-ltb}
use Rattle.std.proofs.lemmas.Bool.{cases_lt}
use Rattle.std.proofs.lemmas.Str.{is_utf8-from_IsUtf8, encode_ascii, IsUtf8-append, IsUtf8-encode, encodes-chars}
use Rattle.std.proofs.lemmas.Str.{scalars-chars, len_utf8_bounds, length-encode}
use Rattle.std.proofs.lemmas.List.{take_at, take_all, drop_at}
use Rattle.lexical.specs.Text.{first_passes}
use Rattle.lexical.specs.Form.{Each}
use Rattle.lexical.specs.Quoted as rule
use Rattle.lexical.specs.Quoted.{is_octal_digit, CEscape, CUnit, CStr, is_c_plain}
use Rattle.lexical.specs.SingleQuoted.{SingleUnit}
use Rattle.lexical.specs.Literal.{IsLiteralToken}
use Rattle.lexical.specs.Literal as literals
use Rattle.lexical.proofs.QuotedLemmas.{EndsSuffix, stop_ends}
use Rattle.pm_token.specs.Escaped.{is_bare, hex_pair, char_text, written_char, content}
use Rattle.pm_token.specs.CString.{Part, Char, Byte, BeginsNone, AreParts, part_text, parts_text, has_no_zero}
use Rattle.pm_token.specs.CString.{IsCStringText, WritesFront}
use Rattle.pm_token.proofs.EscapedLemmas.{Allows, written_stands, unicode, string_plain, body_unit}
use Rattle.pm_token.proofs.EscapedLemmas.{close_without_suffix}
use Rattle.pm_token.proofs.ByteLemmas.{AreBytes, pair_hex, pair_nonzero}

-- ---- the literal

not_zero : (c : ℕ) → (c == 0) ≡ false → nat_lt 0 c ≡ true
not_zero zero e = absurd (both_ways _ e refl)
not_zero (suc c) e = lt-ltb 0 (suc c) (omega arith)

-- C strings allow what is written for a character that isn't zero
allows_c : (c : ℕ) → IsScalar c → (c == 0) ≡ false → Allows is_c_plain CEscape written_char 34 c
allows_c c scalar some = record {
  letter = λ letter r is. inl (letter, refl, is);
  zeros = λ r e. absurd (both_ways _ some e);
  other = λ r plain. cond_both (is_bare c) (c ∷ []) (escape_unicode c) (λ p. SingleUnit is_c_plain CEscape p r)
      (λ e. inl (c, refl, and_from _ _ (string_plain c plain) (ap not some)))
      (λ e. unicode (codes "nrt\\'\"") rule.nonzero_pair (λ n. nat_lt 0 n) is_c_plain c r scalar (not_zero c some));
}

char_unit : (c : ℕ) (r : List ℕ) → IsScalar c → (c == 0) ≡ false → CUnit (part_text (Char c)) r
char_unit c r scalar some = body_unit is_c_plain CEscape _ _
    (written_stands is_c_plain CEscape written_char 34 c [] r (allows_c c scalar some) refl)

byte_unit : (b : ℕ) (r : List ℕ) → b < 256 → (b == 0) ≡ false → CUnit (part_text (Byte b)) r
byte_unit b r low some = inr (inr (record {
  front = codes "\\";
  back = codes "x" ++ hex_pair b;
  whole = refl;
  first = refl;
  second =
      inr (inr (inl (record {
        front = codes "x";
        back = hex_pair b;
        whole = refl;
        first = refl;
        second = (pair_hex b r low, pair_nonzero b r low some);
      })));
}))

-- the first character of bytes that have no zero isn't zero
pub char_some : (c : ℕ) (rest : List ℕ) → has_no_zero (encode_utf8 c ++ rest) ≡ true → (c == 0) ≡ false
char_some c rest none = false_from_ne_true _ (λ e.
    let zeros : has_no_zero (0 ∷ rest) ≡ true =
    ap (λ x. has_no_zero (x ++ rest))
    (sym (encode_ascii 0 (omega arith)) ∙ ap encode_utf8 (sym (eqb-true c 0 e))) ∙ none in
    both_ways false refl (and_parts false (has_no_zero rest) zeros).0)

pub no_zero_after : (front rest : List ℕ) → has_no_zero (front ++ rest) ≡ true → has_no_zero rest ≡ true
no_zero_after [] rest none = none
no_zero_after (b ∷ front) rest none = no_zero_after front rest (and_parts _ _ none).1

bytes_after : (front rest : List ℕ) → AreBytes (front ++ rest) → AreBytes rest
bytes_after [] rest are = are
bytes_after (b ∷ front) rest are = bytes_after front rest are.1

-- what is written for each part
abbrev texts_of : List Part → List (List ℕ)
texts_of [] = []
texts_of (part ∷ parts) = part_text part ∷ texts_of parts

texts_whole : (parts : List Part) → parts_text parts ≡ concat (texts_of parts)
texts_whole [] = refl
texts_whole (part ∷ parts) = ap (λ p. part_text part ++ p) (texts_whole parts)

each_part : (parts : List Part) (bytes r : List ℕ) → AreParts parts bytes → AreBytes bytes → has_no_zero bytes ≡ true
    → Each CUnit (texts_of parts) r
each_part [] bytes r are fit none = tt
each_part (Char c ∷ parts) bytes r are fit none =
    let rest_after = are.1 in
    let split = are.2 in
    let zeros : has_no_zero (encode_utf8 c ++ rest_after) ≡ true = ap has_no_zero (sym split) ∙ none in (
      char_unit c (concat (texts_of parts) ++ r) are.0 (char_some c rest_after zeros),
      each_part parts rest_after r are.3 (bytes_after (encode_utf8 c) rest_after (subst AreBytes split fit))
          (no_zero_after (encode_utf8 c) rest_after zeros),
    )
each_part (Byte b ∷ parts) bytes r are fit none =
    let rest_after = are.1 in
    let split = are.2 in
    let zeros = and_parts _ _ (ap has_no_zero (sym split) ∙ none) in
    let bytes_fit = subst AreBytes split fit in (
      byte_unit b (concat (texts_of parts) ++ r) bytes_fit.0 (not-true _ zeros.0),
      each_part parts rest_after r are.3 bytes_fit.1 zeros.1,
    )

pub c_string_stands : (parts : List Part) (bytes r : List ℕ) → AreParts parts bytes → AreBytes bytes
    → has_no_zero bytes ≡ true → EndsSuffix r
    → CStr (codes "c\"" ++ (parts_text parts ++ codes "\"")) r
c_string_stands parts bytes r are fit none ends = record {
  front = codes "c\"";
  back = parts_text parts ++ codes "\"";
  whole = refl;
  first = refl;
  second = record {
    front = parts_text parts;
    back = codes "\"";
    whole = refl;
    first = record {
      units = texts_of parts;
      whole = texts_whole parts;
      each =
          each_part parts bytes (34 ∷ r) are fit none;
    };
    second = close_without_suffix (codes "\"") r ends;
  };
}

-- what `c_string` writes is a whole literal
pub c_string_whole : (bytes text : List ℕ) → IsCStringText bytes text → AreBytes bytes → has_no_zero bytes ≡ true
    → IsLiteralToken text
unfolding IsLiteralToken literals.Literal
c_string_whole bytes text is fit none =
    subst (λ t. literals.AnyLiteral t []) (sym is.whole)
    (inl (inl (inr (inr (inr (inr (inl
    (c_string_stands is.parts bytes [] is.reads fit none (stop_ends [] refl)))))))))

-- ---- the parts of bytes

-- how a character that isn't zero is written: its short escape, or else as in a string
abbrev later : ℕ → List ℕ
later c =
    if c == 9 then codes "\\t"
    else if c == 13 then codes "\\r"
    else if c == 10 then codes "\\n"
    else if c == 92 then codes "\\\\"
    else if c == 34 then 92 ∷ 34 ∷ []
    else written_char c

-- what follows a character matters only if the character is zero
some_written : (c : ℕ) (rest : List ℕ) → (c == 0) ≡ false → char_text 34 written_char c rest ≡ later c
some_written c rest some = ap (λ z. if z && first_passes is_octal_digit rest then codes "\\x00" else if z then codes
    "\\0" else later c) some

-- whether no character is zero
abbrev pub no_zero_in : List ℕ → Bool
no_zero_in cs = list_all (λ c. not (c == 0)) cs

text_parts : (cs : List ℕ) → no_zero_in cs ≡ true → parts_text (map Char cs) ≡ content 34 written_char cs
text_parts [] none = refl
text_parts (c ∷ cs) none =
    let parts = and_parts _ _ none in
    let some : (c == 0) ≡ false = not-true _ parts.0 in
    ap₂ (λ x y. x ++ y) (some_written c [] some ∙ sym (some_written c cs some)) (text_parts cs parts.1)

parts_append : (ps qs : List Part) → parts_text (ps ++ qs) ≡ parts_text ps ++ parts_text qs
parts_append [] qs = refl
parts_append (p ∷ ps) qs = ap (λ x. part_text p ++ x) (parts_append ps qs)
    ∙ sym (append_assoc (part_text p) (parts_text ps) (parts_text qs))

-- the parts of a text, followed by other parts
chars_parts : (cs : List ℕ) (more : List Part) (rest : List ℕ) → all_scalars cs ≡ true → AreParts more rest
    → AreParts (map Char cs ++ more) (encode_utf8_all cs ++ rest)
chars_parts [] more rest all are = are
chars_parts (c ∷ cs) more rest all are =
    let parts = and_parts _ _ all in (
      parts.0,
      encode_utf8_all cs ++ rest,
      append_assoc (encode_utf8 c) (encode_utf8_all cs) rest,
      chars_parts cs more rest parts.1 are,
    )

-- if no byte of a text is zero, no character is
chars_some : (cs rest : List ℕ) → has_no_zero (encode_utf8_all cs ++ rest) ≡ true → no_zero_in cs ≡ true
chars_some [] rest none = refl
chars_some (c ∷ cs) rest none =
    let whole : has_no_zero (encode_utf8 c ++ (encode_utf8_all cs ++ rest)) ≡ true =
    ap has_no_zero (sym (append_assoc (encode_utf8 c) (encode_utf8_all cs) rest)) ∙ none in
    and_from _ _ (ap not (char_some c (encode_utf8_all cs ++ rest) whole))
    (chars_some cs rest (no_zero_after (encode_utf8 c) (encode_utf8_all cs ++ rest) whole))

-- ---- the end of the longest text

longest : (bytes : List ℕ) (m n : ℕ) → m ≤ n → is_utf8 (take m bytes) ≡ true → m ≤ valid_len_up_to bytes n
longest bytes m zero le is = le
longest bytes m (suc n) le is =
    cond_both (is_utf8 (take (suc n) bytes)) (suc n) (valid_len_up_to bytes n) (λ k. m ≤ k) (λ e. le)
    (λ e. longest bytes m n (shorter e) is)
  where
    shorter : is_utf8 (take (suc n) bytes) ≡ false → m ≤ n
    shorter e = elim (cases_lt m (suc n)) [
      | inl less ↦ omega (arith, less)
      | inr more ↦ let same : m ≡ suc n = omega (arith, le, more) in
          absurd (both_ways _ e (subst (λ k. is_utf8 (take k bytes) ≡ true) same is))
    ]

-- after the longest text at the start, no character begins
begins_none : (bytes valid tail : List ℕ) → IsUtf8 valid → bytes ≡ valid ++ tail → length valid ≡ utf8_valid_len bytes
    → BeginsNone tail
unfolding utf8_valid_len
begins_none bytes valid tail utf8 whole long c rest scalar e =
    let front = valid ++ encode_utf8 c in
    let all : bytes ≡ front ++ rest = whole
    ∙ (ap (λ x. valid ++ x) e ∙ sym (append_assoc valid (encode_utf8 c) rest)) in
    let cut : take (length front) bytes ≡ front = ap (take (length front)) all
    ∙ take_at front rest (length front) refl in
    let within : length front ≤ length bytes = omega (arith, ap length all, length-append front rest) in
    let most =
    longest bytes (length front) (length bytes) within
    (is_utf8-from_IsUtf8 (take (length front) bytes)
    (subst IsUtf8 (sym cut) (IsUtf8-append valid (encode_utf8 c) utf8 (IsUtf8-encode c scalar)))) in
    omega (arith, most, long, length-append valid (encode_utf8 c), length-encode c, len_utf8_bounds c)

-- ---- one step

-- the bytes after a text at the start
tail_of : (bytes valid more : List ℕ) → bytes ≡ valid ++ more
    → bytes ≡ valid ++ take (length bytes - length valid) (drop (length valid) bytes)
tail_of bytes valid more whole =
    let rest_after : drop (length valid) bytes ≡ more = ap (drop (length valid)) whole
    ∙ drop_at valid more (length valid) refl in
    let count : length more ≤ length bytes - length valid = omega (arith, ap length whole, length-append valid more) in
    whole ∙ ap (λ x. valid ++ x)
    (sym (take_all (length bytes - length valid) more count) ∙ ap (take (length bytes - length valid)) (sym rest_after))

-- the bytes after the text of a chunk
pub chunk_whole : (bytes left valid text more : List ℕ) → left ≡ bytes → left ≡ valid ++ more → text ≡ valid
    → bytes ≡ text ++ take (length bytes - length text) (drop (length text) bytes)
chunk_whole bytes left valid text more same split is =
    tail_of bytes text more (sym same ∙ (split ∙ ap (λ x. x ++ more) (sym is)))

pub chunk_long : (bytes left valid text : List ℕ) → left ≡ bytes → length valid ≡ utf8_valid_len left → text ≡ valid
    → length text ≡ utf8_valid_len bytes
chunk_long bytes left valid text same long is = ap length is ∙ (long ∙ ap utf8_valid_len same)

-- the text at the start and the byte after it are written
pub front_and_byte : (bytes valid tail rest old new : List ℕ) (b : ℕ) → IsUtf8 valid → bytes ≡ valid ++ tail
    → length valid ≡ utf8_valid_len bytes → tail ≡ b ∷ rest
    → has_no_zero bytes ≡ true → new ≡ (old ++ content 34 written_char (chars valid)) ++ (codes "\\x" ++ hex_pair b)
    → WritesFront bytes rest old new
front_and_byte bytes valid tail rest old new b utf8 whole long split none e =
    let cs = chars valid in
    let spelled : encode_utf8_all cs ++ tail ≡ bytes = ap (λ x. x ++ tail) (encodes-chars valid utf8) ∙ sym whole in
    let text : parts_text (map Char cs) ≡ content 34 written_char cs =
    text_parts cs (chars_some cs tail (ap has_no_zero spelled ∙ none)) in
    record {
      parts = map Char cs ++ (Byte b ∷ []);
      reads = λ more are. (
        map Char cs ++ (Byte b ∷ more),
        subst (AreParts (map Char cs ++ (Byte b ∷ more))) spelled
            (chars_parts cs (Byte b ∷ more) tail (scalars-chars valid utf8)
            (begins_none bytes valid tail utf8 whole long, rest, split, are)),
        ap parts_text (sym (append_assoc (map Char cs) (Byte b ∷ []) more))
            ∙ parts_append (map Char cs ++ (Byte b ∷ [])) more,
      );
      text = e ∙ (append_assoc old (content 34 written_char cs) (codes "\\x" ++ hex_pair b)
          ∙ ap (λ x. old ++ x) (ap₂ (λ x y. x ++ y) (sym text) (sym (append-nil (codes "\\x" ++ hex_pair b)))
          ∙ sym (parts_append (map Char cs) (Byte b ∷ []))));
      shorter = omega (arith, ap length whole, length-append valid tail, ap length split);
    }

-- the text is all the bytes
pub front_alone : (bytes valid tail old new : List ℕ) → IsUtf8 valid → bytes ≡ valid ++ tail → length tail ≡ 0
    → has_no_zero bytes ≡ true → bytes ≢ []
    → new ≡ old ++ content 34 written_char (chars valid) → WritesFront bytes [] old new
front_alone bytes valid [] old new utf8 whole nothing none some e =
    let cs = chars valid in
    let spelled : encode_utf8_all cs ++ [] ≡ bytes = ap (λ x. x ++ []) (encodes-chars valid utf8) ∙ sym whole in
    let text : parts_text (map Char cs) ≡ content 34 written_char cs =
    text_parts cs (chars_some cs [] (ap has_no_zero spelled ∙ none)) in
    record {
      parts = map Char cs;
      reads = λ more are. (
        map Char cs ++ more,
        subst (AreParts (map Char cs ++ more)) spelled (chars_parts cs more [] (scalars-chars valid utf8) are),
        parts_append (map Char cs) more,
      );
      text = e ∙ ap (λ x. old ++ x) (sym text);
      shorter = some_length bytes some;
    }
  where
    some_length : (bs : List ℕ) → bs ≢ [] → 0 < length bs
    some_length [] filled = absurd (filled refl)
    some_length (b ∷ bs) filled = omega arith
front_alone bytes valid (b ∷ tail) old new utf8 whole nothing none some e = absurd (omega (arith, nothing))

pub no_bytes_left : (bytes : List ℕ) → (length bytes == 0) ≡ true → bytes ≡ []
no_bytes_left [] e = refl
no_bytes_left (b ∷ bytes) e = absurd (omega (arith, eqb-true (length (b ∷ bytes)) 0 e))
