-- What the constructors write for bytes is a literal of the grammar.
use Rattle.std.proofs.Common.{◌≡◌, ℕ, ◌<◌, ◌/◌, ◌%◌, Bool, true, false, not, ◌&&◌, ◌||◌, ◌==◌, nat_lt, nat_le, List, []}
use Rattle.std.proofs.Common.{◌∷◌, ◌++◌, codes, get_or, refl, sym, ap, ◌∙◌, arith, inl, inr, zero, suc}
use Rattle.std.specs.List.{concat}
use Rattle.std.specs.Fmt.{digit_glyph}
use Rattle.std.specs.Char.{is_ascii, is_ascii_hexdigit}
use Rattle.std.proofs.lemmas.Bool.{agree_below_at, cond_both, and_from, and_parts, ltb-true, lt-ltb, not-true}
use Rattle.lexical.specs.Text.{begins_any}
use Rattle.lexical.specs.Form.{Each}
use Rattle.lexical.specs.Rule.{Stands}
use Rattle.lexical.specs.Quoted as rule
use Rattle.lexical.specs.Quoted.{ByteEscape, ByteUnit, is_byte_plain}
use Rattle.lexical.specs.SingleQuoted.{is_byte_char_plain, SingleUnit, Byte}
use Rattle.lexical.specs.Literal.{IsLiteralToken}
use Rattle.lexical.specs.Literal as literals
use Rattle.lexical.specs.Quoted.{ByteStr}
use Rattle.lexical.proofs.QuotedLemmas.{EndsSuffix, stop_ends}
use Rattle.pm_token.specs.Escaped.{hex_pair, written_byte, char_text, content, byte_text, byte_string_text}
use Rattle.pm_token.proofs.EscapedLemmas.{is_plain, Allows, written_stands, letter_of_all, string_plain, body_unit}
use Rattle.pm_token.proofs.EscapedLemmas.{units_of, content_units, close_without_suffix}

-- ---- hex digits

glyph_hex : (d : ℕ) → d < 16 → is_ascii_hexdigit (digit_glyph true d) ≡ true
glyph_hex d low = agree_below_at (λ x. is_ascii_hexdigit (digit_glyph true x)) (λ x. true) 16 d refl low

pub pair_hex : (b : ℕ) (r : List ℕ) → b < 256 → Stands rule.hex_pair (hex_pair b) r
pair_hex b r low = record {
  front = digit_glyph true (b / 16) ∷ [];
  back = digit_glyph true (b % 16) ∷ [];
  whole = refl;
  first = (digit_glyph true (b / 16), refl, glyph_hex (b / 16) (omega arith));
  second = (digit_glyph true (b % 16), refl, glyph_hex (b % 16) (omega arith));
}

-- if a byte isn't zero, one of its digits isn't
pub pair_nonzero : (b : ℕ) (r : List ℕ) → b < 256 → (b == 0) ≡ false
    → begins_any (codes "00" ∷ []) (hex_pair b ++ r) ≡ false
pair_nonzero b r low some = not-true _ (
    sym (ap (λ zero. zero || not (begins_any (codes "00" ∷ []) (hex_pair b))) some)
    ∙ agree_below_at (λ x. (x == 0) || not (begins_any (codes "00" ∷ []) (hex_pair x))) (λ x. true) 256 b refl low)

hex_escape : (p r : List ℕ) → Stands rule.hex_pair p r → ByteEscape (codes "x" ++ p) r
hex_escape p r is = inr (inl (record { front = codes "x"; back = p; whole = refl; first = refl; second = is }))

-- ---- one byte

-- bytes and byte strings allow what is written for a byte
allows_byte : (class : ℕ → Bool) (quote b : ℕ) → b < 256
    → ((d : ℕ) → d < 128 → is_plain quote d ≡ true → class d ≡ true) → Allows class ByteEscape written_byte quote b
allows_byte class quote b low within = record {
  letter = λ letter r is. inl (letter, refl, letter_of_all letter is);
  zeros = λ r e. (inl (48, refl, refl), hex_escape (codes "00") r (pair_hex 0 r (omega arith)));
  other = λ r plain. cond_both (nat_le 32 b && nat_lt b 127) (b ∷ []) (codes "\\x" ++ hex_pair b)
      (λ p. SingleUnit class ByteEscape p r)
      (λ e. inl (b, refl, within b (omega (arith, ltb-true b 127 (and_parts (nat_le 32 b) (nat_lt b 127) e).1)) plain))
      (λ e. inr (record {
        front = codes "\\";
        back = codes "x" ++ hex_pair b;
        whole = refl;
        first = refl;
        second = hex_escape (hex_pair b) r (pair_hex b r low);
      }));
}

ascii_below : (d : ℕ) → d < 128 → is_ascii d ≡ true
ascii_below d low = lt-ltb d 128 low

byte_plain : (d : ℕ) → d < 128 → is_plain 34 d ≡ true → is_byte_plain d ≡ true
byte_plain d low plain = and_from _ _ (string_plain d plain) (ascii_below d low)

byte_char_plain : (d : ℕ) → d < 128 → is_plain 39 d ≡ true → is_byte_char_plain d ≡ true
byte_char_plain d low plain = and_from _ _ plain (ascii_below d low)

-- ---- several bytes

-- whether each number is below 256
abbrev pub AreBytes : List ℕ → Type 0
AreBytes [] = Unit {0}
AreBytes (b ∷ bytes) = (b < 256) × AreBytes bytes

pub bytes_fit : (bytes : List ℕ) → ((i : ℕ) → get_or bytes i 0 < 256) → AreBytes bytes
bytes_fit [] each = tt
bytes_fit (b ∷ bytes) each = (each zero, bytes_fit bytes (λ i. each (suc i)))

each_unit : (bytes r : List ℕ) → AreBytes bytes → Each ByteUnit (units_of 34 written_byte bytes) r
each_unit [] r are = tt
each_unit (b ∷ rest) r are = (
  body_unit is_byte_plain ByteEscape _ _
      (written_stands is_byte_plain ByteEscape written_byte 34 b rest (concat (units_of 34 written_byte rest) ++ r)
      (allows_byte is_byte_plain 34 b are.0 byte_plain) refl),
  each_unit rest r are.1,
)

-- ---- literals

pub byte_string_stands : (bytes r : List ℕ) → AreBytes bytes → EndsSuffix r → ByteStr (byte_string_text bytes) r
byte_string_stands bytes r are ends = record {
  front = codes "b\"";
  back = content 34 written_byte bytes ++ codes "\"";
  whole = refl;
  first = refl;
  second = record {
    front = content 34 written_byte bytes;
    back = codes "\"";
    whole = refl;
    first = record {
      units = units_of 34 written_byte bytes;
      whole = content_units 34 written_byte bytes;
      each =
          each_unit bytes (34 ∷ r) are;
    };
    second = close_without_suffix (codes "\"") r ends;
  };
}

pub byte_stands : (b : ℕ) (r : List ℕ) → b < 256 → EndsSuffix r → Byte (byte_text b) r
byte_stands b r low ends = record {
  front = codes "b'";
  back = char_text 39 written_byte b [] ++ codes "'";
  whole = refl;
  first = refl;
  second = record {
    front = char_text 39 written_byte b [];
    back = codes "'";
    whole = refl;
    first = written_stands is_byte_char_plain ByteEscape written_byte 39 b [] (39 ∷ r)
        (allows_byte is_byte_char_plain 39 b low byte_char_plain) refl;
    second = close_without_suffix (codes "'") r ends;
  };
}

-- what `byte_string` writes is a whole literal
pub byte_string_whole : (bytes : List ℕ) → AreBytes bytes → IsLiteralToken (byte_string_text bytes)
unfolding IsLiteralToken literals.Literal
byte_string_whole bytes are = inl (inl (inr (inr (inl (inl (byte_string_stands bytes [] are (stop_ends [] refl)))))))

-- what `byte_character` writes is a whole literal
pub byte_whole : (b : ℕ) → b < 256 → IsLiteralToken (byte_text b)
unfolding IsLiteralToken literals.Literal
byte_whole b low = inl (inl (inr (inr (inr (inl (byte_stands b [] low (stop_ends [] refl)))))))
