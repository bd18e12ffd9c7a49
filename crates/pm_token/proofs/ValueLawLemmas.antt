-- The values of literals that the constructors made.
use Rattle.std.proofs.Common.{◌≡◌, ℕ, ◌*◌, ◌+◌, ◌/◌, ◌%◌, ◌<◌, Bool, true, false, ◌&&◌, ◌||◌, ◌==◌, nat_eq, nat_lt}
use Rattle.std.proofs.Common.{nat_le, List, [], ◌∷◌, ◌++◌, codes, Some, Ok, refl, sym, ap, ap₂, ◌∙◌, arith, inl, inr}
use Rattle.std.proofs.Common.{append-nil, eqb-true, ltb-true}
use Rattle.std.specs.Char.{IsScalar, digit_value}
use Rattle.std.specs.Char.Escape.{escape_unicode}
use Rattle.std.specs.Fmt.{digit_glyph}
use Rattle.std.specs.List.{AllByRecursion}
use Rattle.std.specs.Option.{option_map}
use Rattle.std.specs.Str.{encode_utf8_all}
use Rattle.std.proofs.lemmas.Bool.{agree_below_at, and_parts, cond_both, cond-false, cond-true, lt-ltb}
use Rattle.literal_escaper.specs.Escape.{Read, escape, hex_escape, is_hex}
use Rattle.literal_escaper.specs.Items.{items, items_from}
use Rattle.literal_escaper.specs.Kind.{Kind, byte_kind, string_kind}
use Rattle.literal_escaper.specs.Single.{only, single}
use Rattle.literal_escaper.specs.Text.{bytes}
use Rattle.pm_token.specs.Content.{raw_content}
use Rattle.pm_token.specs.Escaped.{is_bare, written_char, written_byte, char_text, content, hex_pair, string_text}
use Rattle.pm_token.specs.Escaped.{byte_string_text}
use Rattle.pm_token.specs.Text.{IsText}
use Rattle.pm_token.specs.Value.{units, value_from}
use Rattle.pm_token.specs.ValueLaws.{ByteStringsComeBack, BytesComeBack, CharactersComeBack, StringsComeBack}
use Rattle.pm_token.proofs.ContentLemmas.{between_within}
use Rattle.pm_token.proofs.CodeReadLemmas.{code_escapes}
use Rattle.pm_token.proofs.ReadLemmas.{Escapes, Give, IsPlain, Stands, WrittenAs, begins_written, give_front, give_none}
use Rattle.pm_token.proofs.ReadLemmas.{given_value, short_double, short_single, written_as}

-- ---- strings

string_plain : IsPlain string_kind
string_plain = record { chars = λ d low. refl; zero = refl }

-- a character without a short escape is read back
pub char_as : (quote c : ℕ) → IsScalar c → (c == 9) ≡ false → (c == 13) ≡ false → (c == 10) ≡ false → (c == 92) ≡ false
    → (c == quote) ≡ false
    → WrittenAs string_kind quote c (written_char c) c
char_as quote c scalar tab return line backslash other =
    cond_both (is_bare c) (c ∷ []) (escape_unicode c) (λ p. WrittenAs string_kind quote c p c)
    (λ e. inr (record {
      whole = refl;
      unit_is = refl;
      no_tab = tab;
      no_return = return;
      no_line = line;
      no_backslash =
          backslash;
      no_quote = other;
    }))
    (λ e. inl (code_escapes c scalar))

string_units : (end : ℕ) (text : List ℕ) → IsText text
    → Give (items_from string_kind end (content 34 written_char text)) text
string_units end [] all = give_none string_kind end
string_units end (c ∷ rest) all =
    let parts = and_parts _ _ all in
    let how = written_as string_kind 34 written_char c rest string_plain (short_double string_kind string_plain)
    (char_as 34 c parts.0) in
    give_front string_kind end (char_text 34 written_char c rest ++ content 34 written_char rest) c
    (content 34 written_char rest) rest
    (begins_written string_kind end c (char_text 34 written_char c rest) c (content 34 written_char rest) how)
    (string_units end rest parts.1)

pub strings_come_back : StringsComeBack
strings_come_back text all =
    let inside = content 34 written_char text in
    ap (λ o. value_from (option_map (units string_kind) o) (raw_content (codes "r") (string_text text)))
    (between_within (codes "\"") (codes "\"") inside)
    ∙ ap (λ v. value_from (Some v) (raw_content (codes "r") (string_text text)))
    (given_value (items string_kind inside) text (string_units (bytes inside) text all))

-- ---- byte strings

byte_plain : IsPlain byte_kind
byte_plain = record { chars = λ d low. cond-true _ _ _ (lt-ltb d 128 low); zero = refl }

glyph_hex : (d : ℕ) → d < 16 → is_hex (digit_glyph true d) ≡ true
glyph_hex d low = agree_below_at (λ x. is_hex (digit_glyph true x)) (λ x. true) 16 d refl low

glyph_value : (d : ℕ) → d < 16 → nat_eq (digit_value (digit_glyph true d)) d ≡ true
glyph_value d low = agree_below_at (λ x. nat_eq (digit_value (digit_glyph true x)) x) (λ x. true) 16 d refl low

-- two hex digits after `\x` are read back
pair_read : (high low : ℕ) (more : List ℕ) → high < 16 → low < 16
    → escape byte_kind (120 ∷ digit_glyph true high ∷ digit_glyph true low ∷ more)
    ≡ record { unit = Ok (16 * high + low); rest = more }
unfolding escape hex_escape
pair_read high low more h l =
    cond-true _ _ _ (glyph_hex high h) ∙ (cond-true _ _ _ (glyph_hex low l)
    ∙ ap₂ (λ x y. record { unit = Ok (16 * x + y); rest = more }) (eqb-true _ _ (glyph_value high h))
    (eqb-true _ _ (glyph_value low l)))

byte_escapes : (b : ℕ) → b < 256 → Escapes byte_kind (codes "\\x" ++ hex_pair b) b
byte_escapes b low = record {
  letter = 120;
  back = hex_pair b;
  whole = refl;
  no_line = refl;
  gives = λ more. let sum : 16 * (b / 16) + b % 16 ≡ b = omega arith in
      pair_read (b / 16) (b % 16) more (omega arith) (omega arith) ∙ ap (λ n. record { unit = Ok n; rest = more }) sum;
}

-- a byte without a short escape is read back
byte_as : (quote b : ℕ) → b < 256 → (b == 9) ≡ false → (b == 13) ≡ false → (b == 10) ≡ false → (b == 92) ≡ false
    → (b == quote) ≡ false
    → WrittenAs byte_kind quote b (written_byte b) b
byte_as quote b low tab return line backslash other =
    cond_both (nat_le 32 b && nat_lt b 127) (b ∷ []) (codes "\\x" ++ hex_pair b) (λ p. WrittenAs byte_kind quote b p b)
    (λ e. let ascii = ltb-true b 127 (and_parts (nat_le 32 b) (nat_lt b 127) e).1 in
    inr (record {
      whole = refl;
      unit_is = byte_plain.chars b (omega arith);
      no_tab = tab;
      no_return = return;
      no_line = line;
      no_backslash = backslash;
      no_quote = other;
    }))
    (λ e. inl (byte_escapes b low))

byte_units : (end : ℕ) (text : List ℕ) → AllByRecursion (λ b. b < 256) text
    → Give (items_from byte_kind end (content 34 written_byte text)) text
byte_units end [] all = give_none byte_kind end
byte_units end (b ∷ rest) all =
    let how = written_as byte_kind 34 written_byte b rest byte_plain (short_double byte_kind byte_plain)
    (byte_as 34 b all.0) in
    give_front byte_kind end (char_text 34 written_byte b rest ++ content 34 written_byte rest) b
    (content 34 written_byte rest) rest
    (begins_written byte_kind end b (char_text 34 written_byte b rest) b (content 34 written_byte rest) how)
    (byte_units end rest all.1)

pub byte_strings_come_back : ByteStringsComeBack
byte_strings_come_back text all =
    let inside = content 34 written_byte text in
    let raw = option_map encode_utf8_all (raw_content (codes "br") (byte_string_text text)) in
    ap (λ o. value_from (option_map (units byte_kind) o) raw) (between_within (codes "b\"") (codes "\"") inside)
    ∙ ap (λ v. value_from (Some v) raw) (given_value (items byte_kind inside) text (byte_units (bytes inside) text all))

-- ---- characters and bytes

pub single_escape : (kind : Kind ℕ) (p : List ℕ) (c : ℕ) → Escapes kind p c → (single kind p).unit ≡ Ok c
unfolding single
single_escape kind p c is =
    ap (λ q. (single kind q).unit) is.whole
    ∙ ap (λ (x : Read ℕ). (only x.unit x.rest).unit)
    (ap (λ back. escape kind (is.letter ∷ back)) (sym (append-nil is.back)) ∙ is.gives [])

pub single_stand : (kind : Kind ℕ) (c : ℕ) (p : List ℕ) → Stands kind 39 c p c → (single kind p).unit ≡ Ok c
unfolding single
single_stand kind c p is =
    ap (λ q. (single kind q).unit) is.whole
    ∙ ap (λ (x : Read ℕ). (only x.unit x.rest).unit) (cond-false _ _ _ is.no_backslash
    ∙ ap (λ u. record { unit = u; rest = [] }) (cond-false _ _ _ (or_false is.no_line is.no_tab is.no_quote)
    ∙ (cond-false _ _ _ is.no_return ∙ is.unit_is)))
  where
    or_false : {a b d : Bool} → a ≡ false → b ≡ false → d ≡ false → (a || b || d) ≡ false
    or_false x y z = ap₂ (λ u v. u || v) (ap₂ (λ u v. u || v) x y) z

single_written : (kind : Kind ℕ) (c : ℕ) (p : List ℕ) → WrittenAs kind 39 c p c → (single kind p).unit ≡ Ok c
single_written kind c p (inl is) = single_escape kind p c is
single_written kind c p (inr is) = single_stand kind c p is

pub characters_come_back : CharactersComeBack
characters_come_back c scalar =
    let how = written_as string_kind 39 written_char c [] string_plain (short_single string_kind string_plain)
    (char_as 39 c scalar) in
    (char_text 39 written_char c [], refl, single_written string_kind c (char_text 39 written_char c []) how)

pub bytes_come_back : BytesComeBack
bytes_come_back b low =
    let how = written_as byte_kind 39 written_byte b [] byte_plain (short_single byte_kind byte_plain)
    (byte_as 39 b low) in
    (char_text 39 written_byte b [], refl, single_written byte_kind b (char_text 39 written_byte b []) how)
