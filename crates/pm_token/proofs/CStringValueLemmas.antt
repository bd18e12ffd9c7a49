-- The value of the C string literal of some bytes.
use Rattle.std.proofs.Common.{◌≡◌, ℕ, ◌*◌, ◌+◌, ◌/◌, ◌%◌, ◌<◌, true, false, not, ◌&&◌, ◌==◌, nat_eq, List, [], ◌∷◌}
use Rattle.std.proofs.Common.{◌++◌, codes, Some, Ok, refl, sym, ap, ap₂, ◌∙◌, subst, arith, inl, inr, eqb-true}
use Rattle.std.specs.Prelude.{encode_utf8}
use Rattle.std.specs.List.{flat_map, AllByRecursion}
use Rattle.std.specs.Char.{IsScalar, digit_value}
use Rattle.std.specs.Char.Escape.{escape_unicode}
use Rattle.std.specs.Fmt.{digit_glyph}
use Rattle.std.specs.Option.{option_map}
use Rattle.std.specs.Str.{encode_utf8_all}
use Rattle.std.proofs.lemmas.Bool.{agree_below_at, and_parts, cond_both, cond-true, cond-false, both_ways, not-true}
use Rattle.lexical.specs.Text.{first_passes}
use Rattle.lexical.specs.Quoted.{is_octal_digit}
use Rattle.literal_escaper.specs.declared.mixed_unit.MixedUnit.{MixedUnit}
use Rattle.literal_escaper.specs.declared.mixed_unit.MixedUnit.TheVariants as units
use Rattle.literal_escaper.specs.Escape.{escape, hex_escape, is_hex}
use Rattle.literal_escaper.specs.Items.{items, items_from}
use Rattle.literal_escaper.specs.Kind.{c_kind}
use Rattle.literal_escaper.specs.Units.{byte_unit, c_char, c_byte}
use Rattle.literal_escaper.specs.Text.{bytes}
use Rattle.pm_token.specs.Content.{raw_content}
use Rattle.pm_token.specs.CString.{Part, Char, Byte, AreParts, part_text, parts_text, has_no_zero, IsCStringText}
use Rattle.pm_token.specs.Escaped.{is_bare, hex_pair}
use Rattle.pm_token.specs.Value.{c_bytes, cstr_value, with_zero, unit_bytes, value_from}
use Rattle.pm_token.specs.Value as values
use Rattle.pm_token.proofs.ContentLemmas.{between_within}
use Rattle.pm_token.proofs.CodeReadLemmas.{code_escapes_as}
use Rattle.pm_token.proofs.CStringLemmas.{char_some, no_zero_after}
use Rattle.pm_token.proofs.ReadLemmas.{Escapes, Give, WrittenAs, begins_written, give_front, give_none, given_value}
use Rattle.pm_token.proofs.UnitLemmas.{byte_bytes}

-- ---- characters

some_char : (c : ℕ) → (c == 0) ≡ false → c_char c ≡ Ok (units.Char c)
some_char c some = cond-false _ _ _ some

short_tab : Escapes c_kind (codes "\\t") (units.Char 9)
unfolding escape
short_tab = record { letter = 116; back = []; whole = refl; no_line = refl; gives = λ more. refl }

short_return : Escapes c_kind (codes "\\r") (units.Char 13)
unfolding escape
short_return = record { letter = 114; back = []; whole = refl; no_line = refl; gives = λ more. refl }

short_line : Escapes c_kind (codes "\\n") (units.Char 10)
unfolding escape
short_line = record { letter = 110; back = []; whole = refl; no_line = refl; gives = λ more. refl }

short_backslash : Escapes c_kind (codes "\\\\") (units.Char 92)
unfolding escape
short_backslash = record { letter = 92; back = []; whole = refl; no_line = refl; gives = λ more. refl }

short_quote : Escapes c_kind (92 ∷ 34 ∷ []) (units.Char 34)
unfolding escape
short_quote = record { letter = 34; back = []; whole = refl; no_line = refl; gives = λ more. refl }

same_char : (p : List ℕ) (c d : ℕ) → (c == d) ≡ true → Escapes c_kind p (units.Char d) → Escapes c_kind p (units.Char c)
same_char p c d e is = subst (λ x. Escapes c_kind p (units.Char x)) (sym (eqb-true c d e)) is

-- any character that isn't zero is read back
char_as : (c : ℕ) → IsScalar c → (c == 0) ≡ false → WrittenAs c_kind 34 c (part_text (Char c)) (units.Char c)
char_as c scalar some =
    cond_both ((c == 0) && first_passes is_octal_digit []) _ _ As
    (λ e. absurd (both_ways (c == 0) some (and_parts (c == 0) _ e).0))
    (λ e. cond_both (c == 0) _ _ As (λ e. absurd (both_ways (c == 0) some e))
    (λ e. cond_both (c == 9) _ _ As (λ e. inl (same_char _ c 9 e short_tab))
    (λ tab. cond_both (c == 13) _ _ As (λ e. inl (same_char _ c 13 e short_return))
    (λ return. cond_both (c == 10) _ _ As (λ e. inl (same_char _ c 10 e short_line))
    (λ line. cond_both (c == 92) _ _ As (λ e. inl (same_char _ c 92 e short_backslash))
    (λ backslash. cond_both (c == 34) _ _ As (λ e. inl (same_char _ c 34 e short_quote))
    (λ plain. cond_both (is_bare c) (c ∷ []) (escape_unicode c) As
    (λ e. inr (record {
      whole = refl;
      unit_is = some_char c some;
      no_tab = tab;
      no_return = return;
      no_line = line;
      no_backslash = backslash;
      no_quote = plain;
    }))
    (λ e. inl (code_escapes_as c_kind (units.Char c) c scalar (some_char c some))))))))))
  where
    As : List ℕ → Type 0
    As p = WrittenAs c_kind 34 c p (units.Char c)

-- ---- bytes

glyph_hex : (d : ℕ) → d < 16 → is_hex (digit_glyph true d) ≡ true
glyph_hex d low = agree_below_at (λ x. is_hex (digit_glyph true x)) (λ x. true) 16 d refl low

glyph_value : (d : ℕ) → d < 16 → nat_eq (digit_value (digit_glyph true d)) d ≡ true
glyph_value d low = agree_below_at (λ x. nat_eq (digit_value (digit_glyph true x)) x) (λ x. true) 16 d refl low

pair_read : (high low : ℕ) (more : List ℕ) → high < 16 → low < 16
    → escape c_kind (120 ∷ digit_glyph true high ∷ digit_glyph true low ∷ more)
    ≡ record { unit = c_byte (16 * high + low); rest = more }
unfolding escape hex_escape
pair_read high low more h l =
    cond-true _ _ _ (glyph_hex high h) ∙ (cond-true _ _ _ (glyph_hex low l)
    ∙ ap₂ (λ x y. record { unit = c_byte (16 * x + y); rest = more }) (eqb-true _ _ (glyph_value high h))
    (eqb-true _ _ (glyph_value low l)))

byte_as : (b : ℕ) → b < 256 → (b == 0) ≡ false → WrittenAs c_kind 34 b (part_text (Byte b)) (byte_unit b)
byte_as b low some = inl (record {
  letter = 120;
  back = hex_pair b;
  whole = refl;
  no_line = refl;
  gives = λ more. let sum : 16 * (b / 16) + b % 16 ≡ b = omega arith in
      pair_read (b / 16) (b % 16) more (omega arith) (omega arith)
      ∙ ap (λ u. record { unit = u; rest = more }) (ap c_byte sum ∙ cond-false _ _ _ some);
})

-- ---- all parts

abbrev unit_of : Part → MixedUnit
unit_of (Char c) = units.Char c
unit_of (Byte b) = byte_unit b

abbrev units_of : List Part → List MixedUnit
units_of [] = []
units_of (part ∷ parts) = unit_of part ∷ units_of parts

-- whether these are bytes, and none is zero
record AreFit (bytes : List ℕ) : Type 0 where
  low : AllByRecursion (λ b. b < 256) bytes
  some : has_no_zero bytes ≡ true

low_after : (front rest : List ℕ) → AllByRecursion (λ b. b < 256) (front ++ rest) → AllByRecursion (λ b. b < 256) rest
low_after [] rest all = all
low_after (b ∷ front) rest all = low_after front rest all.1

fit_after : (bytes front rest : List ℕ) → bytes ≡ front ++ rest → AreFit bytes → AreFit rest
fit_after bytes front rest e fit = record {
  low = low_after front rest (subst (AllByRecursion (λ b. b < 256)) e fit.low);
  some = no_zero_after front rest (ap has_no_zero (sym e) ∙ fit.some);
}

parts_give : (end : ℕ) (parts : List Part) (bytes : List ℕ) → AreParts parts bytes → AreFit bytes
    → Give (items_from c_kind end (parts_text parts)) (units_of parts)
parts_give end [] bytes are fit = give_none c_kind end
parts_give end (Char c ∷ parts) bytes are fit =
    let some = char_some c are.1 (ap has_no_zero (sym are.2) ∙ fit.some) in
    give_front c_kind end (part_text (Char c) ++ parts_text parts) (units.Char c) (parts_text parts) (units_of parts)
    (begins_written c_kind end c (part_text (Char c)) (units.Char c) (parts_text parts) (char_as c are.0 some))
    (parts_give end parts are.1 are.3 (fit_after bytes (encode_utf8 c) are.1 are.2 fit))
parts_give end (Byte b ∷ parts) bytes are fit =
    let low = subst (AllByRecursion (λ d. d < 256)) are.2 fit.low in
    let some = not-true (b == 0)
    (and_parts (not (b == 0)) (has_no_zero are.1) (ap has_no_zero (sym are.2) ∙ fit.some)).0 in
    give_front c_kind end (part_text (Byte b) ++ parts_text parts) (byte_unit b) (parts_text parts) (units_of parts)
    (begins_written c_kind end b (part_text (Byte b)) (byte_unit b) (parts_text parts) (byte_as b low.0 some))
    (parts_give end parts are.1 are.3 (fit_after bytes (b ∷ []) are.1 are.2 fit))

parts_bytes : (parts : List Part) (bytes : List ℕ) → AreParts parts bytes → flat_map unit_bytes (units_of parts) ≡ bytes
parts_bytes [] bytes are = sym are
parts_bytes (Char c ∷ parts) bytes are = ap (λ x. encode_utf8 c ++ x) (parts_bytes parts are.1 are.3) ∙ sym are.2
parts_bytes (Byte b ∷ parts) bytes are = ap₂ (λ x y. x ++ y) (byte_bytes b) (parts_bytes parts are.1 are.3) ∙ sym are.2

-- ---- the law

pub c_strings_come_back : (bytes text : List ℕ) → AllByRecursion (λ b. b < 256) bytes → has_no_zero bytes ≡ true
    → IsCStringText bytes text → cstr_value text ≡ Ok (with_zero bytes)
c_strings_come_back all text low some is =
    let inside = parts_text is.parts in
    let fit : AreFit all = record { low = low; some = some } in
    let raw = option_map (λ content. with_zero (encode_utf8_all content))
    (raw_content (codes "cr") (codes "c\"" ++ (inside ++ codes "\""))) in
    ap cstr_value is.whole
    ∙ (ap (λ o. value_from (option_map (λ content. c_bytes (values.units c_kind content)) o) raw)
    (between_within (codes "c\"") (codes "\"") inside)
    ∙ (ap (λ v. value_from (Some (c_bytes v)) raw)
    (given_value (items c_kind inside) (units_of is.parts) (parts_give (bytes inside) is.parts all is.reads fit))
    ∙ ap (λ x. Ok (with_zero x)) (parts_bytes is.parts all is.reads)))
