-- An escape, decided by a few bytes.
use Rattle.std.proofs.Common.{◌≡◌, ℕ, ◌+◌, ◌<◌, Bool, true, ◌&&◌, inl, List, [], ◌∷◌, ◌++◌}
use Rattle.std.proofs.Common.{length, get_or, take, drop, nat_lt, codes, Option, Some, None}
use Rattle.std.proofs.Common.{refl, sym, ap, ap₂, ◌∙◌, subst, arith}
use Rattle.std.proofs.Common.{append_assoc, drop-cons, length-append, suc}
use Rattle.std.specs.Prelude.{IfSome}
use Rattle.std.specs.Char.{is_ascii_hexdigit}
use Rattle.std.specs.List.{list_all}
use Rattle.std.specs.Str.{IsAscii, chars}
use Rattle.std.proofs.lemmas.Str.{chars-IsAscii}
use Rattle.std.proofs.lemmas.Bool.{and_parts, and_from, both_ways, lt-ltb, or_left}
use Rattle.std.proofs.lemmas.List.{length-take-le, take-append-drop}
use Rattle.std.proofs.lemmas.List.Folds.{list_all-append}
use Rattle.lexical.specs.Ascii.{all_ascii}
use Rattle.lexical.specs.Bytes.{ascii_in}
use Rattle.lexical.specs.Finder.{while_front}
use Rattle.lexical.specs.Form.{Exactly, Form, Then}
use Rattle.lexical.specs.Quick.{Anywhere, IsAsciiAt, pair_front}
use Rattle.lexical.specs.Quoted.{allows, escape, escape_or_line_end, hex, is_code, is_code_digit, is_one_of, letters}
use Rattle.lexical.specs.Quoted.{pair, unicode}
use Rattle.lexical.specs.RawString.{may_stand_raw}
use Rattle.lexical.specs.Rule.{Stands}
use Rattle.lexical.specs.declared.bytes.Class.TheVariants as classes
use Rattle.lexical.specs.declared.quoted.StringKind.{StringKind}
use Rattle.lexical.specs.declared.quoted.StringKind.TheVariants as strings
use Rattle.lexical.proofs.ByteLemmas.{all_low}
use Rattle.lexical.proofs.FastPathLemmas.{at_other, front_of_run, run_cons, run_passes}
use Rattle.lexical.proofs.FastLiteralLemmas.{ascii_all, ascii_at}
use Rattle.lexical.proofs.FastNumberLemmas.{byte_within}
use Rattle.lexical.proofs.TextLemmas.{all_pass}

-- ---- two hex digits

pair_stands : (kind : StringKind) (b c : ℕ) (r : List ℕ) → pair_front kind b ≡ true → is_ascii_hexdigit c ≡ true
    → Stands (pair kind) (b ∷ (c ∷ [])) r
pair_stands strings.Plain b c r high low =
    record { front = b ∷ []; back = c ∷ []; whole = refl; first = (b, refl, high); second = (c, refl, low) }
pair_stands strings.Byte b c r high low =
    record { front = b ∷ []; back = c ∷ []; whole = refl; first = (b, refl, high); second = (c, refl, low) }
pair_stands strings.C b c r high low = absurd (both_ways _ refl high)

no_front : (kind : StringKind) → (nat_lt 32 128 && pair_front kind 32) ≡ true → ⊥
no_front strings.Plain h = both_ways _ refl h
no_front strings.Byte h = both_ways _ refl h
no_front strings.C h = both_ways _ refl h

pub hex_read : (kind : StringKind) (bytes : List ℕ) → get_or bytes 0 32 ≡ 120
    → (nat_lt (get_or bytes 1 32) 128 && pair_front kind (get_or bytes 1 32)) ≡ true
    → ascii_in classes.HexDigit (get_or bytes 2 32) ≡ true
    → IsAsciiAt (Anywhere (Stands (hex (pair kind)))) bytes 3
hex_read kind [] x high low = absurd (omega (arith, x))
hex_read kind (a ∷ []) x high low = absurd (no_front kind high)
hex_read kind (a ∷ (b ∷ [])) x high low = absurd (both_ways _ refl low)
hex_read kind (a ∷ (b ∷ (c ∷ rest))) x high low =
    let front = and_parts _ _ high in
    let back = and_parts _ _ low in
    ascii_at (Anywhere (Stands (hex (pair kind)))) _ (a ∷ (b ∷ (c ∷ []))) rest 3 refl refl
    (and_from _ _ (lt-ltb a 128 (omega (arith, x))) (and_from _ _ front.0 (and_from _ _ back.0 refl)))
    (λ r. record {
      front = a ∷ [];
      back = b ∷ (c ∷ []);
      whole = refl;
      first = ap (λ y. y ∷ []) x;
      second = pair_stands kind b c r front.1 back.1;
    })

-- ---- the code of a character

unicode_stands : (allowed : ℕ → Bool) (digits more r : List ℕ) (c : ℕ) → digits ≡ c ∷ more
    → is_ascii_hexdigit c ≡ true → list_all is_code_digit digits ≡ true → is_code allowed digits ≡ true
    → Stands (unicode allowed) (117 ∷ (123 ∷ (digits ++ (125 ∷ [])))) r
unicode_stands allowed digits more r c whole first all is = record {
  front = 117 ∷ (123 ∷ []);
  back = digits ++ (125 ∷ []);
  whole = refl;
  first = refl;
  second = record {
    front = digits;
    back = 125 ∷ [];
    whole = refl;
    first = (
      record {
        front = c ∷ [];
        back = more;
        whole = whole;
        first = (c, refl, first);
        second = record { each = (and_parts _ _ (ap (list_all is_code_digit) (sym whole) ∙ all)).1; stops = refl };
      },
      is,
    );
    second = refl;
  };
}

-- facts about the n bytes of the code's digits
module _ (code : List ℕ) (n : ℕ) (size : n ≡ length (while_front (ascii_in classes.CodeDigit) code)) where
  pub code_digits : list_all is_code_digit (take n code) ≡ true
  code_digits = all_pass _ _ (λ c is. (and_parts _ _ is).1) (take n code) (run_passes classes.CodeDigit code n size)

  unicode_here : (kind : StringKind) → ascii_in classes.HexDigit (get_or code 0 32) ≡ true → get_or code n 32 ≡ 125
      → is_code (allows kind) (take n code) ≡ true
      → IsAsciiAt (Anywhere (Stands (unicode (allows kind)))) (117 ∷ (123 ∷ code)) (n + 3)
  unicode_here kind first close is =
      let b = get_or code 0 32 in
      let hex = and_parts (nat_lt b 128) (is_ascii_hexdigit b) first in
      let on : ascii_in classes.CodeDigit b ≡ true = and_from _ _ hex.0 (hex_digit b hex.1) in
      let more = run_cons classes.CodeDigit code n size on refl in
      let digits = take n code in
      let count : length digits ≡ n = length-take-le n code (front_of_run _ code n size).2 in
      let ascii : all_ascii digits ≡ true =
      all_low classes.CodeDigit digits (run_passes classes.CodeDigit code n size) in
      let within : n < length code = byte_within code n _ 125 refl close (λ e. omega (arith, e)) in
      let next : suc n ≡ n + 1 = omega arith in
      let split : code ≡ digits ++ (125 ∷ drop (n + 1) code) =
      sym (take-append-drop n code)
      ∙ ap (λ xs. digits ++ xs) (drop-cons code n 32 within ∙ ap₂ (λ c m. c ∷ drop m code) close next) in
      let p : List ℕ = 117 ∷ (123 ∷ (digits ++ (125 ∷ []))) in
      ascii_at (Anywhere (Stands (unicode (allows kind)))) (117 ∷ (123 ∷ code)) p (drop (n + 1) code) (n + 3)
      (ap (λ xs. 117 ∷ (123 ∷ xs)) (split ∙ sym (append_assoc digits (125 ∷ []) (drop (n + 1) code))))
      (omega (arith, count, length-append digits (125 ∷ [])))
      (and_from _ _ refl (and_from _ _ refl (list_all-append _ digits (125 ∷ []) ∙ and_from _ _ ascii refl)))
      (λ r. unicode_stands (allows kind) digits more.0 r b more.1 hex.1 code_digits is)
    where
      hex_digit : (c : ℕ) → is_ascii_hexdigit c ≡ true → is_code_digit c ≡ true
      hex_digit c h = or_left _ _ h

pub unicode_read : (kind : StringKind) (bytes code : List ℕ) (n : ℕ) → get_or bytes 0 32 ≡ 117
    → get_or bytes 1 32 ≡ 123 → code ≡ drop 2 bytes → ascii_in classes.HexDigit (get_or code 0 32) ≡ true
    → n ≡ length (while_front (ascii_in classes.CodeDigit) code) → get_or code n 32 ≡ 125
    → is_code (allows kind) (take n code) ≡ true
    → IsAsciiAt (Anywhere (Stands (unicode (allows kind)))) bytes (n + 3)
unicode_read kind [] code n u brace same first size close is = absurd (omega (arith, u))
unicode_read kind (a ∷ []) code n u brace same first size close is = absurd (omega (arith, brace))
unicode_read kind (a ∷ (b ∷ rest)) code n u brace same first size close is =
    subst (λ t. IsAsciiAt (Anywhere (Stands (unicode (allows kind)))) t (n + 3))
    (ap₂ (λ x xs. x ∷ xs) (sym u) (ap₂ (λ x xs. x ∷ xs) (sym brace) same))
    (unicode_here code n size kind first close is)

-- ---- escapes

no_letter : (kind : StringKind) → is_one_of (letters kind) 32 ≡ true → ⊥
no_letter strings.Plain h = both_ways _ refl h
no_letter strings.Byte h = both_ways _ refl h
no_letter strings.C h = both_ways _ refl h

pub letter_read : (kind : StringKind) (bytes : List ℕ) → get_or bytes 0 32 < 128
    → is_one_of (letters kind) (get_or bytes 0 32) ≡ true → IsAsciiAt (Anywhere (Stands (escape kind))) bytes 1
letter_read kind [] low letter = absurd (no_letter kind letter)
letter_read kind (b ∷ rest) low letter =
    ascii_at (Anywhere (Stands (escape kind))) _ (b ∷ []) rest 1 refl refl (and_from _ _ (lt-ltb b 128 low) refl)
    (λ r. inl (b, refl, letter))

-- what was found of a form is found of each form that has the same pieces
pub some_other : (A B : Form) (text : List ℕ) (size : Option ℕ) → ((p r : List ℕ) → A p r → B p r)
    → IfSome size (IsAsciiAt A text) → IfSome size (IsAsciiAt B text)
some_other A B text None to at = tt
some_other A B text (Some n) to at = at_other A B text n to at

-- what may follow a backslash in a string

pub feed_read : (kind : StringKind) (bytes : List ℕ) → get_or bytes 0 32 ≡ 10
    → IsAsciiAt (Anywhere (Stands (escape_or_line_end kind))) bytes 1
feed_read kind [] feed = absurd (omega (arith, feed))
feed_read kind (b ∷ rest) feed =
    ascii_at (Anywhere (Stands (escape_or_line_end kind))) _ (b ∷ []) rest 1 refl refl
    (and_from _ _ (lt-ltb b 128 (omega (arith, feed))) refl)
    (λ r. inl (inl (ap (λ x. x ∷ []) feed)))

-- a backslash and a piece after it are a piece
pub after_backslash : (A : Form) (bytes rest : List ℕ) (n : ℕ) → get_or bytes 0 32 ≡ 92 → rest ≡ drop 1 bytes
    → IsAsciiAt (Anywhere A) rest n → IsAsciiAt (Anywhere (Then (Exactly (codes "\\")) A)) bytes (n + 1)
after_backslash A [] rest n slash same at = absurd (omega (arith, slash))
after_backslash A (b ∷ bytes) rest n slash same at =
    let p = take n rest in
    let count : length p ≡ n = length-take-le n rest at.within in
    ascii_at (Anywhere (Then (Exactly (codes "\\")) A)) (b ∷ bytes) (b ∷ p) (drop n rest) (n + 1)
    (ap (λ xs. b ∷ xs) (sym same ∙ sym (take-append-drop n rest)))
    (omega (arith, count))
    (and_from _ _ (lt-ltb b 128 (omega (arith, slash))) at.ascii)
    (λ r. record {
      front = b ∷ [];
      back = p;
      whole = refl;
      first = ap (λ x. x ∷ []) slash;
      second = at.stands r;
    })

-- ---- the characters that a string may contain

pub plain_holds : (cs : List ℕ) → list_all (may_stand_raw strings.Plain) cs ≡ true
plain_holds [] = refl
plain_holds (c ∷ cs) = plain_holds cs

pub ascii_holds : (bytes : List ℕ) → IsAscii bytes → list_all (may_stand_raw strings.Byte) (chars bytes) ≡ true
ascii_holds bytes low = ap (list_all (may_stand_raw strings.Byte)) (chars-IsAscii bytes low) ∙ ascii_all bytes low
