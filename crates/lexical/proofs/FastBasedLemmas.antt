-- A number with the prefix of a base, decided by a few bytes.
use Rattle.std.proofs.Common.{None, Some, Option, IfSome, ap₂, codes, eqb-true}
use Rattle.std.proofs.Common.{◌≡◌, ℕ, ◌+◌, ◌<◌, true, false, not, inl, inr, List, [], ◌∷◌, ◌++◌}
use Rattle.std.proofs.Common.{length, get_or, drop, nat_lt, refl, sym, ap, ◌∙◌, subst, arith, ltb-true}
use Rattle.std.specs.Char.{is_ascii_digit, is_digit}
use Rattle.std.specs.Str.{chars}
use Rattle.std.proofs.lemmas.Bool.{and_parts, and_from, both_ways, false_from_ne_true, lt-ltb, not-true, or_left}
use Rattle.std.proofs.lemmas.List.{drop-drop}
use Rattle.unicode_ident.proofs.Computing.{unicode_ident}
use Rattle.lexical.specs.Bytes.{ascii_in, radix}
use Rattle.lexical.specs.Class.{is_ident_start, is_ident_continue}
use Rattle.lexical.specs.Finder.{while_front}
use Rattle.lexical.specs.Number.{Number, base_digits, base_prefixes, based_number, digits_in, end, float, number}
use Rattle.lexical.specs.Number.{is_digit_or_underscore_in, is_underscore}
use Rattle.lexical.specs.Quick.{IsAsciiAt, NumberEnd}
use Rattle.lexical.specs.Quoted.{is_one_of}
use Rattle.lexical.specs.Rule.{Rule, Exactly, Run, Stands, Then, find}
use Rattle.lexical.specs.Text.{begins_any, first_passes}
use Rattle.lexical.specs.declared.bytes.Base.{Base}
use Rattle.lexical.specs.declared.bytes.Base.TheVariants.{Binary, Octal, Hexadecimal}
use Rattle.lexical.specs.declared.bytes.Class.TheVariants.{DigitOf, DigitOrUnderscoreOf}
use Rattle.lexical.proofs.ClassLemmas.{sub_digits, sub_listed}
use Rattle.lexical.proofs.FinderLemmas.{none_is}
use Rattle.lexical.proofs.NumberFinderLemmas.{no_float}
use Rattle.lexical.proofs.FastPathLemmas.{ascii_split, at_other, clear_float, get_after, low_fails}
use Rattle.lexical.proofs.FastNumberLemmas.{run_word, then_at}
use Rattle.lexical.proofs.RuleLemmas.{exact}

-- ---- the prefix

-- the prefix: `0` and the letter
abbrev prefix : ℕ → List ℕ
prefix letter = codes "0" ++ letter ∷ []

-- the prefix and digits of the base
abbrev prefix_and_digits : ℕ → Base → Rule
prefix_and_digits letter base = Then (Exactly (prefix letter)) (digits_in (radix base))

letter_low : (letter : ℕ) → is_one_of (codes "xob") letter ≡ true → letter < 128
letter_low letter is = ltb-true letter 128 (sub_listed (λ d. nat_lt d 128) (codes "xob") refl letter is)

-- no letter of a prefix is the space that is read past the end
pub letter_other : (letter : ℕ) → is_one_of (codes "xob") letter ≡ true → letter ≡ 32 → ⊥
letter_other letter is space = both_ways _ (ap (is_one_of (codes "xob")) space) is

prefix_at : (letter : ℕ) (text : List ℕ) → is_one_of (codes "xob") letter ≡ true → get_or text 0 32 ≡ 48
    → get_or text 1 32 ≡ letter → IsAsciiAt (Stands (Exactly (prefix letter))) text 2
prefix_at letter [] is zero sign = absurd (omega (arith, zero))
prefix_at letter (a ∷ []) is zero sign = absurd (letter_other letter is (sym sign))
prefix_at letter (a ∷ (b ∷ text)) is zero sign = record {
  within = omega arith;
  ascii = and_from _ _ (lt-ltb a 128 (omega (arith, zero)))
      (and_from _ _ (lt-ltb b 128 (omega (arith, sign, letter_low letter is))) refl);
  stands = ap₂ (λ x y. x ∷ (y ∷ [])) zero sign;
}

-- ---- the digits

space_out : (base : Base) → is_digit_or_underscore_in (radix base) 32 ≡ false
space_out Binary = refl
space_out Octal = refl
space_out Hexadecimal = refl

underscore_no_digit : (base : Base) → is_digit 95 (radix base) ≡ false
underscore_no_digit Binary = refl
underscore_no_digit Octal = refl
underscore_no_digit Hexadecimal = refl

digit_no_underscore : (base : Base) (b : ℕ) → is_digit b (radix base) ≡ true → is_underscore b ≡ false
digit_no_underscore base b h =
    false_from_ne_true _ (λ e. both_ways _ (ap (λ c. is_digit c (radix base)) (eqb-true b 95 e)
    ∙ underscore_no_digit base) h)

digits_at : (base : Base) (text : List ℕ) (n : ℕ) → ascii_in (DigitOf base) (get_or text 0 32) ≡ true
    → n ≡ length (while_front (ascii_in (DigitOrUnderscoreOf base)) text) → get_or text n 32 < 128
    → first_passes is_ascii_digit (chars (drop n text)) ≡ false → IsAsciiAt (Stands (digits_in (radix base))) text n
digits_at base text n starts size low ended =
    let class = DigitOrUnderscoreOf base in
    let b = get_or text 0 32 in
    let start = and_parts (nat_lt b 128) (is_digit b (radix base)) starts in
    let on : ascii_in class b ≡ true = and_from _ _ start.0 (or_left _ _ start.1) in
    let word = run_word class (λ c. is_digit c (radix base)) text n size on start.1 (space_out base) (space_out base)
    low in
    let none : IsAsciiAt (Stands (Run is_underscore)) text 0 = record {
      within = omega arith;
      ascii = refl;
      stands = record {
        each = refl;
        stops = low_fails is_underscore text (ltb-true b 128 start.0) (digit_no_underscore base b start.1);
      };
    } in
    let same : 0 + n ≡ n = omega arith in
    let all = subst (IsAsciiAt (Stands (Then (Run is_underscore) (base_digits (radix base)))) text) same
    (then_at (Stands (Run is_underscore)) (Stands (base_digits (radix base))) text 0 n none word) in
    record { within = all.within; ascii = all.ascii; stands = (all.stands, ended) }

-- ---- no digit begins the end of a number

digit_continues : (c : ℕ) → is_ascii_digit c ≡ true → is_ident_continue c ≡ true
unfolding unicode_ident
digit_continues = sub_digits is_ident_continue refl

start_no_digit : (c : ℕ) → is_ident_start c ≡ true → is_ascii_digit c ≡ false
unfolding unicode_ident
start_no_digit c start =
    false_from_ne_true _ (λ d. both_ways _ (not-true _ (sub_digits (λ x. not (is_ident_start x)) refl c d)) start)

none_continues : (r : List ℕ) → first_passes is_ident_continue r ≡ false → first_passes is_ascii_digit r ≡ false
none_continues [] stops = refl
none_continues (c ∷ r) stops = false_from_ne_true _ (λ d. both_ways _ stops (digit_continues c d))

end_no_digit : (p r : List ℕ) → Stands end p r → first_passes is_ascii_digit (p ++ r) ≡ false
end_no_digit p r (inl name, stops) =
    ap (first_passes is_ascii_digit)
    (ap (λ xs. xs ++ r) (name.whole ∙ ap (λ xs. xs ++ name.back) name.first.1))
    ∙ start_no_digit name.first.0 name.first.2
end_no_digit p r (inr (none, nothing), stops) =
    ap (λ xs. first_passes is_ascii_digit (xs ++ r)) nothing ∙ none_continues r stops

-- ---- the number

based_at : (letter : ℕ) (base : Base) (text after : List ℕ) (n k : ℕ) → is_one_of (codes "xob") letter ≡ true
    → get_or text 0 32 ≡ 48 → get_or text 1 32 ≡ letter → after ≡ drop 2 text
    → ascii_in (DigitOf base) (get_or after 0 32) ≡ true
    → n ≡ length (while_front (ascii_in (DigitOrUnderscoreOf base)) after) → IsAsciiAt NumberEnd (drop n after) k
    → get_or (drop n after) 0 32 < 128 → IsAsciiAt (Stands (Then (prefix_and_digits letter base) end)) text (2 + n + k)
based_at letter base text after n k of zero sign is starts size ended last =
    let plain = ap (first_passes is_ascii_digit) (ascii_split (drop n after) k ended.ascii)
    ∙ end_no_digit _ _ ended.stands.0 in
    let all = subst (λ t. IsAsciiAt (Stands (digits_in (radix base))) t n) is
    (digits_at base after n starts size (omega (arith, last, get_after after n)) plain) in
    then_at (Stands (prefix_and_digits letter base)) (Stands end) text (2 + n) k
    (then_at (Stands (Exactly (prefix letter))) (Stands (digits_in (radix base))) text 2 n
    (prefix_at letter text of zero sign) all)
    (at_other NumberEnd (Stands end) _ k (λ p r h. h.0)
    (subst (λ t. IsAsciiAt NumberEnd t k) (ap (drop n) is ∙ drop-drop n 2 text) ended))

-- the bytes that were read decide that a number is there
pub based_read : (letter : ℕ) (base : Base) (text after rest : List ℕ) (a b c n k : ℕ)
    → is_one_of (codes "xob") letter ≡ true → a ≡ get_or text 0 32 → a ≡ 48 → b ≡ get_or text 1 32 → b ≡ letter
    → after ≡ drop 2 text → c ≡ get_or after 0 32 → true ≡ ascii_in (DigitOf base) c
    → n ≡ length (while_front (ascii_in (DigitOrUnderscoreOf base)) after) → rest ≡ drop n after
    → IsAsciiAt NumberEnd rest k → get_or rest 0 32 < 128
    → IsAsciiAt (Stands (Then (prefix_and_digits letter base) end)) text (2 + n + k)
based_read letter base text after rest a b c n k of zero_is zero sign_is sign is first starts size left ended last =
    based_at letter base text after n k of (sym zero_is ∙ zero) (sym sign_is ∙ sign) is
    (ap (ascii_in (DigitOf base)) (sym first) ∙ sym starts) size (subst (λ t. IsAsciiAt NumberEnd t k) left ended)
    (subst (λ t. get_or t 0 32 < 128) left last)

-- ---- with a letter that announces the base, it is a number

based_starts : (letter : ℕ) (base : Base) → ((text : List ℕ) → begins_any base_prefixes (48 ∷ (letter ∷ text)) ≡ true)
    → ((p r : List ℕ) → Stands (prefix_and_digits letter base) p r → Stands based_number p r) → (text bytes : List ℕ)
    → bytes ≡ text → (size : Option ℕ)
    → IfSome size (IsAsciiAt (Stands (Then (prefix_and_digits letter base) end)) bytes)
    → IfSome size (IsAsciiAt Number text)
unfolding number
based_starts letter base begins to text bytes same None at = at
based_starts letter base begins to text bytes same (Some n) at =
    subst (λ t. IsAsciiAt Number t n) same
    (at_other (Stands (Then (prefix_and_digits letter base) end)) Number bytes n (λ p r is.
    let whole = is.whole ∙ ap (λ xs. xs ++ is.back) (is.first.whole ∙ ap (λ xs. xs ++ is.first.back) is.first.first) in
    inr (
      none_is (find float) (Stands float) (exact float clear_float) (p ++ r) (no_float (p ++ r)
          (ap (λ xs. begins_any base_prefixes (xs ++ r)) whole ∙ begins ((is.first.back ++ is.back) ++ r))),
      record {
        front = is.front;
        back = is.back;
        whole = is.whole;
        first = inr (to is.front (is.back ++ r) is.first);
        second = is.second;
      },
    )) at)

pub announced_hexadecimal : (text bytes : List ℕ) → bytes ≡ text → (size : Option ℕ)
    → IfSome size (IsAsciiAt (Stands (Then (prefix_and_digits 120 Hexadecimal) end)) bytes)
    → IfSome size (IsAsciiAt Number text)
announced_hexadecimal = based_starts 120 Hexadecimal (λ text. refl) (λ p r is. inl is)

pub announced_octal : (text bytes : List ℕ) → bytes ≡ text → (size : Option ℕ)
    → IfSome size (IsAsciiAt (Stands (Then (prefix_and_digits 111 Octal) end)) bytes)
    → IfSome size (IsAsciiAt Number text)
announced_octal = based_starts 111 Octal (λ text. refl) (λ p r is. inr (inl is))

pub announced_binary : (text bytes : List ℕ) → bytes ≡ text → (size : Option ℕ)
    → IfSome size (IsAsciiAt (Stands (Then (prefix_and_digits 98 Binary) end)) bytes)
    → IfSome size (IsAsciiAt Number text)
announced_binary = based_starts 98 Binary (λ text. refl) (λ p r is. inr (inr is))
