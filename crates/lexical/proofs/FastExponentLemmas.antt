-- A number with an exponent, decided by a few bytes.
use Rattle.std.specs.Prelude.{IfSome}
use Rattle.std.proofs.Common.{None, Option, Some, eqb-true}
use Rattle.std.proofs.Common.{◌≡◌, ℕ, ◌+◌, ◌<◌, Bool, true, false, inl, inr, List, [], ◌∷◌, ◌++◌}
use Rattle.std.proofs.Common.{length, get_or, drop, nat_lt, refl, sym, ap, ◌∙◌, subst, arith}
use Rattle.std.proofs.Common.{ltb-true}
use Rattle.std.specs.Char.{is_ascii_digit}
use Rattle.std.proofs.lemmas.Bool.{and_parts, and_from, both_ways, false_from_ne_true}
use Rattle.lexical.specs.Bytes.{ascii_in}
use Rattle.lexical.specs.Finder.{while_front}
use Rattle.lexical.specs.Number.{Number, digits, end, exponent}
use Rattle.lexical.specs.Number.{is_exponent_letter}
use Rattle.lexical.specs.Number.{float, float_tail, number}
use Rattle.lexical.specs.Number.{exponent_digits, is_sign, is_underscore}
use Rattle.lexical.specs.Quick.{IsAsciiAt, NumberEnd}
use Rattle.lexical.specs.Rule as rules
use Rattle.lexical.specs.Rule.{One, Run, Stands, perhaps}
use Rattle.lexical.specs.Text.{first_passes}
use Rattle.lexical.specs.declared.bytes.Class.{Class}
use Rattle.lexical.specs.declared.bytes.Class.TheVariants as classes
use Rattle.lexical.proofs.FastPathLemmas.{at_other, low_fails}
use Rattle.lexical.proofs.FastNumberLemmas.{then_at, whole_at}

-- a run is empty, if the next byte is ASCII and does not pass
none_at : (passes : ℕ → Bool) (text : List ℕ) → get_or text 0 32 < 128 → passes (get_or text 0 32) ≡ false
    → IsAsciiAt (Stands (Run passes)) text 0
none_at passes text low fails = record {
  within = omega arith;
  ascii = refl;
  stands = record { each = refl; stops = low_fails passes text low fails };
}

low_of : (class : Class) (b : ℕ) → ascii_in class b ≡ true → b < 128
low_of class b on = ltb-true b 128 (and_parts _ _ on).0

digit_no_underscore : (b : ℕ) → is_ascii_digit b ≡ true → is_underscore b ≡ false
digit_no_underscore b h = false_from_ne_true _ (λ e. both_ways _ (ap is_ascii_digit (eqb-true b 95 e)) h)

sign_no_underscore : (b : ℕ) → is_sign b ≡ true → is_underscore b ≡ false
sign_no_underscore b h = false_from_ne_true _ (λ e. both_ways _ (ap is_sign (eqb-true b 95 e)) h)

digit_no_sign : (b : ℕ) → is_ascii_digit b ≡ true → is_sign b ≡ false
digit_no_sign b h = grind (arith, h)

pub exponent_digits_at : (text : List ℕ) (n : ℕ) → ascii_in classes.Digit (get_or text 0 32) ≡ true
    → n ≡ length (while_front (ascii_in classes.DigitOrUnderscore) text) → get_or text n 32 < 128
    → IsAsciiAt (Stands exponent_digits) text n
exponent_digits_at text n starts size low =
    let b = get_or text 0 32 in
    let start = and_parts (nat_lt b 128) (is_ascii_digit b) starts in
    let same : 0 + n ≡ n = omega arith in
    subst (IsAsciiAt (Stands exponent_digits) text) same
    (then_at (Stands (Run is_underscore)) (Stands digits) text 0 n
    (none_at is_underscore text (low_of classes.Digit b starts) (digit_no_underscore b start.1))
    (whole_at text n starts size low))

-- an exponent and the end of a number, one after the other
pub exponent_end_at : (text rest : List ℕ) (n k : ℕ) → IsAsciiAt (Stands exponent) text n → rest ≡ drop n text
    → IsAsciiAt NumberEnd rest k → IsAsciiAt (Stands (rules.Then exponent end)) text (n + k)
exponent_end_at text rest n k at is ended =
    then_at (Stands exponent) (Stands end) text n k at
    (at_other _ _ (drop n text) k (λ p r h. h.0) (subst (λ t. IsAsciiAt NumberEnd t k) is ended))

pub some_exponent : (text : List ℕ) (size : Option ℕ) → IfSome size (IsAsciiAt (Stands (rules.Then exponent end)) text)
    → IfSome size (IsAsciiAt (Stands (rules.Then (perhaps exponent) end)) text)
some_exponent text None at = tt
some_exponent text (Some n) at = at_other _ _ text n (λ p r h. record {
  front = h.front;
  back = h.back;
  whole = h.whole;
  first = inl h.first;
  second = h.second;
}) at

-- the letter of an exponent is one byte
letter_at : (text : List ℕ) → ascii_in classes.ExponentLetter (get_or text 0 32) ≡ true
    → IsAsciiAt (Stands (One is_exponent_letter)) text 1
letter_at [] letter = absurd (both_ways _ refl letter)
letter_at (b ∷ text) letter =
    let is = and_parts _ _ letter in
    record { within = omega arith; ascii = and_from _ _ is.0 refl; stands = (b, refl, is.1) }

sign_at : (text : List ℕ) → ascii_in classes.Sign (get_or text 0 32) ≡ true
    → IsAsciiAt (Stands (perhaps (One is_sign))) text 1
sign_at [] sign = absurd (both_ways _ refl sign)
sign_at (b ∷ text) sign =
    let is = and_parts _ _ sign in
    record { within = omega arith; ascii = and_from _ _ is.0 refl; stands = inl (b, refl, is.1) }

no_sign_at : (text : List ℕ) → get_or text 0 32 < 128 → is_sign (get_or text 0 32) ≡ false
    → IsAsciiAt (Stands (perhaps (One is_sign))) text 0
no_sign_at text low fails =
    let none = low_fails is_sign text low fails in
    record {
      within = omega arith;
      ascii = refl;
      stands = inr (
        (λ p q whole is. both_ways _ none
            (ap (first_passes is_sign) (whole ∙ ap (λ xs. xs ++ q) is.1) ∙ is.2)),
        refl,
      );
    }

-- an exponent is its letter and what follows, which begins with a digit or a sign
exponent_at : (text after : List ℕ) (n : ℕ) → ascii_in classes.ExponentLetter (get_or text 0 32) ≡ true
    → after ≡ drop 1 text → get_or after 0 32 < 128 → is_underscore (get_or after 0 32) ≡ false
    → IsAsciiAt (Stands (rules.Then (perhaps (One is_sign)) exponent_digits)) after n
    → IsAsciiAt (Stands exponent) text (n + 1)
exponent_at text after n letter is low plain at =
    let rest = rules.Then (perhaps (One is_sign)) exponent_digits in
    let total : 1 + (0 + n) ≡ n + 1 = omega arith in
    subst (IsAsciiAt (Stands exponent) text) total
    (then_at (Stands (One is_exponent_letter)) (Stands (rules.Then (Run is_underscore) rest)) text 1 (0 + n)
    (letter_at text letter)
    (subst (λ t. IsAsciiAt (Stands (rules.Then (Run is_underscore) rest)) t (0 + n)) is
    (then_at (Stands (Run is_underscore)) (Stands rest) after 0 n (none_at is_underscore after low plain) at)))

pub signed_read : (text after digits_after : List ℕ) (a b n : ℕ) → a ≡ get_or text 0 32
    → true ≡ ascii_in classes.ExponentLetter a → after ≡ drop 1 text → b ≡ get_or after 0 32
    → true ≡ ascii_in classes.Sign b → digits_after ≡ drop 1 after
    → IsAsciiAt (Stands exponent_digits) digits_after n → IsAsciiAt (Stands exponent) text (n + 2)
signed_read text after rest a b n front letter is first sign left at =
    let c = get_or after 0 32 in
    let signs : ascii_in classes.Sign c ≡ true = ap (ascii_in classes.Sign) (sym first) ∙ sym sign in
    let total : 1 + n + 1 ≡ n + 2 = omega arith in
    subst (IsAsciiAt (Stands exponent) text) total
    (exponent_at text after (1 + n) (ap (ascii_in classes.ExponentLetter) (sym front) ∙ sym letter) is
    (low_of classes.Sign c signs) (sign_no_underscore c (and_parts _ _ signs).1)
    (then_at (Stands (perhaps (One is_sign))) (Stands exponent_digits) after 1 n (sign_at after signs)
    (subst (λ t. IsAsciiAt (Stands exponent_digits) t n) left at)))

pub unsigned_read : (text after : List ℕ) (a n : ℕ) → a ≡ get_or text 0 32
    → true ≡ ascii_in classes.ExponentLetter a → after ≡ drop 1 text
    → IsAsciiAt (Stands exponent_digits) after n → ascii_in classes.Digit (get_or after 0 32) ≡ true
    → IsAsciiAt (Stands exponent) text (n + 1)
unsigned_read text after a n front letter is at digit =
    let c = get_or after 0 32 in
    let on = and_parts (nat_lt c 128) (is_ascii_digit c) digit in
    let low = low_of classes.Digit c digit in
    let same : 0 + n ≡ n = omega arith in
    exponent_at text after n (ap (ascii_in classes.ExponentLetter) (sym front) ∙ sym letter) is low
    (digit_no_underscore c on.1)
    (subst (IsAsciiAt (Stands (rules.Then (perhaps (One is_sign)) exponent_digits)) after) same
    (then_at (Stands (perhaps (One is_sign))) (Stands exponent_digits) after 0 n
    (no_sign_at after low (digit_no_sign c on.1)) at))

-- digits and an exponent are a float without a dot
pub dotless_read : (text bytes rest : List ℕ) (b n d k : ℕ) → bytes ≡ text → b ≡ get_or bytes 0 32
    → true ≡ ascii_in classes.Digit b → n ≡ length (while_front (ascii_in classes.DigitOrUnderscore) bytes)
    → d ≡ get_or bytes n 32 → true ≡ ascii_in classes.ExponentLetter d → rest ≡ drop n bytes
    → IsAsciiAt (Stands (rules.Then exponent end)) rest k → IsAsciiAt Number text (n + k)
unfolding number
dotless_read text bytes rest b n d k same front starts size here letter left at =
    let low = low_of classes.ExponentLetter (get_or bytes n 32)
    (ap (ascii_in classes.ExponentLetter) (sym here) ∙ sym letter) in
    subst (λ t. IsAsciiAt Number t (n + k)) same
    (at_other (Stands float) Number bytes _ (λ p r h. inl h)
    (then_at (Stands digits) (Stands float_tail) bytes n k
    (whole_at bytes n (ap (ascii_in classes.Digit) (sym front) ∙ sym starts) size low)
    (at_other _ _ (drop n bytes) k (λ p r h. inr h)
    (subst (λ t. IsAsciiAt (Stands (rules.Then exponent end)) t k) left at))))
