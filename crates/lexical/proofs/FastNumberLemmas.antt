-- A number with a fraction, decided by a few bytes.
use Rattle.std.proofs.Common.{None, append-nil, codes, ◌==◌}
use Rattle.std.proofs.Common.{◌≡◌, ℕ, ◌+◌, ◌<◌, ◌≤◌, Bool, true, false, not, ◌&&◌, inl, inr, List, [], ◌∷◌, ◌++◌}
use Rattle.std.proofs.Common.{length, get_or, take, drop, nat_lt, refl, sym, ap, ◌∙◌, subst, arith}
use Rattle.std.proofs.Common.{length-drop, ltb-true}
use Rattle.std.proofs.Math.Seq.{take-add}
use Rattle.std.specs.Char.{is_ascii_digit}
use Rattle.std.specs.List.{list_all}
use Rattle.std.specs.Str.{chars}
use Rattle.std.proofs.lemmas.Bool.{and_parts, and_from, both_ways, cases_lt, false_from_ne_true, not-true, or_left}
use Rattle.std.proofs.lemmas.Bool.{lt-ltb}
use Rattle.std.proofs.lemmas.List.{drop-drop, get_or_past}
use Rattle.std.proofs.lemmas.List.Folds.{list_all-append}
use Rattle.unicode_ident.proofs.Computing.{unicode_ident}
use Rattle.lexical.specs.Ascii.{all_ascii}
use Rattle.lexical.specs.Bytes.{ascii_in, is_in}
use Rattle.lexical.specs.Class.{is_ident_start, is_ident_continue}
use Rattle.lexical.specs.Finder.{while_front}
use Rattle.lexical.specs.Form.{Form, HasNone, Then}
use Rattle.lexical.specs.Number.{Number, bars_dot, digits, dot, end, exponent, is_digit_or_underscore}
use Rattle.lexical.specs.Number.{is_exponent_letter}
use Rattle.lexical.specs.Number.{float, float_tail, fraction, number}
use Rattle.lexical.specs.Number.{base_prefixes, integer}
use Rattle.lexical.specs.Quick.{IsAsciiAt, NumberEnd}
use Rattle.lexical.specs.Rule as rules
use Rattle.lexical.specs.Rule.{find, One, Run, Stands, perhaps}
use Rattle.lexical.specs.Quoted.{is_one_of}
use Rattle.lexical.specs.Text.{begins_any, first_passes}
use Rattle.lexical.specs.declared.bytes.Class.{Class}
use Rattle.lexical.specs.declared.bytes.Class.TheVariants as classes
use Rattle.lexical.proofs.ByteLemmas.{all_low}
use Rattle.lexical.proofs.ClassLemmas.{sub_listed}
use Rattle.lexical.proofs.FinderLemmas.{none_is}
use Rattle.lexical.proofs.NumberFinderLemmas.{finds_digits}
use Rattle.lexical.proofs.PieceFacts.{none_begins, start_continues}
use Rattle.lexical.proofs.FastPathLemmas.{ascii_split, at_other, exponent_continues, front_of_run, get_after, low_fails}
use Rattle.lexical.proofs.FastPathLemmas.{clear_float, next_fails, no_tail, one_ascii}
use Rattle.lexical.proofs.FastPathLemmas.{run_cons, run_passes, run_stops}
use Rattle.lexical.proofs.QuotedLemmas.{no_name}
use Rattle.lexical.proofs.RuleLemmas.{exact}
use Rattle.lexical.proofs.RuleSteps.{find_then}
use Rattle.lexical.proofs.TextLemmas.{all_pass, any_cut}

-- a piece of a form and then a piece of another
pub then_at : (A B : Form) (text : List ℕ) (n k : ℕ) → IsAsciiAt A text n → IsAsciiAt B (drop n text) k
    → IsAsciiAt (Then A B) text (n + k)
then_at A B text n k a b =
    let p = take n text in
    let q = take k (drop n text) in
    let both : take (n + k) text ≡ p ++ q = take-add n k text in
    let rest = drop-drop k n text in
    record {
      within = omega (arith, a.within, b.within, length-drop n text);
      ascii = ap all_ascii both ∙ (list_all-append _ p q ∙ and_from _ _ a.ascii b.ascii);
      stands = record {
        front = p;
        back = q;
        whole = both;
        first = subst (λ r. A p r) (ascii_split (drop n text) k b.ascii ∙ ap (λ r. q ++ chars r) rest) a.stands;
        second = subst (λ r. B q (chars r)) rest b.stands;
      };
    }

-- ---- the end of a number

no_exponent : (r : List ℕ) → first_passes is_exponent_letter r ≡ false → HasNone (Stands exponent) r
no_exponent r none p q whole is =
    both_ways _ none (ap (first_passes is_exponent_letter)
    (whole ∙ ap (λ xs. xs ++ q) (is.whole ∙ ap (λ xs. xs ++ is.back) is.first.1)) ∙ is.first.2)

-- the end of a number without a suffix is empty
pub plain_end : (text : List ℕ) (b : ℕ) → b ≡ get_or text 0 32 → true ≡ (nat_lt b 128 && not (is_ident_continue b))
    → IsAsciiAt NumberEnd text 0
unfolding unicode_ident
plain_end text b is ends =
    let parts = and_parts _ _ (ap (λ c. nat_lt c 128 && not (is_ident_continue c)) (sym is) ∙ sym ends) in
    let c = get_or text 0 32 in
    let low = ltb-true c 128 parts.0 in
    let ended = not-true _ parts.1 in
    let fails : (test : ℕ → Bool) → ((d : ℕ) → test d ≡ true → is_ident_continue d ≡ true)
    → first_passes test (chars text) ≡ false =
    λ test goes. low_fails test text low (false_from_ne_true _ (λ on. both_ways _ ended (goes c on))) in
    record {
      within = omega arith;
      ascii = refl;
      stands = (
        (
          (inr (no_name (chars text) (fails is_ident_start start_continues), refl)),
          fails is_ident_continue (λ d on. on),
        ),
        fails is_exponent_letter exponent_continues,
      );
    }

-- a character that passes, and a run of a class that contains it
pub run_word : (class : Class) (starts : ℕ → Bool) (text : List ℕ) (n : ℕ)
    → n ≡ length (while_front (ascii_in class) text) → ascii_in class (get_or text 0 32) ≡ true
    → starts (get_or text 0 32) ≡ true → ascii_in class 32 ≡ false
    → is_in class 32 ≡ false → get_or text n 32 < 128
    → IsAsciiAt (Stands (rules.Then (One starts) (Run (is_in class)))) text n
run_word class starts text n size on start space other low =
    let b = get_or text 0 32 in
    let more = run_cons class text n size on space in
    let all = run_passes class text n size in
    let each : list_all (is_in class) (take n text) ≡ true =
    all_pass _ _ (λ c is. (and_parts _ _ is).1) (take n text) all in
    record {
      within = (front_of_run (ascii_in class) text n size).2;
      ascii = all_low class (take n text) all;
      stands = record {
        front = b ∷ [];
        back = more.0;
        whole = more.1;
        first = (b, refl, start);
        second = record {
          each = (and_parts _ _ (ap (list_all (is_in class)) (sym more.1) ∙ each)).1;
          stops = next_fails (is_in class) text n low (run_stops class text n size other low);
        };
      };
    }

-- an ASCII byte that is not in a class does not pass its test
low_out : (test : ℕ → Bool) (b : ℕ) → b < 128 → (nat_lt b 128 && test b) ≡ false → test b ≡ false
low_out test b low out = sym (ap (λ x. x && test b) (lt-ltb b 128 low)) ∙ out

-- the end of a number with a suffix is a name
name_end_at : (text : List ℕ) (n : ℕ) → ascii_in classes.ExponentLetter (get_or text 0 32) ≡ false
    → ascii_in classes.IdentifierStart (get_or text 0 32) ≡ true
    → n ≡ length (while_front (ascii_in classes.IdentifierContinue) text) → get_or text n 32 < 128
    → IsAsciiAt NumberEnd text n
unfolding unicode_ident
name_end_at text n plain starts size low =
    let b = get_or text 0 32 in
    let start = and_parts (nat_lt b 128) (is_ident_start b) starts in
    let on : ascii_in classes.IdentifierContinue b ≡ true = and_from _ _ start.0 (start_continues b start.1) in
    let at = run_word classes.IdentifierContinue is_ident_start text n size on start.1 refl refl low in
    let r = chars (drop n text) in
    record {
      within = at.within;
      ascii = at.ascii;
      stands = (
        (
          inl at.stands,
          next_fails is_ident_continue text n low (run_stops classes.IdentifierContinue text n size refl low),
        ),
        ap (λ xs. first_passes is_exponent_letter (xs ++ r)) (run_cons classes.IdentifierContinue text n size on refl).1
            ∙ low_out is_exponent_letter b (ltb-true b 128 start.0) plain,
      );
    }

pub name_end : (text : List ℕ) (b n next : ℕ) → b ≡ get_or text 0 32 → next ≡ get_or text n 32
    → false ≡ ascii_in classes.ExponentLetter b → true ≡ ascii_in classes.IdentifierStart b
    → n ≡ length (while_front (ascii_in classes.IdentifierContinue) text) → true ≡ nat_lt next 128
    → IsAsciiAt NumberEnd text n
name_end text b n next is after plain starts size low =
    name_end_at text n (ap (ascii_in classes.ExponentLetter) (sym is) ∙ sym plain)
    (ap (ascii_in classes.IdentifierStart) (sym is) ∙ sym starts) size
    (ltb-true _ 128 (ap (λ c. nat_lt c 128) (sym after) ∙ sym low))

-- a byte of a class is below 128
pub first_low : (class : Class) (byte b : ℕ) → byte ≡ b → true ≡ ascii_in class byte → b < 128
first_low class byte b is h = ltb-true b 128 (and_parts _ _ (ap (ascii_in class) (sym is) ∙ sym h)).0

-- ---- floats

pub byte_here : (text : List ℕ) (c : ℕ) → get_or text 0 32 ≡ c → (c ≡ 32 → ⊥)
    → (0 < length text) × (get_or text 0 0 ≡ c)
byte_here [] c is other = absurd (other (sym is))
byte_here (b ∷ text) c is other = (omega arith, is)

dot_at : (text after : List ℕ) (n : ℕ) → get_or text n 32 ≡ 46 → after ≡ drop (n + 1) text → get_or after 0 32 < 128
    → ascii_in classes.BarsDot (get_or after 0 32) ≡ false → IsAsciiAt (Stands dot) (drop n text) 1
dot_at text after n point is low bars =
    let here = byte_here (drop n text) 46 (get_after text n ∙ point) (λ e. omega (arith, e)) in
    let rest : drop 1 (drop n text) ≡ after = drop-drop 1 n text ∙ sym is in
    one_ascii (Stands dot) (drop n text) 46 here.0 here.1 (omega arith) (
      refl,
      ap (λ t. first_passes bars_dot (chars t)) rest
          ∙ low_fails bars_dot after low (low_out bars_dot (get_or after 0 32) low bars),
    )

run_at : (text : List ℕ) (n : ℕ) → n ≡ length (while_front (ascii_in classes.DigitOrUnderscore) text)
    → get_or text n 32 < 128 → IsAsciiAt (Stands (Run is_digit_or_underscore)) text n
run_at text n size low =
    let all = run_passes classes.DigitOrUnderscore text n size in
    record {
      within = (front_of_run (ascii_in classes.DigitOrUnderscore) text n size).2;
      ascii = all_low classes.DigitOrUnderscore (take n text) all;
      stands = record {
        each = all_pass _ _ (λ c is. (and_parts _ _ is).1) (take n text) all;
        stops = next_fails is_digit_or_underscore text n low (run_stops classes.DigitOrUnderscore text n size refl low);
      };
    }

pub whole_at : (text : List ℕ) (n : ℕ) → ascii_in classes.Digit (get_or text 0 32) ≡ true
    → n ≡ length (while_front (ascii_in classes.DigitOrUnderscore) text) → get_or text n 32 < 128
    → IsAsciiAt (Stands digits) text n
whole_at text n starts size low =
    let b = get_or text 0 32 in
    let start = and_parts (nat_lt b 128) (is_ascii_digit b) starts in
    let on : ascii_in classes.DigitOrUnderscore b ≡ true = and_from _ _ start.0 (or_left _ _ start.1) in
    run_word classes.DigitOrUnderscore is_ascii_digit text n size on start.1 refl refl low

-- the end of a float without an exponent is the end of a number
pub end_at : (text : List ℕ) (k : ℕ) → IsAsciiAt NumberEnd text k
    → IsAsciiAt (Stands (rules.Then (perhaps exponent) end)) text k
end_at text k ended =
    let same : 0 + k ≡ k = omega arith in
    let none = ap (first_passes is_exponent_letter) (ascii_split text k ended.ascii) ∙ ended.stands.1 in
    let nothing : IsAsciiAt (Stands (perhaps exponent)) text 0 =
    record { within = omega arith; ascii = refl; stands = inr (no_exponent (chars text) none, refl) } in
    subst (IsAsciiAt (Stands (rules.Then (perhaps exponent) end)) text) same
    (then_at (Stands (perhaps exponent)) (Stands end) text 0 k nothing (at_other _ _ text k (λ p r h. h.0) ended))

float_at : (text after : List ℕ) (n m k : ℕ) → ascii_in classes.Digit (get_or text 0 32) ≡ true
    → n ≡ length (while_front (ascii_in classes.DigitOrUnderscore) text) → get_or text n 32 ≡ 46
    → after ≡ drop (n + 1) text → get_or after 0 32 < 128 → ascii_in classes.BarsDot (get_or after 0 32) ≡ false
    → m ≡ length (while_front (ascii_in classes.DigitOrUnderscore) after)
    → IsAsciiAt (Stands (rules.Then (perhaps exponent) end)) (drop m after) k
    → get_or (drop m after) 0 32 < 128 → IsAsciiAt Number text (n + 1 + m + k)
unfolding number
float_at text after n m k starts size point is low bars count ended last =
    let whole = whole_at text n starts size (omega (arith, point)) in
    let part : IsAsciiAt (Stands (rules.Then (Run is_digit_or_underscore) (rules.Then (perhaps exponent) end))) after
    (m + k) =
    then_at (Stands (Run is_digit_or_underscore)) (Stands (rules.Then (perhaps exponent) end)) after m k
    (run_at after m count (omega (arith, last, get_after after m))) ended in
    let tail : IsAsciiAt (Stands fraction) (drop n text) (1 + (m + k)) =
    then_at (Stands dot) (Stands (rules.Then (Run is_digit_or_underscore) (rules.Then (perhaps exponent) end)))
    (drop n text) 1 (m + k) (dot_at text after n point is low bars)
    (subst (λ t. IsAsciiAt (Stands (rules.Then (Run is_digit_or_underscore) (rules.Then (perhaps exponent) end))) t
    (m + k)) (is ∙ sym (drop-drop 1 n text)) part) in
    let total : n + (1 + (m + k)) ≡ n + 1 + m + k = omega arith in
    subst (IsAsciiAt Number text) total
    (at_other (Stands float) Number text _ (λ p r h. inl h)
    (then_at (Stands digits) (Stands float_tail) text n _ whole (at_other _ _ (drop n text) _ (λ p r h. inl h) tail)))

-- the bytes that were read decide that a float is there
pub float_read : (text after rest : List ℕ) (n d next m k : ℕ) → ascii_in classes.Digit (get_or text 0 32) ≡ true
    → n ≡ length (while_front (ascii_in classes.DigitOrUnderscore) text) → d ≡ get_or text n 32 → d ≡ 46
    → after ≡ drop (n + 1) text → next ≡ get_or after 0 32 → true ≡ nat_lt next 128
    → false ≡ ascii_in classes.BarsDot next → m ≡ length (while_front (ascii_in classes.DigitOrUnderscore) after)
    → rest ≡ drop m after → IsAsciiAt (Stands (rules.Then (perhaps exponent) end)) rest k → get_or rest 0 32 < 128
    → IsAsciiAt Number text (n + 1 + m + k)
float_read text after rest n d next m k starts size here point is first low bars count left ended last =
    float_at text after n m k starts size (sym here ∙ point) is
    (ltb-true _ 128 (ap (λ c. nat_lt c 128) (sym first) ∙ sym low))
    (ap (ascii_in classes.BarsDot) (sym first) ∙ sym bars) count
    (subst (λ t. IsAsciiAt (Stands (rules.Then (perhaps exponent) end)) t k) left ended)
    (subst (λ t. get_or t 0 32 < 128) left last)

pub run_within : (class : Class) (text : List ℕ) (n : ℕ) → n ≡ length (while_front (ascii_in class) text)
    → n ≤ length text
run_within class text n size = (front_of_run (ascii_in class) text n size).2

pub byte_within : (text : List ℕ) (n d c : ℕ) → d ≡ get_or text n 32 → d ≡ c → (c ≡ 32 → ⊥) → n < length text
byte_within text n d c is same other = elim (cases_lt n (length text)) [
  | inl low ↦ low
  | inr high ↦ absurd (other (sym same ∙ (is ∙ get_or_past text n 32 high)))
]

-- after a byte other than a space comes a place that is at most the end
pub byte_followed : (text : List ℕ) (n d c : ℕ) → d ≡ get_or text n 32 → d ≡ c → (c ≡ 32 → ⊥) → n + 1 ≤ length text
byte_followed text n d c is same other =
    let within = byte_within text n d c is same other in
    omega arith

-- ---- a suffix

-- an integer and its end are a number, if no float is there
pub integer_at : (text : List ℕ) (n k : ℕ) → find float (chars text) ≡ None → IsAsciiAt (Stands integer) text n
    → IsAsciiAt NumberEnd (drop n text) k → IsAsciiAt Number text (n + k)
unfolding number
integer_at text n k none at ended =
    let whole = then_at (Stands integer) (Stands end) text n k at
    (at_other NumberEnd (Stands end) (drop n text) k (λ p r h. h.0) ended) in
    record {
      within = whole.within;
      ascii = whole.ascii;
      stands = inr (
        subst (HasNone (Stands float)) (ascii_split text (n + k) whole.ascii)
            (none_is (find float) (Stands float) (exact float clear_float) (chars text) none),
        whole.stands,
      );
    }

-- the characters of the prefixes of bases
abbrev pub in_bases : ℕ → Bool
in_bases = is_one_of (codes "0xob")

suffix_letter : (test : ℕ → Bool) → list_all (λ c. not (test c)) (codes "uif") ≡ true → (c : ℕ)
    → is_one_of (codes "uif") c ≡ true → test c ≡ false
suffix_letter test out c is = not-true _ (sub_listed (λ d. not (test d)) (codes "uif") out c is)

suffixed_at : (text : List ℕ) (n k : ℕ) → ascii_in classes.Digit (get_or text 0 32) ≡ true
    → n ≡ length (while_front (ascii_in classes.DigitOrUnderscore) text)
    → is_one_of (codes "uif") (get_or text n 32) ≡ true → IsAsciiAt NumberEnd (drop n text) k
    → get_or text n 32 < 128 → IsAsciiAt Number text (n + k)
suffixed_at text n k starts size letter ended low =
    let p = take n text in
    let r = chars (drop n text) in
    let word = whole_at text n starts size low in
    let fails : (test : ℕ → Bool) → list_all (λ c. not (test c)) (codes "uif") ≡ true
    → first_passes test r ≡ false =
    λ test out. next_fails test text n low (suffix_letter test out (get_or text n 32) letter) in
    let none : find float (chars text) ≡ None =
    ap (find float) (ascii_split text n word.ascii)
    ∙ (rw (
      find_then,
      finds_digits.complete p r word.stands,
      no_tail r (fails (λ d. d == 46) refl) (fails is_exponent_letter refl),
    ) refl) in
    let all : list_all is_digit_or_underscore p ≡ true =
    all_pass _ _ (λ c is. (and_parts _ _ is).1) p (run_passes classes.DigitOrUnderscore text n size) in
    let plain = any_cut in_bases base_prefixes p [] r refl (fails in_bases refl)
    (ap (begins_any base_prefixes) (append-nil p)
    ∙ none_begins is_digit_or_underscore base_prefixes p refl all) in
    integer_at text n k none
    (record { within = word.within; ascii = word.ascii; stands = inl (word.stands, plain) }) ended

pub suffixed_read : (text rest : List ℕ) (n d k : ℕ) → ascii_in classes.Digit (get_or text 0 32) ≡ true
    → n ≡ length (while_front (ascii_in classes.DigitOrUnderscore) text) → d ≡ get_or text n 32
    → true ≡ is_one_of (codes "uif") d → rest ≡ drop n text → IsAsciiAt NumberEnd rest k → get_or rest 0 32 < 128
    → IsAsciiAt Number text (n + k)
suffixed_read text rest n d k starts size here letter left ended last =
    suffixed_at text n k starts size (ap (is_one_of (codes "uif")) (sym here) ∙ sym letter)
    (subst (λ t. IsAsciiAt NumberEnd t k) left ended)
    (omega (arith, subst (λ t. get_or t 0 32 < 128) left last, get_after text n))
