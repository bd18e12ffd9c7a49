-- Names of ASCII letters, digits and `_` are valid.
use Rattle.std.proofs.Common.{◌≡◌, ℕ, ◌<◌, Bool, true, false, not, ◌||◌, ◌==◌, List, [], ◌∷◌, length, None, refl}
use Rattle.std.proofs.Common.{ap, sym, ◌∙◌, arith, inl, inr, nat_le, get_or, map, if◌then◌else◌, Some}
use Rattle.std.specs.List.{list_all, range_with_len}
use Rattle.std.specs.Int.{is_in_range}
use Rattle.std.specs.Char.{is_ascii_alphabetic, is_ascii_alphanumeric, is_ascii_digit}
use Rattle.std.specs.Str.{chars}
use Rattle.std.proofs.lemmas.Bool.{and_parts, and_from, and_left, cond-true, cond-false, eqb-true, both_ways}
use Rattle.std.proofs.lemmas.Bool.{false_from_ne_true}
use Rattle.std.proofs.lemmas.Bool.{leb-true, lt-ltb, ne_eqb, or_cases, or_left, or_right}
use Rattle.std.proofs.lemmas.Str.{chars-IsAscii}
use Rattle.std.proofs.lemmas.List.FromFn.{get_or-map-range_with_len}
use Rattle.lexical.specs.Class.{is_ident_continue}
use Rattle.lexical.specs.Finder.{while_front}
use Rattle.lexical.specs.Ascii.{all_ascii}
use Rattle.lexical.proofs.ClassLemmas.{ident_start_ascii, ident_continue_ascii}
use Rattle.lexical.proofs.StripLemmas.{is_ascii}
use Rattle.lexical.specs.Identifier.{is_allowed}
use Rattle.pm_token.specs.declared.identifiers.faults.TheConstants.{CONTINUES}
use Rattle.pm_token.specs.declared.identifiers.faults.IdentError.TheVariants.{Reserved}
use Rattle.pm_token.specs.IdentFault.{ident_fault, is_name, is_number, is_plain_continue, is_plain_start}

-- the table has the bytes that may continue a plain name
continues_is : CONTINUES ≡ map is_plain_continue (range_with_len 0 256)
continues_is = refl

pub continues_at : (byte : ℕ) → byte < 256 → get_or CONTINUES byte false ≡ is_plain_continue byte
continues_at byte small = ap (λ table. get_or table byte false) continues_is
    ∙ get_or-map-range_with_len is_plain_continue 0 256 byte byte false small (omega arith)

-- a byte that may continue a plain name is ASCII
plain_low : (c : ℕ) → is_plain_continue c ≡ true → c < 128
plain_low c h = elim (or_cases (is_ascii_alphanumeric c) (c == 95) h) [
  | inl letter ↦ elim (or_cases (is_in_range 48 57 c || is_in_range 65 90 c) (is_in_range 97 122 c) letter) [
    | inl first ↦ elim (or_cases (is_in_range 48 57 c) (is_in_range 65 90 c) first) [
      | inl digit ↦ let top = leb-true c 57 (and_parts (nat_le 48 c) (nat_le c 57) digit).1 in omega (arith, top)
      | inr upper ↦ let top = leb-true c 90 (and_parts (nat_le 65 c) (nat_le c 90) upper).1 in omega (arith, top)
    ]
    | inr lower ↦ let top = leb-true c 122 (and_parts (nat_le 97 c) (nat_le c 122) lower).1 in omega (arith, top)
  ]
  | inr line ↦ let e = eqb-true c 95 line in omega (arith, e)
]

-- a byte that may begin a plain name may also continue one
start_continues : (c : ℕ) → is_plain_start c ≡ true → is_plain_continue c ≡ true
start_continues c h = elim (or_cases (is_ascii_alphabetic c) (c == 95) h) [
  | inl letter ↦ elim (or_cases (is_in_range 65 90 c) (is_in_range 97 122 c) letter) [
    | inl upper ↦ or_left (is_ascii_alphanumeric c) (c == 95)
        (or_left (is_in_range 48 57 c || is_in_range 65 90 c) (is_in_range 97 122 c)
        (or_right (is_in_range 48 57 c) (is_in_range 65 90 c) upper))
    | inr lower ↦ or_left (is_ascii_alphanumeric c) (c == 95)
        (or_right (is_in_range 48 57 c || is_in_range 65 90 c) (is_in_range 97 122 c) lower)
  ]
  | inr line ↦ or_right (is_ascii_alphanumeric c) (c == 95) line
]

-- a byte that may begin a plain name is no digit
start_no_digit : (c : ℕ) → is_plain_start c ≡ true → is_ascii_digit c ≡ false
start_no_digit c h = false_from_ne_true (is_ascii_digit c) (λ digit.
    let top = leb-true c 57 (and_parts (nat_le 48 c) (nat_le c 57) digit).1 in
    elim (or_cases (is_ascii_alphabetic c) (c == 95) h) [
      | inl letter ↦ elim (or_cases (is_in_range 65 90 c) (is_in_range 97 122 c) letter) [
        | inl upper ↦ let low = leb-true 65 c (and_parts (nat_le 65 c) (nat_le c 90) upper).0 in
            absurd (omega (arith, top, low))
        | inr lower ↦ let low = leb-true 97 c (and_parts (nat_le 97 c) (nat_le c 122) lower).0 in
            absurd (omega (arith, top, low))
      ]
      | inr line ↦ let e = eqb-true c 95 line in absurd (omega (arith, top, e))
    ])

-- if all bytes may continue a plain name, so may the first
first_plain : (b : ℕ) (bs : List ℕ) (p : Bool) → is_plain_continue b ≡ p
    → length (b ∷ bs) ≡ length (while_front is_plain_continue (b ∷ bs))
    → (is_plain_continue b ≡ true) × (length bs ≡ length (while_front is_plain_continue bs))
first_plain b bs true plain e =
    let front = ap length (cond-true (is_plain_continue b) (b ∷ while_front is_plain_continue bs) [] plain) in
    (plain, omega (arith, e, front))
first_plain b bs false other e =
    let front = ap length (cond-false (is_plain_continue b) (b ∷ while_front is_plain_continue bs) [] other) in
    absurd (omega (arith, e, front))

-- if as many bytes as there are may continue a plain name, each may
all_plain : (bs : List ℕ) → length bs ≡ length (while_front is_plain_continue bs)
    → list_all is_plain_continue bs ≡ true
all_plain [] e = refl
all_plain (b ∷ bs) e =
    let first = first_plain b bs (is_plain_continue b) refl e in
    and_from _ _ first.0 (all_plain bs first.1)

all_low : (bs : List ℕ) → list_all is_plain_continue bs ≡ true → all_ascii bs ≡ true
all_low [] all = refl
all_low (b ∷ bs) all = let parts = and_parts _ _ all in
    and_from _ _ (lt-ltb _ _ (plain_low b parts.0)) (all_low bs parts.1)

all_continue : (bs : List ℕ) → list_all is_plain_continue bs ≡ true → list_all is_ident_continue bs ≡ true
all_continue [] all = refl
all_continue (b ∷ bs) all = let parts = and_parts _ _ all in
    and_from _ _ (ident_continue_ascii b (plain_low b parts.0) ∙ parts.0) (all_continue bs parts.1)

-- the only fault of a text that is a name is that it is reserved
pub named_fault : (raw : Bool) (text : List ℕ) → is_name text ≡ true
    → ident_fault raw text ≡ (if not (is_allowed raw text) then Some Reserved else None)
named_fault raw [] h = absurd (both_ways _ refl h)
named_fault raw (c ∷ text) h =
    cond-false (length (c ∷ text) == 0) _ _ (ne_eqb (length (c ∷ text)) 0 (λ e. omega (arith, e)))
    ∙ (cond-false (is_number (c ∷ text)) _ _ no_number ∙ cond-false (not (is_name (c ∷ text))) _ _ (ap not h))
  where
    no_number : is_number (c ∷ text) ≡ false
    no_number = false_from_ne_true (is_number (c ∷ text)) (λ number.
        let digit = (and_parts _ _ number).0 in
        let top = leb-true c 57 (and_parts (nat_le 48 c) (nat_le c 57) digit).1 in
        let low : c < 128 = omega (arith, top) in
        let starts = sym (ident_start_ascii c low) ∙ (and_parts _ _ h).0 in
        both_ways (is_ascii_digit c) (start_no_digit c starts) digit)

-- a plain name has no fault
pub plain_no_fault : (b : ℕ) (bs text : List ℕ) → text ≡ b ∷ bs → is_plain_start b ≡ true
    → length (while_front is_plain_continue bs) ≡ length bs → ident_fault false (chars text) ≡ None
plain_no_fault b bs text whole starts counted =
    let rest = all_plain bs (sym counted) in
    let all : list_all is_plain_continue (b ∷ bs) ≡ true = and_from _ _ (start_continues b starts) rest in
    let digits : is_number (b ∷ bs) ≡ false = and_left _ _ (start_no_digit b starts) in
    let name : is_name (b ∷ bs) ≡ true =
    and_from _ _ (ident_start_ascii b (plain_low b (start_continues b starts)) ∙ starts) (all_continue bs rest) in
    ap (λ x. ident_fault false (chars x)) whole
    ∙ (ap (ident_fault false) (chars-IsAscii (b ∷ bs) (is_ascii (b ∷ bs) (all_low (b ∷ bs) all)))
    ∙ (cond-false (length (b ∷ bs) == 0) _ _ (ne_eqb (length (b ∷ bs)) 0 (λ e. omega (arith, e)))
    ∙ (cond-false (is_number (b ∷ bs)) _ _ digits ∙ cond-false (not (is_name (b ∷ bs))) _ _ (ap not name))))
