-- Classes of characters: on ASCII, and which classes have no character in common.
use Rattle.std.proofs.Common.{◌≡◌, ℕ, ◌<◌, ◌⊎◌, Bool, true, false, not, cond, ◌||◌, ◌==◌, List, [], ◌∷◌, codes, refl}
use Rattle.std.proofs.Common.{sym, ap, arith, ◌∙◌, subst, inl, inr, eqb-true}
use Rattle.std.specs.Prelude.{if◌then◌else◌, get_or, map}
use Rattle.std.specs.List.{list_all, list_any, range_with_len, AllByRecursion}
use Rattle.std.specs.Char.{is_ascii_alphabetic, is_ascii_alphanumeric, is_ascii_digit}
use Rattle.std.proofs.lemmas.Bool.{both_ways, cases_Bool, and_parts, or_cases, or_parts, or_from, and_left}
use Rattle.std.proofs.lemmas.Bool.{false_from_ne_true, not-true, agree_below, agree_below_at, cond-true, cond-false}
use Rattle.std.proofs.lemmas.Bool.{cases_lt, cond_both, le-ltb, lt-ltb}
use Rattle.std.proofs.lemmas.List.FromFn.{get_or-map-range_with_len}
use Rattle.unicode_ident.proofs.Computing.{unicode_ident}
use Rattle.unicode_ident.proofs.IdentLemmas.{is_xid_continue-ascii}
use Rattle.lexical.specs.Class.{is_white, is_ident_start, is_ident_continue}
use Rattle.lexical.specs.Text.{begins_any}
use Rattle.lexical.specs.Mark.{is_mark, marks, comment_fronts}
use Rattle.lexical.specs.Delimiter.{is_opener, is_closer}
use Rattle.lexical.specs.PieceFinder.{piece_start}
use Rattle.lexical.specs.Quick.{byte_starts}
use Rattle.lexical.specs.declared.class.TheConstants.{STARTS}
use Rattle.lexical.specs.declared.class.PieceStart.{PieceStart}
use Rattle.lexical.specs.declared.class.PieceStart.TheVariants as starts

-- ---- ASCII

pub ident_start_ascii : (c : ℕ) → c < 128 → is_ident_start c ≡ (is_ascii_alphabetic c || (c == 95))
unfolding unicode_ident
ident_start_ascii c low = agree_below_at is_ident_start (λ x. is_ascii_alphabetic x || (x == 95)) 128 c refl low

pub ident_continue_ascii : (c : ℕ) → c < 128 → is_ident_continue c ≡ (is_ascii_alphanumeric c || (c == 95))
ident_continue_ascii c low = is_xid_continue-ascii c low

-- ---- a character of a list

-- a statement about all characters of a list holds for a character in the list
pub any_of : (P : ℕ → Type 0) (ds : List ℕ) (c : ℕ) → AllByRecursion P ds → list_any (λ d. d == c) ds ≡ true → P c
any_of P [] c all any = absurd (both_ways _ refl any)
any_of P (d ∷ ds) c all any = elim (or_cases _ _ any) [
  | inl here ↦ subst P (eqb-true d c here) all.0
  | inr there ↦ any_of P ds c all.1 there
]

-- whether one class of characters is part of another
abbrev pub Sub : (ℕ → Bool) → (ℕ → Bool) → Type 0
Sub passes class = (c : ℕ) → passes c ≡ true → class c ≡ true

-- the characters of a list are in a class, if all of them pass
pub sub_listed : (class : ℕ → Bool) (ds : List ℕ) → list_all class ds ≡ true
    → Sub (λ c. list_any (λ d. d == c) ds) class
sub_listed class [] all c any = absurd (both_ways _ refl any)
sub_listed class (d ∷ ds) all c any =
    let parts = and_parts _ _ all in
    elim (or_cases _ _ any) [
      | inl here ↦ ap class (sym (eqb-true d c here)) ∙ parts.0
      | inr there ↦ sub_listed class ds parts.1 c there
    ]

-- ---- what the first character of a piece says

pub start_white : (c : ℕ) → is_white c ≡ true → piece_start c ≡ starts.White
start_white c white = cond-true _ _ _ white

pub start_letter : (c : ℕ) → is_ident_start c ≡ true → piece_start c ≡ starts.Letter
start_letter c letter =
    let other : is_white c ≡ false = not-true _ (and_parts _ _ (and_parts _ _ letter).0).1 in
    cond-false _ _ _ other ∙ cond-true _ _ _ letter

-- a digit is ASCII
pub digit_below : (c : ℕ) → is_ascii_digit c ≡ true → c < 128
digit_below c h = grind arith

-- a class contains the digits, if it does so on ASCII, which computes
pub sub_digits : (class : ℕ → Bool) → agree_below (λ x. not (is_ascii_digit x) || class x) (λ x. true) 128 ≡ true
    → Sub is_ascii_digit class
sub_digits class all c h =
    sym (ap (λ b. not b || class c) h)
    ∙ agree_below_at (λ x. not (is_ascii_digit x) || class x) (λ x. true) 128 c all (digit_below c h)

pub start_digit : (c : ℕ) → is_ascii_digit c ≡ true → piece_start c ≡ starts.Digit
unfolding unicode_ident
start_digit c digit =
    let none = sub_digits (λ x. not (is_white x || is_ident_start x)) refl c digit in
    let parts = or_parts (is_white c) (is_ident_start c) (not-true _ none) in
    cond-false (is_white c) _ _ parts.0
    ∙ (cond-false (is_ident_start c) _ _ parts.1 ∙ cond-true (is_ascii_digit c) _ _ digit)

pub start_opener : (c : ℕ) → is_opener c ≡ true → piece_start c ≡ starts.Opener
unfolding unicode_ident
start_opener c h = any_of (λ d. piece_start d ≡ starts.Opener) (codes "([{") c (refl, (refl, (refl, tt))) h

pub start_closer : (c : ℕ) → is_closer c ≡ true → piece_start c ≡ starts.Closer
unfolding unicode_ident
start_closer c h = any_of (λ d. piece_start d ≡ starts.Closer) (codes ")]}") c (refl, (refl, (refl, tt))) h

-- what a mark says as the first character of a piece
abbrev mark_start : ℕ → PieceStart
mark_start c = if c == 47 then starts.Slash else if c == 39 then starts.Quote else starts.Mark

-- a mark except `'` says that a mark or a comment begins there
pub start_mark : (c : ℕ) → is_mark c ≡ true → (c == 39) ≡ false
    → (piece_start c ≡ starts.Mark) ⊎ (piece_start c ≡ starts.Slash)
unfolding unicode_ident
start_mark c h plain =
    let is : piece_start c ≡ mark_start c = any_of (λ d. piece_start d ≡ mark_start d) marks c (assumption) h in
    elim (cases_Bool (c == 47)) [
      | inl slash ↦ inr (is ∙ cond-true _ _ _ slash)
      | inr other ↦ inl (is ∙ (cond-false _ _ _ other ∙ cond-false _ _ _ plain))
    ]

pub start_slash : piece_start 47 ≡ starts.Slash
unfolding unicode_ident
start_slash = refl

pub start_quote : piece_start 39 ≡ starts.Quote
unfolding unicode_ident
start_quote = refl

pub start_double_quote : piece_start 34 ≡ starts.DoubleQuote
unfolding unicode_ident
start_double_quote = refl

pub start_front_mark : piece_start 0xFEFF ≡ starts.FrontMark
unfolding unicode_ident
start_front_mark = refl

-- ---- what `PieceStart` says about the character

-- the class of characters that a `PieceStart` means
abbrev pub is_of : PieceStart → ℕ → Bool
is_of starts.White c = is_white c
is_of starts.Letter c = is_ident_start c
is_of starts.Digit c = is_ascii_digit c
is_of starts.Opener c = is_opener c
is_of starts.Closer c = is_closer c
is_of starts.Slash c = c == 47
is_of starts.Quote c = c == 39
is_of starts.DoubleQuote c = c == 34
is_of starts.FrontMark c = c == 0xFEFF
is_of starts.Mark c = is_mark c
is_of starts.Other c = true

of_choice : (c : ℕ) (b : Bool) (x y : PieceStart) → (b ≡ true → is_of x c ≡ true) → is_of y c ≡ true
    → is_of (cond b x y) c ≡ true
of_choice c b x y here there = cond_both b x y (λ s. is_of s c ≡ true) here (λ _. there)

pub of_start : (s : PieceStart) (c : ℕ) → s ≡ piece_start c → is_of s c ≡ true
of_start s c h =
    subst (λ s. is_of s c ≡ true) (sym h)
    (of_choice c (is_white c) _ _ (λ h. h) (of_choice c (is_ident_start c) _ _ (λ h. h)
    (of_choice c (is_ascii_digit c) _ _ (λ h. h) (of_choice c (is_opener c) _ _ (λ h. h)
    (of_choice c (is_closer c) _ _ (λ h. h) (of_choice c (c == 47) _ _ (λ h. h)
    (of_choice c (c == 39) _ _ (λ h. h) (of_choice c (c == 34) _ _ (λ h. h)
    (of_choice c (c == 0xFEFF) _ _ (λ h. h) (of_choice c (is_mark c) _ _ (λ h. h) refl))))))))))

-- characters that say different things are different
other_start : (s t : PieceStart) (c d : ℕ) → s ≡ piece_start c → t ≡ piece_start d → (s ≡ t → ⊥) → (c == d) ≡ false
other_start s t c d h e differs =
    false_from_ne_true _ (λ same. differs (h ∙ (ap piece_start (eqb-true c d same) ∙ sym e)))

pub mark_not_quote : (c : ℕ) → starts.Mark ≡ piece_start c → (c == 39) ≡ false
mark_not_quote c h = other_start starts.Mark starts.Quote c 39 h (sym start_quote) (λ e. cc)

-- no comment begins with a mark except `/`
pub mark_plain : (c : ℕ) (text rest : List ℕ) → text ≡ c ∷ rest → starts.Mark ≡ piece_start c
    → begins_any comment_fronts text ≡ false
mark_plain c text rest e h =
    let slash : (47 == c) ≡ false = other_start starts.Slash starts.Mark 47 c (sym start_slash) h (λ e. cc) in
    ap (begins_any comment_fronts) e ∙ or_from _ _ (and_left _ _ slash) (or_from _ _ (and_left _ _ slash) refl)

-- ---- the table

-- the table has what each byte says, which computes
table_is : STARTS ≡ map byte_starts (range_with_len 0 256)
unfolding unicode_ident
table_is = refl

pub byte_start_is : (byte : ℕ) → byte < 256 → get_or STARTS byte starts.White ≡ byte_starts byte
byte_start_is byte low = ap (λ xs. get_or xs byte starts.White) table_is
    ∙ get_or-map-range_with_len byte_starts 0 256 byte byte starts.White low (omega arith)

-- a byte that says something is ASCII, and says the same as a character
pub start_of_low : (s : PieceStart) (b : ℕ) → s ≡ byte_starts b → (s ≡ starts.Other → ⊥)
    → (b < 128) × (s ≡ piece_start b)
start_of_low s b h tells = elim (cases_lt b 128) [
  | inl low ↦ (low, h ∙ cond-true _ _ _ (lt-ltb b 128 low))
  | inr high ↦ absurd (tells (h ∙ cond-false _ _ _ (le-ltb b 128 high)))
]
