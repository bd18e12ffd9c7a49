-- A token is still a token before each text whose first character does not extend it.
use Rattle.std.proofs.Common.{◌≡◌, ◌≢◌, ℕ, Bool, true, false, not, ◌||◌, ◌&&◌, ◌==◌, List, [], ◌∷◌, ◌++◌, codes}
use Rattle.std.proofs.Common.{refl, sym, ap, ◌∙◌, inl, inr}
use Rattle.std.specs.List.{list_all, list_any}
use Rattle.std.specs.Char.{is_ascii_digit}
use Rattle.std.proofs.lemmas.Bool.{both_ways, cond-true, cond-false, or_left, or_right, or_cases, or_from}
use Rattle.std.proofs.lemmas.Bool.{not-true, cases_Bool, and_parts, false_from_ne_true}
use Rattle.unicode_ident.proofs.Computing.{unicode_ident}
use Rattle.lexical.specs.Class.{is_white, is_ident_continue}
use Rattle.lexical.specs.Text.{first_passes}
use Rattle.lexical.specs.Token.{Token, Name, Mark, Literal}
use Rattle.lexical.specs.Identifier.{Identifier, literal_prefixes}
use Rattle.lexical.specs.Mark.{is_mark, comment_fronts, bars_quote}
use Rattle.lexical.specs.Literal as literals
use Rattle.lexical.specs.Literal.{AnyLiteral}
use Rattle.lexical.specs.Piece.{Stands}
use Rattle.lexical.proofs.TextLemmas.{any_cut}
use Rattle.lexical.proofs.ClassLemmas.{Sub, any_of}
use Rattle.lexical.proofs.NumberFinderLemmas.{number_first}
use Rattle.grammar_laws.proofs.StableLemmas.{stops_within, sub_one}
use Rattle.grammar_laws.proofs.NameLemmas.{name_before}
use Rattle.grammar_laws.proofs.NumberLemmas.{continue_goes_on}
use Rattle.grammar_laws.proofs.IntegerLemmas.{number_before}
use Rattle.grammar_laws.proofs.LiteralLemmas.{quoted_stable}
use Rattle.grammar_laws.proofs.QuietLemmas.{white_dead}
use Rattle.pm_token.specs.Built.{IsBuiltToken}
use Rattle.proc_macro2.proofs.PieceStarts.{built_identifier, plain_mark, mark_ends, alone_before, whole_any}
use Rattle.proc_macro2.proofs.PieceStarts.{white_no_mark}
use Rattle.layout.specs.Layout.{parts_name, parts_number, parts_from}

-- ---- white characters

-- no white character extends a number
white_number : (c : ℕ) → is_white c ≡ true → parts_number c ≡ false
white_number c is = not-true _ (white_dead c is)

white_continue : (c : ℕ) → is_white c ≡ true → is_ident_continue c ≡ false
white_continue c is = (or_parts_of (is_ident_continue c) _ (white_number c is))
  where
    or_parts_of : (a b : Bool) → (a || b) ≡ false → a ≡ false
    or_parts_of true b h = h
    or_parts_of false b h = refl

-- ---- names

-- a character that may continue an identifier must be parted from a name
pub continue_parts : Sub is_ident_continue parts_name
continue_parts c is = or_left _ _ is

-- a character that may not follow `'` and a name must be parted from the name
pub bars_parts : (raw : Bool) → Sub (bars_quote raw) parts_name
bars_parts raw c is = elim (or_cases (c == 39) ((c == 35) && not raw) is) [
  | inl quote ↦ sub_one parts_name 39 listed_quote c quote
  | inr hash ↦ sub_one parts_name 35 listed_hash c (and_parts (c == 35) (not raw) hash).0
]
  where
    listed_quote : parts_name 39 ≡ true
    listed_quote = or_right (is_ident_continue 39) _ refl

    listed_hash : parts_name 35 ≡ true
    listed_hash = or_right (is_ident_continue 35) _ refl

fronts_part : list_all (list_all parts_name) literal_prefixes ≡ true
unfolding unicode_ident
fronts_part = refl

raw_parts : list_all (list_all parts_name) (codes "r#" ∷ []) ≡ true
unfolding unicode_ident
raw_parts = refl

identifier_before : (raw : Bool) (name r s : List ℕ) → first_passes parts_name s ≡ false → Identifier raw name r
    → Identifier raw name s
identifier_before true name r s ends h = (
  (name_before name r s (stops_within is_ident_continue parts_name continue_parts s ends) h.0.0, h.0.1),
  any_cut parts_name literal_prefixes (codes "r#" ++ name) r s fronts_part ends h.1,
)
identifier_before false name r s ends h = (
  (
    name_before name r s (stops_within is_ident_continue parts_name continue_parts s ends) h.0.0,
    any_cut parts_name (codes "r#" ∷ []) name r s raw_parts ends h.0.1,
  ),
  any_cut parts_name literal_prefixes name r s fronts_part ends h.1,
)

pub name_stands : (raw : Bool) (name s : List ℕ) → IsBuiltToken (Name raw name) → first_passes parts_name s ≡ false
    → Stands (Name raw name) s
name_stands raw name s built ends = identifier_before raw name [] s ends (built_identifier raw name built)

-- ---- marks

pub alone_stands : (c : ℕ) (s : List ℕ) → is_mark c ≡ true → c ≢ 39 → first_passes is_mark s ≡ false
    → Stands (Mark c false) s
alone_stands c s m other ends = inl (
  ((c, refl, plain_mark c m other), any_cut is_mark comment_fronts (c ∷ []) [] s refl ends (mark_ends c)),
  sym (alone_before s ends),
)

-- ---- literals

any_before : (text s : List ℕ) → first_passes (parts_from (Literal text)) s ≡ false → AnyLiteral text []
    → AnyLiteral text s
unfolding literals.Literal
any_before text s ends is = elim (cases_Bool (first_passes is_ascii_digit text)) [
  | inl digit ↦
      let calm : first_passes parts_number s ≡ false =
      ap (λ f. first_passes f s)
      (sym (cond-true (first_passes is_ascii_digit text) parts_number is_ident_continue digit))
      ∙ ends in
      elim is [
        | inl literal ↦ inl (elim literal [
          | inl quoted ↦ inl (quoted_stable text [] [] s
              (stops_within is_ident_continue parts_number continue_goes_on s calm) quoted)
          | inr number ↦ inr (number_before text [] s calm number)
        ])
        | inr error ↦ inr error
      ]
  | inr other ↦
      let calm : first_passes is_ident_continue s ≡ false =
      ap (λ f. first_passes f s)
      (sym (cond-false (first_passes is_ascii_digit text) parts_number is_ident_continue other))
      ∙ ends in
      elim is [
        | inl literal ↦ inl (elim literal [
          | inl quoted ↦ inl (quoted_stable text [] [] s calm quoted)
          | inr number ↦ absurd (no_number text other (number_first text [] number))
        ])
        | inr error ↦ inr error
      ]
]
  where
    no_number : (text : List ℕ) → first_passes is_ascii_digit text ≡ false
        → ((c : ℕ) × (more : List ℕ) × (text ≡ c ∷ more) × (is_ascii_digit c ≡ true)) → ⊥
    no_number text other at =
        both_ways _ other (ap (first_passes is_ascii_digit) at.2 ∙ at.3)

pub literal_stands : (text s : List ℕ) → IsBuiltToken (Literal text)
    → first_passes (parts_from (Literal text)) s ≡ false → Stands (Literal text) s
literal_stands text s built ends = any_before text s ends (whole_any text built)

-- ---- white characters extend no token

white_name : (c : ℕ) → is_white c ≡ true → parts_name c ≡ false
white_name c is = or_from _ _ (white_continue c is) (white_sign c is)
  where
    white_sign : (c : ℕ) → is_white c ≡ true → list_any (λ d. d == c) (codes "\"#'") ≡ false
    white_sign c is = false_from_ne_true _
        (λ listed. both_ways _ (any_of (λ d. is_white d ≡ false) (codes "\"#'") c (refl, (refl, (refl, tt))) listed) is)

pub white_parts : (token : Token) (c : ℕ) → is_white c ≡ true → parts_from token c ≡ false
white_parts (Name raw name) c is = white_name c is
white_parts (Mark mark joint) c is = white_no_mark c is
white_parts (Literal text) c is = elim (cases_Bool (first_passes is_ascii_digit text)) [
  | inl digit ↦
      ap (λ f. f c) (cond-true (first_passes is_ascii_digit text) parts_number is_ident_continue digit)
      ∙ white_number c is
  | inr other ↦
      ap (λ f. f c) (cond-false (first_passes is_ascii_digit text) parts_number is_ident_continue other)
      ∙ white_continue c is
]
