-- Literals in a line that is broken after some pieces.
use Rattle.std.proofs.Common.{◌≡◌, ◌⊎◌, ℕ, Bool, true, false, ◌==◌, List, [], ◌∷◌, ◌++◌, refl, sym, ap, ◌∙◌, subst, inl}
use Rattle.std.proofs.Common.{inr, append_assoc, append-nil, length, arith}
use Rattle.std.specs.List.{list_all}
use Rattle.std.specs.Char.{is_ascii_digit}
use Rattle.std.proofs.lemmas.Bool.{both_ways, and_cases, and_parts, or_cases}
use Rattle.unicode_ident.proofs.Computing.{unicode_ident}
use Rattle.lexical.specs.Class.{is_ident_continue}
use Rattle.lexical.specs.Text.{first_passes}
use Rattle.lexical.specs.Form.{Form, HasNone, Run}
use Rattle.lexical.specs.Rule as rules
use Rattle.lexical.specs.Rule.{Then, Stands}
use Rattle.lexical.specs.Number as rule
use Rattle.lexical.specs.Number.{is_underscore, is_digit_or_underscore, Digits, bars_dot, is_exponent_letter, Number}
use Rattle.lexical.specs.Number.{number}
use Rattle.lexical.specs.Literal.{QuotedLiteral, Literal, AnyLiteral}
use Rattle.lexical.specs.Piece.{Piece}
use Rattle.lexical.specs.Cover.{onto, StandBefore}
use Rattle.lexical.specs.Quiet.{ends_quiet}
use Rattle.lexical.proofs.QuotedLemmas.{stops, stop_ends}
use Rattle.grammar_laws.proofs.StableLemmas.{sub_one, sub_either, anew, Stable, stops_within, fronts_compared}
use Rattle.grammar_laws.proofs.StableLemmas.{all_append, all_in, stable}
use Rattle.grammar_laws.proofs.NumberLemmas.{goes_on, continue_goes_on, digits_continue, letter_continues, stable_end}
use Rattle.grammar_laws.proofs.NumberLemmas.{on_digits, stable_digits, stable_exponent, Dotted, exponent_front}
use Rattle.grammar_laws.proofs.NumberLemmas.{none_moved, float_moved}
use Rattle.grammar_laws.proofs.IntegerLemmas.{number_moved, number_cut, stop_is_calm}
use Rattle.grammar_laws.proofs.LiteralLemmas.{quoted_stable}
use Rattle.grammar_laws.proofs.QuietLemmas.{HasDead, onto_split, quiet_end}
use Rattle.grammar_laws.proofs.DigitLemmas.{quiet_longer, number_last, pieces_after_dot}

-- ---- no new float begins

-- a stable form keeps its piece, if the new text continues no identifier
keeps_piece : (A : Form) → Stable is_ident_continue A → (x y d r s : List ℕ) → first_passes is_ident_continue s ≡ false
    → A x (y ++ (d ++ r))
    → A x (y ++ (d ++ s))
keeps_piece A stable x y d r s ends is =
    subst (A x) (append_assoc y d s) (stable x (y ++ d) r s ends (subst (A x) (sym (append_assoc y d r)) is))

-- a dot stays the dot of a number, if some text stays between the dot and the change
dot_still : (y d r s : List ℕ) → (y ++ d ≡ [] → ⊥) → first_passes bars_dot (y ++ (d ++ r)) ≡ false
    → first_passes bars_dot (y ++ (d ++ s)) ≡ false
dot_still [] [] r s some h = absurd (some refl)
dot_still [] (c ∷ d) r s some h = h
dot_still (c ∷ y) d r s some h = h

-- ---- what follows the dot of a float

first_front : (passes : ℕ → Bool) (w z : List ℕ) → first_passes passes (w ++ z) ≡ false → first_passes passes w ≡ false
first_front passes [] z h = refl
first_front passes (c ∷ w) z h = h

-- a digit follows the dot, if an exponent begins after the digits and extends past a character that continues no
-- identifier
first_after : (F Y m : List ℕ) (c : ℕ) → list_all is_digit_or_underscore F ≡ true
    → first_passes is_exponent_letter (Y ++ (c ∷ m)) ≡ true
    → is_ident_continue c ≡ false
    → first_passes bars_dot (F ++ Y) ≡ false → first_passes is_ascii_digit (F ++ Y) ≡ true
unfolding unicode_ident
first_after (f ∷ F) Y m c each letter out dot =
    elim (or_cases (is_ascii_digit f) (is_underscore f) (and_parts _ _ each).0) [
      | inl digit ↦ digit
      | inr line ↦ absurd (both_ways _ dot (sub_one bars_dot 95 refl f line))
    ]
first_after [] [] m c each letter out dot = absurd (both_ways _ out (letter_continues c letter))
first_after [] (k ∷ Y) m c each letter out dot =
    absurd (both_ways _ dot (sub_either (λ c. c == 101) (λ c. c == 69) bars_dot (sub_one bars_dot 101 refl)
    (sub_one bars_dot 69 refl) k letter))

-- ---- no new float begins

module _ (p v s : List ℕ) (us : List Piece) (int : Stands (Then rule.integer rule.end) p (onto us [] ++ v))
    (stand : StandBefore false us v)
    (quiet : ends_quiet us ≡ true)
    (stops : first_passes is_ident_continue v ≡ false) (calm : first_passes is_ident_continue s ≡ false) where
  -- the pieces after the dot of a float
  after_dot : (q d : List ℕ) (h : Dotted q (d ++ s)) → p ++ onto us [] ≡ q ++ d
      → (later : List Piece) × StandBefore false later v × (ends_quiet later ≡ true)
      × (onto later v ≡ (h.second.back ++ d) ++ v)
  after_dot q d h whole =
      let dotted : q ≡ h.front ++ (46 ∷ h.second.back) =
      h.whole ∙ ap (λ x. h.front ++ x) (h.second.whole ∙ ap (λ x. x ++ h.second.back) h.second.first.0) in
      let front : p ++ onto us [] ≡ h.front ++ (46 ∷ (h.second.back ++ d)) =
      whole ∙ (ap (λ z. z ++ d) dotted ∙ append_assoc h.front (46 ∷ h.second.back) d) in
      pieces_after_dot p h.front (h.second.back ++ d) v us
      (subst (Stands (Then rule.integer rule.end) p) (sym (onto_split us v)) int)
      (on_digits h.front (h.back ++ (d ++ s)) h.first) stand quiet
      (ap (λ z. p ++ z) (onto_split us v) ∙ (sym (append_assoc p (onto us []) v)
      ∙ (ap (λ z. z ++ v) front ∙ append_assoc h.front (46 ∷ (h.second.back ++ d)) v)))

  -- some text follows the dot
  dot_inside : (q d : List ℕ) (h : Dotted q (d ++ s)) → p ++ onto us [] ≡ q ++ d → h.second.back ++ d ≡ [] → ⊥
  dot_inside q d h whole none =
      let at = after_dot q d h whole in
      omega (arith, ap length (at.3 ∙ ap (λ z. z ++ v) none), quiet_longer at.0 v at.1 at.2)

  -- no exponent extends past the pieces, because a number would extend past them too
  none_past : (q d : List ℕ) (h : Dotted q (d ++ s)) → p ++ onto us [] ≡ q ++ d → (x t m : List ℕ) (c : ℕ)
      → Stands rule.exponent x t
      → x ≡ (h.second.second.back ++ d) ++ (c ∷ m) → v ≡ c ∷ (m ++ t) → ⊥
  none_past q d h whole x t m c is text rest =
      let after = h.second.second in
      let W = h.second.back ++ d in
      let parts : W ≡ after.front ++ (after.back ++ d) = ap (λ z. z ++ d) after.whole
      ∙ append_assoc after.front after.back d in
      let out : is_ident_continue c ≡ false = ap (first_passes is_ident_continue) (sym rest) ∙ stops in
      let each : list_all is_ident_continue W ≡ true =
      ap (list_all is_ident_continue) parts
      ∙ all_append is_ident_continue after.front (after.back ++ d)
      (all_in is_ident_continue (rules.Run is_digit_or_underscore) digits_continue after.front
      (after.back ++ (d ++ s)) after.first)
      (exponent_front x t (after.back ++ d) m c is out text) in
      let letter : first_passes is_exponent_letter ((after.back ++ d) ++ (c ∷ m)) ≡ true =
      ap (first_passes is_exponent_letter) (sym text ∙ (is.whole ∙ ap (λ z. z ++ is.back) is.first.1)) ∙ is.first.2 in
      let dot = first_front bars_dot W s
      (ap (first_passes bars_dot) (append_assoc h.second.back d s) ∙ h.second.first.1) in
      let digit : first_passes is_ascii_digit W ≡ true =
      ap (first_passes is_ascii_digit) parts
      ∙ first_after after.front (after.back ++ d) m c after.first.each letter out
      (ap (first_passes bars_dot) (sym parts) ∙ dot) in
      let at = after_dot q d h whole in
      number_last W v at.0 each digit at.1 at.2 at.3

  exponent_still : (q d : List ℕ) (h : Dotted q (d ++ s)) → p ++ onto us [] ≡ q ++ d
      → HasNone (Stands rule.exponent) (h.second.second.back ++ (d ++ s))
      → HasNone (Stands rule.exponent) (h.second.second.back ++ (d ++ v))
  exponent_still q d h whole none x t e is =
      let y = h.second.second.back in
      elim (fronts_compared (y ++ d) v x t (append_assoc y d v ∙ e)) [
        | inl within ↦ none x (within.0 ++ s)
            (sym (append_assoc y d s) ∙ (ap (λ z. z ++ s) within.1 ∙ append_assoc x within.0 s))
            (stable_exponent x within.0 v s calm (subst (Stands rule.exponent x) within.2 is))
        | inr past ↦ none_past q d h whole x t past.1 past.0 is past.2 past.3
      ]

  dotted_still : (q d : List ℕ) → p ++ onto us [] ≡ q ++ d → Dotted q (d ++ s) → Dotted q (d ++ v)
  dotted_still q d whole h =
      let after = h.second.second in
      let tail = after.second in
      let stable_digits_run = stable is_ident_continue (rules.Run is_digit_or_underscore) digits_continue in
      anew _ _ _ q (d ++ s) (d ++ v) h
      (keeps_piece Digits stable_digits h.front h.back d s v stops h.first)
      (anew _ _ _ h.back (d ++ s) (d ++ v) h.second
      (h.second.first.0, dot_still h.second.back d s v (dot_inside q d h whole) h.second.first.1)
      (anew _ _ _ h.second.back (d ++ s) (d ++ v) after
      (keeps_piece (Run is_digit_or_underscore) stable_digits_run after.front after.back d s v stops after.first)
      (anew _ _ _ after.back (d ++ s) (d ++ v) tail
      (elim tail.first [
        | inl is ↦ inl (keeps_piece (Stands rule.exponent) stable_exponent tail.front tail.back d s v stops is)
        | inr none ↦ inr (
          subst (HasNone (Stands rule.exponent)) (text tail.front tail.back after.back v tail.whole)
              (exponent_still q d h whole
              (subst (HasNone (Stands rule.exponent)) (sym (text tail.front tail.back after.back s tail.whole))
              none.0)),
          none.1,
        )
      ])
      (stable_end tail.back d s v stops tail.second))))
    where
      text : (a b w r : List ℕ) → w ≡ a ++ b → w ++ (d ++ r) ≡ a ++ (b ++ (d ++ r))
      text a b w r e = ap (λ z. z ++ (d ++ r)) e ∙ append_assoc a b (d ++ r)

-- ---- literals

-- if not all characters pass, there is a first one that does not
first_out : (passes : ℕ → Bool) (text : List ℕ) → list_all passes text ≡ false
    → (front : List ℕ) × (c : ℕ) × (back : List ℕ) × (text ≡ front ++ (c ∷ back)) × (passes c ≡ false)
first_out passes [] out = absurd (both_ways _ out refl)
first_out passes (c ∷ text) out = elim (and_cases (passes c) (list_all passes text) out) [
  | inl here ↦ ([], c, text, refl, here)
  | inr there ↦ let at = first_out passes text there in (c ∷ at.0, at.1, at.2, ap (λ x. c ∷ x) at.3, at.4)
]

-- a number before some pieces stays a number, if a stop replaces the text after them. That text is empty, or the last
-- piece is neither a mark nor a number
pub number_broken : (p : List ℕ) (us : List Piece) (v s : List ℕ) → stops s ≡ true → (v ≡ []) ⊎ (ends_quiet us ≡ true)
    → Number p (onto us v) → StandBefore false us v → Number p (onto us s)
number_broken p us v s e at is stand = subst (Number p) (sym (onto_split us s)) (by_end at)
  where
    text : List ℕ
    text = onto us []

    is_before : Number p (text ++ v)
    is_before = subst (Number p) (onto_split us v) is

    ends : first_passes goes_on s ≡ false
    ends = stop_is_calm s e

    by_cut : (front back : List ℕ) → text ≡ front ++ back → first_passes goes_on (back ++ v) ≡ false
        → first_passes goes_on (back ++ s) ≡ false
        → Number p (text ++ s)
    by_cut front back whole old new =
        let split : (r : List ℕ)
        → text ++ r ≡ front ++ (back ++ r) = λ r. ap (λ z. z ++ r) whole ∙ append_assoc front back r in
        subst (Number p) (sym (split s))
        (number_cut p front (back ++ v) (back ++ s) old new (subst (Number p) (split v) is_before))

    by_dead : HasDead text → Number p (text ++ s)
    by_dead h = let at = first_out goes_on text h in by_cut at.0 (at.1 ∷ at.2) at.3 at.4 at.4

    by_stop : first_passes is_ident_continue v ≡ false → ends_quiet us ≡ true → Number p (text ++ s)
    by_stop other quiet =
        let calm = stops_within is_ident_continue goes_on continue_goes_on s ends in
        number_moved p text v s ends (λ int. none_moved p text v s ends (λ q d whole. float_moved q d v s other
        (dotted_still p v s us int stand quiet other calm q d whole))) is_before

    by_end : (v ≡ []) ⊎ (ends_quiet us ≡ true) → Number p (text ++ s)
    by_end (inl end) = by_cut text [] (sym (append-nil text)) (ap (first_passes goes_on) end) ends
    by_end (inr quiet) = elim (quiet_end us v stand quiet) [ inl dead ↦ by_dead dead | inr other ↦ by_stop other quiet ]

-- a literal before some pieces stays a literal, if a stop replaces the text after them. A literal between quotes needs
-- no condition on the pieces
pub literal_cut : (p : List ℕ) (us : List Piece) (v s : List ℕ) → stops s ≡ true → (v ≡ []) ⊎ (ends_quiet us ≡ true)
    → AnyLiteral p (onto us v) → StandBefore false us v → AnyLiteral p (onto us s)
unfolding Literal
literal_cut p us v s e at (inr error) stand = inr error
literal_cut p us v s e at (inl literal) stand = inl (elim literal [
  | inl quoted ↦ inl (subst (QuotedLiteral p) (sym (onto_split us s))
      (quoted_stable p (onto us []) v s (stop_ends s e).continue (subst (QuotedLiteral p) (onto_split us v) quoted)))
  | inr number ↦ inr (number_broken p us v s e at number stand)
])
