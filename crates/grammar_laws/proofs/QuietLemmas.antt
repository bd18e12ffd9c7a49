-- How pieces end that are neither marks nor numbers.
use Rattle.std.proofs.Common.{◌≡◌, ◌⊎◌, ℕ, Bool, true, false, not, ◌||◌, ◌==◌, List, [], ◌∷◌, ◌++◌, codes, refl, sym}
use Rattle.std.proofs.Common.{ap, ◌∙◌, subst, inl, inr, append_assoc, append-nil}
use Rattle.std.specs.List.{list_all}
use Rattle.std.specs.Char.{is_ascii_digit}
use Rattle.std.proofs.lemmas.Bool.{both_ways, and_left, and_right, not-true}
use Rattle.std.proofs.lemmas.List.Folds.{list_all-append}
use Rattle.unicode_ident.proofs.Computing.{unicode_ident}
use Rattle.lexical.specs.Class.{is_white, is_ident_continue}
use Rattle.lexical.specs.Text.{first_passes}
use Rattle.lexical.specs.Token.{Name, Mark, Literal}
use Rattle.lexical.specs.Quoted.{Str}
use Rattle.lexical.specs.Literal as literals
use Rattle.lexical.specs.Piece.{Kind, Piece, FrontMark, Gap, Doc, Open, Close, Leaf, IsPiece}
use Rattle.lexical.specs.Cover.{onto, StandBefore}
use Rattle.lexical.specs.Quiet.{is_quiet, ends_quiet}
use Rattle.lexical.proofs.ClassLemmas.{Sub, sub_listed}
use Rattle.lexical.proofs.CommentKindLemmas.{comment_first}
use Rattle.lexical.proofs.NumberFinderLemmas.{number_first}
use Rattle.grammar_laws.proofs.NumberLemmas.{goes_on}
use Rattle.lexical.proofs.PieceFacts.{open_is, close_is}
use Rattle.grammar_laws.proofs.StableLemmas.{sub_one, sub_either, sub_between, misses}

-- ---- a character that no number contains

-- whether no number continues with the character
abbrev pub dead : ℕ → Bool
dead c = not (goes_on c)

-- whether the text has a character that no number contains
abbrev pub HasDead : List ℕ → Type 0
HasDead text = list_all goes_on text ≡ false

-- a text that begins with a character that no number contains has one
dead_first : (p q : List ℕ) (c : ℕ) → p ≡ c ∷ q → dead c ≡ true → HasDead p
dead_first p q c e out = ap (list_all goes_on) e ∙ and_left (goes_on c) (list_all goes_on q) (not-true _ out)

-- no number contains a character of a class with one more character, if none contains those of the class and that one
or_one : (passes : ℕ → Bool) (n : ℕ) → dead n ≡ true → Sub passes dead → Sub (λ c. passes c || (c == n)) dead
or_one passes n out all = sub_either passes (λ c. c == n) dead all (sub_one dead n out)

pub white_dead : Sub is_white dead
unfolding unicode_ident
white_dead =
    or_one _ 0x200F refl (or_one _ 0x200E refl
    (or_one _ 12288 refl (or_one _ 8287 refl (or_one _ 8239 refl (or_one _ 8233 refl (or_one _ 8232 refl
    (sub_either _ _ dead
    (or_one _ 5760 refl (or_one _ 160 refl (or_one _ 133 refl (or_one _ 32 refl (sub_between dead 8 14 refl)))))
    (sub_between dead 8191 8203 refl))))))))

-- a literal between quotes has a quote, which no number contains
quoted_dead : (p r : List ℕ) → literals.QuotedLiteral p r → HasDead p
unfolding Str unicode_ident
quoted_dead =
    misses goes_on literals.quoted_literal (
      (inl refl, inr (λ hashes. inl refl)),
      (inl refl, ((inl refl, inr (λ hashes. inl refl)), (inl refl, (inl refl, inr (λ hashes. inl refl))))),
    )

-- ---- quiet pieces

-- a piece that is neither a mark nor a number has a character that no number contains, or the text after it continues
-- no identifier
quiet_piece : (k : Kind) (p r : List ℕ) → IsPiece false k p r → is_quiet k ≡ true
    → HasDead p ⊎ (first_passes is_ident_continue r ≡ false)
unfolding unicode_ident literals.Literal
quiet_piece FrontMark p r h quiet = absurd (both_ways _ refl h.0)
quiet_piece Gap p r (inl h) quiet = inl (dead_first p [] h.0 h.1 (white_dead h.0 h.2))
quiet_piece Gap p r (inr h) quiet = let at = comment_first p r h.0 in inl (dead_first p at.0 47 at.1 refl)
quiet_piece (Doc inner text) p r h quiet = let at = comment_first p r h.comment.0 in
    inl (dead_first p at.0 47 at.1 refl)
quiet_piece (Open c) p r h quiet = let is = open_is false c p r h in
    inl (dead_first p [] c is.0 (sub_listed dead (codes "([{") refl c is.1))
quiet_piece (Close c) p r h quiet = let is = close_is false c p r h in
    inl (dead_first p [] c is.0 (sub_listed dead (codes ")]}") refl c is.1))
quiet_piece (Leaf (Name true name)) p r h quiet = inl (ap (list_all goes_on) h.0)
quiet_piece (Leaf (Name false name)) p r h quiet = inr h.1.0.0.second.stops
quiet_piece (Leaf (Mark c joint)) p r h quiet = absurd (both_ways _ refl quiet)
quiet_piece (Leaf (Literal text)) p r h quiet = elim h.1 [
  | inr error ↦ inl (ap (list_all goes_on) (h.0 ∙ error))
  | inl literal ↦ elim literal [
    | inl quoted ↦ inl (subst HasDead (sym h.0) (quoted_dead text r quoted))
    | inr number ↦
        let at = number_first text r number in
        absurd (both_ways (first_passes is_ascii_digit text) (not-true _ quiet)
        (ap (first_passes is_ascii_digit) at.2 ∙ at.3))
  ]
]

-- ---- texts of pieces

-- the text of the pieces before some text is their text alone, joined with it
pub onto_split : (us : List Piece) (v : List ℕ) → onto us v ≡ onto us [] ++ v
onto_split [] v = refl
onto_split (u ∷ us) v = ap (λ x. u.1 ++ x) (onto_split us v) ∙ sym (append_assoc u.1 (onto us []) v)

-- pieces that end with neither a mark nor a number have a character that no number contains, or the text after them
-- continues no identifier
pub quiet_end : (us : List Piece) (v : List ℕ) → StandBefore false us v → ends_quiet us ≡ true
    → HasDead (onto us []) ⊎ (first_passes is_ident_continue v ≡ false)
quiet_end [] v stand quiet = absurd (both_ways _ refl quiet)
quiet_end (u ∷ []) v stand quiet = elim (quiet_piece u.0 u.1 v stand.0 quiet) [
  | inl out ↦ inl (ap (list_all goes_on) (append-nil u.1) ∙ out)
  | inr stops ↦ inr stops
]
quiet_end (u ∷ (w ∷ us)) v stand quiet = elim (quiet_end (w ∷ us) v stand.1 quiet) [
  | inl out ↦ inl (list_all-append goes_on u.1 (onto (w ∷ us) []) ∙ and_right _ _ out)
  | inr stops ↦ inr stops
]
