-- A piece remains a piece when the white space after it becomes other white space.
use Rattle.std.proofs.Common.{◌≡◌, ◌⊎◌, ℕ, Bool, true, false, not, ◌&&◌, ◌==◌, List, [], ◌∷◌, ◌++◌, codes, refl}
use Rattle.std.proofs.Common.{sym, ap, ap₂, ◌∙◌, subst, inl, inr, append_assoc, eqb-true}
use Rattle.std.specs.List.{list_all, list_any}
use Rattle.std.proofs.lemmas.Bool.{both_ways, and_parts, or_cases, not-true}
use Rattle.lexical.specs.Class.{is_white, is_ident_start, is_ident_continue}
use Rattle.lexical.specs.Text.{begins_with, begins_any, first_passes}
use Rattle.lexical.specs.Token.{Name, Mark, Literal, raw_front}
use Rattle.lexical.specs.Block.{block_signs, BlockBody, Empty, Nested, Single}
use Rattle.lexical.specs.Comment.{Comment, Doc, PlainComment, LineComment, BlockComment}
use Rattle.lexical.specs.Delimiter.{error_literal}
use Rattle.lexical.specs.Identifier as identifiers
use Rattle.lexical.specs.Identifier.{Named, Identifier, literal_prefixes}
use Rattle.lexical.specs.Literal.{AnyLiteral}
use Rattle.lexical.specs.Literal as literals
use Rattle.lexical.specs.Mark.{is_mark, comment_fronts, joint_before, bars_quote, FollowsQuote}
use Rattle.lexical.specs.Piece.{Kind, Piece, FrontMark, Gap, Open, Close, Leaf, Stands, IsPiece}
use Rattle.lexical.specs.Piece as pieces
use Rattle.lexical.proofs.ClassLemmas.{Sub}
use Rattle.lexical.proofs.TextLemmas.{any_cut}
use Rattle.lexical.proofs.CommentKindLemmas.{closing_block, front_is}
use Rattle.grammar_laws.proofs.CommentLemmas.{plain_line, doc_line, comment_cut, doc_cut, plain_stays}
use Rattle.grammar_laws.proofs.IntegerLemmas.{number_cut}
use Rattle.grammar_laws.proofs.LiteralLemmas.{quoted_stable}
use Rattle.grammar_laws.proofs.NumberLemmas.{goes_on, continue_goes_on}
use Rattle.grammar_laws.proofs.QuietLemmas.{white_dead}
use Rattle.grammar_laws.proofs.StableLemmas.{all_in, inside, stable, stops_within}
use Rattle.relayout.specs.Relayout.{is_line}

-- ---- white characters

-- the character is not white
abbrev pub solid_char : ℕ → Bool
solid_char c = not (is_white c)

-- the text is empty or begins with a white character
abbrev pub Calm : List ℕ → Type 0
Calm s = first_passes solid_char s ≡ false

-- a class without white characters
abbrev pub NoWhite : (ℕ → Bool) → Type 0
NoWhite class = Sub class solid_char

calm_for : (class : ℕ → Bool) → NoWhite class → (s : List ℕ) → Calm s → first_passes class s ≡ false
calm_for class none s calm = stops_within class solid_char none s calm

on_solid : NoWhite goes_on
on_solid c on = false_is (is_white c) (λ white. both_ways _ (not-true _ (white_dead c white)) on)
  where
    false_is : (b : Bool) → (b ≡ true → ⊥) → not b ≡ true
    false_is true none = absurd (none refl)
    false_is false none = refl

continue_solid : NoWhite is_ident_continue
continue_solid c is = on_solid c (continue_goes_on c is)

start_solid : NoWhite is_ident_start
start_solid c is = (and_parts _ _ (and_parts _ _ is).0).1

calm_on : (s : List ℕ) → Calm s → first_passes goes_on s ≡ false
calm_on s calm = calm_for goes_on on_solid s calm

calm_continue : (s : List ℕ) → Calm s → first_passes is_ident_continue s ≡ false
calm_continue s calm = calm_for is_ident_continue continue_solid s calm

-- ---- prefixes of texts

module _ (b s t : List ℕ) (old : Calm s) (new : Calm t) where
  -- a text that begins with none of the prefixes, which have no white characters, still begins with none of them
  none_begins : (fronts : List (List ℕ)) (p : List ℕ) → list_all (list_all solid_char) fronts ≡ true
      → begins_any fronts (p ++ (b ++ s)) ≡ false → begins_any fronts (p ++ (b ++ t)) ≡ false
  none_begins fronts p free h =
      ap (begins_any fronts) (sym (append_assoc p b t))
      ∙ any_cut solid_char fronts (p ++ b) s t free new (ap (begins_any fronts) (append_assoc p b s) ∙ h)

-- the changed text begins with one of the prefixes exactly if the old text does
begins_same : (fronts : List (List ℕ)) (b s t : List ℕ) → Calm s → Calm t
    → list_all (list_all solid_char) fronts ≡ true → begins_any fronts (b ++ s) ≡ begins_any fronts (b ++ t)
begins_same fronts b s t old new free = by_cases (begins_any fronts (b ++ s)) (begins_any fronts (b ++ t)) refl refl
  where
    by_cases : (x y : Bool) → begins_any fronts (b ++ s) ≡ x → begins_any fronts (b ++ t) ≡ y → x ≡ y
    by_cases true true e f = refl
    by_cases false false e f = refl
    by_cases true false e f = absurd (both_ways _ (none_begins b t s new old fronts [] free f) e)
    by_cases false true e f = absurd (both_ways _ (none_begins b s t old new fronts [] free e) f)

-- the first character passes in the changed text exactly if it passed in the old one
first_same : (class : ℕ → Bool) → NoWhite class → (b s t : List ℕ) → Calm s → Calm t
    → first_passes class (b ++ s) ≡ first_passes class (b ++ t)
first_same class none [] s t old new = calm_for class none s old ∙ sym (calm_for class none t new)
first_same class none (c ∷ b) s t old new = refl

-- ---- identifiers

mark_solid : NoWhite is_mark
mark_solid c is = listed (codes "~!@#$%^&*-=+|;:,<.>/?'") refl c is
  where
    listed : (ds : List ℕ) → list_all solid_char ds ≡ true → (c : ℕ) → list_any (λ d. d == c) ds ≡ true
        → solid_char c ≡ true
    listed [] all c any = absurd (both_ways false refl any)
    listed (d ∷ ds) all c any =
        let parts = and_parts _ _ all in
        elim (or_cases (d == c) _ any) [
          | inl same ↦ subst (λ x. solid_char x ≡ true) (eqb-true d c same) parts.0
          | inr there ↦ listed ds parts.1 c there
        ]

named_near : (raw : Bool) (name b s t : List ℕ) → Calm s → Calm t → Named raw name (b ++ s) → Named raw name (b ++ t)
named_near true name b s t old new h =
    (stable is_ident_continue identifiers.name (tt, λ c is. is) name b s t (calm_continue t new) h.0, h.1)
named_near false name b s t old new h = (
  stable is_ident_continue identifiers.name (tt, λ c is. is) name b s t (calm_continue t new) h.0,
  none_begins b s t old new (codes "r#" ∷ []) name refl h.1,
)

identifier_near : (raw : Bool) (name b s t : List ℕ) → Calm s → Calm t → Identifier raw name (b ++ s)
    → Identifier raw name (b ++ t)
identifier_near true name b s t old new h =
    (named_near true name b s t old new h.0, none_begins b s t old new literal_prefixes (codes "r#" ++ name) refl h.1)
identifier_near false name b s t old new h =
    (named_near false name b s t old new h.0, none_begins b s t old new literal_prefixes name refl h.1)

-- the characters of an identifier are not white
name_solid : (name r : List ℕ) → identifiers.Name name r → list_all solid_char name ≡ true
name_solid name r h = all_in solid_char identifiers.name (start_solid, continue_solid) name r h

written_solid : (raw : Bool) (name r : List ℕ) → Named raw name r → list_all solid_char (raw_front raw ++ name) ≡ true
written_solid true name r h = name_solid name r h.0
written_solid false name r h = name_solid name r h.0

-- ---- marks

bars_solid : (raw : Bool) → NoWhite (bars_quote raw)
bars_solid raw c is = elim (or_cases (c == 39) _ is) [
  | inl quote ↦ subst (λ x. solid_char x ≡ true) (sym (eqb-true c 39 quote)) refl
  | inr hash ↦ subst (λ x. solid_char x ≡ true) (sym (eqb-true c 35 (and_parts (c == 35) _ hash).0)) refl
]

follows_near : (b s t : List ℕ) → Calm s → Calm t → FollowsQuote (b ++ s) → FollowsQuote (b ++ t)
follows_near b s t old new f =
    let q = raw_front f.raw ++ f.name in
    let at = inside solid_char b s q f.rest old (written_solid f.raw f.name f.rest f.named)
    (f.whole ∙ sym (append_assoc (raw_front f.raw) f.name f.rest)) in
    record {
      raw = f.raw;
      name = f.name;
      rest = at.0 ++ t;
      whole =
          ap (λ x. x ++ t) at.1
          ∙ (append_assoc q at.0 t ∙ append_assoc (raw_front f.raw) f.name (at.0 ++ t));
      named = named_near f.raw f.name at.0 s t old new (subst (Named f.raw f.name) at.2 f.named);
      unbarred =
          sym (first_same (bars_quote f.raw) (bars_solid f.raw) at.0 s t old new)
          ∙ (ap (first_passes (bars_quote f.raw)) (sym at.2) ∙ f.unbarred);
    }

joint_same : (b s t : List ℕ) → Calm s → Calm t → joint_before (b ++ s) ≡ joint_before (b ++ t)
joint_same b s t old new =
    ap₂ (λ x y. x && not y) (first_same is_mark mark_solid b s t old new)
    (begins_same comment_fronts b s t old new refl)

mark_near : (c : ℕ) (joint : Bool) (b s t : List ℕ) → Calm s → Calm t → Stands (Mark c joint) (b ++ s)
    → Stands (Mark c joint) (b ++ t)
mark_near c joint b s t old new (inl h) = inl (
  (h.0.0, none_begins b s t old new comment_fronts (c ∷ []) refl h.0.1),
  h.1 ∙ joint_same b s t old new,
)
mark_near c joint b s t old new (inr h) = inr ((h.0.0, follows_near b s t old new h.0.1), h.1)

-- ---- literals

literal_near : (p b s t : List ℕ) → Calm s → Calm t → AnyLiteral p (b ++ s) → AnyLiteral p (b ++ t)
unfolding literals.Literal
literal_near p b s t old new (inr error) = inr error
literal_near p b s t old new (inl (inl quoted)) = inl (inl (quoted_stable p b s t (calm_continue t new) quoted))
literal_near p b s t old new (inl (inr number)) =
    inl (inr (number_cut p b s t (calm_on s old) (calm_on t new) number))

-- ---- comments

-- whether a sign of block comments begins there depends on one character of what follows
sign_cut : (k c : ℕ) (more x y : List ℕ)
    → begins_any block_signs (k ∷ (more ++ (c ∷ x))) ≡ begins_any block_signs (k ∷ (more ++ (c ∷ y)))
sign_cut k c [] x y = refl
sign_cut k c (m ∷ more) x y = refl

body_cut : {body : List ℕ} (c : ℕ) (x y : List ℕ) → BlockBody body (c ∷ x) → BlockBody body (c ∷ y)
body_cut c x y (Empty e) = Empty e
body_cut c x y (Nested inner more e nested h) =
    Nested inner more e (body_cut 42 (47 ∷ (more ++ (c ∷ x))) (47 ∷ (more ++ (c ∷ y))) nested) (body_cut c x y h)
body_cut c x y (Single k more e plain h) = Single k more e (sign_cut k c more y x ∙ plain) (body_cut c x y h)

-- a block comment does not depend on what follows it
block_stays : (p r s : List ℕ) → BlockComment p r → BlockComment p s
block_stays p r s h =
    let ends = h.second in
    let body = subst (λ z. BlockBody ends.front (z ++ s)) (sym ends.second)
    (body_cut 42 (47 ∷ r) (47 ∷ s) (rw ends.second at ends.first)) in
    record {
      front = h.front;
      back = h.back;
      whole = h.whole;
      first = h.first;
      second = record { front = ends.front; back = ends.back; whole = ends.whole; first = body; second = ends.second };
    }

-- what follows a line comment stays the same or begins with LF
abbrev pub Feeds : Piece → List ℕ → List ℕ → List ℕ → Type 0
Feeds piece b s t = b ≡ [] → is_line piece ≡ true → (s ≡ t) ⊎ ((w : List ℕ) × (t ≡ 10 ∷ w))

line_begins : (p r : List ℕ) → LineComment p r → begins_with (codes "//") p ≡ true
line_begins p r h = ap (begins_with (codes "//")) (front_is h)

plain_near : (p b s t : List ℕ) → Feeds (Gap, p) b s t → PlainComment p (b ++ s) → PlainComment p (b ++ t)
plain_near p (c ∷ b) s t feed h =
    plain_stays p (c ∷ (b ++ s)) (c ∷ (b ++ t)) (comment_cut p (c ∷ (b ++ s)) (c ∷ (b ++ t)) (λ f. refl) h.0) h
plain_near p [] s t feed (inl line, plain) = elim (feed refl (line_begins p s line)) [
  | inl same ↦ subst (PlainComment p) same (inl line, plain)
  | inr more ↦ subst (PlainComment p) (sym more.1) (plain_line p s more.0 (inl line, plain))
]
plain_near p [] s t feed (inr block, plain) = (inr (block_stays p s t block), plain)

doc_near : (inner : Bool) (text p b s t : List ℕ) → Feeds (pieces.Doc inner text, p) b s t → Doc inner text p (b ++ s)
    → Doc inner text p (b ++ t)
doc_near inner text p (c ∷ b) s t feed h = doc_cut inner text p (c ∷ (b ++ s)) (c ∷ (b ++ t)) (λ f. refl) h
doc_near inner text p [] s t feed h = by_comment h.comment.0
  where
    by_comment : Comment p s → Doc inner text p t
    by_comment (inl line) = elim (feed refl (line_begins p s line)) [
      | inl same ↦ subst (Doc inner text p) same h
      | inr more ↦ subst (Doc inner text p) (sym more.1) (doc_line inner text p s more.0 h)
    ]
    by_comment (inr block) =
        let begins = ap (begins_with (codes "/*")) (front_is block) in
        record {
          comment = (inr (block_stays p s t block), h.comment.1);
          inward = h.inward;
          front = h.front;
          three = h.three;
          whole =
              h.whole ∙ ap (λ x. h.front ++ (text ++ x)) (closing_block p s begins ∙ sym (closing_block p t begins));
          returns = h.returns;
        }

-- ---- pieces

-- a piece before the old text is also a piece before the new text
pub piece_near : (first : Bool) (k : Kind) (p b s t : List ℕ) → Calm s → Calm t → Feeds (k, p) b s t
    → IsPiece first k p (b ++ s) → IsPiece first k p (b ++ t)
piece_near first FrontMark p b s t old new feed h = h
piece_near first Gap p b s t old new feed (inl white) = inl white
piece_near first Gap p b s t old new feed (inr plain) = inr (plain_near p b s t feed plain)
piece_near first (pieces.Doc inner text) p b s t old new feed h = doc_near inner text p b s t feed h
piece_near first (Open c) p b s t old new feed h = (h.0, none_begins b s t old new (error_literal ∷ []) p refl h.1)
piece_near first (Close c) p b s t old new feed h = h
piece_near first (Leaf (Name raw name)) p b s t old new feed h = (h.0, identifier_near raw name b s t old new h.1)
piece_near first (Leaf (Mark c joint)) p b s t old new feed h = (h.0, mark_near c joint b s t old new h.1)
piece_near first (Leaf (Literal text)) p b s t old new feed h = (h.0, literal_near text b s t old new h.1)
