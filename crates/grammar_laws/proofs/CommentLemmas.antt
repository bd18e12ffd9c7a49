-- Comments, for the laws of texts.
use Rattle.std.proofs.Common.{◌≡◌, ℕ, Bool, true, false, not, ◌&&◌, ◌==◌, List, [], ◌∷◌, ◌++◌, codes, Some, inl, inr}
use Rattle.std.proofs.Common.{refl, sym, ap, ◌∙◌, subst, append-nil, eqb-true}
use Rattle.std.specs.Prelude.{if◌then◌else◌}
use Rattle.std.proofs.lemmas.Bool.{both_ways, and_right, and_left, and_from, or_left, or_right, not-false}
use Rattle.std.proofs.lemmas.Bool.{false_from_ne_true, not_from_true}
use Rattle.lexical.specs.Text.{begins_with, begins_any, ends_with, first_passes}
use Rattle.lexical.specs.Block.{block_signs, BlockBody, Empty, Nested, Single}
use Rattle.lexical.specs.Comment.{comment, Comment, closing, has_bare_return, Doc, PlainComment}
use Rattle.lexical.specs.Piece as pieces
use Rattle.lexical.proofs.RuleLemmas.{one_split}
use Rattle.lexical.proofs.CommentKindLemmas.{clear_comment, front_is, doc_front, doc_body_splits, doc_kind}
use Rattle.lexical.proofs.CommentKindLemmas.{closing_block}
use Rattle.lexical.proofs.CommentKindLemmas.{closing_none}

-- ---- at most one comment begins there

pub one_comment : (p q r s : List ℕ) → Comment p r → Comment q s → p ++ r ≡ q ++ s → (p ≡ q) × (r ≡ s)
one_comment = one_split comment clear_comment

-- a doc comment has only one text, and is either inner or outer
pub one_doc : (i j : Bool) (t u p r : List ℕ) → Doc i t p r → Doc j u p r → (i ≡ j) × (t ≡ u)
one_doc i j t u p r h k =
    let same : Some (pieces.Doc i t) ≡ Some (pieces.Doc j u) = sym (doc_kind i t p r h) ∙ doc_kind j u p r k in
    let kinds : pieces.Doc i t ≡ pieces.Doc j u = cc in
    (cc, cc)

pub plain_or_doc : (i : Bool) (t p r s : List ℕ) → PlainComment p r → Doc i t p s → ⊥
plain_or_doc i t p r s h k = both_ways _ (not_from_true _ k.comment.1) h.1

-- ---- before another text

-- the body of a block comment depends on only one character after it
sign_cut : (k c : ℕ) (more x y : List ℕ)
    → begins_any block_signs (k ∷ (more ++ (c ∷ x))) ≡ begins_any block_signs (k ∷ (more ++ (c ∷ y)))
sign_cut k c [] x y = refl
sign_cut k c (m ∷ more) x y = refl

body_cut : {body : List ℕ} (c : ℕ) (x y : List ℕ) → BlockBody body (c ∷ x) → BlockBody body (c ∷ y)
body_cut c x y (Empty e) = Empty e
body_cut c x y (Nested inner more e nested h) =
    Nested inner more e (body_cut 42 (47 ∷ (more ++ (c ∷ x))) (47 ∷ (more ++ (c ∷ y))) nested) (body_cut c x y h)
body_cut c x y (Single k more e plain h) = Single k more e (sign_cut k c more y x ∙ plain) (body_cut c x y h)

-- a line comment stays a comment before LF and at the end of the text, and a block comment before any text
comment_stays : (p r s : List ℕ)
    → (first_passes (λ c. not (c == 10)) r ≡ false → first_passes (λ c. not (c == 10)) s ≡ false) → Comment p r
    → Comment p s
comment_stays p r s stops (inl h) =
    let run = h.second in
    inl (record {
      front = h.front;
      back = h.back;
      whole = h.whole;
      first = h.first;
      second =
          record { each = run.each; stops = stops run.stops };
    })
comment_stays p r s stops (inr h) =
    let ends = h.second in
    let body = subst (λ z. BlockBody ends.front (z ++ s)) (sym ends.second)
    (body_cut 42 (47 ∷ r) (47 ∷ s) (rw ends.second at ends.first)) in
    inr (record {
      front = h.front;
      back = h.back;
      whole = h.whole;
      first = h.first;
      second = record { front = ends.front; back = ends.back; whole = ends.whole; first = body; second = ends.second };
    })

pub plain_stays : (p r s : List ℕ) → Comment p s → PlainComment p r → PlainComment p s
plain_stays p r s c h = (c, h.1)

doc_stays : (i : Bool) (t p r s : List ℕ) → Comment p s → closing p r ≡ closing p s → Doc i t p r → Doc i t p s
doc_stays i t p r s c same h = record {
  comment = (c, h.comment.1);
  inward = h.inward;
  front = h.front;
  three = h.three;
  whole = h.whole ∙ ap (λ x. h.front ++ (t ++ x)) same;
  returns = h.returns;
}

-- ---- comments before LF

-- a comment stays a comment before a line end that is put right after it
pub comment_line : (p r w : List ℕ) → Comment p r → Comment p (10 ∷ w)
comment_line p r w h = comment_stays p r (10 ∷ w) (λ e. refl) h

pub plain_line : (p r w : List ℕ) → PlainComment p r → PlainComment p (10 ∷ w)
plain_line p r w h = plain_stays p r (10 ∷ w) (comment_line p r w h.0) h

-- a text that ends with CR has a CR with no LF after it
bare_end : (text : List ℕ) → ends_with 13 text ≡ true → has_bare_return text ≡ true
bare_end [] e = absurd (both_ways false refl e)
bare_end (c ∷ []) e = or_left _ _ (and_from _ _ e refl)
bare_end (c ∷ (d ∷ text)) e = or_right _ _ (bare_end (d ∷ text) e)

-- a doc comment at the end of a text, which has no closing sign there, does not end with CR
doc_at_end : (i : Bool) (t p : List ℕ) → closing p [] ≡ [] → Doc i t p [] → ends_with 13 p ≡ false
doc_at_end i t p none h =
    let doc_body = doc_body_splits i t p [] h ∙ (ap (λ x. t ++ x) none ∙ append-nil t) in
    false_from_ne_true _ (λ ends.
    both_ways _ h.returns (bare_end t (ap (ends_with 13) (sym doc_body) ∙ (sym (doc_front p h.comment.1).last ∙ ends))))

-- the closing sign of a doc comment stays the same before LF
closing_stays : (i : Bool) (t p r w : List ℕ) → Comment p r → Doc i t p r → closing p r ≡ closing p (10 ∷ w)
closing_stays i t p [] w (inl line) h =
    let is : begins_with (codes "/*") p ≡ false = ap (begins_with (codes "/*")) (front_is line) in
    let none = closing_none p [] is (and_right (ends_with 13 p) _ refl) in
    none ∙ sym (closing_none p (10 ∷ w) is (and_left _ _ (doc_at_end i t p none h)))
closing_stays i t p (c ∷ r) w (inl line) h = ap (λ d. closing p (d ∷ r)) (eqb-true c 10 (not-false _ line.second.stops))
closing_stays i t p r w (inr block) h = let is = ap (begins_with (codes "/*")) (front_is block) in closing_block p r is
    ∙ sym (closing_block p (10 ∷ w) is)

-- a doc comment has the same text before LF
pub doc_line : (i : Bool) (t p r w : List ℕ) → Doc i t p r → Doc i t p (10 ∷ w)
doc_line i t p r w h = doc_stays i t p r (10 ∷ w) (comment_line p r w h.comment.0)
    (closing_stays i t p r w h.comment.0 h) h

-- ---- comments before a text with the same first character

pub comment_cut : (p r s : List ℕ) → ((f : ℕ → Bool) → first_passes f r ≡ first_passes f s) → Comment p r → Comment p s
comment_cut p r s same h = comment_stays p r s (λ e. sym (same _) ∙ e) h

feed_first : (r : List ℕ) → begins_with (codes "\n") r ≡ first_passes (λ d. (10 == d) && true) r
feed_first [] = refl
feed_first (c ∷ r) = refl

pub doc_cut : (i : Bool) (t p r s : List ℕ) → ((f : ℕ → Bool) → first_passes f r ≡ first_passes f s) → Doc i t p r
    → Doc i t p s
doc_cut i t p r s same h =
    let feed : begins_with (codes "\n") r ≡ begins_with (codes "\n") s = feed_first r ∙ (same _ ∙ sym (feed_first s)) in
    doc_stays i t p r s (comment_cut p r s same h.comment.0)
    (ap (λ b. if begins_with (codes "/*") p then codes "*/" else if ends_with 13 p && b then 13 ∷ [] else []) feed) h
