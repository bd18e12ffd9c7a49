-- How comments begin and end, and which kind of piece they are.
use Rattle.std.proofs.Common.{◌≡◌, ℕ, Bool, true, false, ◌&&◌, ◌-◌, List, [], ◌∷◌, ◌++◌, codes, length, take, drop}
use Rattle.std.proofs.Common.{Some, inl, inr, refl, sym, ap, ◌∙◌, arith, append-nil, length-append}
use Rattle.std.specs.Str.{encode_utf8_all}
use Rattle.std.proofs.Math.Bool.{and-true}
use Rattle.std.proofs.lemmas.Bool.{both_ways, cond_both, and_parts, or_cases, not-true}
use Rattle.std.proofs.lemmas.List.{take_at, drop_at, length-drop}
use Rattle.lexical.specs.Text.{begins_with, begins_any, ends_with}
use Rattle.lexical.specs.Ascii.{all_ascii}
use Rattle.lexical.specs.Form.{Form, Then, Exactly}
use Rattle.lexical.specs.Mark.{comment_fronts}
use Rattle.lexical.specs.Comment.{comment, Comment, inner_fronts, outer_fronts, is_inner, is_doc, closing}
use Rattle.lexical.specs.Comment.{has_bare_return, Doc, PlainComment}
use Rattle.lexical.specs.Piece as pieces
use Rattle.lexical.specs.Finder.{Finds}
use Rattle.lexical.specs.CommentKind.{doc_text, comment_kind}
use Rattle.lexical.specs.Rule.{find}
use Rattle.lexical.proofs.RuleLemmas.{Clear, exact}
use Rattle.lexical.proofs.StripLemmas.{last_return}
use Rattle.lexical.proofs.TextLemmas.{ascii_bytes, begins_each, ends_splits, ends_over}

-- ---- comments

-- no text begins both with a line comment and with a block comment
pub clear_comment : Clear comment
clear_comment = assumption

pub finds_comment : Finds (find comment) Comment
finds_comment = exact comment clear_comment

-- a piece with a fixed prefix is that prefix and a rest
pub front_is : {A : Form} {front p r : List ℕ} (h : Then (Exactly front) A p r) → p ≡ front ++ h.back
front_is h = h.whole ∙ ap (λ x. x ++ h.back) h.first

-- a comment begins with `/`, and a comment prefix begins there before any text
pub comment_first : (p r : List ℕ) → Comment p r
    → (q : List ℕ) × (p ≡ 47 ∷ q) × ((s : List ℕ) → begins_any comment_fronts (p ++ s) ≡ true)
comment_first p r (inl h) = (47 ∷ h.back, front_is h, λ s. ap (λ x. begins_any comment_fronts (x ++ s)) (front_is h))
comment_first p r (inr h) = (42 ∷ h.back, front_is h, λ s. ap (λ x. begins_any comment_fronts (x ++ s)) (front_is h))

-- ---- how doc comments begin

-- the first three characters of a doc comment are ASCII, and the third is no CR
pub record DocFront (p : List ℕ) : Type 0 where
  pub front : List ℕ
  pub whole : p ≡ front ++ drop 3 p
  pub three : length front ≡ 3
  pub bytes : 3 ≡ length (encode_utf8_all front)
  pub last : ends_with 13 p ≡ ends_with 13 (drop 3 p)

doc_at : (front rest : List ℕ) → drop 3 (front ++ rest) ≡ rest → length front ≡ 3 → all_ascii front ≡ true
    → ends_with 13 front ≡ false → DocFront (front ++ rest)
doc_at front rest cut three ascii last = record {
  front = front;
  whole = ap (λ x. front ++ x) (sym cut);
  three = three;
  bytes = sym (ascii_bytes front ascii ∙ three);
  last = ends_over 13 front rest last ∙ ap (ends_with 13) (sym cut);
}

pub doc_front : (p : List ℕ) → is_doc p ≡ true → DocFront p
doc_front p h = elim (or_cases (is_inner p) _ h) [
  | inl inner ↦
      begins_each DocFront inner_fronts p inner
      (λ r. doc_at (codes "//!") r refl refl refl refl, (λ r. doc_at (codes "/*!") r refl refl refl refl, tt))
  | inr outer ↦
      begins_each DocFront outer_fronts p (and_parts _ _ outer).0
      (λ r. doc_at (codes "///") r refl refl refl refl, (λ r. doc_at (codes "/**") r refl refl refl refl, tt))
]

-- ---- how they end

pub closing_block : (p r : List ℕ) → begins_with (codes "/*") p ≡ true → closing p r ≡ codes "*/"
closing_block p r block = rw block refl

-- before LF the end of a line comment is the CR that it ends with, if any
pub closing_line : (p r : List ℕ) → is_doc p ≡ true → begins_with (codes "/*") p ≡ false
    → begins_with (codes "\n") r ≡ true → closing p r ≡ last_return (drop 3 p)
closing_line p r doc line feed = let last = (doc_front p doc).last in
    rw (line, feed, and-true (ends_with 13 p), last) refl

-- otherwise the end of a line comment is empty
pub closing_none : (p r : List ℕ) → begins_with (codes "/*") p ≡ false
    → (ends_with 13 p && begins_with (codes "\n") r) ≡ false → closing p r ≡ []
closing_none p r line none = rw (line, none) refl

doc_closed : (p r : List ℕ) → Comment p r → is_doc p ≡ true → (text : List ℕ) × (drop 3 p ≡ text ++ closing p r)
doc_closed p r (inl h) doc =
    let line : begins_with (codes "/*") p ≡ false = ap (begins_with (codes "/*")) (front_is h) in
    rw line (cond_both _ _ _ (λ x. (text : List ℕ) × (drop 3 p ≡ text ++ x))
    (λ e. ends_splits 13 (drop 3 p) (sym (doc_front p doc).last ∙ (and_parts _ _ e).0))
    (λ e. (drop 3 p, sym (append-nil (drop 3 p)))))
doc_closed p r (inr h) doc = by_body h.second.front
    (front_is h ∙ ap (λ x. codes "/*" ++ x) (h.second.whole ∙ ap (λ x. h.second.front ++ x) h.second.second))
  where
    by_body : (body : List ℕ) → p ≡ codes "/*" ++ (body ++ codes "*/")
        → (text : List ℕ) × (drop 3 p ≡ text ++ closing p r)
    by_body [] e = absurd (both_ways (is_doc p) (ap is_doc e) doc)
    by_body (b ∷ body) e =
        (body, ap (drop 3) e ∙ ap (λ x. body ++ x) (sym (closing_block p r (ap (begins_with (codes "/*")) e))))

-- ---- the doc text

text_is : (p r text : List ℕ) → drop 3 p ≡ text ++ closing p r → doc_text p r ≡ text
text_is p r text e =
    let size : length text ≡ length p - 3 - length (closing p r) =
    omega (arith, ap length e, length-drop 3 p, length-append text (closing p r)) in
    ap (take (length p - 3 - length (closing p r))) e ∙ take_at text (closing p r) _ size

-- the text after the first three characters is the doc text and the end
pub doc_back : (p r : List ℕ) → Comment p r → is_doc p ≡ true → drop 3 p ≡ doc_text p r ++ closing p r
doc_back p r h doc = let closed = doc_closed p r h doc in closed.1
    ∙ ap (λ x. x ++ closing p r) (sym (text_is p r closed.0 closed.1))

pub doc_body_splits : (inner : Bool) (text p r : List ℕ) → Doc inner text p r → drop 3 p ≡ text ++ closing p r
doc_body_splits inner text p r h = ap (drop 3) h.whole ∙ drop_at h.front (text ++ closing p r) 3 h.three

-- ---- the kind

pub plain_kind : (p r : List ℕ) → PlainComment p r → comment_kind p r ≡ Some pieces.Gap
plain_kind p r h = rw (not-true (is_doc p) h.1) refl

pub doc_kind : (inner : Bool) (text p r : List ℕ) → Doc inner text p r → comment_kind p r ≡ Some (pieces.Doc inner text)
doc_kind inner text p r h = rw (h.comment.1, text_is p r text (doc_body_splits inner text p r h), h.returns, ← h.inward)
    refl

pub doc_from : (p r : List ℕ) → Comment p r → is_doc p ≡ true → has_bare_return (doc_text p r) ≡ false
    → Doc (is_inner p) (doc_text p r) p r
doc_from p r h doc plain =
    let d = doc_front p doc in
    record {
      comment = (h, doc);
      inward = refl;
      front = d.front;
      three = d.three;
      whole = d.whole ∙ ap (λ x. d.front ++ x) (doc_back p r h doc);
      returns = plain;
    }
