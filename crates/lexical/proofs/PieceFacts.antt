-- Facts about the pieces of a text, for the crates above.
use Rattle.std.proofs.Common.{◌≡◌, ℕ, ◌<◌, inl, inr, Bool, true, false, not, List, [], ◌∷◌, ◌++◌, codes, length, take}
use Rattle.std.proofs.Common.{drop, refl, sym, ap, ◌∙◌, subst, arith, eqb-true, length-append}
use Rattle.std.specs.List.{list_all}
use Rattle.std.specs.Str.{chars, IsUtf8, IsCharBoundary}
use Rattle.std.proofs.lemmas.Bool.{both_ways, and_parts, and_from, or_cases, not-true, false_from_ne_true}
use Rattle.std.proofs.lemmas.List.Folds.{list_all-append}
use Rattle.unicode_ident.proofs.Computing.{unicode_ident}
use Rattle.unicode_ident.proofs.IdentLemmas.{is_xid_start-is_xid_continue}
use Rattle.lexical.specs.Class.{is_ident_start, is_ident_continue}
use Rattle.lexical.specs.Text.{begins_with, begins_any}
use Rattle.lexical.specs.Token.{Name, Mark, Literal}
use Rattle.lexical.specs.Identifier as identifiers
use Rattle.lexical.specs.Mark as marks
use Rattle.lexical.specs.Delimiter.{is_opener, is_closer}
use Rattle.lexical.specs.Piece.{Kind, FrontMark, Gap, Doc, Open, Close, Leaf, Stands, IsPiece}
use Rattle.lexical.specs.Found.{IsPieceAt}
use Rattle.lexical.specs.declared.piece.Piece.{Piece}
use Rattle.lexical.proofs.TextLemmas.{begins_splits, seam_boundary, seam_take, seam_drop}
use Rattle.lexical.proofs.CommentKindLemmas.{comment_first}
use Rattle.lexical.proofs.PieceLemmas.{passes_of}
pub use Rattle.lexical.proofs.PieceLemmas.{mark_is}
use Rattle.lexical.proofs.LiteralFinderLemmas.{literal_front}

-- ---- a piece is not empty

pub piece_not_empty : (first : Bool) (k : Kind) (p r : List ℕ) → IsPiece first k p r
    → (c : ℕ) × (q : List ℕ) × (p ≡ c ∷ q)
piece_not_empty first FrontMark p r h = (0xFEFF, [], h.1)
piece_not_empty first Gap p r (inl h) = (h.0, [], h.1)
piece_not_empty first Gap p r (inr h) = let begins = comment_first p r h.0 in (47, begins.0, begins.1)
piece_not_empty first (Doc inner text) p r h = let begins = comment_first p r h.comment.0 in (47, begins.0, begins.1)
piece_not_empty first (Open c) p r h = (h.0.0, [], h.0.1)
piece_not_empty first (Close c) p r h = (h.0, [], h.1)
piece_not_empty first (Leaf (Name true name)) p r h = (114, 35 ∷ name, h.0)
piece_not_empty first (Leaf (Name false name)) p r h =
    let is = h.1.0.0 in
    (is.first.0, is.back, h.0 ∙ (is.whole ∙ ap (λ x. x ++ is.back) is.first.1))
piece_not_empty first (Leaf (Mark c joint)) p r h = (c, [], h.0)
piece_not_empty first (Leaf (Literal text)) p r h = elim h.1 [
  | inl literal ↦ let begins = literal_front text r literal in (begins.0, begins.1, h.0 ∙ begins.2)
  | inr error ↦ (40, codes "/*ERROR*/)", h.0 ∙ error)
]

-- the text after a piece is shorter
pub piece_shortens : (first : Bool) (k : Kind) (p r : List ℕ) → IsPiece first k p r → length r < length (p ++ r)
piece_shortens first k p r h =
    let cell = piece_not_empty first k p r h in
    subst (λ q. length r < length (q ++ r)) (sym cell.2) (omega (arith, length-append cell.1 r))

-- ---- a text is cut at a piece

pub piece_boundary : (first : Bool) (text : List ℕ) (piece : Piece) → IsUtf8 text → IsPieceAt first (chars text) piece
    → IsCharBoundary text piece.bytes
piece_boundary first text piece utf8 at = seam_boundary text at.front at.rest piece.bytes utf8 at.whole at.bytes

pub piece_front : (first : Bool) (text : List ℕ) (piece : Piece) → IsUtf8 text
    → (at : IsPieceAt first (chars text) piece) → chars (take piece.bytes text) ≡ at.front
piece_front first text piece utf8 at = seam_take text at.front at.rest piece.bytes utf8 at.whole at.bytes

pub piece_rest : (first : Bool) (text : List ℕ) (piece : Piece) → IsUtf8 text
    → (at : IsPieceAt first (chars text) piece) → chars (drop piece.bytes text) ≡ at.rest
piece_rest first text piece utf8 at = seam_drop text at.front at.rest piece.bytes utf8 at.whole at.bytes

-- ---- delimiters and marks

pub open_is : (first : Bool) (c : ℕ) (p r : List ℕ) → IsPiece first (Open c) p r → (p ≡ c ∷ []) × (is_opener c ≡ true)
open_is first c p r h = passes_of is_opener c p r h.0

pub close_is : (first : Bool) (c : ℕ) (p r : List ℕ) → IsPiece first (Close c) p r → (p ≡ c ∷ []) × (is_closer c ≡ true)
close_is first c p r h = passes_of is_closer c p r h

-- the character of a mark or a lone quote is one of the marks
pub stands_mark : (c : ℕ) (joint : Bool) (r : List ℕ) → Stands (Mark c joint) r → marks.is_mark c ≡ true
stands_mark c joint r (inl mark) = (mark_is c r mark.0).0
stands_mark c joint r (inr quote) = let is : c ≡ 39 = cc in ap marks.is_mark is

-- ---- the characters of a name

-- a character that may begin an identifier may continue one
pub start_continues : (c : ℕ) → is_ident_start c ≡ true → is_ident_continue c ≡ true
unfolding unicode_ident
start_continues c h = elim (or_cases _ _ (and_parts _ _ (and_parts _ _ h).0).0) [
  | inl underscore ↦ ap is_ident_continue (eqb-true c 95 underscore)
  | inr starts ↦ is_xid_start-is_xid_continue c starts
]

-- each character of a name may continue an identifier
pub name_continues : (p r : List ℕ) → identifiers.Name p r → list_all is_ident_continue p ≡ true
name_continues p r h =
    ap (list_all is_ident_continue) (h.whole ∙ ap (λ x. x ++ h.back) h.first.1)
    ∙ and_from _ _ (start_continues h.first.0 h.first.2) h.second.each

-- if all characters of a text pass, those of a prefix do
all_front : (passes : ℕ → Bool) (front text : List ℕ) → begins_with front text ≡ true → list_all passes text ≡ true
    → list_all passes front ≡ true
all_front passes front text is all =
    let split = begins_splits front text is in
    (and_parts _ _ (sym (list_all-append passes front split.0) ∙ (ap (list_all passes) (sym split.1) ∙ all))).0

-- a text whose characters all pass has no prefix with a character that does not
pub none_begins : (passes : ℕ → Bool) (fronts : List (List ℕ)) (text : List ℕ)
    → list_all (λ front. not (list_all passes front)) fronts ≡ true → list_all passes text ≡ true
    → begins_any fronts text ≡ false
none_begins passes [] text fail all = refl
none_begins passes (front ∷ fronts) text fail all =
    let parts = and_parts _ _ fail in
    let plain : begins_with front text ≡ false =
    false_from_ne_true _ (λ is. both_ways _ (not-true _ parts.0) (all_front passes front text is all)) in
    rw plain (none_begins passes fronts text parts.1 all)
