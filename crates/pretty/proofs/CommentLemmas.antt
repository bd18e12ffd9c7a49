-- The number of comments that a walk over the pieces of a text has passed.
use Rattle.std.proofs.Common.{◌≡◌, ◌+◌, ◌∙◌, ℕ, true, false, cond, List, [], ◌∷◌, ◌++◌, Some, None}
use Rattle.std.proofs.Common.{ap, append-nil, arith, refl, subst, sym}
use Rattle.std.specs.List.{list_all}
use Rattle.std.specs.Str.{chars}
use Rattle.std.proofs.lemmas.Bool.{and_parts, both_ways, ne_eqb}
use Rattle.std.proofs.lemmas.List.Sums.{sum_by-cons}
use Rattle.lexical.specs.Class.{is_white}
use Rattle.lexical.specs.Cover.{IsCover}
use Rattle.lexical.specs.Piece.{Gap, Piece}
use Rattle.lexical.specs.Walk.{IsSpaced}
use Rattle.lexical.specs.declared.walk.PlacedPiece.{PlacedPiece}
use Rattle.lexical.specs.declared.walk.PieceWalk.{PieceWalk}
use Rattle.lexical.specs.declared.walk.Spaced.{Spaced}
use Rattle.lexical.proofs.SpacedLemmas.{Covers, gaps, piece_of, spaced_end, spaced_on}
use Rattle.pretty.specs.Comments.{comments, is_comment}

comments-cons : (x : Piece) (xs : List Piece) → comments (x ∷ xs) ≡ cond (is_comment x) 1 0 + comments xs
comments-cons x xs = sum_by-cons (λ y. cond (is_comment y) 1 0) x xs

-- a white character is not a comment
no_comment : (c : ℕ) → is_white c ≡ true → is_comment (Gap, c ∷ []) ≡ false
no_comment c white =
    rw (ne_eqb 47 c (λ e. both_ways (is_white 47) refl (subst (λ x. is_white x ≡ true) (sym e) white))) refl

comments_gaps : (white : List ℕ) (ys : List Piece) → list_all is_white white ≡ true
    → comments (gaps white ++ ys) ≡ comments ys
comments_gaps [] ys each = refl
comments_gaps (c ∷ white) ys each =
    let parts = and_parts _ _ each in
    omega (
      arith,
      comments-cons (Gap, c ∷ []) (gaps white ++ ys),
      ap {B = ℕ} (λ b. cond b 1 0) (no_comment c parts.0),
      comments_gaps white ys parts.1,
    )

-- `count` comments were passed, and the walk has the others left
pub record Passed (text : List ℕ) (walk : PieceWalk) (count : ℕ) : Type 0 where
  pub left : (all : List Piece) → IsCover all text
      → (ys : List Piece) × Covers walk ys × (comments all ≡ count + comments ys)

pub passed_none : (text : List ℕ) (walk : PieceWalk) → chars walk.rest.now ≡ text → walk.at_front ≡ true
    → Passed text walk 0
passed_none text walk rest front = record {
  left = λ all covers. (
    all,
    (rest ∙ covers.whole, rw front covers.stand),
    omega arith,
  );
}

module _ (text : List ℕ) (at : PieceWalk) (next : Spaced) (to : PieceWalk) (is : IsSpaced at next to) (count : ℕ)
    (so : Passed text at count) where
  pub passed_piece : (piece : PlacedPiece) (new : ℕ) → next.piece ≡ Some piece
      → new ≡ count + cond (is_comment (piece_of piece)) 1 0 → Passed text to new
  passed_piece piece new some sum = record {
    left = λ all covers.
        let before = so.left all covers in
        let more = spaced_on at next to is piece some before.0 before.1 in (
          more.0,
          more.1,
          omega (
            arith,
            sum,
            comments-cons (piece_of piece) more.0,
            before.2,
            ap comments more.2,
            comments_gaps (chars next.white.now) (piece_of piece ∷ more.0) is.passes.splits.stands.each,
          ),
        );
  }

  pub passed_all : next.piece ≡ None → (all : List Piece) → IsCover all text → count ≡ comments all
  passed_all none all covers =
      let before = so.left all covers in
      let end = spaced_end at next to is none before.0 before.1 in
      omega (
        arith,
        before.2,
        ap comments end.0,
        ap comments (append-nil (gaps (chars next.white.now))),
        comments_gaps (chars next.white.now) [] is.passes.splits.stands.each,
      )
