-- The words that are left of a text, one after another.
use Rattle.std.proofs.Common.{◌≡◌, ℕ, ◌<◌, ◌≤◌, Bool, true, false, List, [], ◌∷◌, ◌++◌, length, append-nil}
use Rattle.std.proofs.Common.{length-append, Option, Some, None, refl, sym, ap, ap₂, ◌∙◌, subst, arith}
use Rattle.std.specs.List.{list_all}
use Rattle.std.specs.Str.{chars}
use Rattle.std.proofs.lemmas.Bool.{and_parts, both_ways, ne_eqb}
use Rattle.lexical.specs.Class.{is_white}
use Rattle.lexical.specs.Cover.{onto}
use Rattle.lexical.specs.Piece.{Gap, Piece}
use Rattle.lexical.specs.Walk.{IsSpaced}
use Rattle.lexical.specs.declared.walk.PlacedPiece.{PlacedPiece}
use Rattle.lexical.specs.declared.walk.PieceWalk.{PieceWalk}
use Rattle.lexical.specs.declared.walk.Spaced.{Spaced}
use Rattle.lexical.proofs.SpacedLemmas.{gaps, next_there, piece_of, spaced_end, spaced_on, spaced_shorter}
use Rattle.same.specs.SourceWord.{Placed, doc_left, step_after, steps_left, word_of}
use Rattle.same.specs.Words.{ComesFirst, Covers, piece_words, placed_onto, size, words, words_left}
use Rattle.same.specs.declared.source_word.DocStep.{DocStep}
use Rattle.same.specs.declared.source_word.DocStep.TheVariants as steps
use Rattle.same.specs.declared.source_word.SourceWord.{SourceWord}
use Rattle.same.specs.declared.words.Words.{Words}

-- ---- white characters

-- a white character is not a comment, so it makes no words
no_words : (comments : Bool) (c : ℕ) (here : List ℕ) (more : List Placed) → is_white c ≡ true
    → piece_words comments Gap (c ∷ []) here more ≡ more
no_words false c here more white = refl
no_words true c here more white =
    rw (ne_eqb 47 c (λ e. both_ways (is_white 47) refl (subst (λ x. is_white x ≡ true) (sym e) white))) refl

words_gaps : (comments : Bool) (white : List ℕ) (ys : List Piece) → list_all is_white white ≡ true
    → words comments (gaps white ++ ys) ≡ words comments ys
words_gaps comments [] ys each = refl
words_gaps comments (c ∷ white) ys each =
    let parts = and_parts _ _ each in
    no_words comments c _ (words comments (gaps white ++ ys)) parts.0 ∙ words_gaps comments white ys parts.1

-- ---- words

pub steps_few : (step : Option DocStep) → steps_left step ≤ 7
steps_few None = omega arith
steps_few (Some steps.Hash) = omega arith
steps_few (Some steps.InnerHash) = omega arith
steps_few (Some steps.Bang) = omega arith
steps_few (Some steps.Opener) = omega arith
steps_few (Some steps.Name) = omega arith
steps_few (Some steps.Equals) = omega arith
steps_few (Some steps.Text) = omega arith
steps_few (Some steps.Closer) = omega arith

pub step_smaller : (step : DocStep) → steps_left (step_after step) < steps_left (Some step)
step_smaller steps.Hash = omega arith
step_smaller steps.InnerHash = omega arith
step_smaller steps.Bang = omega arith
step_smaller steps.Opener = omega arith
step_smaller steps.Name = omega arith
step_smaller steps.Equals = omega arith
step_smaller steps.Text = omega arith
step_smaller steps.Closer = omega arith

pub size_step : (old new : Words) (step : DocStep) → old.step ≡ Some step → new.step ≡ step_after step
    → new.walk ≡ old.walk → size new < size old
size_step old new step was is walk =
    omega (
      arith,
      ap (λ (w : PieceWalk). length w.rest.now) walk,
      ap steps_left was,
      ap steps_left is,
      step_smaller step,
    )

-- skipping pieces without words leaves the same words
pub record Follows (old left : Words) : Type 0 where
  pub step : left.step ≡ None
  pub comments : left.comments ≡ old.comments
  pub shorter : length left.walk.rest.now ≤ length old.walk.rest.now
  pub goes : (xs : List Piece) → Covers old.walk xs
      → (ys : List Piece) × Covers left.walk ys × (words_left old xs ≡ words old.comments ys)

pub follows_start : (old : Words) → old.step ≡ None → Follows old old
follows_start old none = record {
  step = none;
  comments = refl;
  shorter = omega arith;
  goes = λ xs covers. (
    xs,
    covers,
    ap (λ step. placed_onto (doc_left step (chars old.doc.now)) (chars old.here.now) (words old.comments xs)) none,
  );
}

module _ (old left new : Words) (next : Spaced) (to : PieceWalk) (piece : PlacedPiece) (so : Follows old left)
    (is : IsSpaced left.walk next to) (some : next.piece ≡ Some piece) (walk : new.walk ≡ to)
    (same : new.comments ≡ left.comments) where
  -- the words of a piece come first
  first_words : (xs : List Piece) → Covers old.walk xs → (ys : List Piece) × Covers new.walk ys
      × (words_left old xs ≡ piece_words left.comments (piece_of piece).0 (piece_of piece).1
      (onto (piece_of piece ∷ ys) []) (words old.comments ys)) × (onto (piece_of piece ∷ ys) [] ≡ chars next.rest.now)
  first_words xs covers =
      let before = so.goes xs covers in
      let more = spaced_on left.walk next to is piece some before.0 before.1 in (
        more.0,
        subst (λ w. Covers w more.0) (sym walk) more.1,
        before.2 ∙ (ap (words old.comments) more.2
            ∙ (words_gaps old.comments (chars next.white.now) (piece_of piece ∷ more.0) is.passes.splits.stands.each
            ∙ ap (λ b. piece_words b (piece_of piece).0 (piece_of piece).1 (onto (piece_of piece ∷ more.0) [])
            (words old.comments more.0)) (sym so.comments))),
        ap (λ r. chars piece.text.now ++ r) (sym more.1.0)
            ∙ (sym (next_there left.walk next to is piece some).whole ∙ ap chars (sym is.rest)),
      )

  -- a piece without words is skipped
  pub follows_skip : ((here : List ℕ) (more : List Placed)
      → piece_words left.comments (piece_of piece).0 (piece_of piece).1 here more ≡ more)
      → new.step ≡ None → Follows old new
  follows_skip none step = record {
    step = step;
    comments = same ∙ so.comments;
    shorter =
        omega (
          arith,
          so.shorter,
          spaced_shorter left.walk next to is piece some,
          ap (λ (w : PieceWalk). length w.rest.now) walk,
        );
    goes = λ xs covers.
        let first = first_words xs covers in
        (first.0, first.1, first.2 ∙ none (onto (piece_of piece ∷ first.0) []) (words old.comments first.0));
  }

  -- a piece with words gives its first word
  pub follows_word : (source_word : SourceWord) → new.here ≡ next.rest
      → ((here : List ℕ) (more : List Placed)
      → piece_words left.comments (piece_of piece).0 (piece_of piece).1 here more
      ≡ (word_of source_word, here) ∷ placed_onto (doc_left new.step (chars new.doc.now)) here more)
      → (xs : List Piece) → Covers old.walk xs → ComesFirst old source_word new xs
  follows_word source_word here begins xs covers =
      let first = first_words xs covers in
      record {
        more = first.0;
        covers = first.1;
        first =
            first.2 ∙ (begins (onto (piece_of piece ∷ first.0) []) (words old.comments first.0)
            ∙ ap₂ (λ h b. (word_of source_word, h)
            ∷ placed_onto (doc_left new.step (chars new.doc.now)) h (words b first.0))
            (first.3 ∙ ap (λ text. chars text.now) (sym here)) (sym (same ∙ so.comments)));
      }

  pub follows_smaller : size new < size old
  follows_smaller =
      omega (
        arith,
        so.shorter,
        spaced_shorter left.walk next to is piece some,
        ap (λ (w : PieceWalk). length w.rest.now) walk,
        steps_few new.step,
      )

-- at the end no words are left
pub follows_none : (old left : Words) (next : Spaced) (to : PieceWalk) → Follows old left → IsSpaced left.walk next to
    → next.piece ≡ None → (xs : List Piece) → Covers old.walk xs
    → (words_left old xs ≡ []) × (chars next.rest.now ≡ [])
follows_none old left next to so is none xs covers =
    let before = so.goes xs covers in
    let end = spaced_end left.walk next to is none before.0 before.1 in
    let white = chars next.white.now in (
      before.2 ∙ (ap (words old.comments) (end.0 ∙ sym (append-nil (gaps white)))
          ∙ words_gaps old.comments white [] is.passes.splits.stands.each),
      end.1,
    )

-- a doc comment gives its next token
pub step_first : (old new : Words) (step : DocStep) (source_word : SourceWord) → old.step ≡ Some step
    → ((here : List ℕ) (more : List Placed) → placed_onto (doc_left (Some step) (chars old.doc.now)) here more
    ≡ (word_of source_word, here) ∷ placed_onto (doc_left new.step (chars new.doc.now)) here more)
    → new.walk ≡ old.walk → new.comments ≡ old.comments → new.here ≡ old.here
    → (xs : List Piece) → Covers old.walk xs → ComesFirst old source_word new xs
step_first old new step source_word is first walk comments here xs covers = record {
  more = xs;
  covers = subst (λ w. Covers w xs) (sym walk) covers;
  first =
      ap (λ s. placed_onto (doc_left s (chars old.doc.now)) (chars old.here.now) (words old.comments xs)) is
      ∙ (first (chars old.here.now) (words old.comments xs)
      ∙ ap₂ (λ h b. (word_of source_word, chars h.now)
      ∷ placed_onto (doc_left new.step (chars new.doc.now)) (chars h.now) (words b xs))
      (sym here) (sym comments));
}
