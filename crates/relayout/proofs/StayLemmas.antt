-- The loop of `relayout`: what is kept before it is written, and how a run of white characters is replaced.
use Rattle.std.proofs.Common.{◌≡◌, ◌∙◌, ℕ, Bool, true, false, List, [], ◌∷◌, ◌++◌, Some, inl, inr, refl, sym}
use Rattle.std.proofs.Common.{ap, ap₂, append_assoc, append-nil}
use Rattle.std.specs.List.{list_all}
use Rattle.std.specs.Str.{chars}
use Rattle.std.proofs.lemmas.Bool.{and_parts, both_ways, cond-false, cond-true}
use Rattle.lexical.specs.Class.{is_white}
use Rattle.lexical.specs.Cover.{IsCover}
use Rattle.lexical.specs.Piece.{Close, Doc, FrontMark, Gap, IsPiece, Leaf, Open, Piece}
use Rattle.lexical.specs.Text.{first_passes}
use Rattle.lexical.specs.Walk.{IsSpaced}
use Rattle.lexical.specs.declared.walk.PlacedPiece.{PlacedPiece}
use Rattle.lexical.specs.declared.walk.PieceWalk.{PieceWalk}
use Rattle.lexical.specs.declared.walk.Spaced.{Spaced}
use Rattle.lexical.proofs.CommentKindLemmas.{comment_first}
use Rattle.lexical.proofs.SpacedLemmas.{Covers, gaps, piece_of, next_there, spaced_back, spaced_on}
use Rattle.lexical.proofs.SpacedLemmas.{spaced_solid, white_back}
use Rattle.relayout.specs.Relayout.{is_line}
use Rattle.relayout.specs.Written.{Placed, choices_left, is_white_gap, next_choice, replacement, white_text}
use Rattle.relayout.specs.Written.{relayout_text}
use Rattle.relayout.specs.declared.white.White.{White}
use Rattle.relayout.specs.declared.white.White.TheVariants.{Kept}
use Rattle.relayout.proofs.ChoiceLemmas.{white_is_gap}

-- ---- white characters, and other pieces

-- a piece is not a white character if it does not begin with one
solid : (first : Bool) (x : Piece) (r : List ℕ) → IsPiece first x.0 x.1 r → first_passes is_white x.1 ≡ false
    → is_white_gap x ≡ false
solid first (FrontMark, p) r stands other = refl
solid first (Gap, p) r (inl one) other =
    absurd (both_ways (is_white one.0) (ap (first_passes is_white) (sym one.1) ∙ other) one.2)
solid first (Gap, p) r (inr comment) other = rw (comment_first p r comment.0).1 refl
solid first (Doc inner text, p) r stands other = refl
solid first (Open c, p) r stands other = refl
solid first (Close c, p) r stands other = refl
solid first (Leaf token, p) r stands other = refl

written_gaps : (choices : List White) (line : Bool) (run white : List ℕ) (ps : List Piece)
    → list_all is_white white ≡ true
    → relayout_text choices line run (gaps white ++ ps) ≡ relayout_text choices line (run ++ white) ps
written_gaps choices line run [] ps each = ap (λ w. relayout_text choices line w ps) (sym (append-nil run))
written_gaps choices line run (c ∷ white) ps each =
    let parts = and_parts _ _ each in
    cond-true _ _ _ (white_is_gap c parts.0) ∙ (written_gaps choices line (run ++ (c ∷ [])) white ps parts.1
    ∙ ap (λ w. relayout_text choices line w ps) (append_assoc run (c ∷ []) white))

-- ---- the loop's invariant

-- what is written and what is kept, together with what will be written for the pieces that are left, is the whole text
pub record Stays (source : List ℕ) (choices left : List White) (line : Bool) (kept : List ℕ) (at : PieceWalk)
    (out : List ℕ) : Type 0 where
  pub front : List ℕ
  pub keeps : kept ≡ front ++ chars at.rest.now
  pub only : (us : List Piece) → IsCover us source → (ps : List Piece) × Covers at ps
  pub all : (ps : List Piece) → Covers at ps → (us : List Piece) × IsCover us source
      × ((out ++ front) ++ relayout_text left line [] ps ≡ relayout_text choices false [] us)

pub stays_start : (text : List ℕ) (choices : List White) (at : PieceWalk) (out : List ℕ) → at.rest.now ≡ text
    → at.at_front ≡ true → out ≡ [] → Stays (chars text) choices choices false (chars text) at out
stays_start text choices at out whole first none = record {
  front = [];
  keeps = ap chars (sym whole);
  only = λ us covers. (us, rw (whole, first) (covers.whole, covers.stand));
  all = λ ps covers. (
    ps,
    record { whole = rw whole at covers.0; stand = rw first at covers.1 },
    ap (λ o. o ++ relayout_text choices false [] ps) (append-nil out ∙ none),
  );
}

-- the invariant holds after the run before a piece is replaced and the piece is kept
pub stays_piece : (source : List ℕ) (choices left after : List White) (line now : Bool) (kept kept_now : List ℕ)
    (at : PieceWalk) (next : Spaced) (to : PieceWalk) (piece : PlacedPiece) (out new : List ℕ) → IsSpaced at next to
    → next.piece ≡ Some piece → (so : Stays source choices left line kept at out)
    → Placed left after line so.front (chars next.white.now) kept_now (chars next.rest.now) out new
    → now ≡ is_line (piece_of piece) → Stays source choices after now kept_now to new
stays_piece source choices left after line now kept kept_now at next to piece out new is some so run lines =
    let white = chars next.white.now in
    let text = chars piece.text.now in
    let there = next_there at next to is piece some in
    record {
      front = run.front_now ++ text;
      keeps =
          run.keeps ∙ (ap (λ r. run.front_now ++ r) (ap chars is.rest ∙ there.whole)
          ∙ sym (append_assoc run.front_now text (chars to.rest.now)));
      only = λ us covers.
          let before = so.only us covers in
          let more = spaced_on at next to is piece some before.0 before.1 in
          (more.0, more.1);
      all = λ ps covers.
          let before = so.all (gaps white ++ (piece_of piece ∷ ps)) (spaced_back at next to is piece some ps covers) in
          let tail : List ℕ = relayout_text (choices_left left white) (is_line (piece_of piece)) [] ps in
          let none = solid is.here.at_front (piece_of piece) (chars to.rest.now) there.stands
          (spaced_solid at next to is piece some) in
          let last : relayout_text left line [] (gaps white ++ (piece_of piece ∷ ps))
          ≡ replacement (next_choice left) line white ++ (text ++ tail) =
          written_gaps left line [] white (piece_of piece ∷ ps) is.passes.splits.stands.each
          ∙ cond-false _ _ _ none in
          let same : (new ++ (run.front_now ++ text)) ++ relayout_text after now [] ps
          ≡ (out ++ so.front) ++ relayout_text left line [] (gaps white ++ (piece_of piece ∷ ps)) =
          ap₂ (λ n t. n ++ t) (sym (append_assoc new run.front_now text) ∙ ap (λ f. f ++ text) run.writes)
          (ap₂ (λ c l. relayout_text c l [] ps) run.leaves lines)
          ∙ (append_assoc ((out ++ so.front) ++ replacement (next_choice left) line white) text tail
          ∙ (append_assoc (out ++ so.front) (replacement (next_choice left) line white) (text ++ tail)
          ∙ ap (λ t. (out ++ so.front) ++ t) (sym last))) in
          (before.0, before.1, same ∙ before.2);
    }

-- after the last run, writing what is kept gives the whole text
pub stays_all : (source : List ℕ) (choices left after : List White) (line : Bool) (kept kept_now : List ℕ)
    (at : PieceWalk) (next : Spaced) (to : PieceWalk) (out new last : List ℕ) → IsSpaced at next to
    → chars next.rest.now ≡ [] → (so : Stays source choices left line kept at out)
    → Placed left after line so.front (chars next.white.now) kept_now (chars next.rest.now) out new
    → last ≡ new ++ kept_now
    → (us : List Piece) × IsCover us source × (last ≡ relayout_text choices false [] us)
stays_all source choices left after line kept kept_now at next to out new last is end so run push =
    let white = chars next.white.now in
    let before = so.all (gaps white ++ [])
    (white_back at next.white.now is.here is.passes [] (ap chars (sym is.rest) ∙ end, tt)) in
    let same : last ≡ (out ++ so.front) ++ relayout_text left line [] (gaps white ++ []) =
    push ∙ (ap (λ k. new ++ k) (run.keeps ∙ (ap (λ r. run.front_now ++ r) end ∙ append-nil run.front_now))
    ∙ (run.writes ∙ ap (λ t. (out ++ so.front) ++ t)
    (sym (written_gaps left line [] white [] is.passes.splits.stands.each)))) in
    (before.0, before.1, same ∙ before.2)

-- ---- how one run is replaced

-- an empty run takes no choice
pub places_none : (choices : List White) (line : Bool) (kept from to out run : List ℕ) → from ≡ run ++ to → run ≡ []
    → (front : List ℕ) → kept ≡ front ++ from → Placed choices choices line front run kept to out out
places_none choices line kept from to out run since none front keeps = rw none (record {
  front_now = front;
  keeps = keeps ∙ ap (λ f. front ++ f) (rw none at since);
  writes = sym (append-nil (out ++ front));
  leaves = refl;
})

-- a run that stays as it is is kept
pub places_kept : (choices left : List White) (line : Bool) (kept from to out run : List ℕ) → from ≡ run ++ to
    → ((c : ℕ) × (more : List ℕ) × (run ≡ c ∷ more)) → next_choice choices ≡ Kept
    → ((c : ℕ) (more : List ℕ) → left ≡ choices_left choices (c ∷ more))
    → (front : List ℕ) → kept ≡ front ++ from → Placed choices left line front run kept to out out
places_kept choices left line kept from to out run since (c, more, some) stays leaves front keeps = rw some (record {
  front_now = front ++ (c ∷ more);
  keeps =
      keeps ∙ (ap (λ f. front ++ f) (rw some at since) ∙ sym (append_assoc front (c ∷ more) to));
  writes =
      sym (append_assoc out front (c ∷ more))
      ∙ ap (λ choice. (out ++ front) ++ white_text choice line (c ∷ more)) (sym stays);
  leaves = leaves c more;
})

-- a run that changes is written after the text that was kept before it
pub places_changed : (choices left : List White) (choice : White) (line : Bool)
    (kept from to out relayout_text new : List ℕ)
    (front_text run : List ℕ) → ((front : List ℕ) → kept ≡ front ++ from → front_text ≡ front)
    → ((c : ℕ) × (more : List ℕ) × (run ≡ c ∷ more)) → choices ≡ choice ∷ left
    → relayout_text ≡ out ++ front_text → new ≡ relayout_text ++ white_text choice line run
    → (front : List ℕ) → kept ≡ front ++ from → Placed choices left line front run to to out new
places_changed choices left choice line kept from to out relayout_text new front_text run before (c, more, is) some fill
    push
    front keeps =
    rw (is, some) (record {
      front_now = [];
      keeps = refl;
      writes =
          append-nil new
          ∙ (push ∙ ap₂ (λ w r. w ++ white_text choice line r) (fill ∙ ap (λ f. out ++ f) (before front keeps)) is);
      leaves = refl;
    })
