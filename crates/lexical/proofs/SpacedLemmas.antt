-- Covers of the rest of a walk, before and after a run of white characters and a piece.
use Rattle.std.proofs.Common.{◌≡◌, ◌==◌, ◌<◌, ℕ, Bool, true, false, List, [], ◌∷◌, ◌++◌, ◌∙◌, ◌&&◌, Some, None}
use Rattle.std.proofs.Common.{◌+◌, IfNone, IfSome, ap, ap₂, append-nil, arith, encode_utf8, inl, length, length-append}
use Rattle.std.proofs.Common.{refl, subst, sym}
use Rattle.std.specs.List.{list_all}
use Rattle.std.specs.Str.{chars, encode_utf8_all, IsUtf8}
use Rattle.std.proofs.lemmas.Bool.{and_parts, eqb-true, false_from_ne_true, ne_eqb}
use Rattle.std.proofs.lemmas.Str.{encodes-chars, length-encode, len_utf8_bounds}
use Rattle.lexical.specs.Class.{is_white}
use Rattle.lexical.specs.Cover.{onto, StandBefore}
use Rattle.lexical.specs.Found.{kind_of}
use Rattle.lexical.specs.Piece.{Gap, HasNoPiece, IsPiece, Piece}
use Rattle.lexical.specs.Text.{first_passes}
use Rattle.lexical.specs.Walk.{IsNext, IsSpaced, PassesWhite}
use Rattle.lexical.specs.declared.walk.PieceWalk.{PieceWalk}
use Rattle.lexical.specs.declared.walk.PlacedPiece.{PlacedPiece}
use Rattle.lexical.specs.declared.walk.Spaced.{Spaced}
use Rattle.lexical.proofs.PieceFacts.{piece_not_empty}
use Rattle.lexical.proofs.PieceLemmas.{one_piece}

-- the gaps of white characters, one for each
abbrev pub gaps : List ℕ → List Piece
gaps [] = []
gaps (c ∷ white) = (Gap, c ∷ []) ∷ gaps white

-- the piece of the grammar that the walk returned
abbrev pub piece_of : PlacedPiece → Piece
piece_of next = (kind_of next.piece.kind (chars next.text.now), chars next.text.now)

-- whether these pieces cover the rest of the walk
abbrev pub Covers : PieceWalk → List Piece → Type 0
Covers at xs = (chars at.rest.now ≡ onto xs []) × StandBefore at.at_front xs []

-- the walk is at its start after no white character, if it was before, and is not after at least one
pub still : (first : Bool) → (first && true) ≡ first
still true = refl
still false = refl

pub no_longer : (first : Bool) (c : ℕ) (white : List ℕ) → (first && (length (c ∷ white) == 0)) ≡ false
no_longer true c white =
    false_from_ne_true _ (λ e. let clash : length (c ∷ white) ≡ 0 = eqb-true _ 0 e in omega arith)
no_longer false c white = refl

-- a text has no bytes exactly if it has no characters
pub none_passed : (text : List ℕ) → IsUtf8 text → (length text == 0) ≡ (length (chars text) == 0)
none_passed text utf8 = ap (λ l. length l == 0) (sym (encodes-chars text utf8)) ∙ by_chars (chars text)
  where
    by_chars : (cs : List ℕ) → (length (encode_utf8_all cs) == 0) ≡ (length cs == 0)
    by_chars [] = refl
    by_chars (c ∷ cs) =
        let bounds = len_utf8_bounds c in
        let more : length (encode_utf8_all (c ∷ cs)) ≡ length (encode_utf8 c) + length (encode_utf8_all cs) =
        length-append (encode_utf8 c) (encode_utf8_all cs) in
        let some : length (c ∷ cs) ≡ 0 → ⊥ = λ e. omega arith in
        ne_eqb _ 0 (λ e. omega (arith, e, more, length-encode c, bounds)) ∙ sym (ne_eqb (length (c ∷ cs)) 0 some)

-- ---- white characters

onto_gaps : (white : List ℕ) (ys : List Piece) → onto (gaps white ++ ys) [] ≡ white ++ onto ys []
onto_gaps [] ys = refl
onto_gaps (c ∷ white) ys = ap (λ r. c ∷ r) (onto_gaps white ys)

gaps_stand : (first : Bool) (white : List ℕ) (ys : List Piece) → list_all is_white white ≡ true
    → StandBefore (first && (length white == 0)) ys [] → StandBefore first (gaps white ++ ys) []
gaps_stand first [] ys each stand = subst (λ b. StandBefore b ys []) (still first) stand
gaps_stand first (c ∷ white) ys each stand =
    let parts = and_parts _ _ each in (
      inl (c, refl, parts.0),
      gaps_stand false white ys parts.1 (subst (λ b. StandBefore b ys []) (no_longer first c white) stand),
    )

gaps_first : (first : Bool) (white after : List ℕ) (xs : List Piece) → list_all is_white white ≡ true
    → white ++ after ≡ onto xs [] → StandBefore first xs []
    → (ys : List Piece) × (after ≡ onto ys []) × StandBefore (first && (length white == 0)) ys []
    × (xs ≡ gaps white ++ ys)
gaps_first first [] after xs each whole stand =
    (xs, whole, subst (λ b. StandBefore b xs []) (sym (still first)) stand, refl)
gaps_first first (c ∷ white) after [] each whole stand =
    let clash : c ∷ (white ++ after) ≡ [] = whole in absurd (cc)
gaps_first first (c ∷ white) after (x ∷ xs) each whole stand =
    let parts = and_parts _ _ each in
    let same = one_piece first Gap x.0 (c ∷ []) x.1 (white ++ after) (onto xs []) (inl (c, refl, parts.0)) stand.0 whole
    in
    let more = gaps_first false white after xs parts.1 same.2 stand.1 in (
      more.0,
      more.1,
      subst (λ b. StandBefore b more.0 []) (sym (no_longer first c white)) more.2,
      ap₂ (λ y ys. y ∷ ys) (sym (ap₂ (λ k p. (k, p)) same.0 same.1)) more.3,
    )

module _ (at : PieceWalk) (white : List ℕ) (to : PieceWalk) (passes : PassesWhite at white to) where
  front_after : to.at_front ≡ (at.at_front && (length (chars white) == 0))
  front_after = passes.front_after ∙ ap (λ none. at.at_front && none) (none_passed white passes.splits.white_utf8)

  -- a cover of the text after a run, with the run's gaps before it, covers the text before the run
  pub white_back : (ys : List Piece) → Covers to ys → Covers at (gaps (chars white) ++ ys)
  white_back ys covers = (
    passes.splits.whole ∙ (ap (λ r. chars white ++ r) covers.0 ∙ sym (onto_gaps (chars white) ys)),
    gaps_stand at.at_front (chars white) ys passes.splits.stands.each
        (subst (λ b. StandBefore b ys []) front_after covers.1),
  )

  -- a cover of the text before a run begins with the run's gaps
  pub white_on : (xs : List Piece) → Covers at xs
      → (ys : List Piece) × Covers to ys × (xs ≡ gaps (chars white) ++ ys)
  white_on xs covers =
      let more = gaps_first at.at_front (chars white) (chars to.rest.now) xs passes.splits.stands.each
      (sym passes.splits.whole ∙ covers.0) covers.1 in
      (more.0, (more.1, subst (λ b. StandBefore b more.0 []) (sym front_after) more.2), more.3)

-- ---- a piece

module _ (at : PieceWalk) (next : PlacedPiece) (to : PieceWalk) (is : IsNext at next to) where
  pub piece_back : (ys : List Piece) → Covers to ys → Covers at (piece_of next ∷ ys)
  piece_back ys covers = (
    is.whole ∙ ap (λ r. chars next.text.now ++ r) covers.0,
    (
      subst (IsPiece at.at_front (piece_of next).0 (piece_of next).1) covers.0 is.stands,
      subst (λ b. StandBefore b ys []) is.front_after covers.1,
    ),
  )

  pub piece_on : (xs : List Piece) → Covers at xs → (ys : List Piece) × Covers to ys × (xs ≡ piece_of next ∷ ys)
  piece_on [] covers =
      let some = piece_not_empty at.at_front _ (chars next.text.now) (chars to.rest.now) is.stands in
      let clash : some.0 ∷ (some.1 ++ chars to.rest.now) ≡ [] =
      ap (λ p. p ++ chars to.rest.now) (sym some.2) ∙ (sym is.whole ∙ covers.0) in
      absurd (cc)
  piece_on (x ∷ xs) covers =
      let same = one_piece at.at_front _ x.0 (chars next.text.now) x.1 (chars to.rest.now) (onto xs [])
      is.stands covers.1.0 (sym is.whole ∙ covers.0) in (
        xs,
        (same.2, subst (λ b. StandBefore b xs []) (sym is.front_after) covers.1.1),
        ap (λ y. y ∷ xs) (sym (ap₂ (λ k p. (k, p)) same.0 same.1)),
      )

-- if no piece begins there, only the empty list covers the text
pub none_on : (at : PieceWalk) (xs : List Piece) → HasNoPiece at.at_front (chars at.rest.now) → Covers at xs → xs ≡ []
none_on at [] none covers = refl
none_on at (x ∷ xs) none covers = absurd (none x.0 x.1 (onto xs []) covers.0 covers.1.0)

-- ---- white characters and a piece

pub rest_utf8 : (at : PieceWalk) (next : Spaced) (to : PieceWalk) → IsSpaced at next to → IsUtf8 next.rest.now
rest_utf8 at next to is = subst IsUtf8 (sym is.rest) is.passes.splits.rest_utf8

module _ (at : PieceWalk) (next : Spaced) (to : PieceWalk) (is : IsSpaced at next to) (piece : PlacedPiece)
    (some : next.piece ≡ Some piece) where
  pub next_there : IsNext is.here piece to
  next_there = subst (λ o. IfSome o (λ piece. IsNext is.here piece to)) some is.found

  pub spaced_back : (ys : List Piece) → Covers to ys
      → Covers at (gaps (chars next.white.now) ++ (piece_of piece ∷ ys))
  spaced_back ys covers =
      white_back at next.white.now is.here is.passes (piece_of piece ∷ ys)
      (piece_back is.here piece to next_there ys covers)

  pub spaced_on : (xs : List Piece) → Covers at xs → (ys : List Piece) × Covers to ys
      × (xs ≡ gaps (chars next.white.now) ++ (piece_of piece ∷ ys))
  spaced_on xs covers =
      let more = white_on at next.white.now is.here is.passes xs covers in
      let past = piece_on is.here piece to next_there more.0 more.1 in
      (past.0, past.1, more.2 ∙ ap (λ ys. gaps (chars next.white.now) ++ ys) past.2)

  -- the piece is no white character
  pub spaced_solid : first_passes is_white (chars piece.text.now) ≡ false
  spaced_solid =
      let begun = piece_not_empty is.here.at_front _ (chars piece.text.now) (chars to.rest.now) next_there.stands in
      ap (first_passes is_white) begun.2
      ∙ (ap (first_passes is_white) (ap (λ p. p ++ chars to.rest.now) (sym begun.2) ∙ sym next_there.whole)
      ∙ is.passes.splits.stands.stops)

  pub spaced_shorter : length to.rest.now < length at.rest.now
  spaced_shorter =
      omega (
        arith,
        next_there.shorter,
        ap length is.passes.splits.joined,
        length-append next.white.now is.here.rest.now,
      )

module _ (at : PieceWalk) (next : Spaced) (to : PieceWalk) (is : IsSpaced at next to) (none : next.piece ≡ None) where
  pub none_there : HasNoPiece is.here.at_front (chars is.here.rest.now)
  none_there = subst (λ o. IfNone o (HasNoPiece is.here.at_front (chars is.here.rest.now))) none is.none

  -- without a piece, the walk stays after the white characters
  pub none_rest : to.rest.now ≡ next.rest.now
  none_rest =
      let unchanged = subst (λ o. IfNone o (to ≡ is.here)) none is.unchanged in
      ap (λ (w : PieceWalk). w.rest.now) unchanged ∙ sym is.rest

  pub spaced_end : (xs : List Piece) → Covers at xs
      → (xs ≡ gaps (chars next.white.now)) × (chars next.rest.now ≡ [])
  spaced_end xs covers =
      let more = white_on at next.white.now is.here is.passes xs covers in
      let nil = none_on is.here more.0 none_there more.1 in (
        more.2 ∙ (ap (λ ys. gaps (chars next.white.now) ++ ys) nil ∙ append-nil (gaps (chars next.white.now))),
        ap chars is.rest ∙ (more.1.0 ∙ ap (λ ys. onto ys []) nil),
      )
