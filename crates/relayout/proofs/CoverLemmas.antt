-- A cover with other white space between its pieces.
use Rattle.std.proofs.Common.{◌≡◌, ◌⊎◌, ℕ, Bool, true, false, not, ◌||◌, ◌==◌, List, [], ◌∷◌, ◌++◌, refl}
use Rattle.std.proofs.Common.{sym, ap, ◌∙◌, subst, inl, inr, append_assoc, eqb-true}
use Rattle.std.specs.List.{list_all}
use Rattle.std.proofs.lemmas.Bool.{both_ways, and_parts}
use Rattle.lexical.specs.Class.{is_white}
use Rattle.lexical.specs.Piece.{Piece, IsPiece}
use Rattle.lexical.specs.Cover.{onto, StandBefore, IsCover}
use Rattle.lexical.proofs.PieceFacts.{piece_not_empty}
use Rattle.relayout.specs.Relayout.{Spaced, white_pieces, pieces_of, is_line, may_become, Becomes, AllWhite}
use Rattle.relayout.proofs.StandLemmas.{Calm, piece_near}

-- ---- texts

pub onto_white : (white : List ℕ) (ps : List Piece) (r : List ℕ) → onto (white_pieces white ps) r ≡ white ++ onto ps r
onto_white [] ps r = refl
onto_white (c ∷ white) ps r = ap (λ x. c ∷ x) (onto_white white ps r)

-- white space may become other white space
abbrev pub IsChange : Bool → List ℕ → List ℕ → Type 0
IsChange line old new = ((old ≡ []) × (new ≡ []))
    ⊎ ((d : ℕ) × (before : List ℕ) × (c : ℕ) × (after : List ℕ) × (old ≡ d ∷ before) × (new ≡ c ∷ after)
    × (is_white d ≡ true) × (AllWhite before) × (is_white c ≡ true) × (AllWhite after) × (line ≡ true → c ≡ 10))

pub change : (line : Bool) (old new : List ℕ) → may_become line old new ≡ true → IsChange line old new
change line [] [] e = inl (refl, refl)
change line [] (c ∷ new) e = absurd (both_ways false refl e)
change line (d ∷ old) [] e = absurd (both_ways false refl e)
change line (d ∷ old) (c ∷ new) e =
    let one = and_parts _ _ e in
    let two = and_parts _ _ one.1 in
    let olds = and_parts (is_white d) (list_all is_white old) one.0 in
    let news = and_parts (is_white c) (list_all is_white new) two.0 in
    inr (d, old, c, new, refl, refl, olds.0, olds.1, news.0, news.1, λ is. feed line is two.1)
  where
    feed : (line : Bool) → line ≡ true → (not line || (c == 10)) ≡ true → c ≡ 10
    feed true is e = eqb-true c 10 e
    feed false is e = absurd (both_ways false refl is)

-- ---- what follows a piece, before and after

-- both texts begin with the same piece, and then with a white character, or they end
record Near (line : Bool) (r t : List ℕ) : Type 0 where
  both : List ℕ
  old : List ℕ
  new : List ℕ
  was : r ≡ both ++ old
  is : t ≡ both ++ new
  calm_old : Calm old
  calm_new : Calm new
  feeds : both ≡ [] → line ≡ true → (old ≡ new) ⊎ ((w : List ℕ) × (new ≡ 10 ∷ w))

near_end : (line : Bool) (old new : List ℕ) → IsChange line old new
    → Near line (onto (white_pieces old []) []) (onto (white_pieces new []) [])
near_end line old new (inl none) = record {
  both = [];
  old = [];
  new = [];
  was = ap (λ x. onto (white_pieces x []) []) none.0;
  is = ap (λ x. onto (white_pieces x []) []) none.1;
  calm_old = refl;
  calm_new = refl;
  feeds = λ e l. inl refl;
}
near_end line old new (inr (d, before, c, after, was, is, white_d, olds, white_c, news, feed)) = record {
  both = [];
  old = onto (white_pieces (d ∷ before) []) [];
  new = onto (white_pieces (c ∷ after) []) [];
  was = ap (λ x. onto (white_pieces x []) []) was;
  is = ap (λ x. onto (white_pieces x []) []) is;
  calm_old = ap not white_d;
  calm_new = ap not white_c;
  feeds = λ e l. inr (onto (white_pieces after []) [], ap (λ x. x ∷ onto (white_pieces after []) []) (feed l));
}

-- two texts are near if they begin with white space that may change and then with the same piece
near_piece : (line : Bool) (first : Bool) (old new : List ℕ) (x : Piece) (us vs : List Piece) → IsChange line old new
    → StandBefore first (white_pieces old (x ∷ us)) [] → Near (is_line x) (onto us []) (onto vs [])
    → Near line (onto (white_pieces old (x ∷ us)) []) (onto (white_pieces new (x ∷ vs)) [])
near_piece line first old new x us vs (inl none) stand near =
    let there : IsPiece first x.0 x.1 (onto us []) =
    (subst (λ w. StandBefore first (white_pieces w (x ∷ us)) []) none.0 stand).0 in
    let some = piece_not_empty first x.0 x.1 (onto us []) there in
    record {
      both = x.1 ++ near.both;
      old = near.old;
      new = near.new;
      was =
          ap (λ w. onto (white_pieces w (x ∷ us)) []) none.0
          ∙ (ap (λ r. x.1 ++ r) near.was ∙ sym (append_assoc x.1 near.both near.old));
      is =
          ap (λ w. onto (white_pieces w (x ∷ vs)) []) none.1
          ∙ (ap (λ r. x.1 ++ r) near.is ∙ sym (append_assoc x.1 near.both near.new));
      calm_old = near.calm_old;
      calm_new = near.calm_new;
      feeds = λ e l.
          let clash : some.0 ∷ (some.1 ++ near.both) ≡ [] = ap (λ p. p ++ near.both) (sym some.2) ∙ e in
          absurd (cc);
    }
near_piece line first old new x us vs (inr (d, before, c, after, was, is, white_d, olds, white_c, news, feed)) stand
    near = record {
      both = [];
      old = onto (white_pieces (d ∷ before) (x ∷ us)) [];
      new = onto (white_pieces (c ∷ after) (x ∷ vs)) [];
      was = ap (λ w. onto (white_pieces w (x ∷ us)) []) was;
      is = ap (λ w. onto (white_pieces w (x ∷ vs)) []) is;
      calm_old = ap not white_d;
      calm_new = ap not white_c;
      feeds = λ e l.
          inr (onto (white_pieces after (x ∷ vs)) [], ap (λ k. k ∷ onto (white_pieces after (x ∷ vs)) []) (feed l));
    }

-- a cover that begins with white characters goes on after them
past_white : (first : Bool) (white : List ℕ) (ps : List Piece) (r : List ℕ)
    → StandBefore first (white_pieces white ps) r
    → ((white ≡ []) × StandBefore first ps r) ⊎ StandBefore false ps r
past_white first [] ps r stand = inl (refl, stand)
past_white first (c ∷ []) ps r stand = inr stand.1
past_white first (c ∷ (d ∷ white)) ps r stand = elim (past_white false (d ∷ white) ps r stand.1) [
  | inl none ↦ absurd (let clash : d ∷ white ≡ [] = none.0 in cc)
  | inr more ↦ inr more
]

-- a white character is a piece before any text
stand_white : (first : Bool) (c : ℕ) (white : List ℕ) (ps : List Piece) (r : List ℕ) → is_white c ≡ true
    → AllWhite white → StandBefore false ps r → StandBefore first (white_pieces (c ∷ white) ps) r
stand_white first c [] ps r is all more = (inl (c, refl, is), more)
stand_white first c (d ∷ white) ps r is all more =
    let both = and_parts (is_white d) (list_all is_white white) all in
    (inl (c, refl, is), stand_white false d white ps r both.0 both.1 more)

-- ---- all pieces

near_all : (line first : Bool) (xs : List Spaced) (old : List ℕ) (ys : List Spaced) (new : List ℕ)
    → StandBefore first (pieces_of xs old) [] → Becomes line xs old ys new
    → Near line (onto (pieces_of xs old) []) (onto (pieces_of ys new) [])
near_all line first [] old [] new stand h = near_end line old new (change line old new h)
near_all line first [] old (y ∷ ys) new stand h = absurd h
near_all line first (x ∷ xs) old [] new stand h = absurd h
near_all line first (x ∷ xs) old (y ∷ ys) new stand h =
    let after : StandBefore false (pieces_of xs old) [] =
    elim (past_white first x.0 (x.1 ∷ pieces_of xs old) [] stand) [
      | inl none ↦ none.1.1
      | inr more ↦ more.1
    ] in
    let near = near_all (is_line x.1) false xs old ys new after h.2 in
    subst (λ p. Near line (onto (white_pieces x.0 (x.1 ∷ pieces_of xs old)) [])
    (onto (white_pieces y.0 (p ∷ pieces_of ys new)) [])) h.0
    (near_piece line first x.0 y.0 x.1 (pieces_of xs old) (pieces_of ys new) (change line x.0 y.0 h.1) stand near)

-- a piece before the old text is also a piece before the new text
stands_then : (first : Bool) (x : Piece) (r t : List ℕ) → Near (is_line x) r t → IsPiece first x.0 x.1 r
    → IsPiece first x.0 x.1 t
stands_then first x r t near h =
    subst (IsPiece first x.0 x.1) (sym near.is)
    (piece_near first x.0 x.1 near.both near.old near.new near.calm_old near.calm_new near.feeds
    (subst (IsPiece first x.0 x.1) near.was h))

pub stand_all : (line first : Bool) (xs : List Spaced) (old : List ℕ) (ys : List Spaced) (new : List ℕ)
    → StandBefore first (pieces_of xs old) [] → Becomes line xs old ys new
    → StandBefore first (pieces_of ys new) []
stand_all line first [] old [] new stand h = elim (change line old new h) [
  | inl none ↦ subst (λ w. StandBefore first (white_pieces w []) []) (sym none.1) tt
  | inr (d, before, c, after, was, is, white_d, olds, white_c, news, feed) ↦
      subst (λ w. StandBefore first (white_pieces w []) []) (sym is) (stand_white first c after [] [] white_c news tt)
]
stand_all line first [] old (y ∷ ys) new stand h = absurd h
stand_all line first (x ∷ xs) old [] new stand h = absurd h
stand_all line first (x ∷ xs) old (y ∷ ys) new stand h =
    let more : StandBefore false (pieces_of xs old) [] → StandBefore false (pieces_of ys new) [] =
    λ before. stand_all (is_line x.1) false xs old ys new before h.2 in
    subst (λ p. StandBefore first (white_pieces y.0 (p ∷ pieces_of ys new)) []) h.0
    (by_change more (change line x.0 y.0 h.1) (past_white first x.0 (x.1 ∷ pieces_of xs old) [] stand))
  where
    there : (StandBefore false (pieces_of xs old) [] → StandBefore false (pieces_of ys new) []) → (b : Bool)
        → StandBefore b (x.1 ∷ pieces_of xs old) [] → StandBefore b (x.1 ∷ pieces_of ys new) []
    there more b before = (
      stands_then b x.1 _ _ (near_all (is_line x.1) false xs old ys new before.1 h.2) before.0,
      more before.1,
    )

    by_change : (StandBefore false (pieces_of xs old) [] → StandBefore false (pieces_of ys new) [])
        → IsChange line x.0 y.0
        → ((x.0 ≡ []) × StandBefore first (x.1 ∷ pieces_of xs old) []) ⊎ StandBefore false (x.1 ∷ pieces_of xs old) []
        → StandBefore first (white_pieces y.0 (x.1 ∷ pieces_of ys new)) []
    by_change more (inl none) past =
        subst (λ w. StandBefore first (white_pieces w (x.1 ∷ pieces_of ys new)) []) (sym none.1)
        (there more first (subst (λ w. StandBefore first (white_pieces w (x.1 ∷ pieces_of xs old)) []) none.0 stand))
    by_change more (inr (d, before, c, after, was, is, white_d, olds, white_c, news, feed)) (inl (none, front)) =
        absurd (let clash : d ∷ before ≡ [] = sym was ∙ none in cc)
    by_change more (inr (d, before, c, after, was, is, white_d, olds, white_c, news, feed)) (inr front) =
        subst (λ w. StandBefore first (white_pieces w (x.1 ∷ pieces_of ys new)) []) (sym is)
        (stand_white first c after (x.1 ∷ pieces_of ys new) [] white_c news (there more false front))

-- if pieces cover a source, they cover their text with other white space between them
pub still_cover : (source : List ℕ) (xs : List Spaced) (old : List ℕ) (ys : List Spaced) (new : List ℕ)
    → IsCover (pieces_of xs old) source → Becomes false xs old ys new
    → IsCover (pieces_of ys new) (onto (pieces_of ys new) [])
still_cover source xs old ys new covers h =
    record { whole = refl; stand = stand_all false true xs old ys new covers.stand h }
