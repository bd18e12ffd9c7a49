-- The pieces of the printed text of a well spaced stream.
use Rattle.std.proofs.Common.{◌≡◌, ◌≢◌, ℕ, Bool, true, false, ◌&&◌, ◌==◌, List, [], ◌∷◌, ◌++◌, refl, sym, ap, ◌∙◌}
use Rattle.std.proofs.Common.{subst, inl, inr, append_assoc}
use Rattle.std.proofs.lemmas.Bool.{both_ways, cond-true, cond-false, and_parts, eqb-true, eqb-false, cases_Bool}
use Rattle.std.proofs.lemmas.Bool.{not-true}
use Rattle.lexical.specs.Text.{begins_any}
use Rattle.lexical.specs.Token.{Token, Name, Mark, Literal, token_text}
use Rattle.lexical.specs.Mark.{is_mark, comment_fronts, FollowsQuote}
use Rattle.lexical.specs.Piece.{Piece, Gap, Open, Close, Leaf, Stands, IsPiece}
use Rattle.lexical.specs.Cover.{onto, StandBefore}
use Rattle.grammar_laws.proofs.LeafLaws.{stops, stop_unbarred, prefixed_follows}
use Rattle.pm_token.specs.declared.delimiters.Delimiter.{Delimiter}
use Rattle.pm_token.specs.declared.delimiters.Delimiter.TheVariants.{Parenthesis, Brace, Bracket, None}
use Rattle.pm_token.specs.Built.{IsBuiltToken}
use Rattle.pm_stream.specs.Delimited.{opening, closing, is_brace}
use Rattle.pm_stream.specs.Events.{Event, One, Opens, Closes}
use Rattle.pm_stream.specs.Forest.{Forest, nil, leaf, group, flat_onto, IsBuilt}
use Rattle.pm_stream.specs.Printed.{parts, space, printed_after}
use Rattle.pm_stream.specs.Shown.{is_shown}
use Rattle.pm_stream.specs.WellSpaced.{follows_quote, follows_joint, fits, next_token, well_spaced}
use Rattle.proc_macro2.proofs.PieceStarts.{tick_comment, no_comment, name_stands, alone_stands, joint_stands}
use Rattle.proc_macro2.proofs.PieceStarts.{literal_stands, no_error}
use Rattle.proc_macro2.proofs.EventSpans.{bare, piece_events}

-- ---- the pieces of a printed text

-- the characters of a delimiter
abbrev pub opener_of : Delimiter → ℕ
opener_of Parenthesis = 40
opener_of Brace = 123
opener_of Bracket = 91
opener_of None = 0

abbrev pub closer_of : Delimiter → ℕ
closer_of Parenthesis = 41
closer_of Brace = 125
closer_of Bracket = 93
closer_of None = 0

abbrev pub open_piece : Delimiter → Piece
open_piece d = (Open (opener_of d), opening d)

abbrev pub close_piece : Delimiter → Piece
close_piece d = (Close (closer_of d), closing d)

abbrev pub token_piece : Token → Piece
token_piece t = (Leaf t, token_text t)

abbrev pub gap_then : Bool → List Piece → List Piece
gap_then true ps = (Gap, 32 ∷ []) ∷ ps
gap_then false ps = ps

-- the pieces of trees that are printed after another tree, and then ps
abbrev pub pieces_onto : Bool → Forest → List Piece → List Piece
pieces_onto gap nil ps = ps
pieces_onto gap (leaf t lo hi f) ps = gap_then gap (token_piece t ∷ pieces_onto (parts t) f ps)
pieces_onto gap (group d lo hi f k) ps =
    gap_then gap (open_piece d ∷ pieces_onto (is_brace d) f
    (gap_then (is_brace d) (close_piece d ∷ pieces_onto true k ps)))

onto_gap : (gap : Bool) (ps : List Piece) (r : List ℕ) → onto (gap_then gap ps) r ≡ space gap ++ onto ps r
onto_gap true ps r = refl
onto_gap false ps r = refl

-- the text of these pieces
pub onto_printed : (gap : Bool) (f : Forest) (ps : List Piece) (r : List ℕ)
    → onto (pieces_onto gap f ps) r ≡ printed_after gap f ++ onto ps r
onto_printed gap nil ps r = refl
onto_printed gap (leaf t lo hi f) ps r =
    onto_gap gap (token_piece t ∷ pieces_onto (parts t) f ps) r
    ∙ (ap (λ x. space gap ++ (token_text t ++ x)) (onto_printed (parts t) f ps r) ∙ simp append_assoc)
onto_printed gap (group d lo hi f k) ps r =
    let last = close_piece d ∷ pieces_onto true k ps in
    let after = gap_then (is_brace d) last in
    onto_gap gap (open_piece d ∷ pieces_onto (is_brace d) f after) r
    ∙ (ap (λ x. space gap ++ (opening d ++ x)) (onto_printed (is_brace d) f after r)
    ∙ (ap (λ x. space gap ++ (opening d ++ (printed_after (is_brace d) f ++ x))) (onto_gap (is_brace d) last r)
    ∙ (ap (λ x. space gap ++ (opening d ++ (printed_after (is_brace d) f ++ (space (is_brace d) ++ (closing d ++ x)))))
    (onto_printed true k ps r)
    ∙ simp append_assoc)))

-- ---- each piece is valid before what follows

stand_gap : (gap b : Bool) (ps : List Piece) (r : List ℕ) → ((c : Bool) → StandBefore c ps r)
    → StandBefore b (gap_then gap ps) r
stand_gap true b ps r h = (inl (32, refl, refl), h false)
stand_gap false b ps r h = h b

-- a delimiter that is written is a valid piece
pub stand_open : (d : Delimiter) (b : Bool) (r : List ℕ) → is_shown d ≡ true
    → (d ≡ Parenthesis → begins_any comment_fronts r ≡ false)
    → IsPiece b (Open (opener_of d)) (opening d) r
stand_open Parenthesis b r h plain = ((40, refl, refl), no_error r (plain refl))
stand_open Brace b r h plain = ((123, refl, refl), refl)
stand_open Bracket b r h plain = ((91, refl, refl), refl)
stand_open None b r h plain = absurd (both_ways false refl h)

pub stand_close : (d : Delimiter) (b : Bool) (r : List ℕ) → is_shown d ≡ true
    → IsPiece b (Close (closer_of d)) (closing d) r
stand_close Parenthesis b r h = (41, refl, refl)
stand_close Brace b r h = (125, refl, refl)
stand_close Bracket b r h = (93, refl, refl)
stand_close None b r h = absurd (both_ways false refl h)

-- the text after a tree that needs a gap ends the tree's last token
stops_after : (f : Forest) (ps : List Piece) (r : List ℕ) → stops (onto ps r) ≡ true
    → stops (onto (pieces_onto true f ps) r) ≡ true
stops_after nil ps r h = h
stops_after (leaf t lo hi f) ps r h = refl
stops_after (group d lo hi f k) ps r h = refl

stops_closing : (d : Delimiter) (ps : List Piece) (r : List ℕ) → is_shown d ≡ true
    → stops (onto (gap_then (is_brace d) (close_piece d ∷ ps)) r) ≡ true
stops_closing Parenthesis ps r h = refl
stops_closing Brace ps r h = refl
stops_closing Bracket ps r h = refl
stops_closing None ps r h = absurd (both_ways false refl h)

-- no comment begins right after `(`
plain_inside : (f : Forest) (ps : List Piece) (r : List ℕ)
    → StandBefore false (pieces_onto false f (close_piece Parenthesis ∷ ps)) r
    → begins_any comment_fronts (onto (pieces_onto false f (close_piece Parenthesis ∷ ps)) r) ≡ false
plain_inside nil ps r h = refl
plain_inside (leaf t lo hi f) ps r h =
    no_comment false (Leaf t) (token_text t) (onto (pieces_onto (parts t) f (close_piece Parenthesis ∷ ps)) r) refl h.0
plain_inside (group d lo hi f k) ps r h =
    let last = gap_then (is_brace d) (close_piece d ∷ pieces_onto true k (close_piece Parenthesis ∷ ps)) in
    no_comment false (Open (opener_of d)) (opening d) (onto (pieces_onto (is_brace d) f last) r) refl h.0

plain_stands : (d : Delimiter) (f : Forest) (ps : List Piece) (r : List ℕ)
    → StandBefore false (pieces_onto (is_brace d) f (gap_then (is_brace d) (close_piece d ∷ ps))) r → d ≡ Parenthesis
    → begins_any comment_fronts (onto (pieces_onto (is_brace d) f (gap_then (is_brace d) (close_piece d ∷ ps))) r)
    ≡ false
plain_stands Parenthesis f ps r h is = plain_inside f ps r h
plain_stands Brace f ps r h is = absurd (cc)
plain_stands Bracket f ps r h is = absurd (cc)
plain_stands None f ps r h is = absurd (cc)

-- ---- each token is valid before what is printed after it

pub tick_stands : (r : List ℕ) → FollowsQuote r → Stands (Mark 39 true) r
tick_stands r f = inr ((refl, f), refl)

quote_stands : (f : Forest) (ps : List Piece) (r : List ℕ) → follows_quote (next_token f) ≡ true
    → stops (onto ps r) ≡ true
    → StandBefore false (pieces_onto false f ps) r → FollowsQuote (onto (pieces_onto false f ps) r)
quote_stands nil ps r e s h = absurd (both_ways false refl e)
quote_stands (leaf (Name true name) lo hi f) ps r e s h = record {
  raw = true;
  name = name;
  rest = onto (pieces_onto true f ps) r;
  whole = refl;
  named = h.0.1.0;
  unbarred = stop_unbarred true (onto (pieces_onto true f ps) r) (stops_after f ps r s);
}
quote_stands (leaf (Name false name) lo hi f) ps r e s h = record {
  raw = false;
  name = name;
  rest = onto (pieces_onto true f ps) r;
  whole = refl;
  named = h.0.1.0;
  unbarred = stop_unbarred false (onto (pieces_onto true f ps) r) (stops_after f ps r s);
}
quote_stands (leaf (Mark d joint) lo hi f) ps r e s h = absurd (both_ways false refl e)
quote_stands (leaf (Literal text) lo hi f) ps r e s h = prefixed_follows text (onto (pieces_onto true f ps) r) e
quote_stands (group d lo hi f k) ps r e s h = absurd (both_ways false refl e)

joint_may_stand : (c : ℕ) (f : Forest) (ps : List Piece) (r : List ℕ) → is_mark c ≡ true → c ≢ 39
    → follows_joint c (next_token f) ≡ true
    → StandBefore false (pieces_onto false f ps) r → Stands (Mark c true) (onto (pieces_onto false f ps) r)
joint_may_stand c nil ps r m other e h = absurd (both_ways false refl e)
joint_may_stand c (leaf (Name raw name) lo hi f) ps r m other e h = absurd (both_ways false refl e)
joint_may_stand c (leaf (Mark d joint) lo hi f) ps r m other e h =
    joint_stands c false (Leaf (Mark d joint)) (d ∷ []) (onto (pieces_onto (parts (Mark d joint)) f ps) r) m other h.0
    refl
    (not-true (begins_any comment_fronts (c ∷ d ∷ [])) e)
joint_may_stand c (leaf (Literal text) lo hi f) ps r m other e h =
    joint_stands c false (Leaf (Literal text)) text (onto (pieces_onto true f ps) r) m other h.0 e
    (tick_comment c text (onto (pieces_onto true f ps) r) e)
joint_may_stand c (group d lo hi f k) ps r m other e h = absurd (both_ways false refl e)

-- the Joint mark c is valid before the tokens that fit it
joint_fits : (c : ℕ) (f : Forest) (ps : List Piece) (r : List ℕ) → is_mark c ≡ true
    → fits (Mark c true) (next_token f) ≡ true
    → stops (onto ps r) ≡ true → StandBefore false (pieces_onto false f ps) r
    → Stands (Mark c true) (onto (pieces_onto false f ps) r)
joint_fits c f ps r m fit s h = elim (cases_Bool (c == 39)) [
  | inl same ↦
      subst (λ x. Stands (Mark x true) (onto (pieces_onto false f ps) r)) (sym (eqb-true c 39 same))
      (tick_stands (onto (pieces_onto false f ps) r)
      (quote_stands f ps r (sym (cond-true (c == 39) _ _ same) ∙ fit) s h))
  | inr other ↦ joint_may_stand c f ps r m (eqb-false c 39 other) (sym (cond-false (c == 39) _ _ other) ∙ fit) h
]

token_stands : (t : Token) (f : Forest) (ps : List Piece) (r : List ℕ) → IsBuiltToken t → fits t (next_token f) ≡ true
    → stops (onto ps r) ≡ true → StandBefore false (pieces_onto (parts t) f ps) r
    → Stands t (onto (pieces_onto (parts t) f ps) r)
token_stands (Name raw name) f ps r built fit s h = name_stands raw name _ built (stops_after f ps r s)
token_stands (Mark c false) f ps r built fit s h =
    alone_stands c _ built (eqb-false c 39 (not-true (c == 39) fit)) (stops_after f ps r s)
token_stands (Mark c true) f ps r built fit s h = joint_fits c f ps r built fit s h
token_stands (Literal text) f ps r built fit s h = literal_stands text _ built (stops_after f ps r s)

-- ---- all pieces

pub stand_printed : (gap b : Bool) (f : Forest) (ps : List Piece) (r : List ℕ) → IsBuilt f → well_spaced f ≡ true
    → stops (onto ps r) ≡ true → ((c : Bool) → StandBefore c ps r) → StandBefore b (pieces_onto gap f ps) r
stand_printed gap b nil ps r built w s h = h b
stand_printed gap b (leaf t lo hi f) ps r built w s h =
    let both = and_parts (fits t (next_token f)) (well_spaced f) w in
    let more : StandBefore false (pieces_onto (parts t) f ps) r =
    stand_printed (parts t) false f ps r built.2 both.1 s h in
    stand_gap gap b (token_piece t ∷ pieces_onto (parts t) f ps) r
    (λ c. ((refl, token_stands t f ps r built.0 both.0 s more), more))
stand_printed gap b (group d lo hi f k) ps r built w s h =
    let both = and_parts (is_shown d) (well_spaced f && well_spaced k) w in
    let deep = and_parts (well_spaced f) (well_spaced k) both.1 in
    let rest = pieces_onto true k ps in
    let last = gap_then (is_brace d) (close_piece d ∷ rest) in
    let later : StandBefore false rest r = stand_printed true false k ps r built.2 deep.1 s h in
    let close : (c : Bool) → StandBefore c last r =
    λ c. stand_gap (is_brace d) c (close_piece d ∷ rest) r (λ x. (stand_close d x (onto rest r) both.0, later)) in
    let inside : StandBefore false (pieces_onto (is_brace d) f last) r =
    stand_printed (is_brace d) false f last r built.1 deep.0 (stops_closing d rest r both.0) close in
    stand_gap gap b (open_piece d ∷ pieces_onto (is_brace d) f last) r
    (λ c. (stand_open d c (onto (pieces_onto (is_brace d) f last) r) both.0 (plain_stands d f rest r inside), inside))

-- ---- the events of the pieces

events_of_gap : (gap : Bool) (ps : List Piece) → piece_events (gap_then gap ps) ≡ piece_events ps
events_of_gap true ps = refl
events_of_gap false ps = refl

pub events_of_open : (d : Delimiter) (ps : List Piece) → is_shown d ≡ true
    → piece_events (open_piece d ∷ ps) ≡ Opens d 0 ∷ piece_events ps
events_of_open Parenthesis ps h = refl
events_of_open Brace ps h = refl
events_of_open Bracket ps h = refl
events_of_open None ps h = absurd (both_ways false refl h)

pub events_of_close : (d : Delimiter) (ps : List Piece) → is_shown d ≡ true
    → piece_events (close_piece d ∷ ps) ≡ Closes d 0 ∷ piece_events ps
events_of_close Parenthesis ps h = refl
events_of_close Brace ps h = refl
events_of_close Bracket ps h = refl
events_of_close None ps h = absurd (both_ways false refl h)

-- the printed text has the events of the trees
pub events_of_printed : (gap : Bool) (f : Forest) (ps : List Piece) (es : List Event) → well_spaced f ≡ true
    → piece_events ps ≡ bare es
    → piece_events (pieces_onto gap f ps) ≡ bare (flat_onto f es)
events_of_printed gap nil ps es w h = h
events_of_printed gap (leaf t lo hi f) ps es w h =
    events_of_gap gap (token_piece t ∷ pieces_onto (parts t) f ps)
    ∙ ap (λ xs. One t 0 0 ∷ xs)
    (events_of_printed (parts t) f ps es (and_parts (fits t (next_token f)) (well_spaced f) w).1 h)
events_of_printed gap (group d lo hi f k) ps es w h =
    let both = and_parts (is_shown d) (well_spaced f && well_spaced k) w in
    let deep = and_parts (well_spaced f) (well_spaced k) both.1 in
    let last = close_piece d ∷ pieces_onto true k ps in
    events_of_gap gap (open_piece d ∷ pieces_onto (is_brace d) f (gap_then (is_brace d) last))
    ∙ (events_of_open d (pieces_onto (is_brace d) f (gap_then (is_brace d) last)) both.0
    ∙ ap (λ xs. Opens d 0 ∷ xs)
    (events_of_printed (is_brace d) f (gap_then (is_brace d) last) (Closes d hi ∷ flat_onto k es) deep.0
    (events_of_gap (is_brace d) last ∙ (events_of_close d (pieces_onto true k ps) both.0
    ∙ ap (λ xs. Closes d 0 ∷ xs) (events_of_printed true k ps es deep.1 h)))))
