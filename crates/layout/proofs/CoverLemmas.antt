-- A layout of a well spaced stream, as a cover of its text.
use Rattle.std.proofs.Common.{◌≡◌, ℕ, Bool, true, false, not, ◌&&◌, ◌==◌, List, [], ◌∷◌, ◌++◌}
use Rattle.std.proofs.Common.{refl, sym, ap, ◌∙◌, subst, inl, inr, append_assoc, append-nil, eqb-true}
use Rattle.std.specs.Prelude.{if◌then◌else◌}
use Rattle.std.specs.List.{list_all}
use Rattle.std.proofs.lemmas.Bool.{both_ways, cond-true, cond-false, and_parts, and_from, cases_Bool, not-true}
use Rattle.std.proofs.lemmas.Bool.{and_right, eqb-false, or_cases}
use Rattle.lexical.specs.Class.{is_white}
use Rattle.lexical.specs.Number.{bars_dot}
use Rattle.lexical.specs.Text.{begins_any, ends_with, first_passes}
use Rattle.lexical.specs.Token.{Token, Name, Mark, Literal, token_text}
use Rattle.lexical.specs.Mark.{is_mark, comment_fronts, bars_quote, FollowsQuote}
use Rattle.lexical.specs.Piece.{Piece, Gap, Open, Close, Leaf, Stands, IsPiece}
use Rattle.lexical.specs.Cover.{onto, StandBefore, IsCover}
use Rattle.lexical.proofs.TextLemmas.{first_more}
use Rattle.grammar_laws.proofs.LeafLaws.{prefixed_follows, literal_first}
use Rattle.grammar_laws.proofs.StableLemmas.{stops_within}
use Rattle.pm_token.specs.declared.delimiters.Delimiter.{Delimiter}
use Rattle.pm_token.specs.declared.delimiters.Delimiter.TheVariants.{Parenthesis, Brace, Bracket, None}
use Rattle.pm_token.specs.Built.{IsBuiltToken}
use Rattle.pm_stream.specs.Delimited.{opening, closing}
use Rattle.pm_stream.specs.Events.{Event, One, Opens, Closes}
use Rattle.pm_stream.specs.Forest.{Forest, nil, leaf, group, flat_onto, IsBuilt}
use Rattle.pm_stream.specs.Shown.{is_shown}
use Rattle.pm_stream.specs.WellSpaced.{fits, follows_quote, follows_joint, next_token, well_spaced, IsWellSpaced}
use Rattle.proc_macro2.specs.Laws.{Gives}
use Rattle.proc_macro2.proofs.PieceStarts.{tick_comment, no_comment, no_mark_plain, joint_stands, white_no_mark}
use Rattle.proc_macro2.proofs.PieceStarts.{whole_any}
use Rattle.proc_macro2.proofs.EventSpans.{bare, piece_events, same_from_events}
use Rattle.proc_macro2.proofs.PrintedCover.{opener_of, closer_of, open_piece, close_piece, token_piece, stand_open}
use Rattle.proc_macro2.proofs.PrintedCover.{stand_close, events_of_open, events_of_close, tick_stands}
use Rattle.proc_macro2.proofs.Returns.{next_event, events_fit, events_fit-flat}
use Rattle.layout.specs.Layout.{parts_name, parts_from, event_text, goes_on, must_part, is_joint, may_part, Laid}
use Rattle.layout.specs.Layout.{laid_onto}
use Rattle.layout.specs.Layout.{frees_dot, is_digits, is_dot, laid_front, leaves_dot}
use Rattle.layout.proofs.DotLemmas.{dot_stands}
use Rattle.layout.specs.Layout.{events_of, IsGap, AreGaps, may_follow, keeps_apart, IsLayout}
use Rattle.layout.proofs.TokenLemmas.{bars_parts, name_stands, alone_stands, literal_stands, white_parts}

-- ---- the pieces of a layout

abbrev pub gap_pieces : List ℕ → List Piece → List Piece
gap_pieces [] ps = ps
gap_pieces (c ∷ gap) ps = (Gap, c ∷ []) ∷ gap_pieces gap ps

abbrev pub event_piece : Event → Piece
event_piece (One token lo hi) = token_piece token
event_piece (Opens d lo) = open_piece d
event_piece (Closes d hi) = close_piece d

abbrev pub laid_pieces : List Laid → List ℕ → List Piece
laid_pieces [] last = gap_pieces last []
laid_pieces (x ∷ xs) last = gap_pieces x.0 (event_piece x.1 ∷ laid_pieces xs last)

-- the text of the gap's pieces is the gap
onto_gap : (gap : List ℕ) (ps : List Piece) (r : List ℕ) → onto (gap_pieces gap ps) r ≡ gap ++ onto ps r
onto_gap [] ps r = refl
onto_gap (c ∷ gap) ps r = ap (λ x. c ∷ x) (onto_gap gap ps r)

event_is : (e : Event) → (event_piece e).1 ≡ event_text e
event_is (One token lo hi) = refl
event_is (Opens d lo) = refl
event_is (Closes d hi) = refl

pub onto_laid : (xs : List Laid) (last : List ℕ) → onto (laid_pieces xs last) [] ≡ laid_onto xs last
onto_laid [] last = onto_gap last [] [] ∙ append-nil last
onto_laid (x ∷ xs) last =
    onto_gap x.0 (event_piece x.1 ∷ laid_pieces xs last) []
    ∙ (ap (λ t. x.0 ++ (t ++ onto (laid_pieces xs last) [])) (event_is x.1)
    ∙ ap (λ t. x.0 ++ (event_text x.1 ++ t)) (onto_laid xs last))

-- ---- what is known of each event

-- a built token, or a delimiter with marks
abbrev pub IsWritten : Event → Type 0
IsWritten (One token lo hi) = IsBuiltToken token
IsWritten (Opens d lo) = is_shown d ≡ true
IsWritten (Closes d hi) = is_shown d ≡ true

-- each of the events is a built token or a delimiter with marks
abbrev pub AreWritten : List Event → Type 0
AreWritten [] = Unit {0}
AreWritten (e ∷ es) = IsWritten e × AreWritten es

pub written_flat : (f : Forest) (es : List Event) → IsBuilt f → well_spaced f ≡ true → AreWritten es
    → AreWritten (flat_onto f es)
written_flat nil es built w more = more
written_flat (leaf token lo hi f) es built w more =
    (built.0, written_flat f es built.2 (and_parts (fits token (next_token f)) (well_spaced f) w).1 more)
written_flat (group d lo hi f k) es built w more =
    let both = and_parts (is_shown d) (well_spaced f && well_spaced k) w in
    let deep = and_parts (well_spaced f) (well_spaced k) both.1 in
    (both.0, written_flat f _ built.1 deep.0 (both.0, written_flat k es built.2 deep.1 more))

-- ---- how the text after a piece begins

-- the class has no white character
abbrev OutWhite : (ℕ → Bool) → Type 0
OutWhite class = (c : ℕ) → is_white c ≡ true → class c ≡ false

-- what follows a token does not begin in the class, if what follows the gap does not where the gap is empty
out_gap : (class : ℕ → Bool) → OutWhite class → (gap : List ℕ) (ps : List Piece) → IsGap gap
    → (gap ≡ [] → first_passes class (onto ps []) ≡ false) → first_passes class (onto (gap_pieces gap ps) []) ≡ false
out_gap class out [] ps white none = none refl
out_gap class out (c ∷ gap) ps white none = out c (and_parts (is_white c) (list_all is_white gap) white).0

abbrev is_some : List ℕ → Bool
is_some [] = false
is_some (c ∷ p) = true

token_some : (token : Token) → IsBuiltToken token → is_some (token_text token) ≡ true
token_some (Name true name) built = refl
token_some (Name false name) built =
    ap is_some (built.0.whole ∙ ap (λ x. x ++ built.0.back) built.0.first.1)
token_some (Mark c joint) built = refl
token_some (Literal text) built = ap is_some (literal_first text [] (whole_any text built)).whole

shown_some : (d : Delimiter) → is_shown d ≡ true → (is_some (opening d) ≡ true) × (is_some (closing d) ≡ true)
shown_some Parenthesis h = (refl, refl)
shown_some Brace h = (refl, refl)
shown_some Bracket h = (refl, refl)
shown_some None h = absurd (both_ways false refl h)

event_some : (e : Event) → IsWritten e → is_some (event_text e) ≡ true
event_some (One token lo hi) written = token_some token written
event_some (Opens d lo) written = (shown_some d written).0
event_some (Closes d hi) written = (shown_some d written).1

-- the first character of a text that is not empty is also the first character of a longer text
first_of_front : (class : ℕ → Bool) (p r : List ℕ) → is_some p ≡ true → first_passes class p ≡ false
    → first_passes class (p ++ r) ≡ false
first_of_front class [] r some none = absurd (both_ways false refl some)
first_of_front class (c ∷ p) r some none = none

-- whether a dot follows that does not extend the event
abbrev pub leaves_next : Event → List Laid → Bool
leaves_next before [] = false
leaves_next before (x ∷ xs) = is_dot x.1 && leaves_dot before (laid_front xs)

leaves_none : (token : Token) (lo hi : ℕ) (xs : List Laid)
    → ((later : List ℕ) → leaves_dot (One token lo hi) later ≡ false) → leaves_next (One token lo hi) xs ≡ false
leaves_none token lo hi [] none = refl
leaves_none token lo hi (x ∷ xs) none = and_right (is_dot x.1) _ (none (laid_front xs))

-- the text after a token does not extend it, if the token is not Joint and no dot follows that may touch it
calm_after : (token : Token) (lo hi : ℕ) (xs : List Laid) (last : List ℕ) → is_joint (One token lo hi) ≡ false
    → leaves_next (One token lo hi) xs ≡ false
    → AreWritten (events_of xs) → AreGaps xs → IsGap last → may_follow (One token lo hi) xs ≡ true
    → first_passes (parts_from token) (onto (laid_pieces xs last) []) ≡ false
calm_after token lo hi [] last alone other written gaps end kept =
    out_gap (parts_from token) (white_parts token) last [] end (λ none. refl)
calm_after token lo hi (x ∷ xs) last alone other written gaps end kept =
    out_gap (parts_from token) (white_parts token) x.0 (event_piece x.1 ∷ laid_pieces xs last) gaps.0
    (λ none. ap (λ t. first_passes (parts_from token) (t ++ onto (laid_pieces xs last) [])) (event_is x.1)
    ∙ first_of_front (parts_from token) (event_text x.1) (onto (laid_pieces xs last) []) (event_some x.1 written.0)
    (not_parted (One token lo hi) x.0 x.1 (laid_front xs) none alone other kept))
  where
    by_dot : (goes leaves : Bool) → leaves ≡ false → (goes && not leaves) ≡ false → goes ≡ false
    by_dot false leaves other free = refl
    by_dot true false other free = free
    by_dot true true other free = other

    not_parted : (before : Event) (gap : List ℕ) (next : Event) (later : List ℕ) → gap ≡ []
        → is_joint before ≡ false → (is_dot next && leaves_dot before later) ≡ false
        → may_part before gap next later ≡ true → goes_on before (event_text next) ≡ false
    not_parted before [] next later none alone other kept =
        elim (or_cases (is_joint before) (not (must_part before next later)) kept) [
          | inl joint ↦ absurd (both_ways _ alone joint)
          | inr free ↦ by_dot _ _ other (not-true (must_part before next later) free)
        ]
    not_parted before (c ∷ gap) next later none alone other kept = absurd (cc)

-- the text after a token that no dot may touch does not extend it, if the token is not Joint
calm_apart : (token : Token) (lo hi : ℕ) (xs : List Laid) (last : List ℕ) → is_joint (One token lo hi) ≡ false
    → ((later : List ℕ) → leaves_dot (One token lo hi) later ≡ false)
    → AreWritten (events_of xs) → AreGaps xs → IsGap last → may_follow (One token lo hi) xs ≡ true
    → first_passes (parts_from token) (onto (laid_pieces xs last) []) ≡ false
calm_apart token lo hi xs last alone none =
    calm_after token lo hi xs last alone (leaves_none token lo hi xs none)

-- the text of a dot and of what follows it
dot_text : (e : Event) (ps : List Piece) → is_dot e ≡ true → onto (event_piece e ∷ ps) [] ≡ 46 ∷ onto ps []
dot_text (One (Mark c joint) lo hi) ps dot = ap (λ x. x ∷ onto ps []) (eqb-true c 46 dot)
dot_text (One (Name raw name) lo hi) ps dot = absurd (both_ways false refl dot)
dot_text (One (Literal text) lo hi) ps dot = absurd (both_ways false refl dot)
dot_text (Opens d lo) ps dot = absurd (both_ways false refl dot)
dot_text (Closes d hi) ps dot = absurd (both_ways false refl dot)

-- the first event with its gap is how the whole text begins
front_bars : (xs : List Laid) (last : List ℕ) → first_passes bars_dot (laid_front xs) ≡ true
    → first_passes bars_dot (laid_onto xs last) ≡ true
front_bars [] last bars = absurd (both_ways false refl bars)
front_bars (x ∷ xs) last bars =
    ap (first_passes bars_dot) (sym (append_assoc x.0 (event_text x.1) (laid_onto xs last)))
    ∙ first_more bars_dot (x.0 ++ event_text x.1) (laid_onto xs last) bars

-- the dot is also free before the whole text after it
frees_whole : (text : List ℕ) (xs : List Laid) (last : List ℕ) → frees_dot text (laid_front xs) ≡ true
    → frees_dot text (onto (laid_pieces xs last) []) ≡ true
frees_whole text xs last free = by_digits (is_digits text) free
  where
    by_digits : (digits : Bool)
        → (if digits then first_passes bars_dot (laid_front xs) else not (ends_with 46 text)) ≡ true
        → (if digits then first_passes bars_dot (onto (laid_pieces xs last) []) else not (ends_with 46 text)) ≡ true
    by_digits true bars = ap (first_passes bars_dot) (onto_laid xs last) ∙ front_bars xs last bars
    by_digits false ends = ends

-- a literal is a token before what may follow it
literal_there : (text : List ℕ) (lo hi : ℕ) (xs : List Laid) (last : List ℕ) → IsBuiltToken (Literal text)
    → AreWritten (events_of xs) → AreGaps xs → IsGap last → may_follow (One (Literal text) lo hi) xs ≡ true
    → Stands (Literal text) (onto (laid_pieces xs last) [])
literal_there text lo hi [] last built written gaps end next =
    literal_stands text _ built (calm_after (Literal text) lo hi [] last refl refl written gaps end next)
literal_there text lo hi (x ∷ xs) last built written gaps end next =
    elim (cases_Bool (is_dot x.1 && frees_dot text (laid_front xs))) [
      | inl free ↦
          let both = and_parts (is_dot x.1) (frees_dot text (laid_front xs)) free in
          by_gap x.0 x.1 gaps.0 both.0 both.1
      | inr other ↦
          literal_stands text _ built (calm_after (Literal text) lo hi (x ∷ xs) last refl other written gaps end next)
    ]
  where
    by_gap : (gap : List ℕ) (e : Event) → IsGap gap → is_dot e ≡ true → frees_dot text (laid_front xs) ≡ true
        → Stands (Literal text) (onto (gap_pieces gap (event_piece e ∷ laid_pieces xs last)) [])
    by_gap [] e white dot free =
        dot_stands text (onto (laid_pieces xs last) []) _ built (frees_whole text xs last free)
        (dot_text e (laid_pieces xs last) dot)
    by_gap (c ∷ gap) e white dot free =
        literal_stands text _ built (white_parts (Literal text) c
        (and_parts (is_white c) (list_all is_white gap) white).0)

-- ---- each piece is a piece before what follows it

stand_gaps : (gap : List ℕ) (b : Bool) (ps : List Piece) → IsGap gap → ((c : Bool) → StandBefore c ps [])
    → StandBefore b (gap_pieces gap ps) []
stand_gaps [] b ps white h = h b
stand_gaps (c ∷ gap) b ps white h =
    let both = and_parts (is_white c) (list_all is_white gap) white in
    (inl (c, refl, both.0), stand_gaps gap false ps both.1 h)

-- no comment begins right after `(`
plain_inside : (xs : List Laid) (last : List ℕ) → AreGaps xs → IsGap last
    → StandBefore false (laid_pieces xs last) []
    → begins_any comment_fronts (onto (laid_pieces xs last) []) ≡ false
plain_inside [] last gaps end h =
    no_mark_plain (onto (gap_pieces last []) []) (out_gap is_mark white_no_mark last [] end (λ none. refl))
plain_inside (x ∷ xs) last gaps end h = by_gap x.0 x.1 gaps.0 h
  where
    by_gap : (gap : List ℕ) (e : Event) → IsGap gap
        → StandBefore false (gap_pieces gap (event_piece e ∷ laid_pieces xs last)) []
        → begins_any comment_fronts (onto (gap_pieces gap (event_piece e ∷ laid_pieces xs last)) []) ≡ false
    by_gap (c ∷ gap) e white h =
        no_mark_plain (c ∷ onto (gap_pieces gap (event_piece e ∷ laid_pieces xs last)) [])
        (white_no_mark c (and_parts (is_white c) (list_all is_white gap) white).0)
    by_gap [] (One token lo hi) white h =
        no_comment false (Leaf token) (token_text token) (onto (laid_pieces xs last) []) refl h.0
    by_gap [] (Opens d lo) white h =
        no_comment false (Open (opener_of d)) (opening d) (onto (laid_pieces xs last) []) refl h.0
    by_gap [] (Closes d hi) white h =
        no_comment false (Close (closer_of d)) (closing d) (onto (laid_pieces xs last) []) refl h.0

-- ---- Joint marks

-- an identifier may follow `'` if it is kept apart from what follows it
quote_stands : (e : Event) (xs : List Laid) (last : List ℕ) → AreWritten (events_of xs) → AreGaps xs
    → IsGap last → may_follow e xs ≡ true → follows_quote (next_event (e ∷ events_of xs)) ≡ true
    → IsPiece false (event_piece e).0 (event_piece e).1 (onto (laid_pieces xs last) [])
    → FollowsQuote ((event_piece e).1 ++ onto (laid_pieces xs last) [])
quote_stands (One (Name true name) lo hi) xs last written gaps end kept fit h = record {
  raw = true;
  name = name;
  rest = onto (laid_pieces xs last) [];
  whole = refl;
  named = h.1.0;
  unbarred =
      stops_within (bars_quote true) parts_name (bars_parts true) (onto (laid_pieces xs last) [])
      (calm_apart (Name true name) lo hi xs last refl (λ later. refl) written gaps end kept);
}
quote_stands (One (Name false name) lo hi) xs last written gaps end kept fit h = record {
  raw = false;
  name = name;
  rest = onto (laid_pieces xs last) [];
  whole = refl;
  named = h.1.0;
  unbarred =
      stops_within (bars_quote false) parts_name (bars_parts false) (onto (laid_pieces xs last) [])
      (calm_apart (Name false name) lo hi xs last refl (λ later. refl) written gaps end kept);
}
quote_stands (One (Mark d joint) lo hi) xs last written gaps end kept fit h = absurd (both_ways false refl fit)
quote_stands (One (Literal text) lo hi) xs last written gaps end kept fit h =
    prefixed_follows text (onto (laid_pieces xs last) []) fit
quote_stands (Opens d lo) xs last written gaps end kept fit h = absurd (both_ways false refl fit)
quote_stands (Closes d hi) xs last written gaps end kept fit h = absurd (both_ways false refl fit)

-- each mark but `'` may be Joint before the tokens that fit it
joint_may_stand : (c : ℕ) (e : Event) (xs : List Laid) (last : List ℕ) → is_mark c ≡ true → (c ≡ 39 → ⊥)
    → follows_joint c (next_event (e ∷ events_of xs)) ≡ true
    → IsPiece false (event_piece e).0 (event_piece e).1 (onto (laid_pieces xs last) [])
    → Stands (Mark c true) ((event_piece e).1 ++ onto (laid_pieces xs last) [])
joint_may_stand c (One (Name raw name) lo hi) xs last m other fit h = absurd (both_ways false refl fit)
joint_may_stand c (One (Mark d joint) lo hi) xs last m other fit h =
    joint_stands c false (Leaf (Mark d joint)) (d ∷ []) (onto (laid_pieces xs last) []) m other h refl
    (not-true (begins_any comment_fronts (c ∷ d ∷ [])) fit)
joint_may_stand c (One (Literal text) lo hi) xs last m other fit h =
    joint_stands c false (Leaf (Literal text)) text (onto (laid_pieces xs last) []) m other h fit
    (tick_comment c text (onto (laid_pieces xs last) []) fit)
joint_may_stand c (Opens d lo) xs last m other fit h = absurd (both_ways false refl fit)
joint_may_stand c (Closes d hi) xs last m other fit h = absurd (both_ways false refl fit)

-- a Joint mark is a token before what is laid out after it
joint_fits : (c lo hi : ℕ) (xs : List Laid) (last : List ℕ) → is_mark c ≡ true
    → fits (Mark c true) (next_event (events_of xs)) ≡ true → AreWritten (events_of xs)
    → AreGaps xs → IsGap last → may_follow (One (Mark c true) lo hi) xs ≡ true
    → keeps_apart xs ≡ true → StandBefore false (laid_pieces xs last) []
    → Stands (Mark c true) (onto (laid_pieces xs last) [])
joint_fits c lo hi [] last m fit written gaps end next kept h = absurd (nothing_fits (c == 39) fit)
  where
    nothing_fits : (b : Bool) → (if b then false else false) ≡ true → ⊥
    nothing_fits true e = both_ways false refl e
    nothing_fits false e = both_ways false refl e
joint_fits c lo hi (x ∷ xs) last m fit written gaps end next kept h =
    by_gap x.0 x.1 next fit written (and_parts (may_follow x.1 xs) (keeps_apart xs) kept).0 h
  where
    by_gap : (gap : List ℕ) (e : Event) → may_part (One (Mark c true) lo hi) gap e (laid_front xs) ≡ true
        → fits (Mark c true) (next_event (e ∷ events_of xs)) ≡ true → AreWritten (e ∷ events_of xs)
        → may_follow e xs ≡ true
        → StandBefore false (gap_pieces gap (event_piece e ∷ laid_pieces xs last)) []
        → Stands (Mark c true) (onto (gap_pieces gap (event_piece e ∷ laid_pieces xs last)) [])
    by_gap (d ∷ gap) e may fit written follow h = absurd (both_ways false refl may)
    by_gap [] e may fit written follow h = elim (cases_Bool (c == 39)) [
      | inl same ↦
          subst (λ x. Stands (Mark x true) (onto (event_piece e ∷ laid_pieces xs last) [])) (sym (eqb-true c 39 same))
          (tick_stands (onto (event_piece e ∷ laid_pieces xs last) [])
          (quote_stands e xs last written.1 gaps.1 end follow (sym (cond-true (c == 39) _ _ same) ∙ fit) h.0))
      | inr other ↦
          joint_may_stand c e xs last m (eqb-false c 39 other) (sym (cond-false (c == 39) _ _ other) ∙ fit) h.0
    ]

-- ---- all pieces

stand_event : (b : Bool) (e : Event) (xs : List Laid) (last : List ℕ) → AreWritten (e ∷ events_of xs)
    → AreGaps xs → IsGap last → events_fit (e ∷ events_of xs) ≡ true
    → may_follow e xs ≡ true → keeps_apart xs ≡ true → StandBefore false (laid_pieces xs last) []
    → IsPiece b (event_piece e).0 (event_piece e).1 (onto (laid_pieces xs last) [])
stand_event b (One (Name raw name) lo hi) xs last written gaps end w next kept h = (
  refl,
  name_stands raw name _ written.0
      (calm_apart (Name raw name) lo hi xs last refl (λ later. refl) written.1 gaps end next),
)
stand_event b (One (Mark c false) lo hi) xs last written gaps end w next kept h =
    let fit = (and_parts (fits (Mark c false) (next_event (events_of xs))) (events_fit (events_of xs)) w).0 in (
      refl,
      alone_stands c _ written.0 (eqb-false c 39 (not-true (c == 39) fit))
          (calm_apart (Mark c false) lo hi xs last refl (λ later. refl) written.1 gaps end next),
    )
stand_event b (One (Mark c true) lo hi) xs last written gaps end w next kept h =
    let fit = (and_parts (fits (Mark c true) (next_event (events_of xs))) (events_fit (events_of xs)) w).0 in
    (refl, joint_fits c lo hi xs last written.0 fit written.1 gaps end next kept h)
stand_event b (One (Literal text) lo hi) xs last written gaps end w next kept h =
    (refl, literal_there text lo hi xs last written.0 written.1 gaps end next)
stand_event b (Opens d lo) xs last written gaps end w next kept h =
    stand_open d b (onto (laid_pieces xs last) []) written.0 (λ round. plain_inside xs last gaps end h)
stand_event b (Closes d hi) xs last written gaps end w next kept h =
    stand_close d b (onto (laid_pieces xs last) []) written.0

later_spaced : (e : Event) (es : List Event) → events_fit (e ∷ es) ≡ true → events_fit es ≡ true
later_spaced (One token lo hi) es w = (and_parts (fits token (next_event es)) (events_fit es) w).1
later_spaced (Opens d lo) es w = (and_parts (is_shown d) (events_fit es) w).1
later_spaced (Closes d hi) es w = w

pub stand_laid : (b : Bool) (xs : List Laid) (last : List ℕ) → AreWritten (events_of xs)
    → AreGaps xs → IsGap last → events_fit (events_of xs) ≡ true → keeps_apart xs ≡ true
    → StandBefore b (laid_pieces xs last) []
stand_laid b [] last written gaps end w kept = stand_gaps last b [] end (λ c. tt)
stand_laid b (x ∷ xs) last written gaps end w kept =
    let apart = and_parts (may_follow x.1 xs) (keeps_apart xs) kept in
    let more : StandBefore false (laid_pieces xs last) [] =
    stand_laid false xs last written.1 gaps.1 end (later_spaced x.1 (events_of xs) w) apart.1 in
    stand_gaps x.0 b (event_piece x.1 ∷ laid_pieces xs last) gaps.0
    (λ c. (stand_event c x.1 xs last written gaps.1 end w apart.0 apart.1 more, more))

-- ---- the tokens that the pieces mean

events_of_gaps : (gap : List ℕ) (ps : List Piece) → piece_events (gap_pieces gap ps) ≡ piece_events ps
events_of_gaps [] ps = refl
events_of_gaps (c ∷ gap) ps = events_of_gaps gap ps

pub events_of_laid : (xs : List Laid) (last : List ℕ) → AreWritten (events_of xs)
    → piece_events (laid_pieces xs last) ≡ bare (events_of xs)
events_of_laid [] last written = events_of_gaps last []
events_of_laid (x ∷ xs) last written =
    events_of_gaps x.0 (event_piece x.1 ∷ laid_pieces xs last)
    ∙ events_of_event x.1 (laid_pieces xs last) (events_of xs) written.0 (events_of_laid xs last written.1)
  where
    events_of_event : (e : Event) (ps : List Piece) (es : List Event) → IsWritten e → piece_events ps ≡ bare es
        → piece_events (event_piece e ∷ ps) ≡ bare (e ∷ es)
    events_of_event (One token lo hi) ps es written h = ap (λ x. One token 0 0 ∷ x) h
    events_of_event (Opens d lo) ps es written h = events_of_open d ps written ∙ ap (λ x. Opens d 0 ∷ x) h
    events_of_event (Closes d hi) ps es written h = events_of_close d ps written ∙ ap (λ x. Closes d 0 ∷ x) h

-- ---- the law

pub layout_returns : (base : ℕ) (stream : Forest) (text : List ℕ) → IsBuilt stream → IsWellSpaced stream
    → IsLayout stream text → Gives base text stream
layout_returns base stream text built w layout =
    let written : AreWritten (events_of layout.laid) =
    subst (AreWritten) (sym layout.events) (written_flat stream [] built w tt) in
    let fit : events_fit (events_of layout.laid) ≡ true =
    ap events_fit layout.events ∙ (events_fit-flat stream [] refl ∙ and_from (well_spaced stream) true w refl) in
    let ps = laid_pieces layout.laid layout.last in
    let x = same_from_events base stream ps (events_of_laid layout.laid layout.last written ∙ ap bare layout.events) in
    let covers : IsCover ps text = record {
      whole = layout.whole ∙ sym (onto_laid layout.laid layout.last);
      stand = stand_laid true layout.laid layout.last written layout.gaps layout.end fit layout.apart;
    } in
    record { parsed = x.0; parses = record { pieces = ps; covers = covers; expands = x.1 }; same = x.2 }
