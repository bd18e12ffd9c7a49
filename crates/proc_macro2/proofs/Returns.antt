-- Printed streams come back.
use Rattle.std.specs.Prelude.{if◌then◌else◌}
use Rattle.std.proofs.Common.{◌≡◌, ℕ, Bool, true, false, ◌&&◌, ◌||◌, ◌==◌, List, [], ◌∷◌, ◌++◌, Option, Some, refl, sym}
use Rattle.std.proofs.Common.{ap, ap₂, ◌∙◌, subst, inl, inr, append-nil}
use Rattle.std.proofs.Common.{None as Nothing}
use Rattle.std.proofs.lemmas.Bool.{both_ways, cond-true, cond-false, and_parts, and_from, eq-eqb, not_from_false}
use Rattle.lexical.specs.Text.{begins_any}
use Rattle.lexical.specs.Token.{Token, Name, Mark, Literal, token_text}
use Rattle.lexical.specs.Mark.{comment_fronts}
use Rattle.lexical.specs.Piece.{Kind, Piece, FrontMark, Gap, Doc, Open, Close, Leaf, Stands, IsPiece}
use Rattle.lexical.specs.Cover.{onto, StandBefore, IsCover}
use Rattle.lexical.proofs.PieceFacts.{mark_is}
use Rattle.grammar_laws.proofs.LeafLaws.{follows_something}
use Rattle.pm_token.specs.declared.delimiters.Delimiter.TheVariants.{Parenthesis, Brace, Bracket}
use Rattle.pm_stream.specs.Delimited.{opening, closing, is_brace, delimiter_of}
use Rattle.pm_stream.specs.Events.{Event, One, Opens, Closes}
use Rattle.pm_stream.specs.Forest.{Forest, nil, leaf, group, flat_onto, flattening, IsBuilt}
use Rattle.pm_stream.specs.Parsing.{ParsesTo}
use Rattle.pm_stream.specs.Printed.{parts, space, printed_after, printed}
use Rattle.pm_stream.specs.Same.{without_spans, Same}
use Rattle.pm_stream.specs.Shown.{is_shown}
use Rattle.pm_stream.specs.WellSpaced.{follows_quote, follows_joint, fits, next_token, well_spaced, IsWellSpaced}
use Rattle.pm_stream.proofs.LawLemmas.{one_parse}
use Rattle.proc_macro2.specs.Laws.{Gives}
use Rattle.proc_macro2.proofs.EventSpans.{bare, bare-expansion, piece_events, piece_event_onto, same_from_events}
use Rattle.proc_macro2.proofs.PieceStarts.{joins, quotes, joint_by, quoted_by}
use Rattle.proc_macro2.proofs.PrintedCover.{pieces_onto, onto_printed, stand_printed, events_of_printed}

-- ---- the printed text of a well spaced stream

pub comes_back : (base : ℕ) (s : Forest) → IsBuilt s → IsWellSpaced s → Gives base (printed s) s
comes_back base s built w =
    let ps = pieces_onto false s [] in
    let x = same_from_events base s ps (events_of_printed false s [] [] w refl) in
    let covers : IsCover ps (printed s) = record {
      whole = sym (onto_printed false s [] [] ∙ append-nil (printed s));
      stand = stand_printed false true s [] [] built w refl (λ c. tt);
    } in
    record { parsed = x.0; parses = record { pieces = ps; covers = covers; expands = x.1 }; same = x.2 }

-- ---- what parses is well spaced

abbrev pub next_event : List Event → Option Token
next_event [] = Nothing
next_event (One t lo hi ∷ es) = Some t
next_event (Opens d lo ∷ es) = Nothing
next_event (Closes d hi ∷ es) = Nothing

abbrev pub events_fit : List Event → Bool
events_fit [] = true
events_fit (One t lo hi ∷ es) = fits t (next_event es) && events_fit es
events_fit (Opens d lo ∷ es) = is_shown d && events_fit es
events_fit (Closes d hi ∷ es) = events_fit es

next-bare : (es : List Event) → next_event (bare es) ≡ next_event es
next-bare [] = refl
next-bare (One t lo hi ∷ es) = refl
next-bare (Opens d lo ∷ es) = refl
next-bare (Closes d hi ∷ es) = refl

events_fit-bare : (es : List Event) → events_fit (bare es) ≡ events_fit es
events_fit-bare [] = refl
events_fit-bare (One t lo hi ∷ es) = ap₂ (λ n b. fits t n && b) (next-bare es) (events_fit-bare es)
events_fit-bare (Opens d lo ∷ es) = ap (λ b. is_shown d && b) (events_fit-bare es)
events_fit-bare (Closes d hi ∷ es) = events_fit-bare es

next-flat : (f : Forest) (es : List Event) → next_event es ≡ Nothing → next_event (flat_onto f es) ≡ next_token f
next-flat nil es h = h
next-flat (leaf t lo hi f) es h = refl
next-flat (group d lo hi f k) es h = refl

and_assoc : (a b c : Bool) → (a && (b && c)) ≡ ((a && b) && c)
and_assoc true b c = refl
and_assoc false b c = refl

pub events_fit-flat : (f : Forest) (es : List Event) → next_event es ≡ Nothing
    → events_fit (flat_onto f es) ≡ (well_spaced f && events_fit es)
events_fit-flat nil es h = refl
events_fit-flat (leaf t lo hi f) es h =
    ap₂ (λ n b. fits t n && b) (next-flat f es h) (events_fit-flat f es h)
    ∙ and_assoc (fits t (next_token f)) (well_spaced f) (events_fit es)
events_fit-flat (group d lo hi f k) es h =
    ap (λ b. is_shown d && b)
    (events_fit-flat f (Closes d hi ∷ flat_onto k es) refl
    ∙ (ap (λ b. well_spaced f && b) (events_fit-flat k es h)
    ∙ and_assoc (well_spaced f) (well_spaced k) (events_fit es)))
    ∙ and_assoc (is_shown d) (well_spaced f && well_spaced k) (events_fit es)

-- a piece that a mark joins begins with a token that may follow the mark
joint_next : (c : ℕ) (k : Kind) (p r : List ℕ) (es : List Event) → IsPiece false k p r → joins k ≡ true
    → begins_any comment_fronts (c ∷ (p ++ r)) ≡ false → follows_joint c (next_event (piece_event_onto k es)) ≡ true
joint_next c FrontMark p r es h j plain = absurd (both_ways false refl j)
joint_next c Gap p r es h j plain = absurd (both_ways false refl j)
joint_next c (Doc inner text) p r es h j plain = absurd (both_ways false refl j)
joint_next c (Open d) p r es h j plain = j
joint_next c (Close d) p r es h j plain = j
joint_next c (Leaf (Name raw name)) p r es h j plain = j
joint_next c (Leaf (Mark d joint)) p r es h j plain =
    not_from_false (begins_any comment_fronts (c ∷ d ∷ []))
    (ap (λ x. begins_any comment_fronts (c ∷ (x ++ r))) (sym h.0) ∙ plain)
joint_next c (Leaf (Literal text)) p r es h j plain = j

quote_next : (k : Kind) (es : List Event) → quotes k ≡ true → follows_quote (next_event (piece_event_onto k es)) ≡ true
quote_next FrontMark es h = absurd (both_ways false refl h)
quote_next Gap es h = absurd (both_ways false refl h)
quote_next (Doc inner text) es h = absurd (both_ways false refl h)
quote_next (Open d) es h = h
quote_next (Close d) es h = h
quote_next (Leaf (Name raw name)) es h = h
quote_next (Leaf (Mark d joint)) es h = h
quote_next (Leaf (Literal text)) es h = h

fits_next : (t : Token) (ps : List Piece) → Stands t (onto ps []) → StandBefore false ps []
    → fits t (next_event (piece_events ps)) ≡ true
fits_next (Name raw name) ps h s = refl
fits_next (Literal text) ps h s = refl
fits_next (Mark c false) ps (inl h) s = not_from_false (c == 39) (mark_is c (onto ps []) h.0).1
fits_next (Mark c false) ps (inr h) s = absurd (both_ways false refl h.1)
fits_next (Mark c true) [] (inl h) s = absurd (both_ways false refl (sym h.1))
fits_next (Mark c true) [] (inr h) s = absurd (follows_something h.0.1)
fits_next (Mark c true) (x ∷ ps) (inl h) s =
    cond-false (c == 39) _ _ (mark_is c (onto (x ∷ ps) []) h.0).1
    ∙ joint_next c x.0 x.1 (onto ps []) (piece_events ps) s.0 (sym (h.1 ∙ joint_by false x.0 x.1 (onto ps []) s.0))
    h.0.1
fits_next (Mark c true) (x ∷ ps) (inr h) s =
    let is : c ≡ 39 = cc in
    cond-true (c == 39) _ _ (eq-eqb c 39 is)
    ∙ quote_next x.0 (piece_events ps) (quoted_by false x.0 x.1 (onto ps []) s.0 h.0.1)

-- the delimiter of a character is written
shown_of : (c : ℕ) → is_shown (delimiter_of c) ≡ true
shown_of c = shown ((c == 40) || (c == 41)) ((c == 123) || (c == 125))
  where
    shown : (round curly : Bool) → is_shown (if round then Parenthesis else (if curly then Brace else Bracket)) ≡ true
    shown true curly = refl
    shown false true = refl
    shown false false = refl

spaced_events : (b : Bool) (ps : List Piece) → StandBefore b ps [] → events_fit (piece_events ps) ≡ true
spaced_events b [] h = refl
spaced_events b ((FrontMark, p) ∷ ps) h = spaced_events false ps h.1
spaced_events b ((Gap, p) ∷ ps) h = spaced_events false ps h.1
spaced_events b ((Doc true text, p) ∷ ps) h = spaced_events false ps h.1
spaced_events b ((Doc false text, p) ∷ ps) h = spaced_events false ps h.1
spaced_events b ((Open c, p) ∷ ps) h =
    and_from (is_shown (delimiter_of c)) (events_fit (piece_events ps)) (shown_of c) (spaced_events false ps h.1)
spaced_events b ((Close c, p) ∷ ps) h = spaced_events false ps h.1
spaced_events b ((Leaf t, p) ∷ ps) h =
    and_from (fits t (next_event (piece_events ps))) (events_fit (piece_events ps)) (fits_next t ps h.0.1 h.1)
    (spaced_events false ps h.1)

pub parsed_spaced : (base : ℕ) (source : List ℕ) (t : Forest) → ParsesTo base source t → IsWellSpaced t
parsed_spaced base source t h =
    (and_parts (well_spaced t) true
    (sym (events_fit-flat t [] refl) ∙ (sym (events_fit-bare (flattening t))
    ∙ (ap (λ es. events_fit (bare es)) h.expands
    ∙ (ap events_fit (bare-expansion base h.pieces) ∙ spaced_events true h.pieces h.covers.stand))))).0

-- ---- streams that are the same

next-erased : (f : Forest) → next_token (without_spans f) ≡ next_token f
next-erased nil = refl
next-erased (leaf t lo hi f) = refl
next-erased (group d lo hi f k) = refl

events_fit-erased : (f : Forest) → well_spaced (without_spans f) ≡ well_spaced f
events_fit-erased nil = refl
events_fit-erased (leaf t lo hi f) = ap₂ (λ n b. fits t n && b) (next-erased f) (events_fit-erased f)
events_fit-erased (group d lo hi f k) = ap₂ (λ a b. is_shown d && (a && b)) (events_fit-erased f) (events_fit-erased k)

printed-erased : (gap : Bool) (f : Forest) → printed_after gap (without_spans f) ≡ printed_after gap f
printed-erased gap nil = refl
printed-erased gap (leaf t lo hi f) = ap (λ x. space gap ++ (token_text t ++ x)) (printed-erased (parts t) f)
printed-erased gap (group d lo hi f k) =
    ap₂ (λ x y. space gap ++ (opening d ++ (x ++ (space (is_brace d) ++ (closing d ++ y)))))
    (printed-erased (is_brace d) f) (printed-erased true k)

same_spaced : (s t : Forest) → Same s t → IsWellSpaced t → IsWellSpaced s
same_spaced s t e h = sym (events_fit-erased s) ∙ (ap well_spaced e ∙ (events_fit-erased t ∙ h))

pub same_printed : (s t : Forest) → Same s t → printed s ≡ printed t
same_printed s t e = sym (printed-erased false s) ∙ (ap printed e ∙ printed-erased false t)

-- ---- one text for the same tokens

pub one_text : (s t : Forest) → IsBuilt s → IsBuilt t → IsWellSpaced s → IsWellSpaced t → printed s ≡ printed t
    → Same s t
one_text s t bs bt ws wt e =
    let x = comes_back 0 s bs ws in
    let y = comes_back 0 t bt wt in
    let parses = subst (λ text. ParsesTo 0 text x.parsed) e x.parses in
    x.same ∙ (ap without_spans (one_parse 0 (printed t) x.parsed y.parsed parses y.parses) ∙ sym y.same)

-- a stream that a source gives is well spaced
pub given_spaced : (base : ℕ) (source : List ℕ) (s : Forest) → Gives base source s → IsWellSpaced s
given_spaced base source s h = same_spaced s h.parsed h.same (parsed_spaced base source h.parsed h.parses)
