-- Events without their spans, and streams with the spans of other events.
use Rattle.std.proofs.Common.{◌≡◌, ℕ, ◌+◌, true, false, List, [], ◌∷◌, ◌++◌, length, refl, sym, ap, ap₂, ◌∙◌}
use Rattle.lexical.specs.Token.{Token}
use Rattle.lexical.specs.Piece.{Kind, Piece, FrontMark, Gap, Doc, Open, Close, Leaf}
use Rattle.pm_token.specs.declared.delimiters.Delimiter.{Delimiter}
use Rattle.pm_stream.specs.Delimited.{delimiter_of}
use Rattle.pm_stream.specs.Events.{Event, One, Opens, Closes, doc_onto, events_onto, expansion}
use Rattle.pm_stream.specs.Forest.{Forest, nil, leaf, group, flat_onto, flattening}
use Rattle.pm_stream.specs.Parsing.{ParsesTo}
use Rattle.pm_stream.specs.Same.{without_spans, Same}

-- ---- events without spans

abbrev pub bare : List Event → List Event
bare [] = []
bare (One token lo hi ∷ es) = One token 0 0 ∷ bare es
bare (Opens d lo ∷ es) = Opens d 0 ∷ bare es
bare (Closes d hi ∷ es) = Closes d 0 ∷ bare es

-- the events of the pieces, without spans
abbrev pub piece_event_onto : Kind → List Event → List Event
piece_event_onto FrontMark es = es
piece_event_onto Gap es = es
piece_event_onto (Doc inner text) es = doc_onto 0 0 inner text es
piece_event_onto (Open c) es = Opens (delimiter_of c) 0 ∷ es
piece_event_onto (Close c) es = Closes (delimiter_of c) 0 ∷ es
piece_event_onto (Leaf token) es = One token 0 0 ∷ es

abbrev pub piece_events : List Piece → List Event
piece_events [] = []
piece_events (x ∷ ps) = piece_event_onto x.0 (piece_events ps)

bare_onto : (at : ℕ) (k : Kind) (p : List ℕ) (es : List Event)
    → bare (events_onto at k p es) ≡ piece_event_onto k (bare es)
bare_onto at FrontMark p es = refl
bare_onto at Gap p es = refl
bare_onto at (Doc true text) p es = refl
bare_onto at (Doc false text) p es = refl
bare_onto at (Open c) p es = refl
bare_onto at (Close c) p es = refl
bare_onto at (Leaf token) p es = refl

pub bare-expansion : (at : ℕ) (ps : List Piece) → bare (expansion at ps) ≡ piece_events ps
bare-expansion at [] = refl
bare-expansion at (x ∷ ps) =
    bare_onto at x.0 x.1 (expansion (at + length x.1) ps)
    ∙ ap (piece_event_onto x.0) (bare-expansion (at + length x.1) ps)

pub bare-append : (es fs : List Event) → bare (es ++ fs) ≡ bare es ++ bare fs
bare-append [] fs = refl
bare-append (One token lo hi ∷ es) fs = ap (λ xs. One token 0 0 ∷ xs) (bare-append es fs)
bare-append (Opens d lo ∷ es) fs = ap (λ xs. Opens d 0 ∷ xs) (bare-append es fs)
bare-append (Closes d hi ∷ es) fs = ap (λ xs. Closes d 0 ∷ xs) (bare-append es fs)

piece_event_onto-append : (k : Kind) (es fs : List Event) → piece_event_onto k (es ++ fs) ≡ piece_event_onto k es ++ fs
piece_event_onto-append FrontMark es fs = refl
piece_event_onto-append Gap es fs = refl
piece_event_onto-append (Doc true text) es fs = refl
piece_event_onto-append (Doc false text) es fs = refl
piece_event_onto-append (Open c) es fs = refl
piece_event_onto-append (Close c) es fs = refl
piece_event_onto-append (Leaf token) es fs = refl

pub piece_events-append : (us vs : List Piece) → piece_events (us ++ vs) ≡ piece_events us ++ piece_events vs
piece_events-append [] vs = refl
piece_events-append (x ∷ us) vs =
    ap (piece_event_onto x.0) (piece_events-append us vs)
    ∙ piece_event_onto-append x.0 (piece_events us) (piece_events vs)

-- ---- a stream with the spans of other events

one_like : (es : List Event) (t : Token) (fs : List Event) → bare es ≡ One t 0 0 ∷ fs
    → (lo hi : ℕ) × (more : List Event) × (es ≡ One t lo hi ∷ more) × (bare more ≡ fs)
one_like [] t fs h = absurd (cc)
one_like (One u lo hi ∷ es) t fs h = (lo, hi, es, (let e : u ≡ t = cc in ap (λ x. One x lo hi ∷ es) e), cc)
one_like (Opens d lo ∷ es) t fs h = absurd (cc)
one_like (Closes d hi ∷ es) t fs h = absurd (cc)

opens_like : (es : List Event) (d : Delimiter) (fs : List Event) → bare es ≡ Opens d 0 ∷ fs
    → (lo : ℕ) × (more : List Event) × (es ≡ Opens d lo ∷ more) × (bare more ≡ fs)
opens_like [] d fs h = absurd (cc)
opens_like (One u lo hi ∷ es) d fs h = absurd (cc)
opens_like (Opens c lo ∷ es) d fs h = (lo, es, (let e : c ≡ d = cc in ap (λ x. Opens x lo ∷ es) e), cc)
opens_like (Closes c hi ∷ es) d fs h = absurd (cc)

closes_like : (es : List Event) (d : Delimiter) (fs : List Event) → bare es ≡ Closes d 0 ∷ fs
    → (hi : ℕ) × (more : List Event) × (es ≡ Closes d hi ∷ more) × (bare more ≡ fs)
closes_like [] d fs h = absurd (cc)
closes_like (One u lo hi ∷ es) d fs h = absurd (cc)
closes_like (Opens c lo ∷ es) d fs h = absurd (cc)
closes_like (Closes c hi ∷ es) d fs h = (hi, es, (let e : c ≡ d = cc in ap (λ x. Closes x hi ∷ es) e), cc)

group_flat : (d : Delimiter) (lo hi : ℕ) (f k : Forest) (es inside rest more ms : List Event) → es ≡ Opens d lo ∷ inside
    → inside ≡ flat_onto f rest → rest ≡ Closes d hi ∷ more → more ≡ flat_onto k ms
    → es ≡ flat_onto (group d lo hi f k) ms
group_flat d lo hi f k es inside rest more ms opens deep closes later =
    opens ∙ ap (λ xs. Opens d lo ∷ xs) (deep ∙ ap (flat_onto f) (closes ∙ ap (λ xs. Closes d hi ∷ xs) later))

place_events : (f : Forest) (es ks : List Event) → bare es ≡ bare (flat_onto f ks)
    → (t : Forest) × (ms : List Event) × (es ≡ flat_onto t ms) × (bare ms ≡ bare ks)
    × (without_spans t ≡ without_spans f)
place_events nil es ks h = (nil, es, refl, h, refl)
place_events (leaf t lo hi f) es ks h =
    let x = one_like es t (bare (flat_onto f ks)) h in
    let y = place_events f x.2 ks x.4 in
    (leaf t x.0 x.1 y.0, y.1, x.3 ∙ ap (λ xs. One t x.0 x.1 ∷ xs) y.2, y.3, ap (leaf t 0 0) y.4)
place_events (group d lo hi f k) es ks h =
    let x = opens_like es d (bare (flat_onto f (Closes d hi ∷ flat_onto k ks))) h in
    let y = place_events f x.1 (Closes d hi ∷ flat_onto k ks) x.3 in
    let z = closes_like y.1 d (bare (flat_onto k ks)) y.3 in
    let w = place_events k z.1 ks z.3 in (
      group d x.0 z.0 y.0 w.0,
      w.1,
      group_flat d x.0 z.0 y.0 w.0 es x.1 y.1 z.1 w.1 x.2 y.2 z.2 w.2,
      w.3,
      ap₂ (group d 0 0) y.4 w.4,
    )

none_like : (es : List Event) → bare es ≡ [] → es ≡ []
none_like [] h = refl
none_like (One u lo hi ∷ es) h = absurd (cc)
none_like (Opens c lo ∷ es) h = absurd (cc)
none_like (Closes c hi ∷ es) h = absurd (cc)

-- if pieces have the events of a stream, up to spans, they are the pieces of a stream that is the same
pub same_from_events : (base : ℕ) (s : Forest) (ps : List Piece) → piece_events ps ≡ bare (flattening s)
    → (t : Forest) × (flattening t ≡ expansion base ps) × Same s t
same_from_events base s ps h =
    let x = place_events s (expansion base ps) [] (bare-expansion base ps ∙ h) in
    (x.0, ap (flat_onto x.0) (sym (none_like x.1 x.3)) ∙ sym x.2, sym x.4)

-- the events of a parsed stream, without spans, are those of its pieces
pub events_of_parsed : (base : ℕ) (source : List ℕ) (s : Forest) (h : ParsesTo base source s)
    → piece_events h.pieces ≡ bare (flattening s)
events_of_parsed base source s h = sym (bare-expansion base h.pieces) ∙ ap bare (sym h.expands)
