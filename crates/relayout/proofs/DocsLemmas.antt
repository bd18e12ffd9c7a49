-- Streams whose doc literals are spelled in another way.
use Rattle.std.proofs.Common.{◌≡◌, ℕ, List, [], ◌∷◌, refl, sym, ap, ◌∙◌, subst, true, false}
use Rattle.lexical.specs.Cover.{IsCover}
use Rattle.lexical.specs.Piece.{Kind, Piece, FrontMark, Gap, Doc, Open, Close, Leaf}
use Rattle.lexical.specs.Token.{Token}
use Rattle.pm_token.specs.declared.delimiters.Delimiter.{Delimiter}
use Rattle.pm_token.specs.declared.delimiters.Delimiter.TheVariants.{Bracket}
use Rattle.pm_stream.specs.Events.{Event, One, Opens, Closes, expansion, hash}
use Rattle.pm_stream.specs.Forest.{Forest, nil, leaf, group, flat_onto, flattening}
use Rattle.pm_stream.specs.Same.{without_spans}
use Rattle.proc_macro2.proofs.EventSpans.{bare, bare-expansion, piece_events, piece_event_onto}
use Rattle.relayout.specs.Docs.{AreAlike, Both, Equal, GivesDocs, Spelled}

-- ---- the shape of events

-- the event without its token and its span
abbrev shape : Event → Event
shape (One token lo hi) = One hash 0 0
shape (Opens d lo) = Opens d 0
shape (Closes d hi) = Closes d 0

abbrev shapes : List Event → List Event
shapes [] = []
shapes (e ∷ es) = shape e ∷ shapes es

shapes-bare : (es : List Event) → shapes (bare es) ≡ shapes es
shapes-bare [] = refl
shapes-bare (One token lo hi ∷ es) = ap (λ xs. One hash 0 0 ∷ xs) (shapes-bare es)
shapes-bare (Opens d lo ∷ es) = ap (λ xs. Opens d 0 ∷ xs) (shapes-bare es)
shapes-bare (Closes d hi ∷ es) = ap (λ xs. Closes d 0 ∷ xs) (shapes-bare es)

alike_shapes : {es fs : List Event} → AreAlike es fs → shapes es ≡ shapes fs
alike_shapes Both = refl
alike_shapes (Equal event alike) = ap (λ xs. shape event ∷ xs) (alike_shapes alike)
alike_shapes (Spelled true one other value is also alike) = ap (λ xs. One hash 0 0 ∷ One hash 0 0 ∷ Opens Bracket 0
    ∷ One hash 0 0 ∷ One hash 0 0 ∷ One hash 0 0 ∷ Closes Bracket 0 ∷ xs) (alike_shapes alike)
alike_shapes (Spelled false one other value is also alike) = ap (λ xs. One hash 0 0 ∷ Opens Bracket 0
    ∷ One hash 0 0 ∷ One hash 0 0 ∷ One hash 0 0 ∷ Closes Bracket 0 ∷ xs) (alike_shapes alike)

-- events stay alike before the events of one more piece
pub onto_alike : (k : Kind) {es fs : List Event} → AreAlike es fs
    → AreAlike (piece_event_onto k es) (piece_event_onto k fs)
onto_alike FrontMark alike = alike
onto_alike Gap alike = alike
onto_alike (Doc true text) alike =
    Equal _ (Equal _ (Equal _ (Equal _ (Equal _ (Equal _ (Equal _ alike))))))
onto_alike (Doc false text) alike = Equal _ (Equal _ (Equal _ (Equal _ (Equal _ (Equal _ alike)))))
onto_alike (Open c) alike = Equal _ alike
onto_alike (Close c) alike = Equal _ alike
onto_alike (Leaf token) alike = Equal _ alike

-- ---- a stream with other events of the same shape

one_shaped : (es fs : List Event) → shapes es ≡ One hash 0 0 ∷ fs
    → (t : Token) × (lo hi : ℕ) × (more : List Event) × (es ≡ One t lo hi ∷ more) × (shapes more ≡ fs)
one_shaped [] fs h = absurd (cc)
one_shaped (One t lo hi ∷ es) fs h = (t, lo, hi, es, refl, cc)
one_shaped (Opens d lo ∷ es) fs h = absurd (cc)
one_shaped (Closes d hi ∷ es) fs h = absurd (cc)

opens_shaped : (es : List Event) (d : Delimiter) (fs : List Event) → shapes es ≡ Opens d 0 ∷ fs
    → (lo : ℕ) × (more : List Event) × (es ≡ Opens d lo ∷ more) × (shapes more ≡ fs)
opens_shaped [] d fs h = absurd (cc)
opens_shaped (One u lo hi ∷ es) d fs h = absurd (cc)
opens_shaped (Opens c lo ∷ es) d fs h = (lo, es, (let e : c ≡ d = cc in ap (λ x. Opens x lo ∷ es) e), cc)
opens_shaped (Closes c hi ∷ es) d fs h = absurd (cc)

closes_shaped : (es : List Event) (d : Delimiter) (fs : List Event) → shapes es ≡ Closes d 0 ∷ fs
    → (hi : ℕ) × (more : List Event) × (es ≡ Closes d hi ∷ more) × (shapes more ≡ fs)
closes_shaped [] d fs h = absurd (cc)
closes_shaped (One u lo hi ∷ es) d fs h = absurd (cc)
closes_shaped (Opens c lo ∷ es) d fs h = absurd (cc)
closes_shaped (Closes c hi ∷ es) d fs h = (hi, es, (let e : c ≡ d = cc in ap (λ x. Closes x hi ∷ es) e), cc)

group_flat : (d : Delimiter) (lo hi : ℕ) (f k : Forest) (es inside rest more ms : List Event) → es ≡ Opens d lo ∷ inside
    → inside ≡ flat_onto f rest → rest ≡ Closes d hi ∷ more → more ≡ flat_onto k ms
    → es ≡ flat_onto (group d lo hi f k) ms
group_flat d lo hi f k es inside rest more ms opens deep closes later =
    opens ∙ ap (λ xs. Opens d lo ∷ xs) (deep ∙ ap (flat_onto f) (closes ∙ ap (λ xs. Closes d hi ∷ xs) later))

with_shapes : (f : Forest) (es ks : List Event) → shapes es ≡ shapes (flat_onto f ks)
    → (t : Forest) × (ms : List Event) × (es ≡ flat_onto t ms) × (shapes ms ≡ shapes ks)
with_shapes nil es ks h = (nil, es, refl, h)
with_shapes (leaf t lo hi f) es ks h =
    let x = one_shaped es (shapes (flat_onto f ks)) h in
    let y = with_shapes f x.3 ks x.5 in
    (leaf x.0 x.1 x.2 y.0, y.1, x.4 ∙ ap (λ xs. One x.0 x.1 x.2 ∷ xs) y.2, y.3)
with_shapes (group d lo hi f k) es ks h =
    let x = opens_shaped es d (shapes (flat_onto f (Closes d hi ∷ flat_onto k ks))) h in
    let y = with_shapes f x.1 (Closes d hi ∷ flat_onto k ks) x.3 in
    let z = closes_shaped y.1 d (shapes (flat_onto k ks)) y.3 in
    let w = with_shapes k z.1 ks z.3 in
    (group d x.0 z.0 y.0 w.0, w.1, group_flat d x.0 z.0 y.0 w.0 es x.1 y.1 z.1 w.1 x.2 y.2 z.2 w.2, w.3)

no_shapes : (es : List Event) → shapes es ≡ [] → es ≡ []
no_shapes [] h = refl
no_shapes (e ∷ es) h = absurd (cc)

-- ---- what a text with such events gives

bare-flat : (f : Forest) (es : List Event) → bare (flat_onto f es) ≡ flat_onto (without_spans f) (bare es)
bare-flat nil es = refl
bare-flat (leaf t lo hi f) es = ap (λ xs. One t 0 0 ∷ xs) (bare-flat f es)
bare-flat (group d lo hi f k) es =
    ap (λ xs. Opens d 0 ∷ xs)
    (bare-flat f (Closes d hi ∷ flat_onto k es)
    ∙ ap (λ xs. flat_onto (without_spans f) (Closes d 0 ∷ xs)) (bare-flat k es))

-- if the events of a text's pieces are like those of a stream, the text parses to a stream that is the same but for the
-- spelling of doc literals
pub alike_gives : (base : ℕ) (text : List ℕ) (stream : Forest) (ps : List Piece) → IsCover ps text
    → AreAlike (bare (flattening stream)) (piece_events ps) → GivesDocs base text stream
alike_gives base text stream ps covers alike =
    let like : shapes (expansion base ps) ≡ shapes (flattening stream) =
    sym (shapes-bare (expansion base ps)) ∙ (ap shapes (bare-expansion base ps)
    ∙ (sym (alike_shapes alike) ∙ shapes-bare (flattening stream))) in
    let x = with_shapes stream (expansion base ps) [] like in
    let flat : flattening x.0 ≡ expansion base ps = ap (flat_onto x.0) (sym (no_shapes x.1 x.3)) ∙ sym x.2 in
    let means : piece_events ps ≡ flattening (without_spans x.0) =
    sym (bare-expansion base ps) ∙ (ap bare (sym flat) ∙ bare-flat x.0 []) in
    record {
      parsed = x.0;
      parses = record { pieces = ps; covers = covers; expands = flat };
      same = subst (λ es. AreAlike es (flattening (without_spans x.0))) (bare-flat stream [])
          (subst (AreAlike (bare (flattening stream))) means alike);
    }
