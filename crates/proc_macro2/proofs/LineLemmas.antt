-- Texts with a line feed between them.
use Rattle.std.proofs.Common.{◌≡◌, ℕ, Bool, true, false, List, [], ◌∷◌, ◌++◌, refl, sym, ap, ap₂, ◌∙◌, subst, inl, inr}
use Rattle.std.proofs.lemmas.Bool.{both_ways}
use Rattle.lexical.specs.Text.{begins_with}
use Rattle.lexical.specs.Quiet.{ends_quiet}
use Rattle.lexical.specs.Piece.{Piece, FrontMark, Gap, Doc, Open, Close, Leaf, IsPiece}
use Rattle.lexical.specs.Cover.{onto, StandBefore, IsCover}
use Rattle.grammar_laws.proofs.LeafLaws.{onto_split}
use Rattle.pm_stream.specs.Forest.{Forest, chain, flattening}
use Rattle.pm_stream.specs.Parsing.{ParsesTo}
use Rattle.pm_stream.proofs.CoverLemmas.{onto-append}
use Rattle.pm_stream.proofs.LawLemmas.{one_cover}
use Rattle.pm_stream.proofs.TreeLemmas.{flattening-joined}
use Rattle.proc_macro2.specs.Laws.{Gives}
use Rattle.proc_macro2.proofs.EventSpans.{bare, bare-append, piece_events, piece_events-append, events_of_parsed}
use Rattle.proc_macro2.proofs.EventSpans.{same_from_events}
use Rattle.proc_macro2.proofs.CutLemmas.{MayBreak, stand_cut}

stand-append : (b : Bool) (us vs : List Piece) (r : List ℕ) → StandBefore b us (onto vs r)
    → ((c : Bool) → StandBefore c vs r)
    → StandBefore b (us ++ vs) r
stand-append b [] vs r h j = j b
stand-append b (x ∷ us) vs r h j =
    (subst (IsPiece b x.0 x.1) (sym (onto-append us vs r)) h.0, stand-append false us vs r h.1 j)

stand_front : (b : Bool) (us vs : List Piece) (r : List ℕ) → StandBefore b (us ++ vs) r → StandBefore b us (onto vs r)
stand_front b [] vs r h = tt
stand_front b (x ∷ us) vs r h = (subst (IsPiece b x.0 x.1) (onto-append us vs r) h.0, stand_front false us vs r h.1)

stand_back : (b : Bool) (us vs : List Piece) (r : List ℕ) → ends_quiet us ≡ true → StandBefore b (us ++ vs) r
    → StandBefore false vs r
stand_back b [] vs r e h = absurd (both_ways false refl e)
stand_back b (x ∷ []) vs r e h = h.1
stand_back b (x ∷ (y ∷ us)) vs r e h = stand_back false (y ∷ us) vs r e h.1

-- pieces that don't begin with U+FEFF may be anywhere in a text
stand_later : (ps : List Piece) (r : List ℕ) → begins_with (0xFEFF ∷ []) (onto ps r) ≡ false → StandBefore true ps r
    → StandBefore false ps r
stand_later [] r e h = tt
stand_later ((FrontMark, p) ∷ ps) r e h =
    absurd (both_ways true (sym (ap (λ t. begins_with (0xFEFF ∷ []) (t ++ onto ps r)) h.0.1) ∙ e) refl)
stand_later ((Gap, p) ∷ ps) r e h = h
stand_later ((Doc inner text, p) ∷ ps) r e h = h
stand_later ((Open c, p) ∷ ps) r e h = h
stand_later ((Close c, p) ∷ ps) r e h = h
stand_later ((Leaf t, p) ∷ ps) r e h = h

-- some pieces, a line feed, and other pieces
line_between : (at : ℕ) (s : Forest) (us vs : List Piece) (v : List ℕ) → MayBreak us v → StandBefore true us v
    → StandBefore false vs []
    → piece_events us ++ piece_events vs ≡ bare (flattening s) → Gives at (onto us (10 ∷ onto vs [])) s
line_between at s us vs v may front back says =
    let line : List Piece = (Gap, 10 ∷ []) ∷ vs in
    let x = same_from_events at s (us ++ line) (piece_events-append us line ∙ says) in
    let covers : IsCover (us ++ line) (onto us (10 ∷ onto vs [])) = record {
      whole = sym (onto-append us line []);
      stand = stand-append true us line [] (stand_cut true us v (onto vs []) may front)
          (λ c. (inl (10, refl, refl), back));
    } in
    record { parsed = x.0; parses = record { pieces = us ++ line; covers = covers; expands = x.1 }; same = x.2 }

pub joined_texts : (base first second : ℕ) (a b : List ℕ) (s t : Forest) → ParsesTo first a s → ParsesTo second b t
    → begins_with (0xFEFF ∷ []) b ≡ false → Gives base (a ++ (10 ∷ b)) (chain s t)
joined_texts base first second a b s t g h e =
    let says : piece_events g.pieces ++ piece_events h.pieces ≡ bare (flattening (chain s t)) =
    ap₂ (λ xs ys. xs ++ ys) (events_of_parsed first a s g) (events_of_parsed second b t h)
    ∙ (sym (bare-append (flattening s) (flattening t)) ∙ ap bare (sym (flattening-joined s t))) in
    let later = stand_later h.pieces [] (ap (begins_with (0xFEFF ∷ [])) (sym h.covers.whole) ∙ e) h.covers.stand in
    let x = line_between base (chain s t) g.pieces h.pieces [] (inl refl) g.covers.stand later says in
    let text : onto g.pieces (10 ∷ onto h.pieces []) ≡ a ++ (10 ∷ b) =
    onto_split g.pieces (10 ∷ onto h.pieces []) ∙ sym (ap₂ (λ p q. p ++ (10 ∷ q)) g.covers.whole h.covers.whole) in
    subst (λ p. Gives base p (chain s t)) text x

pub broken_line : (base first : ℕ) (source : List ℕ) (s : Forest) (us vs : List Piece) → ParsesTo first source s
    → IsCover (us ++ vs) source → ends_quiet us ≡ true → Gives base (onto us (10 ∷ onto vs [])) s
broken_line base first source s us vs h cover quiet =
    let says : piece_events us ++ piece_events vs ≡ bare (flattening s) =
    sym (piece_events-append us vs) ∙ (ap piece_events (one_cover source (us ++ vs) h.pieces cover h.covers)
    ∙ events_of_parsed first source s h) in
    line_between base s us vs (onto vs []) (inr quiet)
    (stand_front true us vs [] cover.stand) (stand_back true us vs [] quiet cover.stand) says
