-- The words of texts, and the trees to which the texts parse.
use Rattle.std.proofs.Common.{◌≡◌, ◌↔◌, ℕ, true, false, List, [], ◌∷◌, ◌++◌, refl, sym, ap, ap₂, ◌∙◌, subst}
use Rattle.lexical.specs.Cover.{onto}
use Rattle.lexical.specs.Piece.{Kind, Piece, FrontMark, Gap, Doc, Open, Close, Leaf}
use Rattle.pm_stream.specs.Events.{Event, One, Opens, Closes}
use Rattle.pm_stream.specs.Forest.{Forest, nil, leaf, group, flat_onto, flattening}
use Rattle.pm_stream.specs.Parsing.{ParsesTo}
use Rattle.pm_stream.specs.Same.{Same, without_spans}
use Rattle.pm_stream.proofs.EventLemmas.{one_stream}
use Rattle.proc_macro2.proofs.EventSpans.{piece_events, piece_event_onto, events_of_parsed, same_from_events}
use Rattle.proc_macro2.proofs.EventSpans.{bare as bare_events}
use Rattle.same.specs.Difference.{bare}
use Rattle.same.specs.SourceWord.{Placed, Token, WordValue}
use Rattle.same.specs.Words.{piece_words, words}

-- the words of events
abbrev tokens : List Event → List WordValue
tokens [] = []
tokens (e ∷ es) = Token e ∷ tokens es

piece_says : (k : Kind) (p here : List ℕ) (more : List Placed) (es : List Event) → bare more ≡ tokens es
    → bare (piece_words false k p here more) ≡ tokens (piece_event_onto k es)
piece_says FrontMark p here more es h = h
piece_says Gap p here more es h = h
piece_says (Doc true text) p here more es h = ap (λ ws. tokens (piece_event_onto (Doc true text) []) ++ ws) h
piece_says (Doc false text) p here more es h = ap (λ ws. tokens (piece_event_onto (Doc false text) []) ++ ws) h
piece_says (Open c) p here more es h = ap (λ ws. tokens (piece_event_onto (Open c) []) ++ ws) h
piece_says (Close c) p here more es h = ap (λ ws. tokens (piece_event_onto (Close c) []) ++ ws) h
piece_says (Leaf token) p here more es h = ap (λ ws. Token (One token 0 0) ∷ ws) h

words_say : (xs : List Piece) → bare (words false xs) ≡ tokens (piece_events xs)
words_say [] = refl
words_say (x ∷ xs) = piece_says x.0 x.1 (onto (x ∷ xs) []) (words false xs) (piece_events xs) (words_say xs)

tokens_one : (es fs : List Event) → tokens es ≡ tokens fs → es ≡ fs
tokens_one [] [] h = refl
tokens_one [] (f ∷ fs) h = absurd (cc)
tokens_one (e ∷ es) [] h = absurd (cc)
tokens_one (e ∷ es) (f ∷ fs) h =
    let first : e ≡ f = cc in
    let rest : tokens es ≡ tokens fs = cc in
    ap₂ (λ x xs. x ∷ xs) first (tokens_one es fs rest)

bare_flat : (f : Forest) (es : List Event) → bare_events (flat_onto f es) ≡ flat_onto (without_spans f) (bare_events es)
bare_flat nil es = refl
bare_flat (leaf token lo hi f) es = ap (λ xs. One token 0 0 ∷ xs) (bare_flat f es)
bare_flat (group d lo hi f k) es =
    ap (λ xs. Opens d 0 ∷ xs) (bare_flat f (Closes d hi ∷ flat_onto k es)
    ∙ ap (λ xs. flat_onto (without_spans f) (Closes d 0 ∷ xs)) (bare_flat k es))

-- two texts have the same words exactly if they parse to the same trees
pub same_trees : (first second : ℕ) (source other : List ℕ) (s t : Forest) (g : ParsesTo first source s)
    (h : ParsesTo second other t)
    → (bare (words false g.pieces) ≡ bare (words false h.pieces)) ↔ Same s t
same_trees first second source other s t g h =
    let one = events_of_parsed first source s g in
    let two = events_of_parsed second other t h in (
      λ e.
          let says : piece_events h.pieces ≡ bare_events (flattening s) =
          sym (tokens_one _ _ (sym (words_say g.pieces) ∙ (e ∙ words_say h.pieces))) ∙ one in
          let x = same_from_events second s h.pieces says in
          subst (Same s) (one_stream x.0 t (x.1 ∙ sym h.expands)) x.2,
      λ same.
          words_say g.pieces
          ∙ (ap tokens (one ∙ (bare_flat s [] ∙ (ap (λ f. flat_onto f []) same ∙ (sym (bare_flat t []) ∙ sym two))))
          ∙ sym (words_say h.pieces)),
    )
