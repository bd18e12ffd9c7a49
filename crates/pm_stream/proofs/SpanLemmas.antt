-- The spans of a parsed stream are inside its source.
use Rattle.std.proofs.Common.{◌≡◌, ℕ, ◌+◌, ◌≤◌, true, false, List, [], ◌∷◌, length, refl, sym, subst, arith, Result, Ok}
use Rattle.std.proofs.Common.{Err, IfOk}
use Rattle.std.specs.List.{AllByRecursion as Each}
use Rattle.std.proofs.lemmas.List.Elements.{All-from_recursion}
use Rattle.lexical.specs.Token.{Token, Name, Mark, Literal}
use Rattle.lexical.specs.Piece.{Kind, Piece, FrontMark, Gap, Doc, Open, Close, Leaf}
use Rattle.lexical.specs.Cover.{width}
use Rattle.pm_span.specs.Extent.{Extent}
use Rattle.pm_span.specs.Files.{Files, next_lo, all_texts, with_file, Holds}
use Rattle.pm_token.specs.declared.errors.ParseError.{ParseError}
use Rattle.pm_stream.specs.Events.{Event, One, Opens, Closes, events_onto, expansion}
use Rattle.pm_stream.specs.Forest.{Forest, nil, leaf, group, flat_onto}
use Rattle.pm_stream.specs.InOrder.{token_tree, in_order_onto, in_order}
use Rattle.pm_stream.specs.Trees.{forest}
use Rattle.pm_stream.specs.Parsing.{ParsesTo}
use Rattle.pm_stream.specs.TreeSpan.{extent_of}
use Rattle.pm_stream.specs.HeldSpans.{HoldsAll, HoldsTree, HoldsEach}
use Rattle.pm_stream.specs.declared.stream.TokenTree.{TokenTree}
use Rattle.pm_stream.proofs.FaultLemmas.{cover_within}
use Rattle.pm_stream.proofs.InOrderLemmas.{all_listed}

-- the positions of the events are between these two
abbrev AreWithin : ℕ → ℕ → List Event → Type 0
AreWithin lo hi [] = Unit {0}
AreWithin lo hi (One token m n ∷ events) = (lo ≤ m) × (n ≤ hi) × AreWithin lo hi events
AreWithin lo hi (Opens d m ∷ events) = (lo ≤ m) × AreWithin lo hi events
AreWithin lo hi (Closes d n ∷ events) = (n ≤ hi) × AreWithin lo hi events

piece_within : (lo hi at : ℕ) (k : Kind) (p : List ℕ) (events : List Event) → lo ≤ at → at + length p ≤ hi
    → AreWithin lo hi events → AreWithin lo hi (events_onto at k p events)
piece_within lo hi at FrontMark p events from to h = h
piece_within lo hi at Gap p events from to h = h
piece_within lo hi at (Doc true text) p events from to h =
    (from, to, (from, to, (from, (from, to, (from, to, (from, to, (to, h)))))))
piece_within lo hi at (Doc false text) p events from to h =
    (from, to, (from, (from, to, (from, to, (from, to, (to, h))))))
piece_within lo hi at (Open c) p events from to h = (from, h)
piece_within lo hi at (Close c) p events from to h = (to, h)
piece_within lo hi at (Leaf token) p events from to h = (from, to, h)

expansion_within : (lo hi at : ℕ) (pieces : List Piece) → lo ≤ at → at + width pieces ≤ hi
    → AreWithin lo hi (expansion at pieces)
expansion_within lo hi at [] from to = tt
expansion_within lo hi at (x ∷ pieces) from to =
    piece_within lo hi at x.0 x.1 (expansion (at + length x.1) pieces) from (omega arith)
    (expansion_within lo hi (at + length x.1) pieces (omega arith) (omega arith))

-- the span is between two positions
abbrev pub IsWithin : ℕ → ℕ → TokenTree → Type 0
IsWithin lo hi tree = (lo ≤ (extent_of tree).lo) × ((extent_of tree).hi ≤ hi)

token_within : (lo hi : ℕ) (token : Token) (m n : ℕ) → lo ≤ m → n ≤ hi → IsWithin lo hi (token_tree token m n)
token_within lo hi (Name raw name) m n from to = (from, to)
token_within lo hi (Mark c joint) m n from to = (from, to)
token_within lo hi (Literal text) m n from to = (from, to)

-- if the events are between two positions, the trees and the events after them are too
trees_within : (lo hi : ℕ) (f : Forest) (events : List Event) (more : List TokenTree)
    → AreWithin lo hi (flat_onto f events) → Each (IsWithin lo hi) more
    → Each (IsWithin lo hi) (in_order_onto f more) × AreWithin lo hi events
trees_within lo hi nil events more h k = (k, h)
trees_within lo hi (leaf token m n f) events more h k =
    let rest = trees_within lo hi f events more h.2 k in
    ((token_within lo hi token m n h.0 h.1, rest.0), rest.1)
trees_within lo hi (group d m n f g) events more h k =
    let inside = trees_within lo hi f (Closes d n ∷ flat_onto g events) [] h.1 tt in
    let rest = trees_within lo hi g events more inside.1.1 k in
    let all = trees_within lo hi f (Closes d n ∷ flat_onto g events) (in_order_onto g more) h.1 rest.0 in
    (((h.0, inside.1.0), all.0), rest.1)

-- each span of the stream is inside the source
pub parsed_within : (base : ℕ) (source : List ℕ) (stream : Forest) → ParsesTo base source stream
    → Each (IsWithin base (base + length source)) (in_order stream)
parsed_within base source stream h =
    let within = cover_within h.pieces source [] h.covers in
    (trees_within base (base + length source) stream [] []
    (subst (AreWithin base (base + length source)) (sym h.expands)
    (expansion_within base (base + length source) base h.pieces (omega arith) (omega arith))) tt).0

-- the map holds the spans inside its last file
pub source_held : (map : Files) (source : List ℕ) (span : Extent) → next_lo map ≤ span.lo
    → span.hi ≤ next_lo map + length source → Holds (with_file map source) span
source_held map source span from to = record {
  text = source;
  lo = next_lo map;
  file = record { before = all_texts map; after = []; whole = refl; begins = refl };
  from = from;
  to = to;
}

each_held : (map : Files) (source : List ℕ) (trees : List TokenTree)
    → Each (IsWithin (next_lo map) (next_lo map + length source)) trees
    → Each (λ tree. Holds (with_file map source) (extent_of tree)) trees
each_held map source [] h = tt
each_held map source (tree ∷ trees) h =
    (source_held map source (extent_of tree) h.0.0 h.0.1, each_held map source trees h.1)

-- the map holds the spans of a parsed stream, once the text is the map's last file
pub parsed_spans : (old new : Files) (base : ℕ) (source : List ℕ) (result : Result Forest ParseError)
    → base ≡ next_lo old → new ≡ with_file old source → IfOk result (ParsesTo base source) → IfOk result (HoldsAll new)
parsed_spans old new base source (Ok stream) begins added h =
    let parsed = subst (λ n. ParsesTo n source stream) begins h in
    let held = each_held old source (in_order stream) (parsed_within (next_lo old) source stream parsed) in
    subst (λ map. HoldsAll map stream) (sym added)
    (record { each = All-from_recursion (λ tree. Holds (with_file old source) (extent_of tree)) _ held })
parsed_spans old new base source (Err error) begins added h = tt

-- if the map holds all spans of a stream, it holds those of each of its trees
pub held_trees : (map : Files) (trees : List TokenTree) (stream : Forest) → forest trees ≡ stream → HoldsAll map stream
    → HoldsEach map trees
held_trees map trees stream e h tree index less is =
    let held = all_listed (λ tree. Holds map (extent_of tree)) trees stream e h.each index tree less in
    subst (HoldsTree map) (sym is) (held.0, record { each = held.1 })
