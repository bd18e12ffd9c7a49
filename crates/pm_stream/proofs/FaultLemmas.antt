-- A fault is inside its source.
use Rattle.std.proofs.Common.{◌≡◌, ℕ, ◌+◌, ◌≤◌, true, false, List, [], ◌∷◌, ◌++◌, length, inl, inr, refl, sym, ap}
use Rattle.std.proofs.Common.{subst, arith, length-append, Result, Ok, Err, IfErr}
use Rattle.lexical.specs.Piece.{Kind, Piece, FrontMark, Gap, Doc, Open, Close, Leaf}
use Rattle.lexical.specs.Cover.{onto, width, CoversUpTo}
use Rattle.pm_span.specs.Extent.{Extent}
use Rattle.pm_span.specs.Files.{Files, next_lo, all_texts, with_file, Holds}
use Rattle.pm_token.specs.declared.delimiters.Delimiter.{Delimiter}
use Rattle.pm_token.specs.declared.errors.ParseError.{ParseError}
use Rattle.pm_token.specs.declared.errors.ParseError.TheVariants.{Lex, MapFull, Memory}
use Rattle.pm_stream.specs.Events.{Event, One, Opens, Closes, events_onto, expansion}
use Rattle.pm_stream.specs.Forest.{Forest}
use Rattle.pm_token.specs.Outcome.{IfLex}
use Rattle.pm_stream.specs.Fault.{IsFault}
use Rattle.pm_stream.specs.Parsing.{FaultAt}

-- the openers begin between two positions
abbrev OpenWithin : ℕ → ℕ → List Event → Type 0
OpenWithin lo hi [] = Unit {0}
OpenWithin lo hi (One token m n ∷ events) = OpenWithin lo hi events
OpenWithin lo hi (Opens d m ∷ events) = (lo ≤ m) × (m ≤ hi) × OpenWithin lo hi events
OpenWithin lo hi (Closes d n ∷ events) = OpenWithin lo hi events

piece_within : (lo hi at : ℕ) (k : Kind) (p : List ℕ) (events : List Event) → lo ≤ at → at ≤ hi
    → OpenWithin lo hi events → OpenWithin lo hi (events_onto at k p events)
piece_within lo hi at FrontMark p events from to h = h
piece_within lo hi at Gap p events from to h = h
piece_within lo hi at (Doc true text) p events from to h = (from, to, h)
piece_within lo hi at (Doc false text) p events from to h = (from, to, h)
piece_within lo hi at (Open c) p events from to h = (from, to, h)
piece_within lo hi at (Close c) p events from to h = h
piece_within lo hi at (Leaf token) p events from to h = h

expansion_within : (lo hi at : ℕ) (pieces : List Piece) → lo ≤ at → at + width pieces ≤ hi
    → OpenWithin lo hi (expansion at pieces)
expansion_within lo hi at [] from to = tt
expansion_within lo hi at (x ∷ pieces) from to =
    piece_within lo hi at x.0 x.1 (expansion (at + length x.1) pieces) from (omega arith)
    (expansion_within lo hi (at + length x.1) pieces (omega arith) (omega arith))

opener_within : (lo hi position : ℕ) (d : Delimiter) (front back : List Event)
    → OpenWithin lo hi (front ++ (Opens d position ∷ back)) → (lo ≤ position) × (position ≤ hi)
opener_within lo hi position d [] back h = (h.0, h.1)
opener_within lo hi position d (One token m n ∷ front) back h = opener_within lo hi position d front back h
opener_within lo hi position d (Opens e m ∷ front) back h = opener_within lo hi position d front back h.2
opener_within lo hi position d (Closes e n ∷ front) back h = opener_within lo hi position d front back h

width_onto : (pieces : List Piece) (rest : List ℕ) → length (onto pieces rest) ≡ width pieces + length rest
width_onto [] rest = omega arith
width_onto (x ∷ pieces) rest = omega (arith, length-append x.1 (onto pieces rest), width_onto pieces rest)

pub cover_within : (pieces : List Piece) (source rest : List ℕ) → CoversUpTo pieces source rest
    → width pieces ≤ length source
cover_within pieces source rest h = omega (arith, ap length h.whole, width_onto pieces rest)

pub fault_within : (base : ℕ) (source : List ℕ) (position : ℕ) → FaultAt base source position
    → (base ≤ position) × (position ≤ base + length source)
fault_within base source position (inl h) =
    let within = cover_within h.pieces source h.rest h.covers in
    (omega (arith, h.at), omega (arith, h.at, within))
fault_within base source position (inr h) =
    let within = cover_within h.pieces source [] h.covers in
    opener_within base (base + length source) position h.delimiter h.front h.back
    (subst (OpenWithin base (base + length source)) h.split
    (expansion_within base (base + length source) base h.pieces (omega arith) (omega (arith, within))))

-- the map holds the fault of its last file
pub fault_held : (map : Files) (source : List ℕ) (fault : Extent) → fault.lo ≡ fault.hi
    → FaultAt (next_lo map) source fault.lo → Holds (with_file map source) fault
fault_held map source fault same h =
    let within = fault_within (next_lo map) source fault.lo h in
    record {
      text = source;
      lo = next_lo map;
      file = record { before = all_texts map; after = []; whole = refl; begins = refl };
      from = within.0;
      to = omega (arith, within.1);
    }

-- a fault that parsing returns is in the map, once the text is the map's last file
pub parsed_held : (old new : Files) (base : ℕ) (source : List ℕ) (result : Result Forest ParseError)
    → base ≡ next_lo old → new ≡ with_file old source
    → IfErr result (IsFault base source) → IfErr result (λ error. IfLex error (Holds new))
parsed_held old new base source (Ok stream) begins added h = tt
parsed_held old new base source (Err (Lex fault)) begins added h =
    subst (λ map. Holds map fault) (sym added)
    (fault_held old source fault h.0 (subst (λ n. FaultAt n source fault.lo) begins h.1))
parsed_held old new base source (Err MapFull) begins added h = tt
parsed_held old new base source (Err (Memory error)) begins added h = tt
