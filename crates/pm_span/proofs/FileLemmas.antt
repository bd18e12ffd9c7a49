-- Lemmas on the files of a map and their positions.
use Rattle.std.proofs.Common.{◌≡◌, ℕ, ◌+◌, ◌≤◌, List, [], ◌∷◌, ◌++◌, length, refl, ap, ◌∙◌, append_assoc, arith}
use Rattle.std.proofs.lemmas.List.Sums.{sum_by-cons}
use Rattle.pm_span.specs.Extent.{Extent, nowhere}
use Rattle.pm_span.specs.Files.{Files, positions, IsFile, Holds, with_file, Extends}
use Rattle.pm_span.specs.Lookup.{AreInOneFile, covering_span}

pub positions-cons : (text : List ℕ) (texts : List (List ℕ))
    → positions (text ∷ texts) ≡ length text + 1 + positions texts
positions-cons text texts = sum_by-cons (λ t. length t + 1) text texts

-- every map holds the span 0..0
pub holds_nowhere : (map : Files) → Holds map nowhere
holds_nowhere map = record {
  text = [];
  lo = 0;
  file = record { before = []; after = map.texts; whole = refl; begins = refl };
  from = omega arith;
  to = omega arith;
}

-- a map with one file more extends the map
pub extends_with_file : (map : Files) (text : List ℕ) → Extends map (with_file map text)
extends_with_file map text = (text ∷ [], refl)

-- a file keeps its position in a map that extends the map
pub is_file_extends : (old new : Files) (text : List ℕ) (lo : ℕ) → Extends old new → IsFile old text lo
    → IsFile new text lo
is_file_extends old new text lo more file = record {
  before = file.before;
  after = file.after ++ more.0;
  whole = ap (λ ts. [] ∷ ts) more.1
      ∙ (ap (λ ts. ts ++ more.0) file.whole ∙ append_assoc file.before (text ∷ file.after) more.0);
  begins = file.begins;
}

-- a map that extends the map holds the same spans
pub holds_extends : (old new : Files) (span : Extent) → Extends old new → Holds old span → Holds new span
holds_extends old new span more held = record {
  text = held.text;
  lo = held.lo;
  file = is_file_extends old new held.text held.lo more held.file;
  from = held.from;
  to = held.to;
}

-- a map that holds a span holds each position in it
pub holds_within :
    {map : Files} (span : Extent) (position : ℕ) → Holds map span → span.lo ≤ position → position ≤ span.hi
    → Holds map (record { lo = position; hi = position })
holds_within span position held from to = record {
  text = held.text;
  lo = held.lo;
  file = held.file;
  from = omega (arith, held.from);
  to = omega (arith, held.to);
}

-- two spans are in one file exactly if the map holds their join
pub held_joined : {map : Files} (first second : Extent) → Holds map (covering_span first second)
    → AreInOneFile map first second
held_joined first second held = record {
  text = held.text;
  lo = held.lo;
  file = held.file;
  first_from = omega (arith, held.from);
  first_to = omega (arith, held.to);
  second_from = omega (arith, held.from);
  second_to = omega (arith, held.to);
}

pub joined_held : {map : Files} (first second : Extent) → AreInOneFile map first second
    → Holds map (covering_span first second)
joined_held first second both = record {
  text = both.text;
  lo = both.lo;
  file = both.file;
  from = omega (arith, both.first_from, both.second_from);
  to = omega (arith, both.first_to, both.second_to);
}
