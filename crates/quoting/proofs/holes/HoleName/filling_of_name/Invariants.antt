use Rattle.std.proofs.Common.{◌≡◌, drop}
use Rattle.quoting.specs.Given.{named_all, text_of}
use Rattle.quoting.specs.Holes.{filling_of}
use Rattle.quoting.proofs.holes.HoleName.filling_of_name.Given as goal

abbrev pub invariant-loop-hole : goal.invariant-loop-hole
invariant-loop-hole l =
    filling_of (named_all (drop l.hole-index l.holes)) (text_of l.self)
    ≡ filling_of (named_all l.holes) (text_of l.self)
