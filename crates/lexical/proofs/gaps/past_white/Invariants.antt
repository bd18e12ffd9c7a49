use Rattle.std.proofs.Common.{◌≡◌, ◌≤◌, ◌-◌, true, length, take}
use Rattle.std.specs.List.{list_all}
use Rattle.lexical.specs.WhiteRun.{ascii_white}
use Rattle.lexical.proofs.gaps.past_white.Given as goal

abbrev pub invariant-loop-white : goal.invariant-loop-white
invariant-loop-white l = (l.white ≤ length l.bytes) × (list_all ascii_white (take l.white l.bytes) ≡ true)

abbrev pub decreases-loop-white : goal.decreases-loop-white
decreases-loop-white l = length l.bytes - l.white
