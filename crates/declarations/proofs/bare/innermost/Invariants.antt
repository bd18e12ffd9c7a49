use Rattle.std.proofs.Common.{◌≡◌}
use Rattle.pm_stream.specs.Size.{count}
use Rattle.declarations.specs.Bare.{innermost}
use Rattle.declarations.proofs.bare.innermost.Given as goal

-- the trees that are left have the same innermost trees
abbrev pub invariant-loop-next : goal.invariant-loop-next
invariant-loop-next l = innermost l.stream ≡ innermost l.inside

abbrev pub decreases-loop-next : goal.decreases-loop-next
decreases-loop-next l = count l.inside
