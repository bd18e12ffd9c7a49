use Rattle.std.proofs.Common.{false, ◌&&◌, take}
use Rattle.declarations.specs.Expected.{HasSigns, holds}
use Rattle.declarations.specs.Syntax.{admits}
use Rattle.item_tables.specs.Classes.{any_of, is}
use Rattle.declarations.proofs.explore.admitted.Given as goal

-- the set has the classes so far that are in the given set, and with which the rule can begin
abbrev pub invariant-loop-class : goal.invariant-loop-class
invariant-loop-class l =
    HasSigns l.found (λ c. any_of (λ x. is x c && (admits l.fn.guard x && holds l.fn.set x))
    (take l.class-index l.classes)) false
