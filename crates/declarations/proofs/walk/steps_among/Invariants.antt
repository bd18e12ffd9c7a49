use Rattle.std.proofs.Common.{false, ◌&&◌, take, is_some}
use Rattle.item_tables.specs.Walk.{step}
use Rattle.declarations.specs.Expected.{HasSigns}
use Rattle.item_tables.specs.Classes.{any_of, is}
use Rattle.declarations.proofs.walk.steps_among.Given as goal

-- the set has the classes so far for which there is a step
abbrev pub invariant-loop-class : goal.invariant-loop-class
invariant-loop-class l =
    HasSigns l.found (λ c. any_of (λ x. is x c && is_some (step l.fn.place x)) (take l.class-index l.classes)) false
