use Rattle.std.proofs.Common.{false, ◌&&◌, take}
use Rattle.declarations.specs.Expected.{HasSigns}
use Rattle.declarations.specs.Syntax.{test_of}
use Rattle.item_tables.specs.Classes.{any_of, is}
use Rattle.declarations.proofs.explore.passing.Given as goal

-- the set has the classes so far that pass the test
abbrev pub invariant-loop-class : goal.invariant-loop-class
invariant-loop-class l =
    HasSigns l.found (λ c. any_of (λ x. is x c && test_of l.fn.test x) (take l.class-index l.classes)) false
