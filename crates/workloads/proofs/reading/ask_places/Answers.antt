use Rattle.std.proofs.lemmas.List.Elements.{All-rest}
use Rattle.std.proofs.lemmas.Option.{MatchOption-at_some}
use Rattle.proc_macro2.specs.Files.{Holds}
use Rattle.proc_macro2.specs.TreeSpan.{extent_of}
use Rattle.workloads.proofs.reading.ask_places.Goals as goal

pub loop-walk-preserved : goal.loop-walk-preserved
loop-walk-preserved c =
    All-rest (λ tree. Holds c.args.map.now (extent_of tree)) _ _ _
    (MatchOption-at_some _ _ _ c.in-Some.is c.in_ok-tree.ensures.ok) c.loop-walk.invariant
