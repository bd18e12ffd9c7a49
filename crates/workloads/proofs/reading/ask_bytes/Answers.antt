use Rattle.std.proofs.Common.{◌∙◌, subst, sym}
use Rattle.std.proofs.lemmas.List.Elements.{All-rest}
use Rattle.std.proofs.lemmas.Option.{MatchOption-at_some}
use Rattle.std.specs.Prelude.{All}
use Rattle.proc_macro2.specs.Files.{Holds}
use Rattle.proc_macro2.specs.TreeSpan.{extent_of}
use Rattle.workloads.proofs.reading.ask_bytes.Goals as goal

pub loop-walk-preserved : goal.loop-walk-preserved
loop-walk-preserved c = (
  c.ask_range.ensures ∙ c.loop-walk.invariant.0,
  subst (λ map. All (λ tree. Holds map (extent_of tree)) c.next.new.self) (sym c.ask_range.ensures)
      (All-rest (λ tree. Holds c.loop-walk.map (extent_of tree)) _ _ _
      (MatchOption-at_some _ _ _ c.in-Some.is c.in_ok-tree.ensures.ok) c.loop-walk.invariant.1),
)
