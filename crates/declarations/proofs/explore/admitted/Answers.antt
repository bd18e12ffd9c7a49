use Rattle.std.proofs.Common.{◌&&◌, ◌∙◌, sym}
use Rattle.std.proofs.lemmas.Bool.{and_from, and_left, and_right}
use Rattle.declarations.specs.Expected.{holds}
use Rattle.declarations.specs.Syntax.{admits}
use Rattle.declarations.proofs.ExpectedLemmas.{so_far_all, so_far_with, so_far_without}
use Rattle.declarations.proofs.explore.admitted.Goals as goal
use Rattle.declarations.proofs.explore.admitted.Goals.{else-admits, else-admits-via-else-admits}
use Rattle.declarations.proofs.explore.admitted.Goals.{else-admits-via-then-admits+else-contains}
use Rattle.declarations.proofs.explore.admitted.Goals.{then-admits+then-contains}

pub loop-class-preserved : goal.loop-class-preserved
loop-class-preserved c =
    let found = c.loop-class.found in
    let n = c.loop-class.class-index in
    elim c.if-admits.branch [
      | then-admits+then-contains w ↦
          so_far_with (λ x. admits c.args.guard x && holds c.args.set x) c.args.classes.now n _ found
          w.with-found.result c.if-admits.found c.loop-class-test.true
          (and_from _ _ (sym c.admits.ensures ∙ w.if-admits.true) (sym w.contains.ensures ∙ w.if-contains.true))
          c.loop-class.invariant w.with-found.ensures w.found-is
      | else-admits w ↦
          so_far_without (λ x. admits c.args.guard x && holds c.args.set x) c.args.classes.now n _ found
          c.if-admits.found c.loop-class-test.true
          (elim w.else-admits.branch [
            | else-admits-via-then-admits+else-contains v ↦ and_right _ _ (sym v.contains.ensures ∙ v.if-contains.false)
            | else-admits-via-else-admits v ↦ and_left _ _ (sym c.admits.ensures ∙ v.if-admits.false)
          ])
          c.loop-class.invariant w.found-is
    ]

pub returns : goal.returns
returns c =
    so_far_all (λ x. admits c.args.guard x && holds c.args.set x) c.args.classes.now c.loop-class.class-index
    c.loop-class.found c.loop-class-test.false c.loop-class.invariant
