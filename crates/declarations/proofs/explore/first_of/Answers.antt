use Rattle.std.proofs.Common.{◌∙◌, ◌&&◌, ap, is_some}
use Rattle.declarations.specs.Expected.{holds}
use Rattle.item_tables.specs.Walk.{step}
use Rattle.declarations.specs.Syntax.{admits, start_of}
use Rattle.declarations.proofs.ExpectedLemmas.{all_steps}
use Rattle.declarations.proofs.SyntaxLemmas.{guard_first}
use Rattle.declarations.proofs.explore.first_of.Goals as goal

pub returns : goal.returns
returns c =
    let first = c.steps_from-first in
    let set = all_steps (λ x. admits c.args.guard x && holds first.result x) c.admitted.result c.admitted.ensures in
    guard_first c.args.guard c.admitted.result
    (record {
      classes = λ x.
          set.classes x
          ∙ ap (λ b. admits c.args.guard x && b)
          (first.ensures.classes x
          ∙ ap (λ p. is_some (step p x)) (c.start_of.ensures ∙ ap start_of c.table_of.ensures));
      end = set.end;
    })
