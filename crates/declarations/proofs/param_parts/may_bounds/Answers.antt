use Rattle.declarations.proofs.ParamLemmas.{may_found}
use Rattle.declarations.specs.Forms.{AreBounds}
use Rattle.declarations.specs.Reading.{Reads}
use Rattle.item_tables.specs.declared.class.SignClass.TheVariants as classes
use Rattle.declarations.proofs.ParamRuleLemmas.{with_bounds_reads, without_bounds}
use Rattle.declarations.proofs.param_parts.may_bounds.Goals as goal

pub returns-in-Some-clause-parts : goal.returns-in-Some-clause-parts
returns-in-Some-clause-parts c =
    may_found c.plain_bounds.result (λ f. f.0.now) (λ f. f.1.now) (λ e. e.now) classes.Colon (Reads AreBounds)
    c.args.trees.now c.in-Some.left.now c.in-Some.ensures.found c.plain_bounds.ensures.parts

pub returns-in-Some-clause-rule : goal.returns-in-Some-clause-rule
returns-in-Some-clause-rule c =
    with_bounds_reads c.args.trees.now c.in-Some.left.now c.plain_bounds.result c.in-Some.ensures.found
    c.plain_bounds.ensures.rule

pub returns-in-None-clause-rule : goal.returns-in-None-clause-rule
returns-in-None-clause-rule c = without_bounds c.args.trees.now c.in-None.ensures.heads
