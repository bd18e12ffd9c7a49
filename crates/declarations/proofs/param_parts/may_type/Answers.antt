use Rattle.declarations.proofs.ParamLemmas.{may_found}
use Rattle.declarations.specs.Forms.{IsType}
use Rattle.declarations.specs.Reading.{Reads}
use Rattle.item_tables.specs.declared.class.SignClass.TheVariants as classes
use Rattle.declarations.proofs.ParamRuleLemmas.{with_type_reads, without_type}
use Rattle.declarations.proofs.param_parts.may_type.Goals as goal

pub returns-in-Some-clause-parts : goal.returns-in-Some-clause-parts
returns-in-Some-clause-parts c =
    may_found c.type_of.result (λ f. f.0.now) (λ f. f.1.now) (λ e. e.now) classes.Equals (Reads IsType) c.args.trees.now
    c.in-Some.left.now c.in-Some.ensures.found c.type_of.ensures.parts

pub returns-in-Some-clause-rule : goal.returns-in-Some-clause-rule
returns-in-Some-clause-rule c =
    with_type_reads c.args.trees.now c.in-Some.left.now c.type_of.result c.in-Some.ensures.found
    c.type_of.ensures.rule

pub returns-in-None-clause-rule : goal.returns-in-None-clause-rule
returns-in-None-clause-rule c = without_type c.args.trees.now c.in-None.ensures.heads
