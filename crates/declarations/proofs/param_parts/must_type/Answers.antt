use Rattle.declarations.proofs.ParamLemmas.{must_found, must_none}
use Rattle.declarations.specs.Forms.{IsType}
use Rattle.declarations.specs.Reading.{Reads}
use Rattle.item_tables.specs.declared.class.SignClass.TheVariants as classes
use Rattle.declarations.proofs.ParamRuleLemmas.{const_bounds, const_no_bounds}
use Rattle.declarations.proofs.param_parts.must_type.Goals as goal

pub returns-in-Some-clause-parts : goal.returns-in-Some-clause-parts
returns-in-Some-clause-parts c =
    must_found c.type_of.result (λ f. f.0.now) (λ f. f.1.now) (λ e. e.now) classes.Colon (Reads IsType) c.args.trees.now
    c.in-Some.left.now c.in-Some.ensures.found c.type_of.ensures.parts

pub returns-in-None-clause-parts : goal.returns-in-None-clause-parts
returns-in-None-clause-parts c = must_none classes.Colon (Reads IsType) c.args.trees.now c.in-None.ensures.none

pub returns-in-Some-clause-rule : goal.returns-in-Some-clause-rule
returns-in-Some-clause-rule c =
    const_bounds c.args.trees.now c.in-Some.left.now c.type_of.result c.in-Some.ensures.found
    c.type_of.ensures.rule

pub returns-in-None-clause-rule : goal.returns-in-None-clause-rule
returns-in-None-clause-rule c = const_no_bounds c.args.trees.now c.in-None.ensures.heads
