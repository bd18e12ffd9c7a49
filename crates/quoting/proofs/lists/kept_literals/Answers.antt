use Rattle.std.proofs.Common.{◌∙◌, ap}
use Rattle.proc_macro2.specs.Building.{split}
use Rattle.proc_macro2.specs.Leaf.{Text}
use Rattle.proc_macro2.specs.declared.TokenTree.TheVariants.{Literal as LiteralTree}
use Rattle.quoting.specs.Items.{One, and_last}
use Rattle.quoting.proofs.ItemLemmas.{each_more}
use Rattle.quoting.proofs.lists.kept_literals.Goals as goal

pub loop-literal-preserved : goal.loop-literal-preserved
loop-literal-preserved c =
    c.in_ok-put.ensures.ok
    ∙ (ap (λ l. and_last c.loop-literal.values (One (split (LiteralTree l)))) c.in_ok-clone.ensures.cases
    ∙ each_more (λ (literal : Text). One (split (LiteralTree literal))) c.args.literals.now c.loop-literal.literal-index
    c.literal-item.result c.literal-item.result c.loop-literal.values
    c.loop-literal-test.true c.literal-item.is c.loop-literal.invariant)
