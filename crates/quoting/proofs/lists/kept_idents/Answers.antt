use Rattle.std.proofs.Common.{◌∙◌, ap}
use Rattle.proc_macro2.specs.Leaf.{Name}
use Rattle.proc_macro2.specs.Trees.{alone}
use Rattle.proc_macro2.specs.declared.TokenTree.TheVariants.{Ident as IdentTree}
use Rattle.quoting.specs.Items.{One, and_last}
use Rattle.quoting.proofs.ItemLemmas.{each_more}
use Rattle.quoting.proofs.lists.kept_idents.Goals as goal

pub loop-ident-preserved : goal.loop-ident-preserved
loop-ident-preserved c =
    c.in_ok-put.ensures.ok
    ∙ (ap (λ i. and_last c.loop-ident.values (One (alone (IdentTree i)))) c.in_ok-clone.ensures.cases
    ∙ each_more (λ (ident : Name). One (alone (IdentTree ident))) c.args.idents.now c.loop-ident.ident-index
    c.ident-item.result c.ident-item.result c.loop-ident.values
    c.loop-ident-test.true c.ident-item.is c.loop-ident.invariant)
