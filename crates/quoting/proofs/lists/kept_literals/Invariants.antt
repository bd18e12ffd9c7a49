use Rattle.std.proofs.Common.{◌≡◌, take}
use Rattle.proc_macro2.specs.Building.{split}
use Rattle.proc_macro2.specs.Leaf.{Text}
use Rattle.proc_macro2.specs.declared.TokenTree.TheVariants.{Literal as LiteralTree}
use Rattle.quoting.specs.Items.{One, each_of}
use Rattle.quoting.proofs.lists.kept_literals.Given as goal

abbrev pub invariant-loop-literal : goal.invariant-loop-literal
invariant-loop-literal l =
    l.values ≡ each_of (λ (literal : Text). One (split (LiteralTree literal))) (take l.literal-index l.literals)
