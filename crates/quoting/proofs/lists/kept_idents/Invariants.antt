use Rattle.std.proofs.Common.{◌≡◌, take}
use Rattle.proc_macro2.specs.Leaf.{Name}
use Rattle.proc_macro2.specs.Trees.{alone}
use Rattle.proc_macro2.specs.declared.TokenTree.TheVariants.{Ident as IdentTree}
use Rattle.quoting.specs.Items.{One, each_of}
use Rattle.quoting.proofs.lists.kept_idents.Given as goal

abbrev pub invariant-loop-ident : goal.invariant-loop-ident
invariant-loop-ident l =
    l.values ≡ each_of (λ (ident : Name). One (alone (IdentTree ident))) (take l.ident-index l.idents)
