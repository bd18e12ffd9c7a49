-- The trees of a stream under construction.
use Rattle.proc_macro2.specs.Forest.{Forest, IsBuilt}
use Rattle.proc_macro2.specs.Trees.{forest}
use Rattle.quoting.specs.declared.builder.Trees.{Trees}
use Rattle.quoting.specs.declared.builder.Trees.TheVariants.{Shared, Listed}

-- the trees that were added
abbrev pub put_trees : Trees → Forest
put_trees (Shared stream) = stream
put_trees (Listed list) = forest list.items

-- whether the trees can become a stream
abbrev pub IsFit : Trees → Type 0
IsFit (Shared stream) = Unit {0}
IsFit (Listed list) = IsBuilt (forest list.items)
