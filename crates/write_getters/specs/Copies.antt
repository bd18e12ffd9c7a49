-- Streams of copies of trees.
use Rattle.std.specs.Prelude.{List}
use Rattle.proc_macro2.specs.Building.{trees_of_all, split}
use Rattle.proc_macro2.specs.Forest.{Forest}
use Rattle.proc_macro2.specs.declared.TokenTree.{TokenTree}

-- a stream of the trees, one after another
abbrev pub copy_trees : List TokenTree → Forest
copy_trees trees = trees_of_all split trees
