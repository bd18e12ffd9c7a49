-- The doc comments of a text.
use Rattle.std.specs.Prelude.{Option, None}
use Rattle.proc_macro2.specs.DocGroup.{doc_of as doc_of_group}
use Rattle.proc_macro2.specs.Leaf.{Text}
use Rattle.proc_macro2.specs.declared.TokenTree.{TokenTree}
use Rattle.proc_macro2.specs.declared.TokenTree.TheVariants.{Group}

-- the literal of a doc comment, if the tree is the group of one
abbrev pub doc_of : TokenTree → Option Text
doc_of (Group g) = doc_of_group g
doc_of _ = None
