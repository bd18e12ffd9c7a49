-- Which trees can begin a part.
use Rattle.std.specs.Prelude.{Bool, true, false, List, [], ◌∷◌, codes}
use Rattle.pm_stream.specs.declared.stream.TokenTree.{TokenTree}
use Rattle.pm_stream.specs.declared.stream.TokenTree.TheVariants.{Group, Ident, Punct}
use Rattle.declarations.specs.Signs.{group_class, is_written}
use Rattle.item_tables.specs.Classes.{is}
use Rattle.item_tables.specs.declared.class.SignClass.{SignClass}

-- whether the tree is a punctuation mark
abbrev pub is_mark : TokenTree → Bool
is_mark (Punct mark) = true
is_mark tree = false

-- whether the first tree is a punctuation mark
abbrev pub begins_mark : List TokenTree → Bool
begins_mark [] = false
begins_mark (tree ∷ rest) = is_mark tree

-- whether the tree is an identifier
abbrev pub is_identifier : TokenTree → Bool
is_identifier (Ident name) = true
is_identifier tree = false

-- whether the first tree is an identifier
abbrev pub begins_identifier : List TokenTree → Bool
begins_identifier [] = false
begins_identifier (tree ∷ rest) = is_identifier tree

-- whether the tree is `pub`
abbrev pub is_pub_tree : TokenTree → Bool
is_pub_tree (Ident word) = is_written word (codes "pub")
is_pub_tree tree = false

-- whether the tree is a group of this class
abbrev pub is_group_of : SignClass → TokenTree → Bool
is_group_of class (Group group) = is class (group_class group.delimiter group.stream)
is_group_of class tree = false
