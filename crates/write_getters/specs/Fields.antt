-- Which fields of a struct have a getter.
use Rattle.std.specs.Prelude.{ℕ, ◌==◌, ◌&&◌, Bool, false, not, filter, List, [], ◌∷◌, Some, None, codes}
use Rattle.std.specs.Prelude.{if◌then◌else◌}
use Rattle.std.specs.List.{list_any}
use Rattle.proc_macro2.specs.Extent.{nowhere}
use Rattle.proc_macro2.specs.Forest.{Forest, nil}
use Rattle.proc_macro2.specs.Trees.{alone}
use Rattle.proc_macro2.specs.declared.Delimiter.TheVariants.{Parenthesis}
use Rattle.proc_macro2.specs.declared.TokenTree.{TokenTree}
use Rattle.proc_macro2.specs.declared.TokenTree.TheVariants.{Group, Ident, Punct}
use Rattle.proc_macro2.specs.DocGroup.{trees_of}
use Rattle.declarations.specs.Attribute.{Parts, after_path, attributes_in, is_named, is_word, path_of}
use Rattle.declarations.specs.Bare.{inside_of}
use Rattle.declarations.specs.declared.field.Field.{Field}
use Rattle.write_getters.specs.Copies.{copy_trees}

-- the trees are a group with only this word inside
abbrev pub is_group_of : List TokenTree → List ℕ → Bool
is_group_of (Group g ∷ []) word = is_word (trees_of g.stream) word
is_group_of _ word = false

-- whether the attribute is `#[getter(skip)]`
abbrev pub is_skip : Parts → Bool
is_skip attribute =
    let inside = inside_of attribute.group in
    is_named (path_of inside) (codes "getter") && is_group_of (after_path inside) (codes "skip")

abbrev pub is_skipped : Field → Bool
is_skipped field = list_any is_skip (attributes_in field.attributes.now)

abbrev pub is_plus : TokenTree → Bool
is_plus (Punct mark) = mark.mark == 43
is_plus _ = false

-- whether the trees are a trait object with several bounds: `dyn`, and then trees with a `+` (43)
abbrev pub has_several_bounds : List TokenTree → Bool
has_several_bounds (Ident word ∷ bounds) = is_word (Ident word ∷ []) (codes "dyn") && list_any is_plus bounds
has_several_bounds _ = false

-- the fields that have a getter
abbrev pub getter_fields : List Field → List Field
getter_fields fields = filter (λ field. not (is_skipped field)) fields

abbrev pub name_of : Field → Forest
name_of field = elim field.name [ None ↦ nil | Some name ↦ alone (Ident name.now) ]

-- the type of a field as it follows `&`, in parentheses if it is a trait object with several bounds
abbrev pub type_of : Field → Forest
type_of field =
    let trees = field.field_type.now in
    if has_several_bounds trees
    then alone (Group (record { delimiter = Parenthesis; stream = copy_trees trees; span = nowhere }))
    else copy_trees trees
