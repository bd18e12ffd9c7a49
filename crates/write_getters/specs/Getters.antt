-- The getters of a struct, as a template that is filled.
use Rattle.std.specs.Prelude.{◌≡◌, ℕ, List, [], ◌∷◌, Ok, codes, map, true}
use Rattle.proc_macro2.specs.Forest.{Forest}
use Rattle.proc_macro2.specs.Trees.{alone}
use Rattle.proc_macro2.specs.declared.TokenTree.{TokenTree}
use Rattle.proc_macro2.specs.declared.TokenTree.TheVariants.{Ident}
use Rattle.declarations.specs.List.{IsFieldOf, Lists}
use Rattle.declarations.specs.Param.{ParamTrees}
use Rattle.declarations.specs.declared.field.Field.{Field}
use Rattle.declarations.specs.declared.item.TypeItem.{TypeItem}
use Rattle.quoting.specs.Filled.{fill_template}
use Rattle.quoting.specs.Holes.{Named}
use Rattle.quoting.specs.Items.{Filling, One, Each, each_of}
use Rattle.quoting.specs.Respaced.{respace_marks}
use Rattle.write_getters.specs.Copies.{copy_trees}
use Rattle.write_getters.specs.Fields.{getter_fields, name_of, type_of}
use Rattle.write_getters.specs.Parameters.{AreParamsOf, argument, parameter}
use Rattle.write_getters.specs.Templates.{template_for}
use Rattle.write_getters.specs.declared.templates.Templates.{Templates}

abbrev pub hole : List ℕ → Filling → Named
hole name filling = record { name = name; filling = filling }

-- what fills the holes of a template
abbrev pub holes_of : TypeItem → List ParamTrees → List Field → List Named
holes_of item params fields =
    hole (codes "parameter") (Each (each_of One (map parameter params)))
    ∷ hole (codes "name") (One (alone (Ident item.name.now)))
    ∷ hole (codes "argument") (Each (each_of One (map argument params)))
    ∷ hole (codes "bounds") (One (copy_trees item.where_clause.now))
    ∷ hole (codes "field") (Each (each_of One (map name_of fields)))
    ∷ hole (codes "kind") (Each (each_of One (map type_of fields))) ∷ []

-- the code of a struct with these trees in its braces: a getter for each chosen field, in order, and nothing else
pub record IsCodeOf (templates : Templates) (item : TypeItem) (trees : List TokenTree) (code : Forest) : Type 0 where
  pub fields : List Field
  pub lists : Lists (IsFieldOf true) trees fields []
  pub params : List ParamTrees
  pub are_params : AreParamsOf item.generics.now params
  pub stream : Forest
  pub fills : fill_template (holes_of item params (getter_fields fields)) (template_for item.generics.now templates)
      ≡ Ok stream
  pub is : code ≡ respace_marks stream
