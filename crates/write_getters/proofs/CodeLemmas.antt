-- The holes of a template, and the code that fills them.
use Rattle.std.proofs.Common.{◌≡◌, refl, sym, ◌∙◌, ap, ap₂, ℕ, true, List, [], ◌∷◌, Ok, codes, map}
use Rattle.std.specs.Str.{chars}
use Rattle.proc_macro2.specs.Building.{split}
use Rattle.proc_macro2.specs.Forest.{Forest}
use Rattle.proc_macro2.specs.Leaf.{Name}
use Rattle.proc_macro2.specs.Trees.{alone}
use Rattle.proc_macro2.specs.declared.TokenTree.{TokenTree}
use Rattle.proc_macro2.specs.declared.TokenTree.TheVariants.{Ident}
use Rattle.declarations.specs.List.{IsFieldOf, Lists}
use Rattle.declarations.specs.Param.{ParamTrees}
use Rattle.declarations.specs.declared.field.Field.{Field}
use Rattle.declarations.specs.declared.item.TypeItem.{TypeItem}
use Rattle.quoting.specs.Filled.{fill_template}
use Rattle.quoting.specs.Given.{name_and_filling, named_all}
use Rattle.quoting.specs.Holes.{Named}
use Rattle.quoting.specs.Items.{One, Each, each_of}
use Rattle.quoting.specs.Respaced.{respace_marks}
use Rattle.quoting.specs.declared.holes.Hole.{Hole}
use Rattle.write_getters.specs.Copies.{copy_trees}
use Rattle.write_getters.specs.Fields.{getter_fields, name_of, type_of}
use Rattle.write_getters.specs.Getters.{IsCodeOf, hole, holes_of}
use Rattle.write_getters.specs.Parameters.{AreParamsOf, argument, parameter}
use Rattle.write_getters.specs.Templates.{template_for}
use Rattle.write_getters.specs.declared.templates.Templates.{Templates}

-- ---- the names of holes

pub parameter_chars : chars (codes "parameter") ≡ codes "parameter"
unfolding chars
parameter_chars = refl

pub name_chars : chars (codes "name") ≡ codes "name"
unfolding chars
name_chars = refl

pub argument_chars : chars (codes "argument") ≡ codes "argument"
unfolding chars
argument_chars = refl

pub bounds_chars : chars (codes "bounds") ≡ codes "bounds"
unfolding chars
bounds_chars = refl

pub field_chars : chars (codes "field") ≡ codes "field"
unfolding chars
field_chars = refl

pub kind_chars : chars (codes "kind") ≡ codes "kind"
unfolding chars
kind_chars = refl

-- ---- the holes

pub each_hole : (it : Named) (text name : List ℕ) (slice items streams : List Forest)
    → it ≡ record { name = text; filling = Each (each_of One slice) } → text ≡ name → slice ≡ items → items ≡ streams
    → it ≡ hole name (Each (each_of One streams))
each_hole it text name slice items streams is spells lends are =
    is ∙ ap₂ (λ n s. record { name = n; filling = Each (each_of One s) }) spells (lends ∙ are)

pub one_hole : (it : Named) (text name : List ℕ) (given stream : Forest)
    → it ≡ record { name = text; filling = One given } → text ≡ name → given ≡ stream → it ≡ hole name (One stream)
one_hole it text name given stream is spells same =
    is ∙ ap₂ (λ n s. record { name = n; filling = One s }) spells same

pub all_holes : (item : TypeItem) (params : List ParamTrees) (fields : List Field) (a b c d e f : Hole)
    → name_and_filling a ≡ hole (codes "parameter") (Each (each_of One (map parameter params)))
    → name_and_filling b ≡ hole (codes "name") (One (alone (Ident item.name.now)))
    → name_and_filling c ≡ hole (codes "argument") (Each (each_of One (map argument params)))
    → name_and_filling d ≡ hole (codes "bounds") (One (copy_trees item.where_clause.now))
    → name_and_filling e ≡ hole (codes "field") (Each (each_of One (map name_of fields)))
    → name_and_filling f ≡ hole (codes "kind") (Each (each_of One (map type_of fields)))
    → named_all (a ∷ b ∷ c ∷ d ∷ e ∷ f ∷ []) ≡ holes_of item params fields
all_holes item params fields a b c d e f is_a is_b is_c is_d is_e is_f =
    ap₂ (λ h hs. h ∷ hs) is_a (ap₂ (λ h hs. h ∷ hs) is_b (ap₂ (λ h hs. h ∷ hs) is_c (ap₂ (λ h hs. h ∷ hs) is_d
    (ap₂ (λ h hs. h ∷ hs) is_e (ap (λ h. h ∷ []) is_f)))))

pub item_name : (name copy : Name) (stream : Forest) → copy ≡ name → stream ≡ split (Ident copy)
    → stream ≡ alone (Ident name)
item_name name copy stream cloned put = put ∙ ap (λ n. alone (Ident n)) cloned

-- ---- the code

pub code_of : (templates : Templates) (item : TypeItem) (trees : List TokenTree) (code quote template stream : Forest)
    (fields : List Field) (params : List ParamTrees) (holes : List Named)
    → Lists (IsFieldOf true) trees fields [] → AreParamsOf item.generics.now params
    → holes ≡ holes_of item params (getter_fields fields) → template ≡ template_for item.generics.now templates
    → fill_template holes template ≡ Ok stream → quote ≡ stream → code ≡ respace_marks quote
    → IsCodeOf templates item trees code
code_of templates item trees code quote template stream fields params holes lists are hole_list is fills put finished =
    record {
      fields = fields;
      lists = lists;
      params = params;
      are_params = are;
      stream = stream;
      fills = sym (ap₂ (λ hs t. fill_template hs t) hole_list is) ∙ fills;
      is = finished ∙ ap respace_marks put;
    }
