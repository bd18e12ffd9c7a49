-- What the program writes.
use Rattle.std.specs.Prelude.{◌≡◌, ℕ, List, [], ◌∷◌, ◌++◌, codes, flat_map, Option, Some, None}
use Rattle.std.specs.Io.KnownBytes.{Appends}
use Rattle.std.specs.Str.{encode_utf8_all}
use Rattle.proc_macro2.specs.Files.{new_map, next_lo}
use Rattle.proc_macro2.specs.Forest.{Forest}
use Rattle.proc_macro2.specs.Laws.{Gives}
use Rattle.proc_macro2.specs.Parsing.{ParsesTo}
use Rattle.proc_macro2.specs.Printed.{printed}
use Rattle.proc_macro2.specs.Trees.{forest}
use Rattle.proc_macro2.specs.declared.Group.{Group as Grouped}
use Rattle.proc_macro2.specs.declared.TokenTree.{TokenTree}
use Rattle.proc_macro2.specs.Leaf.{Name}
use Rattle.declarations.specs.Forms.{AreInnerAttributes, IsAnyItem}
use Rattle.declarations.specs.Item.{IsTypeItem}
use Rattle.declarations.specs.Kind.{HasKind}
use Rattle.declarations.specs.List.{AreInside}
use Rattle.declarations.specs.Reading.{Reads}
use Rattle.declarations.specs.declared.any_item.ItemKind.{ItemKind}
use Rattle.declarations.specs.declared.any_item.ItemKind.TheVariants as kinds
use Rattle.declarations.specs.declared.item.Body.{Body}
use Rattle.declarations.specs.declared.item.Body.TheVariants as bodies
use Rattle.declarations.specs.declared.item.Fields.TheVariants as fields
use Rattle.declarations.specs.declared.item.TypeItem.{TypeItem}
use Rattle.write_getters.specs.Getters.{IsCodeOf}
use Rattle.write_getters.specs.Templates.{IsTemplate}
use Rattle.write_getters.specs.declared.templates.Templates.{Templates}

-- the printed text of the code parses to the same code, up to spans
abbrev pub IsFaithful : Forest → Type 0
IsFaithful code = Gives 0 (printed code) code

-- the line that is written for some code
abbrev pub line_of : Forest → List ℕ
line_of code = encode_utf8_all (printed code) ++ codes "\n"

-- the code of a struct with the fields in this group; it comes back from its printed text
pub record IsStruct (templates : Templates) (item : TypeItem) (group : Grouped) (code : Forest) : Type 0 where
  pub trees : List TokenTree
  pub inside : AreInside trees group
  pub is : IsCodeOf templates item trees code
  pub faithful : IsFaithful code

-- the braces around the named fields of a struct, if it has any
abbrev pub named_fields : Body → Option Grouped
named_fields (bodies.Struct (fields.Named g)) = Some g.now
named_fields _ = None

-- a struct with named fields has one code, and any other type has none
abbrev pub IsBodyCode : Templates → TypeItem → Option Grouped → List Forest → Type 0
IsBodyCode templates item None written = written ≡ []
IsBodyCode templates item (Some group) written =
    (code : Forest) × (written ≡ code ∷ []) × IsStruct templates item group code

abbrev pub IsStructCode : Templates → List TokenTree → List Forest → Type 0
IsStructCode templates trees written =
    (item : TypeItem) × IsTypeItem trees item × IsBodyCode templates item (named_fields item.body) written

-- a struct has the code of its fields, and an item of another kind has none
pub record IsItemCode (templates : Templates) (kind : ItemKind) (trees : List TokenTree) (written : List Forest)
    : Type 0 where
  pub of_struct : kind ≡ kinds.Struct → IsStructCode templates trees written
  pub none : (kind ≡ kinds.Struct → ⊥) → written ≡ []

-- the trees begin with an item, which has this code, and go on with `rest`
pub record IsFirstItem (templates : Templates) (trees : List TokenTree) (written : List Forest) (rest : List TokenTree)
    : Type 0 where
  pub part : List TokenTree
  pub reads : Reads IsAnyItem trees part rest
  pub kind : ItemKind
  pub name : Option Name
  pub tells : HasKind trees rest kind name
  pub code : IsItemCode templates kind part written

-- the trees are items, each of which has its code
abbrev pub AreWritten : Templates → List TokenTree → List (List Forest) → Type 0
AreWritten templates trees [] = trees ≡ []
AreWritten templates trees (written ∷ more) =
    (rest : List TokenTree) × IsFirstItem templates trees written rest × AreWritten templates rest more

abbrev pub lines_of : List (List Forest) → List ℕ
lines_of all = flat_map (λ written. flat_map line_of written) all

-- the trees are inner attributes and then items, and the lines of the items are appended to the output
pub record WritesFile (plain generic : List ℕ) (trees : List TokenTree) (old new : Option (List ℕ)) : Type 0 where
  pub templates : Templates
  pub is_plain : IsTemplate plain templates.plain
  pub is_generic : IsTemplate generic templates.generic
  pub inner : List TokenTree
  pub items : List TokenTree
  pub inner_read : Reads AreInnerAttributes trees inner items
  pub written : List (List Forest)
  pub are_written : AreWritten templates items written
  pub appends : Appends old new (lines_of written)

-- the text parses to a file, and the lines of its items are written
pub record Writes (plain generic text : List ℕ) (old new : Option (List ℕ)) : Type 0 where
  pub stream : Forest
  pub parses : ParsesTo (next_lo new_map) text stream
  pub trees : List TokenTree
  pub whole : forest trees ≡ stream
  pub file : WritesFile plain generic trees old new
