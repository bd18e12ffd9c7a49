-- The levels that are open while items are read: the file, and the braces of declarations.
use Rattle.std.specs.Prelude.{◌≡◌, ℕ, ◌<◌, ◌⊎◌, List, ◌∷◌, Option, is_some, length, option_map, string_bytes}
use Rattle.std.specs.Option.{option_to_list}
use Rattle.pm_span.specs.Files.{Files, new_map, with_file}
use Rattle.pm_token.specs.Leaf.{Name}
use Rattle.pm_stream.specs.declared.stream.Group.{Group as Grouped}
use Rattle.pm_stream.specs.declared.stream.TokenTree.{TokenTree}
use Rattle.pm_stream.specs.declared.stream.TokenTree.TheVariants.{Group}
use Rattle.token_buffer.specs.Reads.{left}
use Rattle.token_buffer.specs.declared.cursor.Cursor.{Cursor}
use Rattle.declarations.specs.File.{body_of}
use Rattle.declarations.specs.Forms.{AreAttributes, IsAnyItem}
use Rattle.declarations.specs.Kind.{HasKind}
use Rattle.declarations.specs.Reading.{Reads}
use Rattle.declarations.specs.declared.any_item.ItemKind.{ItemKind}
use Rattle.outline.specs.Answer.{lines_of}
use Rattle.outline.specs.Hollow.{trees_in}
use Rattle.outline.specs.Outline.{NeverIs, entry_of, is_listed, lists}
use Rattle.outline.specs.declared.level.Level.{Level}
use Rattle.outline.specs.declared.levels.ReadItem.{ReadItem}
use Rattle.outline.specs.declared.options.Form.{Form}

-- the trees that a cursor has left
abbrev pub trees_left : Cursor → List TokenTree
trees_left cursor = trees_in (left cursor)

-- the trees that a level has left
abbrev pub level_left : Level → List TokenTree
level_left level = trees_left level.rest

-- the group is the first tree that the cursor has left
abbrev pub BeginsWith : Cursor → Grouped → Type 0
BeginsWith cursor group = (rest : List TokenTree) × (trees_left cursor ≡ Group group ∷ rest)

-- the step takes the item at the start of the trees, which is in `depth` declarations, and has the line of this item
pub record Takes (files : Files) (form : Form) (path : List ℕ) (depth : ℕ) (trees : List TokenTree) (step : ReadItem)
    : Type 0 where
  pub part : List TokenTree
  pub rest : List TokenTree
  pub kind : ItemKind
  pub name : Option Name
  pub attributes : List TokenTree
  pub header : List TokenTree
  pub read : Reads IsAnyItem trees part rest
  pub kind_and_name : HasKind trees rest kind name
  pub front : Reads AreAttributes part attributes header
  pub counted : step.count ≡ length part
  pub some : 0 < step.count
  pub body : step.has_body ≡ is_some (body_of kind part)
  pub line : (text : List ℕ) → files ≡ with_file new_map text → option_to_list (option_map string_bytes step.line)
      ≡ lines_of form path text (lists (is_listed kind name) (entry_of depth kind name header))

-- the trees begin with an item that has no outline
pub record IsClosed (trees : List TokenTree) : Type 0 where
  pub part : List TokenTree
  pub rest : List TokenTree
  pub kind : ItemKind
  pub name : Option Name
  pub read : Reads IsAnyItem trees part rest
  pub kind_and_name : HasKind trees rest kind name
  pub never : NeverIs kind part

-- the trees begin with no item, or with one that has no outline
abbrev pub IsStopped : List TokenTree → Type 0
IsStopped trees = ((part rest : List TokenTree) → Reads IsAnyItem trees part rest → ⊥) ⊎ IsClosed trees
