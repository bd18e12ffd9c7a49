-- The declarations of a file.
use Rattle.std.specs.Prelude.{◌≡◌, ℕ, suc, Bool, true, if◌then◌else◌, is_some, List, [], ◌∷◌, ◌++◌, Option, Some, None}
use Rattle.std.specs.Prelude.{option_copied}
use Rattle.pm_span.specs.Extent.{Extent, nowhere}
use Rattle.pm_token.specs.Leaf.{Name}
use Rattle.pm_stream.specs.Forest.{Forest}
use Rattle.pm_stream.specs.Trees.{forest}
use Rattle.pm_stream.specs.TreeSpan.{extent_of}
use Rattle.pm_stream.specs.declared.stream.Group.{Group as Grouped}
use Rattle.pm_stream.specs.declared.stream.TokenTree.{TokenTree}
use Rattle.declarations.specs.File.{body_of}
use Rattle.declarations.specs.Forms.{AreAttributes, AreInnerAttributes, IsAnyItem}
use Rattle.declarations.specs.Kind.{HasKind}
use Rattle.declarations.specs.Reading.{Reads}
use Rattle.declarations.specs.declared.any_item.AnyItem.{AnyItem}
use Rattle.declarations.specs.declared.any_item.ItemKind.{ItemKind}
use Rattle.declarations.specs.declared.any_item.ItemKind.TheVariants.{Impl, ExternBlock}
use Rattle.declarations.specs.declared.file.Items.{Items}
use Rattle.outline.specs.declared.entries.Entry.{Entry as Given}

-- ---- the items of a file, and the items in them

-- items in order. The first item has its kind, its name, and its trees after its attributes. Then come the items in it,
-- and then the items after it
pub data Outline : Type 0 where
  nothing : Outline
  item : ItemKind → Option Name → List TokenTree → Outline → Outline → Outline

-- the trees of the stream are inner attributes and then these items
pub record AreTrees (stream : Forest) (items : List TokenTree) : Type 0 where
  pub all : List TokenTree
  pub inner : List TokenTree
  pub held : forest all ≡ stream
  pub read : Reads AreInnerAttributes all inner items

-- these are the trees of the items in the braces, or there are no braces and no trees
abbrev pub AreInside : Option Grouped → List TokenTree → Type 0
AreInside None items = items ≡ []
AreInside (Some group) items = AreTrees group.stream items

-- the trees begin with an item that has this kind, name and header, and then the rest. `items` are the trees in it
pub record BeginsWithItem (trees : List TokenTree) (kind : ItemKind) (name : Option Name)
    (header items rest : List TokenTree) : Type 0 where
  pub part : List TokenTree
  pub attributes : List TokenTree
  pub read : Reads IsAnyItem trees part rest
  pub kind_and_name : HasKind trees rest kind name
  pub front : Reads AreAttributes part attributes header
  pub inside : AreInside (body_of kind part) items

-- the trees are the items of this outline
abbrev pub IsOutline : List TokenTree → Outline → Type 0
IsOutline trees nothing = trees ≡ []
IsOutline trees (item kind name header inside after) =
    (items : List TokenTree) × (rest : List TokenTree) × BeginsWithItem trees kind name header items rest
    × IsOutline items inside × IsOutline rest after

-- the trees are a file with the items of this outline
abbrev pub IsTreesOutline : List TokenTree → Outline → Type 0
IsTreesOutline trees outline =
    (inner : List TokenTree) × (items : List TokenTree) × Reads AreInnerAttributes trees inner items
    × IsOutline items outline

-- ---- which items are listed

-- a declaration: the number of declarations it is in, its kind, its name, and its trees after its attributes
pub record Entry : Type 0 where
  pub depth : ℕ
  pub kind : ItemKind
  pub name : Option Name
  pub header : List TokenTree

-- whether an item is listed. It must have a name, or be an `impl` or an `extern` block
abbrev pub is_listed : ItemKind → Option Name → Bool
is_listed Impl name = true
is_listed ExternBlock name = true
is_listed _ name = is_some name

abbrev pub entry_of : ℕ → ItemKind → Option Name → List TokenTree → Entry
entry_of depth kind name header = record {
  depth = depth;
  kind = kind;
  name = name;
  header = header;
}

abbrev pub lists : Bool → Entry → List Entry
lists is entry = if is then entry ∷ [] else []

-- the declarations of an outline, each before those in it, and then `more`. `depth` is the number that they are in
abbrev pub entries_onto : ℕ → Outline → List Entry → List Entry
entries_onto depth nothing more = more
entries_onto depth (item kind name header inside after) more =
    lists (is_listed kind name) (entry_of depth kind name header)
    ++ entries_onto (suc depth) inside (entries_onto depth after more)

abbrev pub entries_of : Outline → List Entry
entries_of outline = entries_onto 0 outline []

-- the program's record of a declaration, as an `Entry`
abbrev pub entry_of_value : Given → Entry
entry_of_value entry = record {
  depth = entry.depth;
  kind = entry.kind;
  name = option_copied entry.name;
  header = entry.header.now;
}

-- the entry of an item that is in `depth` declarations, and the items in its braces
pub record Opens (depth : ℕ) (item : AnyItem) (entry : Given) (inside : Items) : Type 0 where
  pub attributes : List TokenTree
  pub front : Reads AreAttributes item.trees.now attributes entry.header.now
  pub is : entry_of_value entry ≡ entry_of depth item.kind (option_copied item.name) entry.header.now
  pub holds : AreInside (body_of item.kind item.trees.now) inside.left.now

-- an item of this kind with these trees has no outline: its attributes cannot be read, or the trees in its braces are
-- no items
abbrev pub NeverIs : ItemKind → List TokenTree → Type 0
NeverIs kind part =
    (attributes header items : List TokenTree) → Reads AreAttributes part attributes header
    → AreInside (body_of kind part) items → ⊥

-- this item has no outline
abbrev pub NeverOpens : AnyItem → Type 0
NeverOpens it = NeverIs it.kind it.trees.now

-- ---- where a declaration is

-- the span of the first tree
abbrev pub first_of : List TokenTree → Extent
first_of [] = nowhere
first_of (tree ∷ trees) = extent_of tree

-- the span of the last tree but one, or of the only tree
abbrev pub last_of : List TokenTree → Extent
last_of [] = nowhere
last_of (tree ∷ []) = extent_of tree
last_of (tree ∷ last ∷ []) = extent_of tree
last_of (tree ∷ next ∷ last ∷ trees) = last_of (next ∷ last ∷ trees)
