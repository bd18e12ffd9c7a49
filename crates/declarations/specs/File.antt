-- The items of a file or of a body in braces, and the braces that an item ends with.
use Rattle.std.specs.Prelude.{◌≡◌, ◌+◌, ◌⊎◌, ℕ, List, [], ◌∷◌, ◌++◌, length, Option, Some, None, Result}
use Rattle.std.specs.Prelude.{MatchOption, MatchResult}
use Rattle.pm_token.specs.Leaf.{Name}
use Rattle.pm_token.specs.declared.delimiters.Delimiter.{Delimiter}
use Rattle.pm_token.specs.declared.delimiters.Delimiter.TheVariants as delimiters
use Rattle.pm_stream.specs.declared.stream.Group.{Group as Grouped}
use Rattle.pm_stream.specs.declared.stream.TokenTree.{TokenTree}
use Rattle.pm_stream.specs.declared.stream.TokenTree.TheVariants.{Group}
use Rattle.declarations.specs.Expected.{Expects}
use Rattle.declarations.specs.Fault.{extent_at}
use Rattle.declarations.specs.Forms.{AreInnerAttributes, IsAnyItem}
use Rattle.declarations.specs.Kind.{HasKind}
use Rattle.declarations.specs.Reading.{FaultAt, Reads}
use Rattle.declarations.specs.declared.any_item.AnyItem.{AnyItem}
use Rattle.declarations.specs.declared.any_item.ItemKind.{ItemKind}
use Rattle.declarations.specs.declared.any_item.ItemKind.TheVariants as kinds
use Rattle.declarations.specs.declared.expected.Expected.{Expected}
use Rattle.declarations.specs.declared.fault.Fault.{Fault}
use Rattle.declarations.specs.declared.file.Items.{Items}

-- the trees are these parts and then the left trees. Each part is an item
abbrev pub AreItemsBefore : List (List TokenTree) → List TokenTree → List TokenTree → Type 0
AreItemsBefore [] trees left = trees ≡ left
AreItemsBefore (part ∷ parts) trees left =
    (rest : List TokenTree) × Reads IsAnyItem trees part rest × AreItemsBefore parts rest left

-- all of the trees are items
abbrev pub AreItems : List TokenTree → Type 0
AreItems trees = (parts : List (List TokenTree)) × AreItemsBefore parts trees []

-- the trees are inner attributes and then items
pub record IsFile (trees inner items : List TokenTree) : Type 0 where
  pub inner_read : Reads AreInnerAttributes trees inner items
  pub are_items : AreItems items

-- after inner attributes and some items the trees go on with no item. The error there is after `at` trees, and the set
-- has exactly the signs that could come there in the item
pub record ItemFaultAt (trees : List TokenTree) (at : ℕ) (set : Expected) : Type 0 where
  pub inner : List TokenTree
  pub items : List TokenTree
  pub inner_read : Reads AreInnerAttributes trees inner items
  pub parts : List (List TokenTree)
  pub front : List TokenTree
  pub left : List TokenTree
  pub before : AreItemsBefore parts items left
  pub whole : trees ≡ front ++ left
  pub more : left ≡ [] → ⊥
  pub within : ℕ
  pub fault : FaultAt IsAnyItem left within
  pub expected : Expects IsAnyItem left within set
  pub counted : at ≡ length front + within

-- the trees are no file. The error is in the inner attributes, or in the first item that cannot be read. The set has
-- exactly the signs that could come there in the attributes or in the item
abbrev pub FileFaultAt : List TokenTree → ℕ → Expected → Type 0
FileFaultAt trees at set =
    (FaultAt AreInnerAttributes trees at × Expects AreInnerAttributes trees at set) ⊎ ItemFaultAt trees at set

-- the trees begin with an item of this kind and with this name
abbrev pub HasKindOf : List TokenTree → List TokenTree → AnyItem → Type 0
HasKindOf trees rest item =
    (name : Option Name) × HasKind trees rest item.kind name
    × MatchOption item.name (name ≡ None) (λ ident. name ≡ Some ident.now)

-- a call of `next` gives the next item, or an error, after which no trees are left. It gives nothing if none are left
abbrev pub GivesItem : Items → Option (Result AnyItem Fault) → Items → Type 0
GivesItem old given new =
    MatchOption given ((old.left.now ≡ []) × (new ≡ old))
    (λ found. MatchResult found
    (λ item. Reads IsAnyItem old.left.now item.trees.now new.left.now × HasKindOf old.left.now new.left.now item)
    (λ fault. FaultAt IsAnyItem old.left.now fault.at × (fault.span ≡ extent_at old.left.now fault.at)
    × Expects IsAnyItem old.left.now fault.at fault.expected × (new.left.now ≡ [])))

-- ---- the braces that an item ends with

abbrev pub in_braces : Delimiter → Grouped → Option Grouped
in_braces delimiters.Brace group = Some group
in_braces _ group = None

-- the tree as a group, if it is a group in braces
abbrev pub braces : TokenTree → Option Grouped
braces (Group group) = in_braces group.delimiter group
braces _ = None

-- the last tree as a group, if it is a group in braces
abbrev pub last_braces : List TokenTree → Option Grouped
last_braces [] = None
last_braces (tree ∷ []) = braces tree
last_braces (tree ∷ next ∷ trees) = last_braces (next ∷ trees)

-- the braces with the items of an item of this kind, if it has such braces
abbrev pub body_of : ItemKind → List TokenTree → Option Grouped
body_of kinds.Module trees = last_braces trees
body_of kinds.Trait trees = last_braces trees
body_of kinds.Impl trees = last_braces trees
body_of kinds.ExternBlock trees = last_braces trees
body_of _ trees = None
