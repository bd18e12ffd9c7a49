-- What functions return that find the kind and the name of an item.
use Rattle.std.specs.Prelude.{◌≡◌, Bool, ◌&&◌, ◌||◌, List, [], ◌∷◌, Result, Ok, Err}
use Rattle.std.specs.Borrow.{Bor}
use Rattle.grammars.specs.First.{heads}
use Rattle.grammars.specs.Grammar.{Many, Sign, Then, perhaps}
use Rattle.pm_stream.specs.declared.stream.TokenTree.{TokenTree}
use Rattle.declarations.specs.ItemRest.{further_segment}
use Rattle.declarations.specs.Kind.{AreQualifiers, HasKind, keyword_rule, name_at, named_rule}
use Rattle.declarations.specs.Reader.{Finds, Sticks}
use Rattle.declarations.specs.Signs.{BeginsWith}
use Rattle.declarations.specs.declared.any_item.ItemKind.{ItemKind}
use Rattle.declarations.specs.declared.any_item.ItemKind.TheVariants as kinds
use Rattle.declarations.specs.declared.item_front.FoundItem.{FoundItem}
use Rattle.declarations.specs.rules.Bodies.{constant_rest, name}
use Rattle.declarations.specs.rules.Fronts.{is_segment}
use Rattle.declarations.specs.rules.Items.{any_item, begins_call, call, call_name}
use Rattle.declarations.specs.rules.Names.{G, one, seq}
use Rattle.declarations.specs.rules.Parts.{generics, visibility}
use Rattle.item_tables.specs.Classes.{is_word}
use Rattle.item_tables.specs.declared.class.SignClass.{SignClass}
use Rattle.item_tables.specs.declared.class.SignClass.TheVariants as signs

-- the trees after a visibility begin with an item of this kind. Its name is at the start of the named trees
pub record IsKindAt (trees : List TokenTree) (kind : ItemKind) (named rest : List TokenTree) : Type 0 where
  pub from_keyword : List TokenTree
  pub qualifiers : AreQualifiers trees from_keyword
  pub keyword : Finds (keyword_rule kind) from_keyword named
  pub item : Finds (named_rule kind) named rest

-- the result is an item by the rule, or the trees from the error on
abbrev pub ReadsKind : G → List TokenTree → Result FoundItem (Bor (List TokenTree)) → Type 0
ReadsKind g trees (Ok found) =
    Finds g trees found.rest.now × IsKindAt trees found.kind found.named.now found.rest.now
ReadsKind g trees (Err left) = Sticks g trees left.now

-- the result is an item by the rule that comes after a keyword, and begins with its name; or the trees from the error
-- on
abbrev pub ReadsNamed : G → G → List TokenTree → Result FoundItem (Bor (List TokenTree)) → Type 0
ReadsNamed keyword g trees (Ok found) =
    Finds g trees found.rest.now × (keyword_rule found.kind ≡ keyword) × (found.named.now ≡ trees)
    × Finds (named_rule found.kind) trees found.rest.now
ReadsNamed keyword g trees (Err left) = Sticks g trees left.now

-- the result is an item by the rule that comes after a sign of this class, or the trees from the error on
abbrev pub ReadsAfter : SignClass → G → List TokenTree → Result FoundItem (Bor (List TokenTree)) → Type 0
ReadsAfter class g trees (Ok found) =
    Finds g trees found.rest.now
    × ((before : List TokenTree) → BeginsWith before class trees
    → IsKindAt before found.kind found.named.now found.rest.now)
ReadsAfter class g trees (Err left) = Sticks g trees left.now

-- the result is a constant whose name is at the start of the trees, or the trees from the error on. The second trees
-- are those after the name
abbrev pub ReadsConstant : List TokenTree → List TokenTree → Result FoundItem (Bor (List TokenTree)) → Type 0
ReadsConstant trees mid (Ok found) =
    Finds constant_rest mid found.rest.now × (found.kind ≡ kinds.Constant) × (found.named.now ≡ trees)
ReadsConstant trees mid (Err left) = Sticks constant_rest mid left.now

-- the trees begin with a name and generic parameters
pub record HasHeader (trees rest : List TokenTree) : Type 0 where
  pub from_generics : List TokenTree
  pub name : Finds name trees from_generics
  pub generics : Finds generics from_generics rest

-- the trees do not begin with a name and generic parameters, whatever follows
abbrev pub LacksHeader : List TokenTree → List TokenTree → Type 0
LacksHeader trees left = (g : G) → Sticks (seq (name ∷ generics ∷ g ∷ [])) trees left

-- the result is what comes after the first segment of a macro call's path, or the trees from the error on
abbrev pub ReadsCall : List TokenTree → Result FoundItem (Bor (List TokenTree)) → Type 0
ReadsCall trees (Ok found) =
    Finds call trees found.rest.now × (found.kind ≡ kinds.MacroCall)
    × Finds (Then (Many further_segment) (one signs.Exclamation)) trees found.named.now
    × Finds call_name found.named.now found.rest.now
ReadsCall trees (Err left) = Sticks call trees left.now

-- the result is an item by the rule after its attributes, with or without a visibility; or the trees from the error on
abbrev pub ReadsItem : G → List TokenTree → Result FoundItem (Bor (List TokenTree)) → Type 0
ReadsItem g trees (Ok found) =
    Finds g trees found.rest.now
    × ((from_qualifiers : List TokenTree) × Finds visibility trees from_qualifiers
    × IsKindAt from_qualifiers found.kind found.named.now found.rest.now)
ReadsItem g trees (Err left) = Sticks g trees left.now

-- the result is an item of any kind, or the trees from the error on
abbrev pub ReadsAny : List TokenTree → Result FoundItem (Bor (List TokenTree)) → Type 0
ReadsAny trees (Ok found) =
    Finds any_item trees found.rest.now
    × HasKind trees found.rest.now found.kind (name_at found.kind found.named.now)
ReadsAny trees (Err left) = Sticks any_item trees left.now

-- whether a sign of this class begins a macro call, where these signs come after it
abbrev pub is_call : SignClass → List SignClass → Bool
is_call class after = begins_call class || is_word class && heads call after

-- the trees begin with a segment of a path, perhaps with `::` before it
pub record BeginsPath (trees rest : List TokenTree) : Type 0 where
  pub from_segment : List TokenTree
  pub separator : Finds (perhaps (one signs.PathSeparator)) trees from_segment
  pub segment : Finds (Sign is_segment) from_segment rest
