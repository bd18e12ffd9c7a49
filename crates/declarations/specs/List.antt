-- Lists of parts, one part at a time.
use Rattle.std.specs.Prelude.{◌≡◌, ◌⊎◌, ◌||◌, Bool, true, false, List, [], ◌∷◌, Option, Result}
use Rattle.std.specs.Prelude.{MatchOption, MatchResult, length}
use Rattle.pm_stream.specs.Trees.{forest}
use Rattle.pm_stream.specs.declared.stream.Group.{Group as Grouped}
use Rattle.pm_stream.specs.declared.stream.TokenTree.{TokenTree}
use Rattle.pm_stream.specs.declared.stream.TokenTree.TheVariants.{Punct}
use Rattle.declarations.specs.Expected.{Expects, HasSigns, holds}
use Rattle.declarations.specs.Fault.{extent_at}
use Rattle.declarations.specs.Field.{IsFieldAt, HasFieldParts, HasTypeParts}
use Rattle.declarations.specs.Forms.{IsField, IsTupleField, IsVariant}
use Rattle.declarations.specs.Reading.{Reads, FaultAt}
use Rattle.declarations.specs.Variant.{IsVariantAt}
use Rattle.item_tables.specs.declared.class.SignClass.{SignClass}
use Rattle.item_tables.specs.declared.class.SignClass.TheVariants as classes
use Rattle.declarations.specs.declared.expected.Expected.{Expected}
use Rattle.declarations.specs.declared.fault.Fault.{Fault}
use Rattle.declarations.specs.declared.field.Field.{Field}
use Rattle.declarations.specs.declared.item.Fields.{Fields}
use Rattle.declarations.specs.declared.item.Fields.TheVariants as fields
use Rattle.declarations.specs.declared.list.FieldList.{FieldList}
use Rattle.declarations.specs.declared.list.VariantList.{VariantList}
use Rattle.declarations.specs.declared.variant.Variant.{Variant}
use Rattle.item_tables.specs.Classes.{is}
use Rattle.declarations.specs.rules.Names.{G}
use Rattle.declarations.specs.rules.Parts as rule

-- the trees are `,` (44) and then the left trees, or both are empty
abbrev pub IsPastComma : List TokenTree → List TokenTree → Type 0
IsPastComma [] left = left ≡ []
IsPastComma (Punct mark ∷ rest) left = (mark.mark ≡ 44) × (left ≡ rest)
IsPastComma (tree ∷ rest) left = ⊥

-- no part can be read, and the error has exactly the signs that could come there in a part
pub record LacksPart (form : List SignClass → List SignClass → Type 0) (trees : List TokenTree) (fault : Fault)
    : Type 0 where
  pub place : FaultAt form trees fault.at
  pub expected : Expects form trees fault.at fault.expected

-- a part is read, and neither `,` nor the end comes after it. The error has exactly `,` and the signs with which the
-- part could go on, and the end
pub record LacksComma (form : List SignClass → List SignClass → Type 0) (trees : List TokenTree) (fault : Fault)
    : Type 0 where
  pub part : List TokenTree
  pub rest : List TokenTree
  pub reads : Reads form trees part rest
  pub counted : fault.at ≡ length part
  pub none : (left : List TokenTree) → IsPastComma rest left → ⊥
  pub onward : Expected
  pub goes_on : Expects form trees fault.at onward
  pub expected : HasSigns fault.expected (λ class. is classes.Comma class || holds onward class) true

-- the error of a list: its next part cannot be read, or neither `,` nor the end comes after that part
pub record IsListFault (form : List SignClass → List SignClass → Type 0) (trees : List TokenTree) (fault : Fault)
    : Type 0 where
  pub place : LacksPart form trees fault ⊎ LacksComma form trees fault
  pub span : fault.span ≡ extent_at trees fault.at

-- the list begins with this part, and the left trees are those after its comma
abbrev pub IsFirst : {A : Type 0} → (List TokenTree → A → List TokenTree → Type 0) → List TokenTree → A
    → List TokenTree → Type 0
IsFirst at trees part left = (rest : List TokenTree) × at trees part rest × IsPastComma rest left

-- the list begins with this part; or it has this error at its first part, and no trees are left
abbrev pub BeginsList : {A : Type 0} → (List TokenTree → A → List TokenTree → Type 0)
    → (List SignClass → List SignClass → Type 0) → List TokenTree → Result A Fault → List TokenTree → Type 0
BeginsList at form trees found left =
    MatchResult found (λ part. IsFirst at trees part left) (λ fault. IsListFault form trees fault × (left ≡ []))

-- the list begins with these parts, and then has the left trees
abbrev pub Lists : {A : Type 0} → (List TokenTree → A → List TokenTree → Type 0) → List TokenTree → List A
    → List TokenTree → Type 0
Lists at trees [] left = trees ≡ left
Lists at trees (part ∷ parts) left = (next : List TokenTree) × IsFirst at trees part next × Lists at next parts left

-- ---- fields

abbrev pub IsFieldOf : Bool → List TokenTree → Field → List TokenTree → Type 0
IsFieldOf true = IsFieldAt IsField HasFieldParts
IsFieldOf false = IsFieldAt IsTupleField HasTypeParts

abbrev pub field_form : Bool → List SignClass → List SignClass → Type 0
field_form true = IsField
field_form false = IsTupleField

abbrev pub field_rule : Bool → G
field_rule true = rule.field
field_rule false = rule.tuple_field

-- a call of `next` gives the next field or an error, and nothing if no trees are left
abbrev pub GivesField : FieldList → Option (Result Field Fault) → FieldList → Type 0
GivesField old given new =
    MatchOption given ((old.left.now ≡ []) × (new ≡ old))
    (λ found. BeginsList (IsFieldOf old.named) (field_form old.named) old.left.now found new.left.now
    × (new.named ≡ old.named))

-- these are the trees inside the group
abbrev pub AreInside : List TokenTree → Grouped → Type 0
AreInside trees g = forest trees ≡ g.stream

-- the list gives the fields of this struct or variant
abbrev pub ListsFields : Fields → FieldList → Type 0
ListsFields (fields.Named g) list = (list.named ≡ true) × AreInside list.left.now g.now
ListsFields (fields.Tuple g) list = (list.named ≡ false) × AreInside list.left.now g.now
ListsFields fields.Unit list = list.left.now ≡ []

-- ---- variants

abbrev pub GivesVariant : VariantList → Option (Result Variant Fault) → VariantList → Type 0
GivesVariant old given new =
    MatchOption given ((old.left.now ≡ []) × (new ≡ old))
    (λ found. BeginsList IsVariantAt IsVariant old.left.now found new.left.now)
