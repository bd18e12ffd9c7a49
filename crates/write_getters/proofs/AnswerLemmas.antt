-- The loop that writes the lines of a file.
use Rattle.std.proofs.Common.{◌≡◌, ℕ, List, [], ◌∷◌, Option, Some, None, flat_map, refl}
use Rattle.std.proofs.KnownBytes.{Appends-nil, Appends-trans}
use Rattle.std.specs.Io.KnownBytes.{Appends}
use Rattle.proc_macro2.specs.Forest.{Forest}
use Rattle.proc_macro2.specs.Leaf.{Name}
use Rattle.proc_macro2.specs.declared.Group.{Group as Grouped}
use Rattle.proc_macro2.specs.declared.TokenTree.{TokenTree}
use Rattle.declarations.specs.Forms.{IsAnyItem}
use Rattle.declarations.specs.Kind.{HasKind}
use Rattle.declarations.specs.Reading.{Reads}
use Rattle.declarations.specs.declared.any_item.ItemKind.{ItemKind}
use Rattle.declarations.specs.declared.any_item.ItemKind.TheVariants as kinds
use Rattle.declarations.specs.declared.item.TypeItem.{TypeItem}
use Rattle.write_getters.specs.Answer.{AreWritten, IsBodyCode, IsItemCode, IsStruct, IsStructCode, line_of, lines_of}
use Rattle.write_getters.specs.declared.templates.Templates.{Templates}

-- the lines of these items are appended to the output
abbrev pub WritesItems : Templates → List TokenTree → Option (List ℕ) → Option (List ℕ) → Type 0
WritesItems templates items old new =
    (written : List (List Forest)) × AreWritten templates items written × Appends old new (lines_of written)

-- if the lines of the items that are left are written next, the lines of all items are written
abbrev pub Goes : Templates → List TokenTree → Option (List ℕ) → List TokenTree → Option (List ℕ) → Type 0
Goes templates items old left now =
    (new : Option (List ℕ)) → WritesItems templates left now new → WritesItems templates items old new

pub goes_on : (templates : Templates) (items left part rest : List TokenTree) (kind : ItemKind) (name : Option Name)
    (written : List Forest) (old now next : Option (List ℕ)) → Goes templates items old left now
    → Reads IsAnyItem left part rest → HasKind left rest kind name → IsItemCode templates kind part written
    → Appends now next (flat_map line_of written) → Goes templates items old rest next
goes_on templates items left part rest kind name written old now next goes reads tells code puts = λ new more.
    goes new (
      written ∷ more.0,
      (rest, record { part = part; reads = reads; kind = kind; name = name; tells = tells; code = code }, more.1),
      Appends-trans _ _ _ _ _ puts more.2,
    )

pub goes_all : (templates : Templates) (items left : List TokenTree) (old now : Option (List ℕ))
    → Goes templates items old left now → left ≡ [] → WritesItems templates items old now
goes_all templates items left old now goes none = goes now ([], none, Appends-nil _)

pub struct_code : (templates : Templates) (kind : ItemKind) (part : List TokenTree) (written : List Forest)
    → kind ≡ kinds.Struct → IsStructCode templates part written → IsItemCode templates kind part written
struct_code templates kind part written is code = record { of_struct = λ _. code; none = λ other. absurd (other is) }

pub no_code : (templates : Templates) (kind : ItemKind) (part : List TokenTree) → (kind ≡ kinds.Struct → ⊥)
    → IsItemCode templates kind part []
no_code templates kind part other = record { of_struct = λ is. absurd (other is); none = λ _. refl }

-- ---- the body of a struct

pub body_code : (templates : Templates) (item : TypeItem) (body : Option Grouped) (group : Grouped) (code : Forest)
    → body ≡ Some group → IsStruct templates item group code → IsBodyCode templates item body (code ∷ [])
body_code templates item body group code is struct = rw is (code, refl, struct)

pub no_body : (templates : Templates) (item : TypeItem) (body : Option Grouped) → body ≡ None
    → IsBodyCode templates item body []
no_body templates item body is = rw is refl
