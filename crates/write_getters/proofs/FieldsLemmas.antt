-- The loop that collects the names and types of the fields that have a getter.
use Rattle.std.proofs.Common.{◌≡◌, refl, sym, ◌∙◌, ap, subst, Bool, true, false, List, [], ◌∷◌, ◌++◌, Some, None}
use Rattle.std.proofs.Common.{Ok, Bor, codes, map, not, append_assoc, append-nil}
use Rattle.std.specs.List.{list_any}
use Rattle.std.proofs.lemmas.List.{map-append}
use Rattle.std.proofs.lemmas.List.Elements.{filter-append}
use Rattle.proc_macro2.specs.Forest.{Forest}
use Rattle.proc_macro2.specs.Building.{split}
use Rattle.proc_macro2.specs.Leaf.{Name}
use Rattle.proc_macro2.specs.Trees.{alone}
use Rattle.proc_macro2.specs.declared.TokenTree.{TokenTree}
use Rattle.proc_macro2.specs.declared.TokenTree.TheVariants.{Ident}
use Rattle.declarations.specs.Attribute.{is_word}
use Rattle.declarations.specs.List.{GivesField, IsFieldOf, IsFirst, Lists}
use Rattle.declarations.specs.declared.field.Field.{Field}
use Rattle.declarations.specs.declared.list.FieldList.{FieldList}
use Rattle.write_getters.specs.Fields.{getter_fields, has_several_bounds, is_plus, is_skipped, name_of, type_of}

-- the names and types of the fields before those that are left are collected
pub record Collected (list left : FieldList) (names kinds : List Forest) : Type 0 where
  pub named : left.named ≡ true
  pub done : List Field
  pub goes : (more : List Field) → Lists (IsFieldOf true) left.left.now more []
      → Lists (IsFieldOf true) list.left.now (done ++ more) []
  pub names_are : names ≡ map name_of (getter_fields done)
  pub kinds_are : kinds ≡ map type_of (getter_fields done)

pub collected_none : (list : FieldList) → list.named ≡ true → Collected list list [] []
collected_none list named = record { named = named; done = []; goes = λ more h. h; names_are = refl; kinds_are = refl }

-- one more field is read
more_goes : (trees left next : List TokenTree) (done : List Field) (field : Field)
    → ((more : List Field) → Lists (IsFieldOf true) left more [] → Lists (IsFieldOf true) trees (done ++ more) [])
    → IsFirst (IsFieldOf true) left field next → (more : List Field) → Lists (IsFieldOf true) next more []
    → Lists (IsFieldOf true) trees ((done ++ field ∷ []) ++ more) []
more_goes trees left next done field goes first more lists =
    subst (λ all. Lists (IsFieldOf true) trees all []) (sym (append_assoc done (field ∷ []) more))
    (goes (field ∷ more) (next, first, lists))

field_first : (named : Bool) (left next : List TokenTree) (field : Field) → named ≡ true
    → IsFirst (IsFieldOf named) left field next → IsFirst (IsFieldOf true) left field next
field_first named left next field is first = subst (λ b. IsFirst (IsFieldOf b) left field next) is first

chosen_skip : (field : Field) → is_skipped field ≡ true → getter_fields (field ∷ []) ≡ []
chosen_skip field skipped = rw skipped refl

chosen_put : (field : Field) → is_skipped field ≡ false → getter_fields (field ∷ []) ≡ field ∷ []
chosen_put field kept = rw kept refl

-- one more field is collected, if it is chosen
push : (f : Field → Forest) (done : List Field) (field : Field) (items : List Forest) (last : List Field)
    → items ≡ map f (getter_fields done) → getter_fields (field ∷ []) ≡ last
    → items ++ map f last ≡ map f (getter_fields (done ++ field ∷ []))
push f done field items last are one =
    ap (λ ts. ts ++ map f last) are ∙ ap (λ fs. map f (getter_fields done) ++ map f fs) (sym one)
    ∙ sym (map-append f (getter_fields done) (getter_fields (field ∷ [])))
    ∙ ap (map f) (sym (filter-append (λ field. not (is_skipped field)) done (field ∷ [])))

pub collected_skip : (list left next : FieldList) (field : Field) (names kinds : List Forest)
    → Collected list left names kinds → GivesField left (Some (Ok field)) next → is_skipped field ≡ true
    → Collected list next names kinds
collected_skip list left next field names kinds before gives skipped = record {
  named = gives.1 ∙ before.named;
  done = before.done ++ field ∷ [];
  goes = more_goes list.left.now left.left.now next.left.now before.done field before.goes
      (field_first left.named left.left.now next.left.now field before.named gives.0);
  names_are = sym (append-nil names)
      ∙ push name_of before.done field names [] before.names_are (chosen_skip field skipped);
  kinds_are = sym (append-nil kinds)
      ∙ push type_of before.done field kinds [] before.kinds_are (chosen_skip field skipped);
}

pub collected_put : (list left next : FieldList) (field : Field) (names kinds names2 kinds2 : List Forest)
    (name kind : Forest) → Collected list left names kinds → GivesField left (Some (Ok field)) next
    → is_skipped field ≡ false → name ≡ name_of field → kind ≡ type_of field → names2 ≡ names ++ name ∷ []
    → kinds2 ≡ kinds ++ kind ∷ [] → Collected list next names2 kinds2
collected_put list left next field names kinds names2 kinds2 name kind before gives kept is_name is_kind name_put
    kind_put = record {
      named = gives.1 ∙ before.named;
      done = before.done ++ field ∷ [];
      goes = more_goes list.left.now left.left.now next.left.now before.done field before.goes
          (field_first left.named left.left.now next.left.now field before.named gives.0);
      names_are = name_put ∙ ap (λ n. names ++ n ∷ []) is_name
          ∙ push name_of before.done field names (field ∷ []) before.names_are (chosen_put field kept);
      kinds_are = kind_put ∙ ap (λ k. kinds ++ k ∷ []) is_kind
          ∙ push type_of before.done field kinds (field ∷ []) before.kinds_are (chosen_put field kept);
    }

-- once none are left, all fields are collected
pub collected_all : (list left next : FieldList) (names kinds : List Forest) → Collected list left names kinds
    → GivesField left None next
    → (all : List Field) × Lists (IsFieldOf true) list.left.now all [] × (names ≡ map name_of (getter_fields all))
    × (kinds ≡ map type_of (getter_fields all))
collected_all list left next names kinds before gives = (
  before.done,
  subst (λ all. Lists (IsFieldOf true) list.left.now all []) (append-nil before.done) (before.goes [] gives.0),
  before.names_are,
  before.kinds_are,
)

-- ---- one field

pub name_put : (field : Field) (name : Bor Name) (copy : Name) (stream : Forest) → field.name ≡ Some name
    → copy ≡ name.now → stream ≡ split (Ident copy) → stream ≡ name_of field
name_put field name copy stream is cloned put =
    put ∙ ap (λ n. alone (Ident n)) cloned ∙ rw is refl

-- a named field has a name
named_not_none : (trees rest : List TokenTree) (field : Field) → IsFieldOf true trees field rest → field.name ≡ None → ⊥
named_not_none trees rest field at none = rw none at at.parts.name

pub nameless : (named : Bool) (trees rest : List TokenTree) (field : Field) → named ≡ true
    → IsFieldOf named trees field rest → field.name ≡ None → ⊥
nameless named trees rest field is at none =
    named_not_none trees rest field (subst (λ b. IsFieldOf b trees field rest) is at) none

-- ---- trait objects of several bounds

pub several : (trees bounds : List TokenTree) (word : Name) (result : Bool) → trees ≡ Ident word ∷ bounds
    → is_word (Ident word ∷ []) (codes "dyn") ≡ true → result ≡ list_any is_plus bounds
    → result ≡ has_several_bounds trees
several trees bounds word result whole is found = rw (whole, is) found
