-- The declarations that are left to list.
use Rattle.std.proofs.Common.{◌≡◌, refl, sym, ◌∙◌, ap, subst, ℕ, suc, List, [], ◌∷◌, ◌++◌, length, map}
use Rattle.std.proofs.Common.{append_assoc, append-nil, reverse, Option, Some, None, MatchOption}
use Rattle.std.proofs.lemmas.List.{length-map, length-reverse, reverse-append}
use Rattle.std.specs.Borrow.{Bor}
use Rattle.std.specs.Prelude.{option_copied}
use Rattle.pm_token.specs.Leaf.{Name}
use Rattle.pm_stream.specs.TreeSpan.{extent_of}
use Rattle.pm_stream.specs.declared.stream.TokenTree.{TokenTree}
use Rattle.declarations.specs.File.{HasKindOf}
use Rattle.declarations.specs.Forms.{AreInnerAttributes, IsAnyItem}
use Rattle.declarations.specs.Kind.{HasKind}
use Rattle.declarations.specs.Reading.{Reads}
use Rattle.declarations.specs.declared.any_item.AnyItem.{AnyItem}
use Rattle.declarations.specs.declared.any_item.ItemKind.{ItemKind}
use Rattle.declarations.specs.declared.file.Items.{Items}
use Rattle.outline.specs.Outline.{BeginsWithItem, Entry, IsOutline, IsTreesOutline, Opens, Outline}
use Rattle.outline.specs.Outline.{entries_of, entries_onto, entry_of}
use Rattle.outline.specs.Outline.{is_listed, item, last_of, lists, nothing, entry_of_value}
use Rattle.outline.specs.declared.entries.Entry.{Entry as Given}

-- the outlines are those of the trees that are left, the innermost first
abbrev pub AreOutlines : List (List TokenTree) → List Outline → Type 0
AreOutlines [] [] = Unit {0}
AreOutlines [] (o ∷ os) = ⊥
AreOutlines (items ∷ outer) [] = ⊥
AreOutlines (items ∷ outer) (o ∷ os) = IsOutline items o × AreOutlines outer os

-- the declarations of the outlines that are left
abbrev pub rests : List Outline → List Entry
rests [] = []
rests (o ∷ os) = entries_onto (length os) o (rests os)

-- the declarations so far and those of the trees that are left are the declarations of all items
abbrev pub Completes : List TokenTree → List Entry → List (List TokenTree) → Type 0
Completes trees found levels =
    (os : List Outline) → AreOutlines levels os
    → (whole : Outline) × IsTreesOutline trees whole × (found ++ rests os ≡ entries_of whole)

-- the trees that are left in each level, the innermost first. The list of levels has the innermost last
abbrev pub stack : {T : Type 0} → (T → List TokenTree) → List T → List (List TokenTree)
stack of levels = map of (reverse levels)

pub stack_last : {T : Type 0} (of : T → List TokenTree) (levels less : List T) (last : T) → levels ≡ less ++ last ∷ []
    → stack of levels ≡ of last ∷ stack of less
stack_last of levels less last split = ap (map of) (ap reverse split ∙ reverse-append less (last ∷ []))

stack_length : {T : Type 0} (of : T → List TokenTree) (levels : List T) → length (stack of levels) ≡ length levels
stack_length of levels = length-map (reverse levels) of ∙ length-reverse levels

-- the trees that are left in a level of the program
abbrev pub items_left : Items → List TokenTree
items_left items = items.left.now

-- ---- from the first level to the last

completes-one : (trees items : List TokenTree) → ((inner : List TokenTree) × Reads AreInnerAttributes trees inner items)
    → Completes trees [] (items ∷ [])
completes-one trees items read [] are = absurd are
completes-one trees items read (o ∷ []) are = (o, (read.0, items, read.1, are.0), refl)
completes-one trees items read (o ∷ next ∷ os) are = absurd are.1

pub completes_start : {T : Type 0} (of : T → List TokenTree) (trees : List TokenTree) (level : T) (found : List Entry)
    (empty levels : List T) → ((inner : List TokenTree) × Reads AreInnerAttributes trees inner (of level))
    → found ≡ [] → empty ≡ [] → levels ≡ empty ++ level ∷ [] → Completes trees found (stack of levels)
completes_start of trees level found empty levels read none is_empty pushed =
    let one : stack of levels ≡ of level ∷ [] =
    stack_last of levels empty level pushed ∙ ap (λ l. of level ∷ stack of l) is_empty in
    subst (λ (fs : List Entry). Completes trees fs (stack of levels)) (sym none)
    (subst (Completes trees []) (sym one) (completes-one trees (of level) read))

completes-pop : (trees : List TokenTree) (found : List Entry) (items : List TokenTree) (outer : List (List TokenTree))
    → items ≡ [] → Completes trees found (items ∷ outer) → Completes trees found outer
completes-pop trees found items outer none h os are = h (nothing ∷ os) (none, are)

pub completes_pop : {T : Type 0} (of : T → List TokenTree) (trees : List TokenTree) (found : List Entry) (last : T)
    (levels less : List T) → of last ≡ [] → levels ≡ less ++ last ∷ []
    → Completes trees found (stack of levels) → Completes trees found (stack of less)
completes_pop of trees found last levels less none split h =
    completes-pop trees found (of last) (stack of less) none
    (subst (Completes trees found) (stack_last of levels less last split) h)

completes-all : (trees : List TokenTree) (found : List Entry) → Completes trees found []
    → (whole : Outline) × IsTreesOutline trees whole × (found ≡ entries_of whole)
completes-all trees found h =
    let all = h [] tt in
    (all.0, all.1, sym (append-nil found) ∙ all.2)

pub completes_all : {T : Type 0} (of : T → List TokenTree) (trees : List TokenTree) (found : List Entry)
    (levels : List T) → levels ≡ [] → Completes trees found (stack of levels)
    → (whole : Outline) × IsTreesOutline trees whole × (found ≡ entries_of whole)
completes_all of trees found levels none h =
    completes-all trees found (subst (λ os. Completes trees found (stack of os)) none h)

-- ---- an item

same_name : (name : Option Name) (given : Option (Bor Name))
    → MatchOption given (name ≡ None) (λ ident. name ≡ Some ident.now) → name ≡ option_copied given
same_name name None is = is
same_name name (Some ident) is = is

pub kind_and_name_copied : (trees rest : List TokenTree) (it : AnyItem) → HasKindOf trees rest it
    → HasKind trees rest it.kind (option_copied it.name)
kind_and_name_copied trees rest it kind_and_name =
    subst (λ name. HasKind trees rest it.kind name) (same_name kind_and_name.0 it.name kind_and_name.2) kind_and_name.1

pub begins_with : (trees rest : List TokenTree) (depth : ℕ) (it : AnyItem) (entry : Given) (inside : Items)
    → Reads IsAnyItem trees it.trees.now rest → HasKindOf trees rest it → Opens depth it entry inside
    → BeginsWithItem trees it.kind (option_copied it.name) entry.header.now inside.left.now rest
begins_with trees rest depth it entry inside reads kind_and_name opens = record {
  part = it.trees.now;
  attributes = opens.attributes;
  read = reads;
  kind_and_name = kind_and_name_copied trees rest it kind_and_name;
  front = opens.front;
  inside = opens.holds;
}

as_many : (outer : List (List TokenTree)) (os : List Outline) → AreOutlines outer os → length outer ≡ length os
as_many [] [] are = refl
as_many [] (o ∷ os) are = absurd are
as_many (items ∷ outer) [] are = absurd are
as_many (items ∷ outer) (o ∷ os) are = ap suc (as_many outer os are.1)

-- the declarations so far, and then this one if it is listed
abbrev pub IsPut : List Entry → List Entry → ℕ → ItemKind → Option Name → List TokenTree → Type 0
IsPut found more depth kind name header =
    more ≡ found ++ lists (is_listed kind name) (entry_of depth kind name header)

completes-item : (trees : List TokenTree) (found more : List Entry) (old new inside : List TokenTree)
    (outer : List (List TokenTree)) (kind : ItemKind) (name : Option Name) (header : List TokenTree)
    → Completes trees found (old ∷ outer) → BeginsWithItem old kind name header inside new
    → IsPut found more (length outer) kind name header → Completes trees more (inside ∷ new ∷ outer)
completes-item trees found more old new inside outer kind name header h begins put [] are = absurd are
completes-item trees found more old new inside outer kind name header h begins put (o ∷ []) are = absurd are.1
completes-item trees found more old new inside outer kind name header h begins put (o ∷ after ∷ os) are =
    let all = h (item kind name header o after ∷ os) ((inside, new, begins, are.0, are.1.0), are.1.1) in
    let later : List Entry = entries_onto (suc (length os)) o (entries_onto (length os) after (rests os)) in
    let here : more ≡ found ++ lists (is_listed kind name) (entry_of (length os) kind name header) =
    put ∙ ap (λ n. found ++ lists (is_listed kind name) (entry_of n kind name header)) (as_many outer os are.1.1) in (
      all.0,
      all.1,
      ap (λ xs. xs ++ later) here ∙ append_assoc found _ later ∙ all.2,
    )

pub completes_item : {T : Type 0} (of : T → List TokenTree) (trees : List TokenTree) (found more : List Entry)
    (old new inside : T) (levels less once twice : List T) (kind : ItemKind) (name : Option Name)
    (header : List TokenTree) → Completes trees found (stack of levels) → levels ≡ less ++ old ∷ []
    → BeginsWithItem (of old) kind name header (of inside) (of new)
    → IsPut found more (length less) kind name header → once ≡ less ++ new ∷ [] → twice ≡ once ++ inside ∷ []
    → Completes trees more (stack of twice)
completes_item of trees found more old new inside levels less once twice kind name header h split begins put pushed
    again =
    subst (Completes trees more)
    (sym (stack_last of twice once inside again ∙ ap (λ l. of inside ∷ l) (stack_last of once less new pushed)))
    (completes-item trees found more (of old) (of new) (of inside) (stack of less) kind name header
    (subst (Completes trees found) (stack_last of levels less old split) h) begins
    (subst (λ n. IsPut found more n kind name header) (sym (stack_length of less)) put))

-- the declarations are complete after an item without items in it
pub completes_alone : {T : Type 0} (of : T → List TokenTree) (trees : List TokenTree) (found more : List Entry)
    (old new : T) (levels less once : List T) (kind : ItemKind) (name : Option Name) (header : List TokenTree)
    → Completes trees found (stack of levels) → levels ≡ less ++ old ∷ []
    → BeginsWithItem (of old) kind name header [] (of new) → IsPut found more (length less) kind name header
    → once ≡ less ++ new ∷ [] → Completes trees more (stack of once)
completes_alone of trees found more old new levels less once kind name header h split begins put pushed =
    subst (Completes trees more) (sym (stack_last of once less new pushed))
    (completes-pop trees more [] (of new ∷ stack of less) refl
    (completes-item trees found more (of old) (of new) [] (stack of less) kind name header
    (subst (Completes trees found) (stack_last of levels less old split) h) begins
    (subst (λ n. IsPut found more n kind name header) (sym (stack_length of less)) put)))

-- the entry of an item is appended if it is listed
pub is_put : (found more : List Given) (entry : Given) (depth size : ℕ) (it : AnyItem) (inside : Items)
    → Opens depth it entry inside → depth ≡ size
    → map entry_of_value more ≡ map entry_of_value found
    ++ lists (is_listed entry.kind (option_copied entry.name)) (entry_of_value entry)
    → IsPut (map entry_of_value found) (map entry_of_value more) size it.kind (option_copied it.name) entry.header.now
is_put found more entry depth size it inside opens deep put =
    subst (λ n. IsPut (map entry_of_value found) (map entry_of_value more) n it.kind (option_copied it.name)
    entry.header.now) deep
    (subst (λ (e : Entry). map entry_of_value more ≡ map entry_of_value found ++ lists (is_listed e.kind e.name) e)
    opens.is put)

-- ---- the last tree but one

pub last_of-two : (front : List TokenTree) (before last : TokenTree)
    → last_of ((front ++ before ∷ []) ++ last ∷ []) ≡ extent_of before
last_of-two [] before last = refl
last_of-two (first ∷ []) before last = refl
last_of-two (first ∷ next ∷ []) before last = refl
last_of-two (first ∷ next ∷ third ∷ front) before last = last_of-two (next ∷ third ∷ front) before last
