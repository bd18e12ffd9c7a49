-- Trees have no outline except the one that is found.
use Rattle.std.proofs.Common.{◌≡◌, refl, sym, ◌∙◌, ap, ap₂, subst, List, [], ◌∷◌, ◌++◌, length, arith}
use Rattle.std.proofs.Common.{Option, Some, None, Result, Ok, Err, IfErr, true, false, ◌==◌, ne_eqb}
use Rattle.pm_token.specs.Leaf.{Name, is_joint}
use Rattle.pm_token.specs.declared.marks.Spacing.{Spacing}
use Rattle.pm_token.specs.declared.marks.Spacing.TheVariants.{Alone, Joint}
use Rattle.pm_stream.specs.InOrder.{spacing_of}
use Rattle.pm_stream.specs.Trees.{forest}
use Rattle.pm_stream.specs.declared.stream.Group.{Group as Grouped}
use Rattle.pm_stream.specs.declared.stream.TokenTree.{TokenTree}
use Rattle.pm_stream.specs.declared.stream.TokenTree.TheVariants.{Group, Ident, Punct, Literal}
use Rattle.declarations.proofs.KindLemmas.{one_kind}
use Rattle.declarations.specs.File.{body_of}
use Rattle.declarations.specs.Forms.{AreAttributes, AreInnerAttributes, IsAnyItem}
use Rattle.declarations.specs.Kind.{HasKind}
use Rattle.declarations.specs.Reading.{Reads}
use Rattle.declarations.specs.declared.any_item.ItemKind.{ItemKind}
use Rattle.outline.specs.Hollow.{trees_in}
use Rattle.outline.specs.Outline.{AreInside, AreTrees, BeginsWithItem, IsOutline, IsTreesOutline, NeverIs, Outline}
use Rattle.outline.specs.Outline.{item, nothing}
use Rattle.outline.proofs.OutlineLemmas.{AreOutlines, stack, stack_last}
use Rattle.declarations.proofs.StartLemmas.{any_item_starts, inner_attributes_starts}
use Rattle.declarations.proofs.RuleFormLemmas.{only_reading, rule_fewer}
use Rattle.declarations.specs.rules.Parts.{inner_attributes}
use Rattle.declarations.specs.rules.Items.{any_item}

-- ---- the trees of a stream

same_spacing : (spacing : Spacing) → spacing_of (is_joint spacing) ≡ spacing
same_spacing Alone = refl
same_spacing Joint = refl

pub trees_in-forest : (trees : List TokenTree) → trees_in (forest trees) ≡ trees
trees_in-forest [] = refl
trees_in-forest (Group g ∷ trees) = ap (λ (ts : List TokenTree). Group g ∷ ts) (trees_in-forest trees)
trees_in-forest (Ident i ∷ trees) = ap (λ (ts : List TokenTree). Ident i ∷ ts) (trees_in-forest trees)
trees_in-forest (Punct p ∷ trees) =
    ap₂ (λ (s : Spacing) (ts : List TokenTree). Punct (record { mark = p.mark; spacing = s; span = p.span }) ∷ ts)
    (same_spacing p.spacing) (trees_in-forest trees)
trees_in-forest (Literal l ∷ trees) = ap (λ (ts : List TokenTree). Literal l ∷ ts) (trees_in-forest trees)

pub same_trees : (xs ys : List TokenTree) → forest xs ≡ forest ys → xs ≡ ys
same_trees xs ys same = sym (trees_in-forest xs) ∙ ap trees_in same ∙ trees_in-forest ys

-- ---- the items inside an item

inner_only : (trees inner rest inner2 rest2 : List TokenTree) → Reads AreInnerAttributes trees inner rest
    → Reads AreInnerAttributes trees inner2 rest2 → rest2 ≡ rest
inner_only trees inner rest inner2 rest2 one other =
    (only_reading inner_attributes inner_attributes_starts trees inner rest one inner2 rest2 other).1

pub inside_only : (body : Option Grouped) (items items2 : List TokenTree) → AreInside body items
    → AreInside body items2 → items2 ≡ items
inside_only None items items2 one other = other ∙ sym one
inside_only (Some g) items items2 one other =
    let same : other.all ≡ one.all = same_trees other.all one.all (other.held ∙ sym one.held) in
    inner_only one.all one.inner items other.inner items2 one.read
    (subst (λ ts. Reads AreInnerAttributes ts other.inner items2) same other.read)

inside-never : (body : Option Grouped) (g : Grouped) (trees : List TokenTree) → body ≡ Some g
    → forest trees ≡ g.stream
    → ((inner items : List TokenTree) → Reads AreInnerAttributes trees inner items → ⊥)
    → (items : List TokenTree) → AreInside body items → ⊥
inside-never body g trees is held never items are =
    let here : AreTrees g.stream items = subst (λ o. AreInside o items) is are in
    let same : here.all ≡ trees = same_trees here.all trees (here.held ∙ sym held) in
    never here.inner items (subst (λ ts. Reads AreInnerAttributes ts here.inner items) same here.read)

-- if the inner attributes of a body cannot be read, then the body has no items
pub inside_never : {T E : Type 0} (r : Result T E) (body : Option Grouped) (g : Grouped) (trees : List TokenTree)
    → body ≡ Some g → forest trees ≡ g.stream
    → IfErr r (λ _. (inner items : List TokenTree) → Reads AreInnerAttributes trees inner items → ⊥)
    → IfErr r (λ _. (items : List TokenTree) → AreInside body items → ⊥)
inside_never (Ok found) body g trees is held never = tt
inside_never (Err fault) body g trees is held never = inside-never body g trees is held never

-- ---- the kind and the name of an item

pub kind_only : (trees rest : List TokenTree) (kind kind2 : ItemKind) (name name2 : Option Name)
    → HasKind trees rest kind name → HasKind trees rest kind2 name2 → kind2 ≡ kind
kind_only trees rest kind kind2 name name2 one other = (one_kind trees rest kind kind2 name name2 one other).0

-- ---- an outline of all trees gives outlines of the trees that are left

abbrev pub Requires : List TokenTree → List (List TokenTree) → Type 0
Requires trees levels =
    (whole : Outline) → IsTreesOutline trees whole → (os : List Outline) × AreOutlines levels os

pub requires_start : {T : Type 0} (of : T → List TokenTree) (trees : List TokenTree) (level : T) (empty levels : List T)
    → ((inner : List TokenTree) × Reads AreInnerAttributes trees inner (of level)) → empty ≡ []
    → levels ≡ empty ++ level ∷ [] → Requires trees (stack of levels)
requires_start of trees level empty levels (inner, read) none pushed whole (inner2, left, other, is) =
    let one : stack of levels ≡ of level ∷ [] =
    stack_last of levels empty level pushed ∙ ap (λ l. of level ∷ stack of l) none in
    subst (λ ls. (os : List Outline) × AreOutlines ls os) (sym one) (
      whole ∷ [],
      (subst (λ ts. IsOutline ts whole) (inner_only trees inner (of level) inner2 left read other) is, tt),
    )

requires-pop : (items : List TokenTree) (outer : List (List TokenTree))
    → (os : List Outline) × AreOutlines (items ∷ outer) os → (os : List Outline) × AreOutlines outer os
requires-pop items outer ([], are) = absurd are
requires-pop items outer (o ∷ os, are) = (os, are.1)

pub requires_pop : {T : Type 0} (of : T → List TokenTree) (trees : List TokenTree) (last : T) (levels less : List T)
    → levels ≡ less ++ last ∷ [] → Requires trees (stack of levels) → Requires trees (stack of less)
requires_pop of trees last levels less split h whole is =
    requires-pop (of last) (stack of less)
    (subst (λ ls. (os : List Outline) × AreOutlines ls os) (stack_last of levels less last split) (h whole is))

not_before : (trees : List TokenTree) (part rest : List TokenTree) → Reads IsAnyItem trees part rest → trees ≡ [] → ⊥
not_before trees part rest reads none =
    let fewer = rule_fewer any_item any_item_starts trees part rest refl reads in
    let size : length trees ≡ 0 = ap length none in
    omega arith

-- an outline of the trees begins with the item that is read
requires-item : (old new inside : List TokenTree) (kind : ItemKind) (name : Option Name) (header : List TokenTree)
    (o : Outline) → BeginsWithItem old kind name header inside new → IsOutline old o
    → (within : Outline) × (after : Outline) × IsOutline inside within × IsOutline new after
requires-item old new inside kind name header nothing found is =
    absurd (not_before old found.part new found.read is)
requires-item old new inside kind name header (item kind2 name2 header2 within after) found
    (items, rest, begins, is_within, is_after) =
    let only = only_reading any_item any_item_starts old found.part new found.read begins.part rest begins.read in
    let kind_and_name2 : HasKind old new kind2 name2 =
    subst (λ ts. HasKind old ts kind2 name2) only.1 begins.kind_and_name in
    let kinds : kind2 ≡ kind = kind_only old new kind kind2 name name2 found.kind_and_name kind_and_name2 in
    let holds : AreInside (body_of kind found.part) items =
    subst (λ k. AreInside (body_of k found.part) items) kinds
    (subst (λ ts. AreInside (body_of kind2 ts) items) only.0 begins.inside) in
    let same : items ≡ inside = inside_only (body_of kind found.part) inside items found.inside holds in (
      within,
      after,
      subst (λ ts. IsOutline ts within) same is_within,
      subst (λ ts. IsOutline ts after) only.1 is_after,
    )

requires-more : (old new inside : List TokenTree) (outer : List (List TokenTree)) (kind : ItemKind) (name : Option Name)
    (header : List TokenTree) → BeginsWithItem old kind name header inside new
    → (os : List Outline) × AreOutlines (old ∷ outer) os → (os : List Outline) × AreOutlines (inside ∷ new ∷ outer) os
requires-more old new inside outer kind name header found ([], are) = absurd are
requires-more old new inside outer kind name header found (o ∷ os, are) =
    let both = requires-item old new inside kind name header o found are.0 in
    (both.0 ∷ both.1 ∷ os, (both.2, (both.3, are.1)))

pub requires_item : {T : Type 0} (of : T → List TokenTree) (trees : List TokenTree) (old new inside : T)
    (levels less once twice : List T) (kind : ItemKind) (name : Option Name) (header : List TokenTree)
    → Requires trees (stack of levels) → levels ≡ less ++ old ∷ []
    → BeginsWithItem (of old) kind name header (of inside) (of new)
    → once ≡ less ++ new ∷ [] → twice ≡ once ++ inside ∷ [] → Requires trees (stack of twice)
requires_item of trees old new inside levels less once twice kind name header h split found pushed again whole is =
    subst (λ ls. (os : List Outline) × AreOutlines ls os)
    (sym (stack_last of twice once inside again ∙ ap (λ l. of inside ∷ l) (stack_last of once less new pushed)))
    (requires-more (of old) (of new) (of inside) (stack of less) kind name header found
    (subst (λ ls. (os : List Outline) × AreOutlines ls os) (stack_last of levels less old split) (h whole is)))

-- the trees that are left have outlines after an item without items in it
pub requires_alone : {T : Type 0} (of : T → List TokenTree) (trees : List TokenTree) (old new : T)
    (levels less once : List T) (kind : ItemKind) (name : Option Name) (header : List TokenTree)
    → Requires trees (stack of levels) → levels ≡ less ++ old ∷ []
    → BeginsWithItem (of old) kind name header [] (of new) → once ≡ less ++ new ∷ []
    → Requires trees (stack of once)
requires_alone of trees old new levels less once kind name header h split found pushed whole is =
    subst (λ ls. (os : List Outline) × AreOutlines ls os) (sym (stack_last of once less new pushed))
    (requires-pop [] (of new ∷ stack of less) (requires-more (of old) (of new) [] (stack of less) kind name header found
    (subst (λ ls. (os : List Outline) × AreOutlines ls os) (stack_last of levels less old split) (h whole is))))

-- ---- no outline

-- trees that begin with no item have no outline
first-stops : (old : List TokenTree) (outer : List (List TokenTree)) → (old ≡ [] → ⊥)
    → ((part rest : List TokenTree) → Reads IsAnyItem old part rest → ⊥)
    → (os : List Outline) × AreOutlines (old ∷ outer) os → ⊥
first-stops old outer some never ([], are) = are
first-stops old outer some never (nothing ∷ os, are) = some are.0
first-stops old outer some never (item kind name header within after ∷ os, ((items, rest, begins, is, also), more)) =
    never begins.part rest begins.read

pub item_stops : {T : Type 0} (of : T → List TokenTree) (trees : List TokenTree) (old : T) (levels less : List T)
    → Requires trees (stack of levels) → levels ≡ less ++ old ∷ [] → (of old ≡ [] → ⊥)
    → ((part rest : List TokenTree) → Reads IsAnyItem (of old) part rest → ⊥)
    → (whole : Outline) → IsTreesOutline trees whole → ⊥
item_stops of trees old levels less h split some never whole is =
    first-stops (of old) (stack of less) some never
    (subst (λ ls. (os : List Outline) × AreOutlines ls os) (stack_last of levels less old split) (h whole is))

-- trees that begin with an item that has no outline have none
first-closed : (old new part : List TokenTree) (outer : List (List TokenTree)) (kind : ItemKind) (name : Option Name)
    → Reads IsAnyItem old part new → HasKind old new kind name → NeverIs kind part
    → (os : List Outline) × AreOutlines (old ∷ outer) os → ⊥
first-closed old new part outer kind name reads kind_and_name never ([], are) = are
first-closed old new part outer kind name reads kind_and_name never (nothing ∷ os, are) =
    not_before old part new reads are.0
first-closed old new part outer kind name reads kind_and_name never
    (item kind2 name2 header within after ∷ os, ((items, rest, begins, is, also), more)) =
    let only = only_reading any_item any_item_starts old part new reads begins.part rest begins.read in
    let kind_and_name2 : HasKind old new kind2 name2 =
    subst (λ ts. HasKind old ts kind2 name2) only.1 begins.kind_and_name in
    let kinds : kind2 ≡ kind = kind_only old new kind kind2 name name2 kind_and_name kind_and_name2 in
    never begins.attributes header items
    (subst (λ ts. Reads AreAttributes ts begins.attributes header) only.0 begins.front)
    (subst (λ k. AreInside (body_of k part) items) kinds
    (subst (λ ts. AreInside (body_of kind2 ts) items) only.0 begins.inside))

pub closed_stops : {T : Type 0} (of : T → List TokenTree) (trees : List TokenTree) (old : T) (levels less : List T)
    (part new : List TokenTree) (kind : ItemKind) (name : Option Name)
    → Requires trees (stack of levels) → levels ≡ less ++ old ∷ []
    → Reads IsAnyItem (of old) part new → HasKind (of old) new kind name → NeverIs kind part
    → (whole : Outline) → IsTreesOutline trees whole → ⊥
closed_stops of trees old levels less part new kind name h split reads kind_and_name never whole is =
    first-closed (of old) new part (stack of less) kind name reads kind_and_name never
    (subst (λ ls. (os : List Outline) × AreOutlines ls os) (stack_last of levels less old split) (h whole is))

-- ---- whether trees are left

pub empty_nil : (trees : List TokenTree) → true ≡ (length trees == 0) → trees ≡ []
empty_nil [] is = refl
empty_nil (tree ∷ trees) is =
    let many : (length (tree ∷ trees) == 0) ≡ false = ne_eqb (length (tree ∷ trees)) 0 (λ e. omega (arith, e)) in cc

pub some_never : (trees : List TokenTree) → false ≡ (length trees == 0) → trees ≡ [] → ⊥
some_never [] is none = cc
some_never (tree ∷ trees) is none = cc
