-- The type of an item with the names of its parameters is read as a type.
use Rattle.std.proofs.Common.{◌≡◌, refl, sym, ap, subst, true, false, List, [], ◌∷◌, ◌++◌, ◌⊎◌, inl, inr, append-nil}
use Rattle.grammars.specs.Grammar.{Nothing, To}
use Rattle.pm_stream.specs.declared.stream.TokenTree.{TokenTree}
use Rattle.pm_stream.specs.declared.stream.TokenTree.TheVariants.{Ident}
use Rattle.proc_macro2.specs.Leaf.{Name}
use Rattle.item_tables.specs.Classes.{is, is_word, opens}
use Rattle.item_tables.specs.declared.class.Keyword.TheVariants as keywords
use Rattle.item_tables.specs.declared.class.SignClass.{SignClass}
use Rattle.item_tables.specs.declared.class.SignClass.TheVariants as classes
use Rattle.item_tables.specs.declared.types.TypeState.{TypeState}
use Rattle.item_tables.specs.declared.types.TypeState.TheVariants as states
use Rattle.declarations.specs.Item.{IsNameClass}
use Rattle.declarations.specs.Param.{HasName, HasSign, IsParamAt, IsWord, ParamTrees}
use Rattle.declarations.specs.Reader.{classes_in}
use Rattle.declarations.specs.Signs.{classes_of, name_class, signs}
use Rattle.declarations.specs.rules.Names.{Inside, Outside, Range}
use Rattle.declarations.specs.rules.Types.{all_operand, angle, continuation, named_operand, operand, range, type}
use Rattle.declarations.specs.declared.generics.ParamKind.{ParamKind}
use Rattle.declarations.specs.declared.generics.ParamKind.TheVariants as kinds
use Rattle.item_headers.proofs.DerivedLemmas.{Derived, derived_both, derived_first, derived_nothing, derived_second}
use Rattle.item_headers.proofs.DerivedLemmas.{derived_to}
use Rattle.item_headers.proofs.ParamReadingLemmas.{mark_apart, mark_tree, more_listed, sign_alone, tree_calm}
use Rattle.item_headers.proofs.SeamLemmas.{Calm, calm_one, may_pair}

-- ---- names of parameters

-- the trees are the name of a parameter: a word or a lifetime
pub record IsNamed (name : List TokenTree) : Type 0 where
  pub class : SignClass
  pub same : classes_in name ≡ class ∷ []
  pub calm : Calm (signs name)
  pub kind : (is_word class ≡ true) ⊎ (is classes.Lifetime class ≡ true)

named_sign : (class : SignClass) (trees name rest : List TokenTree) → HasSign class trees name rest
    → may_pair class ≡ false → (is_word class ≡ true) ⊎ (is classes.Lifetime class ≡ true)
    → IsNamed name
unfolding classes_in
named_sign class trees name rest s calm kind =
    let alone = sign_alone class trees name rest s in
    record {
      class = class;
      same = ap classes_of alone;
      calm = subst Calm (sym alone) (calm_one (record { class = class; trees = name }) calm);
      kind = kind;
    }

name_named : (kind : ParamKind) (trees name rest : List TokenTree) → HasName kind trees name rest → IsNamed name
name_named kinds.Lifetime trees name rest h = named_sign classes.Lifetime trees name rest h refl (inr refl)
name_named kinds.Type trees name rest h = named_sign (classes.Word h.word) trees name rest h.sign refl (inl refl)
name_named kinds.Const trees name rest h =
    named_sign (classes.Word h.reads.word) h.left name rest h.reads.sign refl (inl refl)

pub param_named : (trees rest : List TokenTree) (param : ParamTrees) → IsParamAt trees param rest
    → IsNamed param.name
param_named trees rest param at = name_named param.kind at.from_name param.name at.from_bounds at.name

-- each of these is the name of a parameter
abbrev pub AllNamed : List (List TokenTree) → Type 0
AllNamed [] = Unit {0}
AllNamed (x ∷ xs) = IsNamed x × AllNamed xs

-- ---- arguments

-- a mark that leads to another rule
mark_to : (c : List TokenTree) (class : SignClass) → classes_in c ≡ class ∷ [] → Calm (signs c)
    → (n : TypeState) (rest : List TokenTree) → is class class ≡ true → Derived (range n Inside) rest
    → Derived (To (is class) (Range n Inside)) (c ++ rest)
mark_to c class same calm n rest self d = derived_to (is class) (Range n Inside) c rest class same calm self d

comma_calm : Calm (signs (mark_tree 44 ∷ []))
comma_calm = calm_one _ refl

comma_class : classes_in (mark_tree 44 ∷ []) ≡ classes.Comma ∷ []
unfolding classes_in
comma_class = refl

-- a `,` and more arguments
comma_to : (rest : List TokenTree) → Derived (range states.Argument Inside) rest
    → Derived (To (is classes.Comma) (Range states.Argument Inside)) (mark_tree 44 ∷ rest)
comma_to rest d = mark_to (mark_tree 44 ∷ []) classes.Comma comma_class comma_calm states.Argument rest refl d

-- after the name of a type or a constant
whole_comma : (rest : List TokenTree) → Derived (range states.Argument Inside) rest
    → Derived (range states.Whole Inside) (mark_tree 44 ∷ rest)
whole_comma rest d =
    derived_first (continuation Inside) Nothing _
    (derived_second _ _ _ (derived_second _ _ _ (derived_first _ _ _ (comma_to rest d))))

-- after a lifetime
lifetime_comma : (rest : List TokenTree) → Derived (range states.Argument Inside) rest
    → Derived (range states.Lifetime Inside) (mark_tree 44 ∷ rest)
lifetime_comma rest d =
    derived_first _ Nothing _ (derived_second _ _ _ (derived_first _ (operand Inside) _ (comma_to rest d)))

named_argument : (name rest : List TokenTree) → IsNamed name → Derived (range states.Whole Inside) rest
    → Derived (range states.Lifetime Inside) rest
    → Derived (range states.Argument Inside) (name ++ rest)
named_argument name rest n whole lifetime = go n.kind
  where
    go : (is_word n.class ≡ true) ⊎ (is classes.Lifetime n.class ≡ true)
        → Derived (range states.Argument Inside) (name ++ rest)
    go (inl h) =
        derived_first (operand Inside) Nothing _
        (derived_first (named_operand Inside) (all_operand Inside) _
        (derived_first _ _ _ (derived_to is_word (Range states.Whole Inside) name rest n.class n.same n.calm h whole)))
    go (inr h) =
        derived_first (operand Inside) Nothing _
        (derived_first (named_operand Inside) (all_operand Inside) _
        (derived_second _ _ _
        (derived_to (is classes.Lifetime) (Range states.Lifetime Inside) name rest n.class n.same n.calm h lifetime)))

pub arguments_derived : (x : List TokenTree) (xs : List (List TokenTree)) → IsNamed x → AllNamed xs
    → Derived (range states.Argument Inside) (x ++ more_listed xs)
arguments_derived x [] n all =
    named_argument x [] n (derived_second (continuation Inside) Nothing [] derived_nothing)
    (derived_second _ Nothing [] derived_nothing)
arguments_derived x (y ∷ ys) n all =
    let more = arguments_derived y ys all.0 all.1 in
    named_argument x (more_listed (y ∷ ys)) n (whole_comma (y ++ more_listed ys) more)
    (lifetime_comma (y ++ more_listed ys) more)

-- ---- the type

-- the names in angle brackets, or nothing if there are none
abbrev pub argument_trees : List (List TokenTree) → List TokenTree
argument_trees [] = []
argument_trees (x ∷ xs) = mark_tree 60 ∷ ((x ++ more_listed xs) ++ (mark_tree 62 ∷ []))

less_class : classes_in (mark_tree 60 ∷ []) ≡ classes.Less ∷ []
unfolding classes_in
less_class = refl

greater_class : classes_in (mark_tree 62 ∷ []) ≡ classes.Greater ∷ []
unfolding classes_in
greater_class = refl

angle_derived : (x : List TokenTree) (xs : List (List TokenTree)) → IsNamed x → AllNamed xs
    → Derived (angle (Range states.Whole Outside)) (argument_trees (x ∷ xs))
angle_derived x xs n all =
    derived_both _ _ (mark_tree 60 ∷ (x ++ more_listed xs)) (mark_tree 62 ∷ [])
    (derived_to opens (Range states.Argument Inside) (mark_tree 60 ∷ []) (x ++ more_listed xs) classes.Less less_class
    (tree_calm (mark_tree 60) (mark_apart 60 refl refl)) refl (arguments_derived x xs n all))
    (derived_to (is classes.Greater) (Range states.Whole Outside) (mark_tree 62 ∷ []) [] classes.Greater greater_class
    (calm_one _ refl) refl (derived_second (continuation Outside) Nothing [] derived_nothing))

after_name_derived : (xs : List (List TokenTree)) → AllNamed xs
    → Derived (range states.Whole Outside) (argument_trees xs)
after_name_derived [] all = derived_second (continuation Outside) Nothing [] derived_nothing
after_name_derived (x ∷ xs) all =
    derived_first (continuation Outside) Nothing _
    (derived_second _ _ _ (derived_second _ _ _ (derived_second _ _ _ (derived_second _ _ _
    (angle_derived x xs all.0 all.1)))))

name_word : (class : SignClass) → IsNameClass class → is_word class ≡ true
name_word (classes.Word w) h = refl
name_word (classes.Keyword keywords.Const) h = absurd h
name_word _ h = absurd h

name_classes : (name : Name) → classes_in (Ident name ∷ []) ≡ name_class name ∷ []
unfolding classes_in
name_classes name = refl

-- the name of an item and the names of its parameters are a type
pub self_derived : (name : Name) (xs : List (List TokenTree)) → IsNameClass (name_class name) → AllNamed xs
    → Derived type (Ident name ∷ argument_trees xs)
self_derived name xs h all =
    derived_first (named_operand Outside) (all_operand Outside) _
    (derived_first _ _ _
    (derived_to is_word (Range states.Whole Outside) (Ident name ∷ []) (argument_trees xs) (name_class name)
    (name_classes name) (tree_calm (Ident name) (λ s. refl)) (name_word (name_class name) h)
    (after_name_derived xs all)))

-- a word alone is a type
pub word_type : (trees name rest : List TokenTree) → IsWord trees name rest → Derived type name
unfolding named_sign
word_type trees name rest w =
    let n = named_sign (classes.Word w.word) trees name rest w.sign refl (inl refl) in
    subst (λ ts. Derived type ts) (append-nil name)
    (derived_first (named_operand Outside) (all_operand Outside) _
    (derived_first _ _ _
    (derived_to is_word (Range states.Whole Outside) name [] n.class n.same n.calm refl (after_name_derived [] tt))))

-- the name of a type parameter is a type
pub param_typed : (trees rest : List TokenTree) (param : ParamTrees) → IsParamAt trees param rest
    → param.kind ≡ kinds.Type
    → Derived type param.name
param_typed trees rest param at is =
    word_type at.from_name param.name at.from_bounds
    (subst (λ k. HasName k at.from_name param.name at.from_bounds) is at.name)
