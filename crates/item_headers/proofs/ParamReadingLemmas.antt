-- The parts of generic parameters and of predicates, as the rules derive them.
use Rattle.std.proofs.Common.{◌≡◌, refl, sym, ◌∙◌, ap, subst, ℕ, ◌==◌, ◌<◌, Bool, true, false, List, [], ◌∷◌, ◌++◌}
use Rattle.std.proofs.Common.{Option, Some, None, append-nil, arith, codes, length}
use Rattle.std.proofs.lemmas.List.{append_cancel_right}
use Rattle.grammars.specs.Grammar.{Either, Mark, Nothing, Then, perhaps}
use Rattle.grammars.specs.Grammar as grammar
use Rattle.pm_stream.specs.InOrder.{token_tree}
use Rattle.pm_stream.specs.declared.stream.TokenTree.{TokenTree}
use Rattle.pm_stream.specs.declared.stream.TokenTree.TheVariants.{Group, Ident, Literal, Punct}
use Rattle.proc_macro2.specs.Token as tokens
use Rattle.item_tables.specs.Classes.{is, is_word}
use Rattle.item_tables.specs.declared.class.Keyword.TheVariants as keywords
use Rattle.item_tables.specs.declared.class.SignClass.{SignClass}
use Rattle.item_tables.specs.declared.class.SignClass.TheVariants as classes
use Rattle.declarations.specs.Forms.{AreAttributes, AreBounds, IsType}
use Rattle.declarations.specs.Param.{HasBounds, HasName, HasSign, IsParamAt, IsPredicateAt, IsWord, MayHave, MustHave}
use Rattle.declarations.specs.Param.{ParamTrees, PredicateTrees, left_out, stands}
use Rattle.declarations.specs.Reader.{classes_in}
use Rattle.declarations.specs.Reading.{Reads}
use Rattle.declarations.specs.Signs.{BeginsWith, Sign, classes_of, pair_class, signs, tree_class}
use Rattle.declarations.specs.rules.Names.{Bounded, Bounds, G, Named, Parameter, Rest, comma, comma_list, key, one}
use Rattle.declarations.specs.rules.Names.{word}
use Rattle.declarations.specs.rules.Parts.{attributes, constant_rest, default_type, parameter, parameter_rest}
use Rattle.declarations.specs.rules.Parts.{predicate, with_bounds, with_constant}
use Rattle.declarations.specs.rules.Types.{bounds, type}
use Rattle.declarations.specs.declared.generics.ParamKind.{ParamKind}
use Rattle.declarations.specs.declared.generics.ParamKind.TheVariants as kinds
use Rattle.declarations.proofs.SignLemmas.{begins_last, begins_one, pair_signs, signs-cons}
use Rattle.item_headers.proofs.DerivedLemmas.{Derived, derived_both, derived_element, derived_first, derived_last}
use Rattle.item_headers.proofs.DerivedLemmas.{derived_mark, derived_nothing, derived_part, derived_second, derived_sign}
use Rattle.item_headers.proofs.SeamLemmas.{Calm, calm_one, may_pair}
use Rattle.declarations.proofs.StartLemmas.{type_starts}
use Rattle.declarations.proofs.RuleFormLemmas.{rule_fewer}

-- ---- marks and words that a header adds

-- a mark that is Alone, with a span that points to no text
abbrev pub mark_tree : ℕ → TokenTree
mark_tree c = token_tree (tokens.Mark c false) 0 0

-- a word, with a span that points to no text
abbrev pub word_tree : List ℕ → TokenTree
word_tree name = token_tree (tokens.Name false name) 0 0

-- such a mark is not read with the tree after it
pub mark_apart : (c : ℕ) → (c == 35) ≡ false → (c == 39) ≡ false → (second : TokenTree)
    → pair_class (mark_tree c) second ≡ None
mark_apart c hash quote (Group g) = refl
mark_apart c hash quote (Ident i) = rw quote refl
mark_apart c hash quote (Punct p) = rw hash refl
mark_apart c hash quote (Literal l) = refl

-- trees that begin with a tree that is not read with the one after it
pub begins_tree : (tree : TokenTree) (rest : List TokenTree)
    → ((second : TokenTree) → pair_class tree second ≡ None)
    → BeginsWith (tree ∷ rest) (tree_class tree) rest
begins_tree tree [] apart = begins_last (tree ∷ []) [] tree refl refl
begins_tree tree (next ∷ rest) apart =
    begins_one (tree ∷ next ∷ rest) (next ∷ rest) tree next rest refl refl (apart next)

one_tree : (a b : TokenTree) → a ∷ [] ≡ b ∷ [] → a ≡ b
one_tree a b e = cc

-- such a tree is a sign of its own, whatever comes after it
pub tree_calm : (tree : TokenTree) → ((second : TokenTree) → pair_class tree second ≡ None)
    → Calm (signs (tree ∷ []))
tree_calm tree apart = λ first second e.
    subst (λ t. pair_class t second ≡ None) (one_tree tree first (ap (λ (s : Sign). s.trees) e)) (apart second)

pub derived_tree : (tree : TokenTree) (class : SignClass) → ((second : TokenTree) → pair_class tree second ≡ None)
    → tree_class tree ≡ class → is class class ≡ true
    → Derived (one class) (tree ∷ [])
unfolding classes_in
derived_tree tree class apart at self =
    derived_sign (is class) (tree ∷ []) class (ap (λ c. c ∷ []) at)
    (tree_calm tree apart) self

pub colon_derived : Derived (one classes.Colon) (mark_tree 58 ∷ [])
colon_derived = derived_tree (mark_tree 58) classes.Colon (mark_apart 58 refl refl) refl refl

pub comma_derived : Derived comma (mark_tree 44 ∷ [])
comma_derived =
    derived_mark Rest (one classes.Comma) (mark_tree 44 ∷ [])
    (derived_tree (mark_tree 44) classes.Comma (mark_apart 44 refl refl) refl refl)

pub const_derived : Derived (key keywords.Const) (word_tree (codes "const") ∷ [])
const_derived = derived_tree (word_tree (codes "const")) (classes.Keyword keywords.Const) (λ s. refl) refl refl

-- ---- single signs

-- the number of trees of the first sign
abbrev first_length : List Sign → ℕ
first_length [] = 0
first_length (sign ∷ rest) = length sign.trees

-- the class of the first sign
abbrev first_class : List Sign → SignClass
first_class [] = classes.Comma
first_class (sign ∷ rest) = sign.class

-- one sign is the same alone
lone : (sign rest : List TokenTree) (class : SignClass) → length rest < length (sign ++ rest)
    → signs (sign ++ rest) ≡ record { class = class; trees = sign } ∷ signs rest
    → signs sign ≡ record { class = class; trees = sign } ∷ []
lone [] rest class fewer h = absurd (omega arith)
lone (t ∷ []) [] class fewer h = h
lone (t ∷ []) (u ∷ rest) class fewer h = go (pair_class t u) (sym (signs-cons t u rest) ∙ h)
  where
    go : (o : Option SignClass)
        → pair_signs o t u rest ≡ record { class = class; trees = t ∷ [] } ∷ signs (u ∷ rest)
        → signs (t ∷ []) ≡ record { class = class; trees = t ∷ [] } ∷ []
    go None e = ap (λ c. record { class = c; trees = t ∷ [] } ∷ []) (ap first_class e)
    go (Some c) e = let wrong : length (t ∷ u ∷ []) ≡ length (t ∷ []) = ap first_length e in absurd (omega arith)
lone (t ∷ u ∷ []) rest class fewer h = go (pair_class t u) refl (sym (signs-cons t u rest) ∙ h)
  where
    go : (o : Option SignClass) → pair_class t u ≡ o
        → pair_signs o t u rest ≡ record { class = class; trees = t ∷ u ∷ [] } ∷ signs rest
        → signs (t ∷ u ∷ []) ≡ record { class = class; trees = t ∷ u ∷ [] } ∷ []
    go None p e = let wrong : length (t ∷ []) ≡ length (t ∷ u ∷ []) = ap first_length e in absurd (omega arith)
    go (Some c) p e =
        signs-cons t u []
        ∙ (ap (λ o. pair_signs o t u []) p
        ∙ ap (λ (c : SignClass). record { class = c; trees = t ∷ u ∷ [] } ∷ []) (ap first_class e))
lone (t ∷ u ∷ v ∷ sign) rest class fewer h =
    go (pair_class t u) (sym (signs-cons t u (v ∷ (sign ++ rest))) ∙ h)
  where
    go : (o : Option SignClass)
        → pair_signs o t u (v ∷ (sign ++ rest))
        ≡ record { class = class; trees = t ∷ u ∷ v ∷ sign } ∷ signs rest
        → signs (t ∷ u ∷ v ∷ sign) ≡ record { class = class; trees = t ∷ u ∷ v ∷ sign } ∷ []
    go None e = let wrong : 1 ≡ length (t ∷ u ∷ v ∷ sign) = ap first_length e in absurd (omega arith)
    go (Some c) e = let wrong : 2 ≡ length (t ∷ u ∷ v ∷ sign) = ap first_length e in absurd (omega arith)

pub sign_alone : (class : SignClass) (trees sign rest : List TokenTree) → HasSign class trees sign rest
    → signs sign ≡ record { class = class; trees = sign } ∷ []
sign_alone class trees sign rest s =
    let same : s.begins.front ≡ sign = append_cancel_right s.begins.front sign rest (sym s.begins.whole ∙ s.whole) in
    lone sign rest class (subst (λ ts. length rest < length ts) s.whole s.begins.fewer)
    (sym (ap signs s.whole) ∙ (s.begins.read ∙ ap (λ ts. record { class = class; trees = ts } ∷ signs rest) same))

-- a sign whose class says that it is read as it is
pub sign_part : (passes : SignClass → Bool) (class : SignClass) (trees sign rest : List TokenTree)
    → HasSign class trees sign rest → may_pair class ≡ false → passes class ≡ true
    → Derived (grammar.Sign passes) sign
unfolding classes_in
sign_part passes class trees sign rest s calm h =
    let alone = sign_alone class trees sign rest s in
    derived_sign passes sign class (ap classes_of alone)
    (subst Calm (sym alone) (calm_one (record { class = class; trees = sign }) calm)) h

-- ---- types, bounds and attributes

pub type_part : (trees part rest : List TokenTree) → Reads IsType trees part rest → Derived type part
type_part = derived_part type refl

pub bounds_part : (trees part rest : List TokenTree) → Reads AreBounds trees part rest → Derived bounds part
bounds_part = derived_part bounds refl

pub attributes_part : (trees part rest : List TokenTree) → Reads AreAttributes trees part rest
    → Derived attributes part
attributes_part = derived_part attributes refl

-- a type has at least one tree
pub type_some : (trees rest : List TokenTree) → Reads IsType trees [] rest → ⊥
type_some trees rest reads =
    let fewer = rule_fewer type type_starts trees [] rest refl reads in
    let whole = ap length reads.whole in
    omega arith

-- ---- generic parameters

-- the keyword of a parameter: `const`, or none
abbrev pub keyword_trees : ParamKind → List TokenTree
keyword_trees kinds.Const = word_tree (codes "const") ∷ []
keyword_trees _ = []

-- `:` and the bounds, or nothing if there are none
abbrev pub led_trees : List TokenTree → List TokenTree
led_trees [] = []
led_trees (tree ∷ trees) = mark_tree 58 ∷ tree ∷ trees

-- a parameter without its default
abbrev pub declared : ParamTrees → List TokenTree
declared param = param.attributes ++ (keyword_trees param.kind ++ (param.name ++ led_trees param.bounds))

abbrev some_bounds : G
some_bounds = Then (Mark Rest) (Then (one classes.Colon) (Then (Mark Bounds) bounds))

led_derived : (b : List TokenTree) → Derived bounds b → Derived with_bounds (led_trees b)
led_derived [] d = derived_second some_bounds Nothing [] derived_nothing
led_derived (tree ∷ trees) d =
    derived_first some_bounds Nothing (mark_tree 58 ∷ tree ∷ trees)
    (derived_mark Rest (Then (one classes.Colon) (Then (Mark Bounds) bounds)) (mark_tree 58 ∷ tree ∷ trees)
    (derived_both (one classes.Colon) (Then (Mark Bounds) bounds) (mark_tree 58 ∷ []) (tree ∷ trees) colon_derived
    (derived_mark Bounds bounds (tree ∷ trees) d)))

bounds_derived : (trees b rest : List TokenTree) → MayHave classes.Colon (Reads AreBounds) trees b rest
    → Derived with_bounds (led_trees b)
bounds_derived trees b rest (stands left at reads) = led_derived b (bounds_part left b rest reads)
bounds_derived trees b rest (left_out lacking none same) =
    subst (λ ts. Derived with_bounds (led_trees ts)) (sym none) (derived_second some_bounds Nothing [] derived_nothing)

-- the same trees with nothing after them
derived_nil : (g : G) (a : List TokenTree) → Derived g (a ++ []) → Derived g a
derived_nil g a d = subst (λ ts. Derived g ts) (append-nil a) d

word_part : (trees name rest : List TokenTree) → IsWord trees name rest → Derived word name
word_part trees name rest w = sign_part is_word (classes.Word w.word) trees name rest w.sign refl refl

-- ---- the three kinds of parameters

abbrev lifetime_rest : G
lifetime_rest = Then (Mark Named) (Then (one classes.Lifetime) with_bounds)

abbrev type_rest : G
type_rest = Then (Mark Named) (Then word (Then with_bounds (perhaps default_type)))

abbrev const_rest : G
const_rest = Then (Mark Rest) (Then (key keywords.Const) constant_rest)

lifetime_derived : (trees name from b rest : List TokenTree) → HasSign classes.Lifetime trees name from
    → MayHave classes.Colon (Reads AreBounds) from b rest
    → Derived parameter_rest (name ++ led_trees b)
lifetime_derived trees name from b rest named bounded =
    derived_first lifetime_rest (Either type_rest const_rest) (name ++ led_trees b)
    (derived_mark Named (Then (one classes.Lifetime) with_bounds) (name ++ led_trees b)
    (derived_both (one classes.Lifetime) with_bounds name (led_trees b)
    (sign_part (is classes.Lifetime) classes.Lifetime trees name from named refl refl)
    (bounds_derived from b rest bounded)))

type_derived : (trees name from b rest : List TokenTree) → IsWord trees name from
    → MayHave classes.Colon (Reads AreBounds) from b rest
    → Derived parameter_rest (name ++ led_trees b)
type_derived trees name from b rest named bounded =
    derived_second lifetime_rest (Either type_rest const_rest) (name ++ led_trees b)
    (derived_first type_rest const_rest (name ++ led_trees b)
    (derived_mark Named (Then word (Then with_bounds (perhaps default_type))) (name ++ led_trees b)
    (derived_both word (Then with_bounds (perhaps default_type)) name (led_trees b)
    (word_part trees name from named)
    (derived_nil _ (led_trees b)
    (derived_both with_bounds (perhaps default_type) (led_trees b) [] (bounds_derived from b rest bounded)
    (derived_second default_type Nothing [] derived_nothing))))))

typed_derived : (trees b rest : List TokenTree) → Reads IsType trees b rest → Derived type b
    → Derived (Then (Mark Rest) (Then (one classes.Colon) (Then (Mark Bounds) (Then type with_constant)))) (led_trees b)
typed_derived trees [] rest reads d = absurd (type_some trees rest reads)
typed_derived trees (tree ∷ more) rest reads d =
    derived_mark Rest (Then (one classes.Colon) (Then (Mark Bounds) (Then type with_constant)))
    (mark_tree 58 ∷ tree ∷ more)
    (derived_both (one classes.Colon) (Then (Mark Bounds) (Then type with_constant)) (mark_tree 58 ∷ []) (tree ∷ more)
    colon_derived
    (derived_mark Bounds (Then type with_constant) (tree ∷ more)
    (derived_nil _ (tree ∷ more)
    (derived_both type with_constant (tree ∷ more) [] d (derived_second _ Nothing [] derived_nothing)))))

const_param : (trees name from b rest : List TokenTree)
    → MustHave (classes.Keyword keywords.Const) IsWord trees name from
    → MustHave classes.Colon (Reads IsType) from b rest
    → Derived parameter_rest (word_tree (codes "const") ∷ (name ++ led_trees b))
const_param trees name from b rest named bounded =
    derived_second lifetime_rest (Either type_rest const_rest) _
    (derived_second type_rest const_rest _
    (derived_mark Rest (Then (key keywords.Const) constant_rest) _
    (derived_both (key keywords.Const) constant_rest (word_tree (codes "const") ∷ []) (name ++ led_trees b)
    const_derived
    (derived_mark Named _ (name ++ led_trees b)
    (derived_both word _ name (led_trees b) (word_part named.left name from named.reads)
    (typed_derived bounded.left b rest bounded.reads (type_part bounded.left b rest bounded.reads)))))))

rest_derived : (kind : ParamKind) (trees name from b rest : List TokenTree) → HasName kind trees name from
    → HasBounds kind from b rest
    → Derived parameter_rest (keyword_trees kind ++ (name ++ led_trees b))
rest_derived kinds.Lifetime trees name from b rest named bounded = lifetime_derived trees name from b rest named bounded
rest_derived kinds.Type trees name from b rest named bounded = type_derived trees name from b rest named bounded
rest_derived kinds.Const trees name from b rest named bounded = const_param trees name from b rest named bounded

-- a parameter without its default is a parameter
pub param_derived : (trees rest : List TokenTree) (param : ParamTrees) → IsParamAt trees param rest
    → Derived parameter (declared param)
param_derived trees rest param at =
    derived_mark Parameter (Then attributes parameter_rest) (declared param)
    (derived_both attributes parameter_rest param.attributes _
    (attributes_part trees param.attributes at.from_name at.attributes)
    (rest_derived param.kind at.from_name param.name at.from_bounds param.bounds at.from_default at.name at.bounds))

-- ---- predicates

-- a predicate: a type, `:` and its bounds
abbrev pub predicated : PredicateTrees → List TokenTree
predicated p = p.bounded ++ (mark_tree 58 ∷ p.bounds)

pub predicate_derived : (trees rest : List TokenTree) (p : PredicateTrees) → IsPredicateAt trees p rest
    → Derived predicate (predicated p)
predicate_derived trees rest p at =
    derived_mark Bounded _ (predicated p)
    (derived_both type _ p.bounded (mark_tree 58 ∷ p.bounds) (type_part trees p.bounded at.from_colon at.bounded)
    (derived_mark Rest _ (mark_tree 58 ∷ p.bounds)
    (derived_both (one classes.Colon) _ (mark_tree 58 ∷ []) p.bounds colon_derived
    (derived_mark Bounds bounds p.bounds (bounds_part at.bounds.left p.bounds at.from_end at.bounds.reads)))))

-- ---- lists

-- elements of a list, each with a `,` before it
abbrev pub more_listed : List (List TokenTree) → List TokenTree
more_listed [] = []
more_listed (x ∷ xs) = mark_tree 44 ∷ (x ++ more_listed xs)

-- the rule derives each of these
abbrev pub AllDerived : G → List (List TokenTree) → Type 0
AllDerived g [] = Unit {0}
AllDerived g (x ∷ xs) = Derived g x × AllDerived g xs

pub list_derived : (g : G) (x : List TokenTree) (xs : List (List TokenTree)) → Derived g x → AllDerived g xs
    → Derived (comma_list g) (x ++ more_listed xs)
list_derived g x [] d more = subst (λ ts. Derived (comma_list g) ts) (sym (append-nil x)) (derived_last g comma x d)
list_derived g x (y ∷ ys) d more =
    derived_element g comma x (mark_tree 44 ∷ []) (y ++ more_listed ys) d comma_derived
    (list_derived g y ys more.0 more.1)
