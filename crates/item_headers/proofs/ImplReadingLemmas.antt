-- A header and a body are read as an `impl`.
use Rattle.std.proofs.Common.{◌≡◌, refl, sym, ◌∙◌, ap, subst, Bool, true, false, not, ◌&&◌, List, [], ◌∷◌, ◌++◌, arith}
use Rattle.std.proofs.Common.{codes, length, map}
use Rattle.std.proofs.lemmas.Bool.{both_ways}
use Rattle.std.proofs.lemmas.List.{length-append}
use Rattle.grammars.specs.Find.{Past, Stuck}
use Rattle.grammars.specs.First.{heads, may_begin}
use Rattle.grammars.specs.Grammar.{Then}
use Rattle.grammars.specs.Machine.{is_nullable}
use Rattle.grammars.proofs.WordLemmas.{find_lacks}
use Rattle.pm_stream.specs.declared.stream.Group.{Group as Grouped}
use Rattle.pm_stream.specs.declared.stream.TokenTree.{TokenTree}
use Rattle.pm_stream.specs.declared.stream.TokenTree.TheVariants.{Group, Ident}
use Rattle.proc_macro2.specs.Leaf.{Name}
use Rattle.proc_macro2.specs.declared.Delimiter.TheVariants as delimiters
use Rattle.item_tables.specs.Classes.{is}
use Rattle.item_tables.specs.declared.class.Keyword.TheVariants as keywords
use Rattle.item_tables.specs.declared.class.SignClass.{SignClass}
use Rattle.item_tables.specs.declared.class.SignClass.TheVariants as classes
use Rattle.declarations.specs.Found.{TurnsTo, bare, finds}
use Rattle.declarations.specs.Impl.{HasBraces, HasFront, HasGenerics, HasTrait as HasTraitAt, has_generics, may_const}
use Rattle.declarations.specs.Impl.{target_types}
use Rattle.declarations.specs.Item.{IsNameClass}
use Rattle.declarations.specs.Param.{HasNo, ParamTrees}
use Rattle.declarations.specs.Reader.{Finds, classes_in}
use Rattle.declarations.specs.Signs.{BeginsWith, Sign, classes_of, name_class, signs}
use Rattle.declarations.specs.Whole.{ReadsAll}
use Rattle.declarations.specs.rules.Bodies.{where_and_body}
use Rattle.declarations.specs.rules.ImplItems.{impl_item, impl_qualifiers}
use Rattle.declarations.specs.rules.Impls.{const_target, impl_front, target}
use Rattle.declarations.specs.rules.Names.{G, key, one}
use Rattle.declarations.specs.rules.Parts.{attributes, parameter, visibility, where_clause}
use Rattle.declarations.specs.rules.Pieces.{ByRule}
use Rattle.declarations.specs.rules.Rules.{rules}
use Rattle.declarations.specs.rules.Types.{type}
use Rattle.declarations.proofs.ClassLemmas.{every_holds, same_class}
use Rattle.declarations.proofs.FoundLemmas.{bind, finds_then}
use Rattle.declarations.proofs.ImplHeaderLemmas.{target_positive}
use Rattle.declarations.proofs.ImplLemmas.{braces_find, braces_have, front_has, front_turns, generics_has}
use Rattle.declarations.proofs.ImplLemmas.{generics_turn, header_turns, item_finds, no_parameters, no_parameters_has}
use Rattle.declarations.proofs.ImplLemmas.{starts_item, trait_finds, trait_has}
use Rattle.declarations.proofs.ReaderLemmas.{classes_sign, heads_sign, perhaps_stays, stays}
use Rattle.declarations.proofs.RuleLemmas.{starts}
use Rattle.declarations.proofs.RuleWholeLemmas.{whole_read}
use Rattle.declarations.proofs.SignLemmas.{after_first_sign}
use Rattle.item_headers.specs.Laws.{IsClauseBefore, IsTraitOf}
use Rattle.item_headers.proofs.DerivedLemmas.{classes_seam}
use Rattle.item_headers.proofs.HeaderPartLemmas.{angle_begins, angle_finds, begins_for, braces_class, for_tree}
use Rattle.item_headers.proofs.HeaderPartLemmas.{path_derived, path_finds, plain_front, reads_finds, self_finds}
use Rattle.item_headers.proofs.ParamReadingLemmas.{AllDerived, begins_tree, declared, word_tree}
use Rattle.item_headers.proofs.SelfTypeLemmas.{argument_trees, self_derived}
use Rattle.item_headers.proofs.WrittenLemmas.{ParamsKnown, generic_trees, name_of}
use Rattle.declarations.proofs.RuleFormLemmas.{first_some}

-- ---- the first sign

-- where a rule that reads at least one sign is found, it begins with the first sign
pub finds_heads : (g : G) (trees rest : List TokenTree) → is_nullable g ≡ false → Finds g trees rest
    → heads g (classes_in trees) ≡ true
finds_heads g trees rest some f = go (heads g (classes_in trees)) refl
  where
    go : (b : Bool) → heads g (classes_in trees) ≡ b → b ≡ true
    go true h = refl
    go false h =
        let wrong : Stuck (classes_in trees) ≡ Past f.events (classes_in rest) =
        sym (find_lacks rules g (classes_in trees) h some) ∙ f.found in
        absurd cc

-- no type begins with `const`
no_const : (cs : List SignClass) → heads type cs ≡ true → heads (key keywords.Const) cs ≡ false
no_const [] h = refl
no_const (c ∷ cs) h = go (is (classes.Keyword keywords.Const) c) refl
  where
    go : (b : Bool) → is (classes.Keyword keywords.Const) c ≡ b → b ≡ false
    go false e = refl
    go true e =
        absurd (both_ways _ (rw (h, e) refl)
        (every_holds (λ d. not (may_begin type d && is (classes.Keyword keywords.Const) d)) refl c))

-- trees that begin with no sign of this class have no such first class
no_first : (c : SignClass) (trees : List TokenTree) → HasNo c trees → (cs : List SignClass)
    → classes_in trees ≡ c ∷ cs → ⊥
unfolding classes_in
no_first c trees lacking cs e = go (signs trees) refl e
  where
    go : (all : List Sign) → signs trees ≡ all → classes_of all ≡ c ∷ cs → ⊥
    go [] same h = absurd cc
    go (sign ∷ after) same h =
        let class : sign.class ≡ c = cc in
        let at = after_first_sign trees sign after same in
        let some = first_some trees sign after same in
        let sum = ap length at.whole ∙ length-append sign.trees at.rest in
        lacking at.rest
        (subst (λ d. BeginsWith trees d at.rest) class
        (record {
          front = sign.trees;
          whole = at.whole;
          fewer = omega arith;
          read = same ∙ ap (λ ss. sign ∷ ss) (sym at.read);
        }))

-- a path that does not begin with `!` does not do so before `for`
not_first : (cs ds : List SignClass) → ((more : List SignClass) → cs ≡ classes.Exclamation ∷ more → ⊥)
    → heads (one classes.Exclamation) (cs ++ classes.Keyword keywords.For ∷ ds) ≡ false
not_first [] ds f = refl
not_first (c ∷ cs) ds f = go (is classes.Exclamation c) refl
  where
    go : (b : Bool) → is classes.Exclamation c ≡ b → b ≡ false
    go false e = refl
    go true e = absurd (f cs (ap (λ d. d ∷ cs) (same_class classes.Exclamation c e)))

positive_same : (cs : List SignClass) → heads type cs ≡ true → heads (one classes.Exclamation) cs ≡ false
    → finds const_target cs ≡ finds (Then target_types where_and_body) cs
positive_same [] h j = absurd (both_ways _ refl h)
positive_same (c ∷ cs) h j = target_positive c cs j

-- ---- generic parameters

-- what a header has for parameters is read as generic parameters, or there are none
generics_read : (params : List ParamTrees) (rest : List TokenTree) → AllDerived parameter (map declared params)
    → (params ≡ [] → has_generics (classes_in rest) ≡ false)
    → TurnsTo impl_front (generic_trees params ++ rest) (target true) rest
    × HasGenerics (generic_trees params ++ rest) (generic_trees params) rest
generics_read [] rest all plain =
    let none = sym (plain refl) in
    (no_parameters rest false none refl, no_parameters_has rest false none [] refl refl)
generics_read (param ∷ params) rest all plain =
    let is = sym (angle_begins (declared param) (map declared params) rest all.0 all.1) in
    let found = angle_finds (declared param) (map declared params) rest all.0 all.1 in (
      generics_turn (generic_trees (param ∷ params) ++ rest) true is rest refl found,
      generics_has (generic_trees (param ∷ params) ++ rest) true is (generic_trees (param ∷ params)) rest refl found
          refl,
    )

-- ---- the whole

-- the parts of a header and a body, and what is known of them
pub record Given : Type 0 where
  pub params : List ParamTrees
  pub known : ParamsKnown params
  pub clause : List TokenTree
  pub name : Name
  pub is_name : IsNameClass (name_class name)
  pub path : List TokenTree
  pub trait : IsTraitOf params path
  pub body : Grouped
  pub brace : body.delimiter ≡ delimiters.Brace
  pub clause_reads : IsClauseBefore clause body

module _ (given : Given) where
  abbrev pub angles : List TokenTree
  angles = generic_trees given.params

  abbrev pub self_type : List TokenTree
  self_type = Ident given.name ∷ argument_trees (map name_of given.params)

  abbrev pub clause : List TokenTree
  clause = given.clause

  abbrev pub block : List TokenTree
  block = Group given.body ∷ []

  abbrev pub from_clause : List TokenTree
  from_clause = clause ++ block

  abbrev pub from_type : List TokenTree
  from_type = self_type ++ from_clause

  abbrev pub from_for : List TokenTree
  from_for = for_tree ∷ from_type

  abbrev pub from_path : List TokenTree
  from_path = given.path ++ from_for

  abbrev pub from_header : List TokenTree
  from_header = angles ++ from_path

  abbrev pub trees : List TokenTree
  trees = word_tree (codes "impl") ∷ from_header

  -- ---- up to `impl`

  pub at_impl : BeginsWith trees (classes.Keyword keywords.Impl) from_header
  at_impl = begins_tree (word_tree (codes "impl")) from_header (λ s. refl)

  pub no_attributes : Finds attributes trees trees
  no_attributes = stays attributes trees (heads_sign attributes trees from_header _ at_impl) refl

  pub no_visibility : Finds visibility trees trees
  no_visibility = stays visibility trees (heads_sign visibility trees from_header _ at_impl) refl

  pub no_qualifiers : Finds impl_qualifiers trees trees
  no_qualifiers = stays impl_qualifiers trees (heads_sign impl_qualifiers trees from_header _ at_impl) refl

  front_turn : TurnsTo impl_item trees impl_front from_header
  front_turn = front_turns trees trees trees trees from_header no_attributes no_visibility no_qualifiers at_impl

  pub front_read : HasFront trees [] [] [] from_header
  front_read =
      front_has trees trees trees trees from_header [] [] [] no_attributes no_visibility no_qualifiers at_impl refl refl
      refl

  -- ---- the types

  pub path_read : Finds type from_path from_for
  path_read = path_finds given.path from_type given.trait.reads

  pub where_read : Finds where_clause from_clause block
  where_read =
      reads_finds where_clause (starts where_clause refl refl) from_clause clause block classes.Braces []
      (braces_class given.body given.brace) given.clause_reads

  end_found : Finds where_and_body from_clause []
  end_found = braces_find from_clause block [] given.body where_read refl given.brace

  pub type_read : Finds type from_type from_clause
  type_read =
      self_finds self_type from_clause
      (self_derived given.name (map name_of given.params) given.is_name given.known.named)
      (finds_heads where_and_body from_clause [] refl end_found)

  pub at_for : BeginsWith from_for (classes.Keyword keywords.For) from_type
  at_for = begins_for from_type

  path_heads : heads type (classes_in from_path) ≡ true
  path_heads = finds_heads type from_path from_for refl path_read

  path_classes : classes_in from_path ≡ classes_in given.path ++ classes.Keyword keywords.For ∷ classes_in from_type
  path_classes =
      classes_seam given.path from_for (path_derived given.path given.trait.reads).calm
      ∙ ap (λ cs. classes_in given.path ++ cs) (classes_sign from_for from_type (classes.Keyword keywords.For) at_for)

  pub path_positive : heads (one classes.Exclamation) (classes_in from_path) ≡ false
  path_positive =
      ap (heads (one classes.Exclamation)) path_classes
      ∙ not_first (classes_in given.path) (classes_in from_type)
      (λ more e. no_first classes.Exclamation given.path given.trait.positive more e)

  pub const_read : Finds may_const from_path from_path
  const_read = perhaps_stays (key keywords.Const) from_path (no_const (classes_in from_path) path_heads)

  pub generic_part : TurnsTo impl_front from_header (target true) from_path × HasGenerics from_header angles from_path
  generic_part =
      generics_read given.params from_path given.known.derived
      (λ none. ap has_generics path_classes
      ∙ plain_front (classes_in given.path) (classes_in from_type) (given.trait.plain none))

  target_turn : TurnsTo const_target from_path where_and_body from_clause
  target_turn =
      let f = trait_finds from_path from_for from_type from_clause path_read at_for type_read in
      record {
        same = positive_same (classes_in from_path) path_heads path_positive
            ∙ (finds_then target_types where_and_body (classes_in from_path)
            ∙ ap (λ x. bind (bare x) (finds where_and_body)) f.found);
        remains = f.remains;
      }

  pub trait_read : HasTraitAt from_path given.path self_type from_clause
  trait_read =
      trait_has from_path from_for from_type from_clause given.path self_type path_read at_for type_read refl refl

  -- ---- the whole item

  pub end_read : HasBraces from_clause clause given.body []
  end_read = braces_have from_clause block [] clause given.body where_read refl refl given.brace

  whole_found : Finds impl_item trees []
  whole_found =
      item_finds trees from_header from_clause [] front_turn
      (header_turns from_header from_path from_path from_clause generic_part.0 const_read target_turn)
      end_found

  pub all_read : ReadsAll (ByRule impl_item) trees
  all_read = whole_read impl_item starts_item trees [] whole_found refl
