-- Traits and trait aliases, with what comes before their names.
use Rattle.std.proofs.Common.{◌≡◌, refl, sym, ◌∙◌, Bool, true, false, List, [], ◌∷◌}
use Rattle.std.specs.Prelude.{Result}
use Rattle.std.specs.Borrow.{Bor}
use Rattle.grammars.specs.First.{heads}
use Rattle.grammars.specs.Grammar.{Then}
use Rattle.pm_stream.specs.declared.stream.TokenTree.{TokenTree}
use Rattle.declarations.specs.ItemFront.{HasHeader, LacksHeader, ReadsKind, ReadsNamed}
use Rattle.declarations.specs.ItemRest.{trait_alias_rest, trait_body}
use Rattle.declarations.specs.Kind.{keyword_rule, named_rule}
use Rattle.declarations.specs.Reader.{Finds, Sticks, classes_in}
use Rattle.declarations.specs.Signs.{BeginsWith}
use Rattle.declarations.specs.declared.any_item.ItemKind.TheVariants as kinds
use Rattle.declarations.specs.declared.item_front.FoundItem.{FoundItem}
use Rattle.item_tables.specs.Classes.{is}
use Rattle.item_tables.specs.declared.class.SignClass.{SignClass}
use Rattle.item_tables.specs.declared.class.SignClass.TheVariants as signs
use Rattle.item_tables.specs.declared.class.Keyword.TheVariants as keywords
use Rattle.declarations.specs.rules.Bodies.{name, trait_rest}
use Rattle.declarations.specs.rules.Fronts.{auto_front}
use Rattle.declarations.specs.rules.Names.{G, Trait, key, one}
use Rattle.declarations.specs.rules.Parts.{generics}
use Rattle.declarations.specs.rules.Rules.{rules}
use Rattle.declarations.proofs.ItemFrontLemmas.{begins_as, kind_keyword}
use Rattle.declarations.proofs.ReaderLemmas.{first_finds, first_sticks, heads_none, heads_sign, lacks, other_finds}
use Rattle.declarations.proofs.ReaderLemmas.{other_sticks, then_fails, then_finds, then_sticks}
use Rattle.declarations.proofs.TreeLemmas.{or_nothing}

-- ---- names and generic parameters

pub has_header : (trees mid rest : List TokenTree) → Finds name trees mid → Finds generics mid rest
    → HasHeader trees rest
has_header trees mid rest n g = record { from_generics = mid; name = n; generics = g }

pub lacks_name : (trees left : List TokenTree) → Sticks name trees left → LacksHeader trees left
lacks_name trees left s = λ g. then_sticks name (Then generics g) trees left s

pub lacks_generics : (trees mid left : List TokenTree) → Finds name trees mid → Sticks generics mid left
    → LacksHeader trees left
lacks_generics trees mid left n s = λ g.
    then_fails name (Then generics g) trees mid left n (then_sticks generics g mid left s)

pub ruleset headers = (has_header, lacks_name, lacks_generics)

-- what follows a name and generic parameters
header_finds : (g : G) (trees mid rest : List TokenTree) → HasHeader trees mid → Finds g mid rest
    → Finds (Then name (Then generics g)) trees rest
header_finds g trees mid rest h f =
    then_finds name (Then generics g) trees h.from_generics rest h.name
    (then_finds generics g h.from_generics mid rest h.generics f)

header_sticks : (g : G) (trees mid left : List TokenTree) → HasHeader trees mid → Sticks g mid left
    → Sticks (Then name (Then generics g)) trees left
header_sticks g trees mid left h f =
    then_fails name (Then generics g) trees h.from_generics left h.name
    (then_fails generics g h.from_generics mid left h.generics f)

-- ---- a trait alias begins with `=`

alias_heads : (cs : List SignClass) → heads trait_alias_rest cs ≡ heads (one signs.Equals) cs
alias_heads [] = refl
alias_heads (c ∷ cs) = or_nothing (is signs.Equals c) false

module _ (trees mid : List TokenTree) (h : HasHeader trees mid)
    (e : heads (one signs.Equals) (classes_in mid) ≡ true) where
  pub alias_finds : (rest : List TokenTree) → Finds trait_alias_rest mid rest
      → Finds (rules Trait) trees rest × (keyword_rule kinds.TraitAlias ≡ key keywords.Trait) × (trees ≡ trees)
      × Finds (named_rule kinds.TraitAlias) trees rest
  alias_finds rest f = (
    header_finds trait_rest trees mid rest h
        (first_finds trait_alias_rest trait_body mid rest (alias_heads (classes_in mid) ∙ e) f),
    refl,
    refl,
    header_finds trait_alias_rest trees mid rest h f,
  )

  pub alias_sticks : (left : List TokenTree) → Sticks trait_alias_rest mid left → Sticks (rules Trait) trees left
  alias_sticks left f =
      header_sticks trait_rest trees mid left h
      (first_sticks trait_alias_rest trait_body mid left (alias_heads (classes_in mid) ∙ e) f)

module _ (trees mid : List TokenTree) (h : HasHeader trees mid)
    (e : heads (one signs.Equals) (classes_in mid) ≡ false) where
  pub trait_finds : (rest : List TokenTree) → Finds trait_body mid rest
      → Finds (rules Trait) trees rest × (keyword_rule kinds.Trait ≡ key keywords.Trait) × (trees ≡ trees)
      × Finds (named_rule kinds.Trait) trees rest
  trait_finds rest f = (
    header_finds trait_rest trees mid rest h
        (other_finds trait_alias_rest trait_body mid rest (alias_heads (classes_in mid) ∙ e) refl f),
    refl,
    refl,
    header_finds trait_body trees mid rest h f,
  )

  pub trait_sticks : (left : List TokenTree) → Sticks trait_body mid left → Sticks (rules Trait) trees left
  trait_sticks left f =
      header_sticks trait_rest trees mid left h
      (other_sticks trait_alias_rest trait_body mid left (alias_heads (classes_in mid) ∙ e) refl f)

pub no_header : (trees left : List TokenTree) → LacksHeader trees left → Sticks (rules Trait) trees left
no_header trees left none = none trait_rest

-- ---- `auto`

pub auto_trait : (trees mid : List TokenTree) (class : SignClass) (b : Bool)
    (result : Result FoundItem (Bor (List TokenTree))) → BeginsWith trees class mid
    → b ≡ is (signs.Keyword keywords.Trait) class → b ≡ true
    → ReadsNamed (key keywords.Trait) (rules Trait) mid result
    → ReadsKind auto_front trees result
auto_trait trees mid class b result at e h f =
    kind_keyword auto_front (rules Trait) (signs.Keyword keywords.Trait) trees mid result
    (begins_as trees mid (signs.Keyword keywords.Trait) class b at e h) refl refl f

pub auto_not : (trees rest : List TokenTree) (class : SignClass) (b : Bool) → BeginsWith trees class rest
    → b ≡ is (signs.Keyword keywords.Trait) class → b ≡ false
    → Sticks auto_front trees trees
auto_not trees rest class b at e h =
    lacks auto_front trees (heads_sign auto_front trees rest class at ∙ (sym e ∙ h)) refl

pub auto_none : (trees : List TokenTree) → trees ≡ [] → Sticks auto_front trees trees
auto_none trees e = lacks auto_front trees (heads_none auto_front trees e) refl

pub ruleset traits = (
  alias_finds,
  alias_sticks,
  trait_finds,
  trait_sticks,
  no_header,
  auto_trait,
  auto_not,
  auto_none,
)
