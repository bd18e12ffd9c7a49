-- The parts of generic parameters and of the predicates of where clauses, in reading order.
use Rattle.std.specs.Prelude.{◌≡◌, ℕ, ◌==◌, Bool, true, false, List, [], ◌∷◌, ◌++◌, codes, MatchResult, Result}
use Rattle.std.specs.Prelude.{length}
use Rattle.std.specs.Borrow.{Bor}
use Rattle.grammars.specs.Grammar.{Mark, Nothing, Then, perhaps}
use Rattle.pm_stream.specs.declared.stream.TokenTree.{TokenTree}
use Rattle.pm_stream.specs.declared.stream.TokenTree.TheVariants.{Ident, Punct}
use Rattle.declarations.specs.Expected.{HasSigns}
use Rattle.declarations.specs.Forms.{AreAttributes, AreBounds, IsType}
use Rattle.declarations.specs.Parameter.{LeadsTo}
use Rattle.declarations.specs.Reader.{Finds, Sticks}
use Rattle.declarations.specs.Reading.{Reads}
use Rattle.declarations.specs.Signs.{BeginsWith, is_written}
use Rattle.item_tables.specs.declared.class.SignClass.{SignClass}
use Rattle.item_tables.specs.declared.class.SignClass.TheVariants as classes
use Rattle.item_tables.specs.declared.class.Keyword.TheVariants as keywords
use Rattle.item_tables.specs.declared.class.Word.{Word}
use Rattle.declarations.specs.declared.fault.Fault.{Fault}
use Rattle.declarations.specs.declared.generics.Param.{Param}
use Rattle.declarations.specs.declared.generics.ParamKind.{ParamKind}
use Rattle.declarations.specs.declared.generics.ParamKind.TheVariants as kinds
use Rattle.declarations.specs.declared.generics.Predicate.{Predicate}
use Rattle.item_tables.specs.Classes.{is, opens}
use Rattle.declarations.specs.rules.Names.{Bounds, G, Rest, one, seq}
use Rattle.declarations.specs.rules.Parts as rule
use Rattle.declarations.specs.rules.Pieces.{ByRule}
use Rattle.declarations.specs.rules.Types.{type}

-- ---- single signs

-- the trees are a sign of this class and then the rest
pub record HasSign (class : SignClass) (trees sign rest : List TokenTree) : Type 0 where
  pub begins : BeginsWith trees class rest
  pub whole : trees ≡ sign ++ rest

-- the trees are a word of any kind and then the rest
pub record IsWord (trees name rest : List TokenTree) : Type 0 where
  pub word : Word
  pub sign : HasSign (classes.Word word) trees name rest

-- the trees do not begin with a sign of this class
abbrev pub HasNo : SignClass → List TokenTree → Type 0
HasNo class trees = (rest : List TokenTree) → BeginsWith trees class rest → ⊥

-- the trees begin with the mark and a part of this form; or they do not begin with the mark, and the part is empty
pub data MayHave (mark : SignClass) (form : List TokenTree → List TokenTree → List TokenTree → Type 0)
    (trees part rest : List TokenTree) : Type 0 where
  stands : (left : List TokenTree) → BeginsWith trees mark left → form left part rest
      → MayHave mark form trees part rest
  left_out : HasNo mark trees → part ≡ [] → rest ≡ trees → MayHave mark form trees part rest

-- the trees begin with the mark and a part of this form
pub record MustHave (mark : SignClass) (form : List TokenTree → List TokenTree → List TokenTree → Type 0)
    (trees part rest : List TokenTree) : Type 0 where
  pub left : List TokenTree
  pub begins : BeginsWith trees mark left
  pub reads : form left part rest

-- the end of a list's element: a `,`, or the end of the trees
pub data EndsElement (trees rest : List TokenTree) : Type 0 where
  comma : BeginsWith trees classes.Comma rest → EndsElement trees rest
  last : trees ≡ [] → rest ≡ [] → EndsElement trees rest

-- ---- generic parameters

-- the parts of a generic parameter, as lists of trees
pub record ParamTrees : Type 0 where
  pub attributes : List TokenTree
  pub kind : ParamKind
  pub name : List TokenTree
  pub bounds : List TokenTree
  pub default : List TokenTree

-- the parts of a generic parameter that the library returns, as lists of trees
abbrev pub param_trees : Param → ParamTrees
param_trees param = record {
  attributes = param.attributes.now;
  kind = param.kind;
  name = param.name.now;
  bounds = param.bounds.now;
  default = param.default.now;
}

-- the trees begin with the name of a parameter of this kind
abbrev pub HasName : ParamKind → List TokenTree → List TokenTree → List TokenTree → Type 0
HasName kinds.Lifetime trees name rest = HasSign classes.Lifetime trees name rest
HasName kinds.Type trees name rest = IsWord trees name rest
HasName kinds.Const trees name rest = MustHave (classes.Keyword keywords.Const) IsWord trees name rest

-- the trees begin with the bounds of a parameter, or with the type of a constant
abbrev pub HasBounds : ParamKind → List TokenTree → List TokenTree → List TokenTree → Type 0
HasBounds kinds.Lifetime trees bounds rest = MayHave classes.Colon (Reads AreBounds) trees bounds rest
HasBounds kinds.Type trees bounds rest = MayHave classes.Colon (Reads AreBounds) trees bounds rest
HasBounds kinds.Const trees bounds rest = MustHave classes.Colon (Reads IsType) trees bounds rest

-- whether a sign of this class is the whole default of a constant
abbrev pub is_constant : SignClass → Bool
is_constant classes.Literal = true
is_constant classes.Braces = true
is_constant classes.Block = true
is_constant classes.Truth = true
is_constant _ = false

-- the default of a constant: a literal, braces, `true`, `false`, `-` and a literal, or a type
pub data ReadsConstant (trees part rest : List TokenTree) : Type 0 where
  one_sign : (class : SignClass) → is_constant class ≡ true → HasSign class trees part rest
      → ReadsConstant trees part rest
  negative : (left : List TokenTree) → BeginsWith trees classes.Minus left → BeginsWith left classes.Literal rest
      → trees ≡ part ++ rest → ReadsConstant trees part rest
  of_type : Reads IsType trees part rest → ReadsConstant trees part rest

-- the trees begin with `=` and the default of a parameter, or the default is left out
abbrev pub HasDefault : ParamKind → List TokenTree → List TokenTree → List TokenTree → Type 0
HasDefault kinds.Lifetime trees default rest = (default ≡ []) × (rest ≡ trees)
HasDefault kinds.Type trees default rest = MayHave classes.Equals (Reads IsType) trees default rest
HasDefault kinds.Const trees default rest = MayHave classes.Equals ReadsConstant trees default rest

-- the trees begin with a generic parameter that has these parts. Each part is what its rule reads after the part before
-- it. Then comes a `,` and the rest, or nothing
pub record IsParamAt (trees : List TokenTree) (param : ParamTrees) (rest : List TokenTree) : Type 0 where
  pub from_name : List TokenTree
  pub from_bounds : List TokenTree
  pub from_default : List TokenTree
  pub from_end : List TokenTree
  pub attributes : Reads AreAttributes trees param.attributes from_name
  pub name : HasName param.kind from_name param.name from_bounds
  pub bounds : HasBounds param.kind from_bounds param.bounds from_default
  pub default : HasDefault param.kind from_default param.default from_end
  pub ends : EndsElement from_end rest

-- the trees begin with a generic parameter that has these parts, and the rest comes after it
pub record HasParam (trees : List TokenTree) (param : ParamTrees) (rest : List TokenTree) : Type 0 where
  pub from_name : List TokenTree
  pub from_bounds : List TokenTree
  pub from_default : List TokenTree
  pub attributes : Reads AreAttributes trees param.attributes from_name
  pub name : HasName param.kind from_name param.name from_bounds
  pub bounds : HasBounds param.kind from_bounds param.bounds from_default
  pub default : HasDefault param.kind from_default param.default rest

-- no other parameter, and none with another rest, is at the start of the trees
abbrev pub IsOnlyParam : List TokenTree → ParamTrees → List TokenTree → Type 0
IsOnlyParam trees param rest =
    (param2 : ParamTrees) (rest2 : List TokenTree) → IsParamAt trees param2 rest2
    → (param2 ≡ param) × (rest2 ≡ rest)

-- the trees begin with what the rule reads. Then comes a `,` and the rest, or nothing
pub record ReadsElement (g : G) (trees rest : List TokenTree) : Type 0 where
  pub part : List TokenTree
  pub from_end : List TokenTree
  pub reads : Reads (ByRule g) trees part from_end
  pub ends : EndsElement from_end rest

-- ---- predicates

-- the parts of a predicate, as lists of trees
pub record PredicateTrees : Type 0 where
  pub bounded : List TokenTree
  pub bounds : List TokenTree

-- the parts of a predicate that the library returns, as lists of trees
abbrev pub predicate_trees : Predicate → PredicateTrees
predicate_trees predicate = record { bounded = predicate.bounded.now; bounds = predicate.bounds.now }

-- the trees begin with a predicate that has these parts: a type, and bounds after `:`. Then comes a `,`, or nothing
pub record IsPredicateAt (trees : List TokenTree) (predicate : PredicateTrees) (rest : List TokenTree)
    : Type 0 where
  pub from_colon : List TokenTree
  pub from_end : List TokenTree
  pub bounded : Reads IsType trees predicate.bounded from_colon
  pub bounds : MustHave classes.Colon (Reads AreBounds) from_colon predicate.bounds from_end
  pub ends : EndsElement from_end rest

-- the trees begin with a predicate that has these parts, and the rest comes after it
pub record HasPredicate (trees : List TokenTree) (predicate : PredicateTrees) (rest : List TokenTree) : Type 0 where
  pub from_colon : List TokenTree
  pub bounded : Reads IsType trees predicate.bounded from_colon
  pub bounds : MustHave classes.Colon (Reads AreBounds) from_colon predicate.bounds rest

-- no other predicate, and none with another rest, is at the start of the trees
abbrev pub IsOnlyPredicate : List TokenTree → PredicateTrees → List TokenTree → Type 0
IsOnlyPredicate trees predicate rest =
    (predicate2 : PredicateTrees) (rest2 : List TokenTree) → IsPredicateAt trees predicate2 rest2
    → (predicate2 ≡ predicate) × (rest2 ≡ rest)

-- ---- the trees that hold the lists

abbrev pub is_mark_of : ℕ → TokenTree → Bool
is_mark_of c (Punct p) = p.mark == c
is_mark_of c _ = false

-- the trees between `<` (60) and `>` (62), or no trees if there are no generic parameters
abbrev pub IsWithin : List TokenTree → List TokenTree → Type 0
IsWithin [] inside = inside ≡ []
IsWithin (first ∷ rest) inside =
    (close : TokenTree) × (rest ≡ inside ++ close ∷ []) × (is_mark_of 60 first ≡ true)
    × (is_mark_of 62 close ≡ true)

-- the trees after the `where` of a where clause, or no trees if there is no clause
abbrev pub IsAfterWhere : List TokenTree → List TokenTree → Type 0
IsAfterWhere [] inside = inside ≡ []
IsAfterWhere (Ident i ∷ rest) inside = (is_written i (codes "where") ≡ true) × (inside ≡ rest)
IsAfterWhere _ inside = ⊥

-- the error is after `at` trees, where a sign that passes this test is missing
pub record LacksSign (test : SignClass → Bool) (at : ℕ) (fault : Fault) : Type 0 where
  pub counted : fault.at ≡ at
  pub expected : HasSigns fault.expected test false

-- whether the trees begin with `<` (60)
abbrev pub is_opened : List TokenTree → Bool
is_opened [] = false
is_opened (first ∷ rest) = is_mark_of 60 first

-- the error of trees that are not in angle brackets: at the first tree, where `<` is missing, or at the end if they
-- begin with `<`, where `>` is missing
pub record LacksBracket (trees : List TokenTree) (fault : Fault) : Type 0 where
  pub opening : is_opened trees ≡ false → LacksSign opens 0 fault
  pub closing : is_opened trees ≡ true → LacksSign (is classes.Greater) (length trees) fault

-- the error of trees that do not begin with `where`: it is at the first tree, where `where` is missing
abbrev pub LacksWhere : Fault → Type 0
LacksWhere = LacksSign (is (classes.Keyword keywords.Where)) 0

-- ---- steps of the parser

-- the trees end with the left trees
abbrev pub IsBack : List TokenTree → List TokenTree → Type 0
IsBack left trees = (front : List TokenTree) × (trees ≡ front ++ left)

-- nothing of the form can be read from the trees, and the error is before the left trees
pub record Fails (form : List TokenTree → List TokenTree → List TokenTree → Type 0) (trees left : List TokenTree)
    : Type 0 where
  pub back : IsBack left trees
  pub nothing : (part rest : List TokenTree) → form trees part rest → ⊥

-- the result of a function that reads a part: the part and the trees after it, or the trees from the error on
abbrev pub FoundPart : Type 0
FoundPart = Result (Bor (List TokenTree) × Bor (List TokenTree)) (Bor (List TokenTree))

-- the result is the trees after what the rule finds, or the trees from the error on
abbrev pub ReadsPart : G → List TokenTree → FoundPart → Type 0
ReadsPart g trees result = MatchResult result (λ found. Finds g trees found.1.now) (λ left. Sticks g trees left.now)

-- the result is the trees to which the first rule leads, where the second rule goes on, or the trees from the error on
abbrev pub Leads : G → G → List TokenTree → FoundPart → Type 0
Leads g h trees result = MatchResult result (λ found. LeadsTo g trees h found.1.now) (λ left. Sticks g trees left.now)

-- the rule that reads what may come after the name of a parameter of this kind
abbrev pub after_name : ParamKind → G
after_name kinds.Lifetime = rule.with_bounds
after_name kinds.Type = Then rule.with_bounds (perhaps rule.default_type)
after_name kinds.Const = seq (
    Mark Rest ∷ one classes.Colon ∷ Mark Bounds ∷ type ∷ rule.with_constant ∷ [])

-- the rule that reads what may come after the bounds of a parameter of this kind
abbrev pub after_bounds : ParamKind → G
after_bounds kinds.Lifetime = Nothing
after_bounds kinds.Type = perhaps rule.default_type
after_bounds kinds.Const = rule.with_constant
