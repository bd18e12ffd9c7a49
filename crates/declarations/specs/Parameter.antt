-- The parts of a function's parameter, in reading order.
use Rattle.std.specs.Prelude.{◌≡◌, List, [], ◌⊎◌, MatchResult, Option, Result, MatchOption}
use Rattle.std.specs.Borrow.{Bor}
use Rattle.grammars.specs.Find.{find, front}
use Rattle.grammars.specs.Grammar.{Event, Nothing}
use Rattle.pm_stream.specs.declared.stream.TokenTree.{TokenTree}
use Rattle.declarations.specs.List.{BeginsList}
use Rattle.declarations.specs.Reader.{Finds, Remains, Sticks, classes_in}
use Rattle.declarations.specs.Reading.{Reads}
use Rattle.declarations.specs.Signs.{BeginsWith}
use Rattle.item_tables.specs.declared.class.SignClass.{SignClass}
use Rattle.item_tables.specs.declared.class.SignClass.TheVariants as classes
use Rattle.declarations.specs.declared.fault.Fault.{Fault}
use Rattle.declarations.specs.declared.parameter.Parameter.{Parameter}
use Rattle.declarations.specs.declared.parameter.ParameterKind.{ParameterKind}
use Rattle.declarations.specs.declared.parameter.ParameterKind.TheVariants as kinds
use Rattle.declarations.specs.declared.parameter.Named.{Named}
use Rattle.declarations.specs.declared.parameter.Parameters.{Parameters}
use Rattle.declarations.specs.declared.parameter.Shape.{Shape}
use Rattle.declarations.specs.declared.parameter.Shape.TheVariants as shapes
use Rattle.declarations.specs.rules.Names.{G, Label}
use Rattle.declarations.specs.rules.Parameters as rule
use Rattle.declarations.specs.rules.Parts.{attributes}
use Rattle.declarations.specs.rules.Pieces.{ByRule}
use Rattle.declarations.specs.rules.Rules.{rules}
use Rattle.declarations.specs.rules.Types.{type}

-- ---- what a parameter is

-- the trees begin with a part by the first rule, `:`, and a part by the second rule
pub record HasType (name end : G) (trees named ended rest : List TokenTree) : Type 0 where
  pub from_colon : List TokenTree
  pub from_end : List TokenTree
  pub name_read : Reads (ByRule name) trees named from_colon
  pub colon : BeginsWith from_colon classes.Colon from_end
  pub end_read : Reads (ByRule end) from_end ended rest

-- the trees begin with `...`, or with a pattern, `:` and `...`
abbrev pub IsVariadic : List TokenTree → List TokenTree → List TokenTree → Type 0
IsVariadic trees pattern rest =
    ((pattern ≡ []) × (ended : List TokenTree) × Reads (ByRule rule.dots) trees ended rest)
    ⊎ ((ended : List TokenTree) × HasType rule.pattern rule.dots trees pattern ended rest)

-- the trees after the attributes begin with a parameter of this kind that has this pattern
abbrev pub HasKind : ParameterKind → List TokenTree → List TokenTree → List TokenTree → Type 0
HasKind kinds.Receiver trees pattern rest = Reads (ByRule rule.receiver) trees pattern rest
HasKind (kinds.TypedReceiver ty) trees pattern rest = HasType rule.receiver type trees pattern ty.now rest
HasKind (kinds.Typed ty) trees pattern rest = HasType rule.pattern type trees pattern ty.now rest
HasKind kinds.Variadic trees pattern rest = IsVariadic trees pattern rest

-- the trees begin with a function's parameter that has these parts, and the rest comes after it
pub record IsParameterAt (trees : List TokenTree) (parameter : Parameter) (rest : List TokenTree) : Type 0 where
  pub part : List TokenTree
  pub reads : Reads (ByRule rule.function_parameter) trees part rest
  pub after_attributes : List TokenTree
  pub attributes : Reads (ByRule attributes) trees parameter.attributes.now after_attributes
  pub parts : HasKind parameter.kind after_attributes parameter.pattern.now rest

-- a call of `next` gives the next parameter or an error, and nothing if no trees are left
abbrev pub GivesParameter : Parameters → Option (Result Parameter Fault) → Parameters → Type 0
GivesParameter old given new =
    MatchOption given ((old.left.now ≡ []) × (new ≡ old))
    (λ found. BeginsList IsParameterAt (ByRule rule.function_parameter) old.left.now found new.left.now)

-- ---- how a parameter is read

-- what the rule `g` finds in the trees is what comes before the rest, and then what the rule `h` finds in the rest
pub record LeadsTo (g : G) (trees : List TokenTree) (h : G) (rest : List TokenTree) : Type 0 where
  pub events : List (Event SignClass Label)
  pub found : find rules g (classes_in trees) ≡ front events (find rules h (classes_in rest))
  pub remains : Remains rest trees

-- the rule that reads the rest of a parameter with this beginning
abbrev pub left_of : Shape → G
left_of shapes.Pattern = rule.pattern_parameter
left_of shapes.Receiver = rule.self_type
left_of shapes.Reference = Nothing

-- the rule that reads this beginning of a parameter. The given rule is that of a receiver
abbrev pub front_of : G → Shape → G
front_of receiver shapes.Pattern = rule.pattern
front_of receiver shapes.Receiver = receiver
front_of receiver shapes.Reference = receiver

-- the result is the beginning of a parameter, up to its `:` or its end, or the trees from the error on
abbrev pub ReadsFront : G → G → List TokenTree → Result (Shape × Bor (List TokenTree)) (Bor (List TokenTree)) → Type 0
ReadsFront g receiver trees result =
    MatchResult result
    (λ found. LeadsTo g trees (left_of found.0) found.1.now × Finds (front_of receiver found.0) trees found.1.now)
    (λ left. Sticks g trees left.now)

-- the result is a pattern by the rule, up to its `:`, or the trees from the error on
abbrev pub ReadsPattern : G → List TokenTree → Result (Shape × Bor (List TokenTree)) (Bor (List TokenTree)) → Type 0
ReadsPattern g trees result =
    MatchResult result
    (λ found. (found.0 ≡ shapes.Pattern) × Finds g trees found.1.now)
    (λ left. Sticks g trees left.now)

-- the trees after a receiver begin with what a parameter of this kind has there
abbrev pub HasSelfType : ParameterKind → List TokenTree → List TokenTree → Type 0
HasSelfType kinds.Receiver trees rest = trees ≡ rest
HasSelfType (kinds.TypedReceiver ty) trees rest =
    (from_type : List TokenTree) × BeginsWith trees classes.Colon from_type × Reads (ByRule type) from_type ty.now rest
HasSelfType (kinds.Typed ty) trees rest = ⊥
HasSelfType kinds.Variadic trees rest = ⊥

-- the trees after a pattern and `:` begin with what a parameter of this kind has there
abbrev pub IsTyped : ParameterKind → List TokenTree → List TokenTree → Type 0
IsTyped kinds.Receiver trees rest = ⊥
IsTyped (kinds.TypedReceiver ty) trees rest = ⊥
IsTyped (kinds.Typed ty) trees rest = Reads (ByRule type) trees ty.now rest
IsTyped kinds.Variadic trees rest = (ended : List TokenTree) × Reads (ByRule rule.dots) trees ended rest

-- the result is the kind of a parameter with a pattern, from after its `:` on, or the trees from the error on
abbrev pub ReadsTyped : List TokenTree → Result (ParameterKind × Bor (List TokenTree)) (Bor (List TokenTree)) → Type 0
ReadsTyped trees result =
    MatchResult result
    (λ found. Finds rule.typed_end trees found.1.now × IsTyped found.0 trees found.1.now)
    (λ left. Sticks rule.typed_end trees left.now)

-- the trees after a pattern begin with `:` and what a parameter of this kind has there
abbrev pub HasPatternType : ParameterKind → List TokenTree → List TokenTree → Type 0
HasPatternType kind trees rest =
    (from_end : List TokenTree) × BeginsWith trees classes.Colon from_end × IsTyped kind from_end rest

-- the trees after this beginning of a parameter begin with what a parameter of this kind has there
abbrev pub HasEnd : Shape → ParameterKind → List TokenTree → List TokenTree → Type 0
HasEnd shapes.Pattern = HasPatternType
HasEnd shapes.Receiver = HasSelfType
HasEnd shapes.Reference = HasSelfType

-- the result is the kind of a parameter and the trees after what the rule finds, or the trees from the error on
abbrev pub ReadsEnd : G → Shape → List TokenTree → Result (ParameterKind × Bor (List TokenTree)) (Bor (List TokenTree))
    → Type 0
ReadsEnd g shape trees result =
    MatchResult result
    (λ found. Finds g trees found.1.now × HasEnd shape found.0 trees found.1.now)
    (λ left. Sticks g trees left.now)

-- the result is the pattern and the kind of a parameter after its attributes, or the trees from the error on
abbrev pub ReadsNamed : G → List TokenTree
    → Result (Named × Bor (List TokenTree)) (Bor (List TokenTree)) → Type 0
ReadsNamed g trees result =
    MatchResult result
    (λ found. Finds g trees found.1.now × HasKind found.0.kind trees found.0.pattern.now found.1.now)
    (λ left. Sticks g trees left.now)

-- the result is a parameter and the trees after what the rule finds, or the trees from the error on
abbrev pub ReadsParameter : List TokenTree → Result (Parameter × Bor (List TokenTree)) (Bor (List TokenTree)) → Type 0
ReadsParameter trees result =
    MatchResult result
    (λ found. Finds rule.function_parameter trees found.1.now × (after : List TokenTree)
    × Reads (ByRule attributes) trees found.0.attributes.now after
    × HasKind found.0.kind after found.0.pattern.now found.1.now)
    (λ left. Sticks rule.function_parameter trees left.now)
