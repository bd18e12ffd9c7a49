-- The path of a type, and its parts in reading order.
use Rattle.std.specs.Prelude.{◌≡◌, true, List, [], ◌∷◌, ◌++◌, ◌⊎◌, MatchResult, Option, Some, None, Result}
use Rattle.std.specs.Borrow.{Bor}
use Rattle.pm_token.specs.Leaf.{Name}
use Rattle.pm_stream.specs.declared.stream.Group.{Group as Grouped}
use Rattle.pm_stream.specs.declared.stream.TokenTree.{TokenTree}
use Rattle.pm_stream.specs.declared.stream.TokenTree.TheVariants.{Ident}
use Rattle.declarations.specs.Function.{AreParentheses, HasReturn}
use Rattle.declarations.specs.Parameter.{LeadsTo}
use Rattle.declarations.specs.Reader.{Finds, Remains, Sticks}
use Rattle.declarations.specs.Reading.{Reads}
use Rattle.declarations.specs.Signs.{BeginsWith, name_class}
use Rattle.declarations.specs.Whole.{ReadsAll}
use Rattle.item_tables.specs.declared.class.SignClass.{SignClass}
use Rattle.item_tables.specs.declared.class.SignClass.TheVariants as classes
use Rattle.declarations.specs.declared.type_path.Last.{Last}
use Rattle.declarations.specs.declared.type_path.PathArguments.{PathArguments}
use Rattle.declarations.specs.declared.type_path.PathArguments.TheVariants as kinds
use Rattle.declarations.specs.declared.type_path.Segment.{Segment}
use Rattle.declarations.specs.declared.type_path.Transition.{Transition}
use Rattle.declarations.specs.declared.type_path.TypePath.{TypePath}
use Rattle.item_tables.specs.Classes.{opens}
use Rattle.declarations.specs.rules.Names.{AfterName, G}
use Rattle.declarations.specs.rules.Paths as rule
use Rattle.declarations.specs.rules.Pieces.{ByRule}

-- ---- arguments

-- the trees begin with `::`, or the rest is all of them
abbrev pub MaySeparate : List TokenTree → List TokenTree → Type 0
MaySeparate trees rest = BeginsWith trees classes.PathSeparator rest ⊎ (trees ≡ rest)

-- the trees begin with these generic arguments and `>`
pub record HasInside (trees inside rest : List TokenTree) : Type 0 where
  pub from_close : List TokenTree
  pub inside_read : Reads (ByRule rule.generic_arguments) trees inside from_close
  pub close : BeginsWith from_close classes.Greater rest

-- the trees begin with these generic arguments in angle brackets, and perhaps `::` before them
pub record HasBrackets (trees inside rest : List TokenTree) : Type 0 where
  pub from_open : List TokenTree
  pub from_inside : List TokenTree
  pub separator : MaySeparate trees from_open
  pub class : SignClass
  pub open_read : BeginsWith from_open class from_inside
  pub is_open : opens class ≡ true
  pub closed : HasInside from_inside inside rest

-- the trees begin with this group in parentheses, and perhaps `->` and this type
pub record HasGroup (trees : List TokenTree) (group : Grouped) (output rest : List TokenTree) : Type 0 where
  pub from_output : List TokenTree
  pub round : AreParentheses trees group from_output
  pub returned : HasReturn from_output output rest

-- the trees begin with this group in parentheses, perhaps `::` before it, and perhaps `->` and this type after it
pub record HasParentheses (trees : List TokenTree) (group : Grouped) (output rest : List TokenTree) : Type 0 where
  pub from_group : List TokenTree
  pub separator : MaySeparate trees from_group
  pub grouped : HasGroup from_group group output rest

-- the trees begin with these arguments of a segment
abbrev pub HasArguments : PathArguments → List TokenTree → List TokenTree → Type 0
HasArguments kinds.None trees rest = trees ≡ rest
HasArguments (kinds.AngleBracketed inside) trees rest = HasBrackets trees inside.now rest
HasArguments (kinds.Parenthesized g output) trees rest = HasParentheses trees g.now output.now rest

-- ---- segments

-- the trees begin with this name of a segment
pub record IsSegmentAt (trees : List TokenTree) (name : Name) (rest : List TokenTree) : Type 0 where
  pub whole : trees ≡ Ident name ∷ rest
  pub is_name : rule.is_segment (name_class name) ≡ true

-- the trees begin with a segment and `::`
pub record HasSegment (trees next : List TokenTree) : Type 0 where
  pub name : Name
  pub from_arguments : List TokenTree
  pub arguments : PathArguments
  pub rest : List TokenTree
  pub named : IsSegmentAt trees name from_arguments
  pub argued : HasArguments arguments from_arguments rest
  pub separator : BeginsWith rest classes.PathSeparator next

-- the trees from the first segment on begin with any number of segments, each with `::` after it
pub data Segments (first : List TokenTree) : List TokenTree → Type 0 where
  at_first : Segments first first
  onward : {trees : List TokenTree} (next : List TokenTree) → Segments first trees → HasSegment trees next
      → Segments first next

-- ---- paths

-- the trees begin with a path that has these parts
pub record HasPathParts (trees : List TokenTree) (path : TypePath) (rest : List TokenTree) : Type 0 where
  pub from_first : List TokenTree
  pub from_name : List TokenTree
  pub from_arguments : List TokenTree
  pub separator : MaySeparate trees from_first
  pub segments : Segments from_first from_name
  pub prefix : trees ≡ path.prefix.now ++ from_name
  pub name : IsSegmentAt from_name path.name.now from_arguments
  pub arguments : HasArguments path.arguments from_arguments rest

-- the trees are a path, and these are its parts
pub record IsTypePath (trees : List TokenTree) (path : TypePath) : Type 0 where
  pub all : ReadsAll (ByRule rule.type_path) trees
  pub parts : HasPathParts trees path []

-- ---- how a path is read

-- the rule reads up to the arguments of the next segment, or up to the rest if there is no next segment
abbrev pub Goes : G → List TokenTree → List TokenTree → Option Segment → Type 0
Goes g trees rest None = Finds g trees rest
Goes g trees rest (Some next) = LeadsTo g trees (rule.path AfterName) next.from_arguments.now

-- the trees begin with `::` and the name of the next segment, if there is one
abbrev pub HasNext : List TokenTree → Option Segment → Type 0
HasNext trees None = true ≡ true
HasNext trees (Some next) =
    BeginsWith trees classes.PathSeparator next.from_name.now
    × IsSegmentAt next.from_name.now next.name.now next.from_arguments.now

-- these are generic arguments after their `<`
abbrev pub HasAngle : PathArguments → List TokenTree → List TokenTree → Type 0
HasAngle (kinds.AngleBracketed inside) trees rest = HasInside trees inside.now rest
HasAngle kinds.None trees rest = ⊥
HasAngle (kinds.Parenthesized g output) trees rest = ⊥

-- these are arguments in parentheses
abbrev pub HasRound : PathArguments → List TokenTree → List TokenTree → Type 0
HasRound (kinds.Parenthesized g output) trees rest = HasGroup trees g.now output.now rest
HasRound kinds.None trees rest = ⊥
HasRound (kinds.AngleBracketed inside) trees rest = ⊥

-- a step, with its arguments and its next segment
pub record IsStep (g : G) (has : PathArguments → List TokenTree → List TokenTree → Type 0) (trees : List TokenTree)
    (step : Transition) : Type 0 where
  pub goes : Goes g trees step.rest.now step.next
  pub arguments : has step.arguments trees step.rest.now
  pub next : HasNext step.rest.now step.next
  pub remains : Remains step.rest.now trees

-- the result is a step, or the trees from the error on
abbrev pub ReadsStep : G → (PathArguments → List TokenTree → List TokenTree → Type 0) → List TokenTree
    → Result Transition (Bor (List TokenTree)) → Type 0
ReadsStep g has trees result = MatchResult result (λ step. IsStep g has trees step) (λ left. Sticks g trees left.now)

-- the last segment of a path that begins with the first segment
pub record IsLast (first : Segment) (last : Last) : Type 0 where
  pub found : Finds (rule.path AfterName) first.from_arguments.now last.rest.now
  pub segments : Segments first.from_name.now last.segment.from_name.now
  pub name : IsSegmentAt last.segment.from_name.now last.segment.name.now last.segment.from_arguments.now
  pub arguments : HasArguments last.arguments last.segment.from_arguments.now last.rest.now
  pub remains : Remains last.segment.from_name.now first.from_name.now

-- the result is the last segment of the path, or the trees from the error on
abbrev pub ReadsLast : Segment → Result Last (Bor (List TokenTree)) → Type 0
ReadsLast first result =
    MatchResult result (λ last. IsLast first last)
    (λ left. Sticks (rule.path AfterName) first.from_arguments.now left.now)
