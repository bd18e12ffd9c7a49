-- The parts of a generic argument, in reading order.
use Rattle.std.specs.Prelude.{◌≡◌, List, [], MatchOption, MatchResult, Option, Result}
use Rattle.std.specs.Borrow.{Bor}
use Rattle.pm_stream.specs.declared.stream.TokenTree.{TokenTree}
use Rattle.declarations.specs.List.{BeginsList}
use Rattle.declarations.specs.Reader.{Finds, Sticks}
use Rattle.declarations.specs.Reading.{Reads}
use Rattle.declarations.specs.Signs.{BeginsWith}
use Rattle.item_tables.specs.declared.class.SignClass.{SignClass}
use Rattle.item_tables.specs.declared.class.SignClass.TheVariants as classes
use Rattle.declarations.specs.declared.fault.Fault.{Fault}
use Rattle.declarations.specs.declared.generic_argument.ArgumentKind.{ArgumentKind}
use Rattle.declarations.specs.declared.generic_argument.ArgumentKind.TheVariants as kinds
use Rattle.declarations.specs.declared.generic_argument.GenericArgument.{GenericArgument}
use Rattle.declarations.specs.declared.generic_argument.GenericArguments.{GenericArguments}
use Rattle.declarations.specs.rules.Names.{G, one}
use Rattle.declarations.specs.rules.Paths as rule
use Rattle.declarations.specs.rules.Pieces.{ByRule}
use Rattle.declarations.specs.rules.Types.{bounds, type}

-- the trees begin with this sign, and then have a part by the rule
pub record HasAfter (mark : SignClass) (end : G) (trees ended rest : List TokenTree) : Type 0 where
  pub from_end : List TokenTree
  pub marked : BeginsWith trees mark from_end
  pub end_read : Reads (ByRule end) from_end ended rest

-- the trees begin with a type, this sign, and a part by the rule
pub record HasMarked (mark : SignClass) (end : G) (trees part ended rest : List TokenTree) : Type 0 where
  pub from_mark : List TokenTree
  pub part_read : Reads (ByRule type) trees part from_mark
  pub after : HasAfter mark end from_mark ended rest

-- the trees begin with an argument of this kind, and with this part of it
abbrev pub HasArgument : ArgumentKind → List TokenTree → List TokenTree → List TokenTree → Type 0
HasArgument kinds.Lifetime trees part rest = Reads (ByRule (one classes.Lifetime)) trees part rest
HasArgument kinds.Const trees part rest = Reads (ByRule rule.constant) trees part rest
HasArgument kinds.Type trees part rest = Reads (ByRule type) trees part rest
HasArgument (kinds.Binding bound) trees part rest =
    HasMarked classes.Equals rule.binding_value trees part bound.now rest
HasArgument (kinds.Constraint given) trees part rest = HasMarked classes.Colon bounds trees part given.now rest

-- the trees begin with a generic argument that has these parts, and the rest comes after it
pub record IsArgumentAt (trees : List TokenTree) (argument : GenericArgument) (rest : List TokenTree) : Type 0 where
  pub part : List TokenTree
  pub reads : Reads (ByRule rule.generic_argument) trees part rest
  pub parts : HasArgument argument.kind trees argument.trees.now rest

-- a call of `next` gives the next argument or an error, and nothing if no trees are left
abbrev pub GivesArgument : GenericArguments → Option (Result GenericArgument Fault) → GenericArguments → Type 0
GivesArgument old given new =
    MatchOption given ((old.left.now ≡ []) × (new ≡ old))
    (λ found. BeginsList IsArgumentAt (ByRule rule.generic_argument) old.left.now found new.left.now)

-- ---- how an argument is read

-- the trees after a type that begins with a word begin with what an argument of this kind has there
abbrev pub HasConstraint : ArgumentKind → List TokenTree → List TokenTree → Type 0
HasConstraint kinds.Type trees rest = trees ≡ rest
HasConstraint (kinds.Binding bound) trees rest = HasAfter classes.Equals rule.binding_value trees bound.now rest
HasConstraint (kinds.Constraint given) trees rest = HasAfter classes.Colon bounds trees given.now rest
HasConstraint kinds.Lifetime trees rest = ⊥
HasConstraint kinds.Const trees rest = ⊥

-- the result is the argument and the trees after what the rule finds, or the trees from the error on
abbrev pub ReadsArgument : G → List TokenTree → Result (GenericArgument × Bor (List TokenTree)) (Bor (List TokenTree))
    → Type 0
ReadsArgument g trees result =
    MatchResult result
    (λ found. Finds g trees found.1.now × HasArgument found.0.kind trees found.0.trees.now found.1.now)
    (λ left. Sticks g trees left.now)
