-- The names of the rules of declarations, the labels of parts, and short words for grammars.
use Rattle.std.specs.Prelude.{List, [], ◌∷◌}
use Rattle.grammars.specs.Grammar.{Grammar, Nothing, Sign, Mark, Then, Either, Listed}
use Rattle.item_tables.specs.Classes.{is, is_word}
use Rattle.item_tables.specs.declared.class.SignClass.{SignClass}
use Rattle.item_tables.specs.declared.class.SignClass.TheVariants as signs
use Rattle.item_tables.specs.declared.class.Keyword.{Keyword}
use Rattle.item_tables.specs.declared.types.TypeState.{TypeState}

-- where a type is: within angle brackets, outside of them, or after `impl`, where `for` and another type may follow
pub data Context : Type 0 where
  Inside : Context
  Outside : Context
  Target : Context

-- where in a path what follows is read
pub data PathState : Type 0 where
  -- after the name of a segment
  AfterName : PathState
  -- after the name of a segment and `::`
  AfterSeparator : PathState
  -- after the generic arguments of a segment
  AfterArguments : PathState

-- the names of rules, to which a sign can lead
pub data Name : Type 0 where
  -- a type or bounds, from a state of the walk on
  Range : TypeState → Context → Name
  -- the expression of a discriminant, from a state of the walk on
  Expression : Name
  ExpressionOpen : Name
  ExpressionWhole : Name
  ExpressionLess : Name
  ExpressionDot : Name
  Closure : Name
  Cast : Name
  CastWhole : Name
  -- items, after the keyword that says what kind they are
  Function : Name
  Qualified : Name
  Async : Name
  Constant : Name
  Static : Name
  Alias : Name
  Struct : Name
  Enum : Name
  Union : Name
  Trait : Name
  Impl : Name
  Module : Name
  Use : Name
  UsePath : Name
  Call : Name
  -- the rest of a path
  Path : PathState → Name

-- the labels of parts
pub data Label : Type 0 where
  Attributes : Label
  Visible : Label
  Front : Label
  Named : Label
  Generics : Label
  Parameter : Label
  Bounds : Label
  Default : Label
  OfType : Label
  Value : Label
  Where : Label
  Bounded : Label
  Fields : Label
  Returns : Label
  Body : Label
  Rest : Label

-- grammars of declarations
abbrev pub G : Type 0
G = Grammar SignClass Name Label

-- these grammars, one after the other
abbrev pub seq : List G → G
seq [] = Nothing
seq (g ∷ []) = g
seq (g ∷ (h ∷ k)) = Then g (seq (h ∷ k))

-- one of these grammars
abbrev pub alt : List G → G
alt [] = Nothing
alt (g ∷ []) = g
alt (g ∷ (h ∷ k)) = Either g (alt (h ∷ k))

-- a sign of this class
abbrev pub one : SignClass → G
one c = Sign (is c)

-- this keyword
abbrev pub key : Keyword → G
key k = one (signs.Keyword k)

-- a word, which can be a name
abbrev pub word : G
word = Sign is_word

-- a `,` between two parts
abbrev pub comma : G
comma = Then (Mark Rest) (one signs.Comma)

-- any number of this, with `,` between two and perhaps after the last
abbrev pub comma_list : G → G
comma_list g = Listed g comma
