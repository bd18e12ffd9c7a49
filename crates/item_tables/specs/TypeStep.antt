-- The steps of the walk over a type or bounds, up to their end.
use Rattle.std.specs.Prelude.{Bool, true, false, Option, Some, None}
use Rattle.item_tables.specs.declared.class.SignClass.{SignClass}
use Rattle.item_tables.specs.declared.class.SignClass.TheVariants.{Word, SelfValue, SelfType, Super, Crate, Underscore}
use Rattle.item_tables.specs.declared.class.SignClass.TheVariants.{As, Truth, Literal, Lifetime, PathSeparator, Arrow}
use Rattle.item_tables.specs.declared.class.SignClass.TheVariants.{Restriction, Parentheses, Brackets, Braces, Block}
use Rattle.item_tables.specs.declared.class.SignClass.TheVariants.{Invisible, Less, LessJoint, Greater, Comma, Colon}
use Rattle.item_tables.specs.declared.class.SignClass.TheVariants.{Equals, Plus, Minus, Star, And, Question}
use Rattle.item_tables.specs.declared.class.SignClass.TheVariants.{Exclamation, Tilde}
use Rattle.item_tables.specs.declared.class.SignClass.TheVariants as signs
use Rattle.item_tables.specs.declared.class.Keyword.{Keyword}
use Rattle.item_tables.specs.declared.class.Keyword.TheVariants as keywords
use Rattle.item_tables.specs.declared.types.Turn.{Turn}
use Rattle.item_tables.specs.declared.types.Turn.TheVariants as turns
use Rattle.item_tables.specs.declared.types.TypeState.{TypeState}
use Rattle.item_tables.specs.declared.types.TypeState.TheVariants as states
use Rattle.item_tables.specs.declared.types.TypeStep.{TypeStep}

abbrev pub go : TypeState → Turn → Option TypeStep
go state turn = Some (record { state = state; turn = turn })

abbrev pub stay : TypeState → Option TypeStep
stay state = go state turns.Stay

-- the step, if an angle bracket is open. The first argument says that none is
abbrev pub within : Bool → Option TypeStep → Option TypeStep
within true step = None
within false step = step

abbrev pub open_bracket : Option TypeStep
open_bracket = go states.Argument turns.Open

abbrev pub close_bracket : Bool → Option TypeStep
close_bracket outside = within outside (go states.Whole turns.Close)

-- the step at a keyword that comes before an operand
abbrev pub front : Keyword → Option TypeStep
front keywords.Async = stay states.Wanted
front keywords.Dyn = stay states.Wanted
front keywords.Fn = stay states.Wanted
front keywords.Impl = stay states.Wanted
front keywords.Mut = stay states.Wanted
front keywords.Unsafe = stay states.Wanted
front keywords.Use = stay states.Wanted
front keywords.Extern = stay states.Abi
front keywords.For = stay states.For
front _ = None

-- the step where an operand may come. The second argument says that no angle bracket is open
abbrev pub operand : SignClass → Bool → Option TypeStep
operand (Word _) outside = stay states.Whole
operand SelfValue outside = stay states.Whole
operand SelfType outside = stay states.Whole
operand Super outside = stay states.Whole
operand Crate outside = stay states.Whole
operand Underscore outside = stay states.Whole
operand Restriction outside = stay states.Whole
operand Parentheses outside = stay states.Whole
operand Brackets outside = stay states.Whole
operand Invisible outside = stay states.Whole
operand Exclamation outside = stay states.Whole
operand Truth outside = within outside (stay states.Whole)
operand Literal outside = within outside (stay states.Whole)
operand Braces outside = within outside (stay states.Whole)
operand Block outside = within outside (stay states.Whole)
operand PathSeparator outside = stay states.Wanted
operand And outside = stay states.Wanted
operand Question outside = stay states.Wanted
operand (signs.Keyword keyword) outside = front keyword
operand Lifetime outside = stay states.Lifetime
operand Star outside = stay states.Pointer
operand Tilde outside = stay states.Tilde
operand Minus outside = within outside (stay states.Minus)
operand Less outside = open_bracket
operand LessJoint outside = open_bracket
operand _ outside = None

-- the step after an operand
abbrev pub continuation : SignClass → Bool → Option TypeStep
continuation Restriction outside = stay states.Whole
continuation Parentheses outside = stay states.Whole
continuation PathSeparator outside = stay states.Wanted
continuation Arrow outside = stay states.Wanted
continuation Plus outside = stay states.Bound
continuation Exclamation outside = stay states.MacroGroup
continuation As outside = within outside (stay states.Wanted)
continuation Equals outside = within outside (stay states.Wanted)
continuation Comma outside = within outside (stay states.Argument)
continuation Colon outside = within outside (stay states.Bound)
continuation Less outside = open_bracket
continuation LessJoint outside = open_bracket
continuation Greater outside = close_bracket outside
continuation _ outside = None

-- the step before a bound, or at the end of bounds
abbrev pub bound : SignClass → Bool → Option TypeStep
bound Comma outside = within outside (stay states.Argument)
bound Greater outside = close_bracket outside
bound class outside = operand class outside

abbrev pub after_lifetime : SignClass → Bool → Option TypeStep
after_lifetime Plus outside = stay states.Bound
after_lifetime class outside = bound class outside

-- the step before an argument, or at the end of the arguments
abbrev pub argument : SignClass → Bool → Option TypeStep
argument Greater outside = close_bracket outside
argument class outside = operand class outside

abbrev pub macro_group : SignClass → Option TypeStep
macro_group Restriction = stay states.Whole
macro_group Parentheses = stay states.Whole
macro_group Brackets = stay states.Whole
macro_group Braces = stay states.Whole
macro_group _ = None

abbrev pub pointer : SignClass → Option TypeStep
pointer (signs.Keyword keywords.Const) = stay states.Wanted
pointer (signs.Keyword keywords.Mut) = stay states.Wanted
pointer _ = None

abbrev pub tilde : SignClass → Option TypeStep
tilde (signs.Keyword keywords.Const) = stay states.Wanted
tilde _ = None

abbrev pub abi : SignClass → Bool → Option TypeStep
abi Literal outside = stay states.Wanted
abi class outside = operand class outside

abbrev pub minus : SignClass → Option TypeStep
minus Literal = stay states.Whole
minus _ = None

abbrev pub for_binder : SignClass → Option TypeStep
for_binder Less = stay states.Binder
for_binder LessJoint = stay states.Binder
for_binder _ = None

abbrev pub binder : SignClass → Option TypeStep
binder Lifetime = stay states.Binder
binder Comma = stay states.Binder
binder Colon = stay states.Binder
binder Plus = stay states.Binder
binder Greater = stay states.Wanted
binder _ = None

-- the step from a state. The last argument says that no angle bracket is open
abbrev pub step_of : TypeState → SignClass → Bool → Option TypeStep
step_of states.Wanted class outside = operand class outside
step_of states.Bound class outside = bound class outside
step_of states.Lifetime class outside = after_lifetime class outside
step_of states.Argument class outside = argument class outside
step_of states.Whole class outside = continuation class outside
step_of states.MacroGroup class outside = macro_group class
step_of states.Pointer class outside = pointer class
step_of states.Tilde class outside = tilde class
step_of states.Abi class outside = abi class outside
step_of states.Minus class outside = minus class
step_of states.For class outside = for_binder class
step_of states.Binder class outside = binder class

-- whether a type may end in this state, outside of angle brackets
abbrev pub may_end : TypeState → Bool
may_end states.Whole = true
may_end states.Lifetime = true
may_end states.Bound = true
may_end _ = false
