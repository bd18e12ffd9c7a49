-- Rules of the grammar as data.
use Rattle.std.specs.Prelude.{ℕ, suc, ◌+◌, Bool, true, false, not, ◌&&◌, ◌||◌}
use Rattle.grammars.specs.Grammar.{Nothing, Sign, To, Mark, Then, Either, Many}
use Rattle.declarations.specs.Nonterminals.{nonterminal_size, rule_named}
use Rattle.declarations.specs.Tables.{IsFrom}
use Rattle.item_tables.specs.declared.class.SignClass.{SignClass}
use Rattle.item_tables.specs.declared.class.SignClass.TheVariants as classes
use Rattle.item_tables.specs.declared.class.Keyword.TheVariants as keywords
use Rattle.item_tables.specs.declared.walk_state.Continuation.TheVariants as places
use Rattle.item_tables.specs.declared.walk_state.State.TheVariants as states
use Rattle.item_tables.specs.declared.walk_state.WalkState.{WalkState}
use Rattle.declarations.specs.declared.syntax.Guard.{Guard}
use Rattle.declarations.specs.declared.syntax.Guard.TheVariants as guards
use Rattle.declarations.specs.declared.syntax.Label.{Label as Shown}
use Rattle.declarations.specs.declared.syntax.Label.TheVariants as labels
use Rattle.declarations.specs.declared.syntax.Syntax as forms
use Rattle.declarations.specs.declared.syntax.Syntax.{Syntax}
use Rattle.declarations.specs.declared.syntax.Table.{Table}
use Rattle.declarations.specs.declared.syntax.Table.TheVariants as tables
use Rattle.declarations.specs.declared.syntax.Test.{Test}
use Rattle.declarations.specs.declared.syntax.Test.TheVariants as tests
use Rattle.item_tables.specs.declared.types.TypeState.TheVariants as types
use Rattle.item_tables.specs.Classes.{is, is_block, is_round, is_word, keyword, opens}
use Rattle.declarations.specs.rules.Entries as entries
use Rattle.declarations.specs.rules.Expressions.{expression}
use Rattle.declarations.specs.rules.Names as names
use Rattle.declarations.specs.rules.Names.{G, Inside, Label, Name, Outside, Range, Target, comma_list}
use Rattle.declarations.specs.rules.Parameters as parameters
use Rattle.declarations.specs.rules.Paths as paths
use Rattle.declarations.specs.rules.Pieces.{ReadsBy}
use Rattle.declarations.specs.rules.Types.{all_operand, angle, bounds, named_operand, operand_but, other_operand}
use Rattle.declarations.specs.rules.Types.{plain_continuation, range, type}
use Rattle.declarations.specs.declared.syntax.Goal.TheVariants as goals
use Rattle.declarations.specs.declared.syntax.Goal.{Goal}
use Rattle.declarations.specs.rules.Items.{begins_call}
use Rattle.declarations.specs.rules.Fronts as fronts
use Rattle.declarations.specs.Range.{from_state, in_expression, in_range}
use Rattle.declarations.specs.ItemRest.{is_call_group, is_crate_name, is_new_name, is_use_list}

-- whether a sign passes the test
abbrev pub test_of : Test → SignClass → Bool
test_of (tests.Is class) = is class
test_of tests.Word = is_word
test_of tests.Segment = entries.is_entry_segment
test_of tests.Literal = entries.is_literal
test_of tests.Constant = paths.is_constant
test_of tests.List = entries.is_list
test_of tests.Safe = fronts.is_safe
test_of tests.Round = is_round
test_of tests.Block = is_block
test_of tests.Pattern = λ c. parameters.is_pattern c && not false
test_of tests.PatternAfterAnd = λ c. parameters.is_pattern c && not (keyword keywords.Mut c)
test_of tests.PatternFirst = λ c. parameters.is_pattern c && not (parameters.is_shared c)
test_of tests.InPattern = parameters.continues
test_of tests.AfterDots = λ c. parameters.continues c && not (is classes.Dot c)
test_of tests.Opens = opens
test_of tests.PathSegment = paths.is_segment
test_of tests.NotSemicolon = λ c. not (is classes.Semicolon c)
test_of tests.ItemSegment = fronts.is_segment
test_of tests.BeginsCall = begins_call
test_of tests.CallGroup = is_call_group
test_of tests.NewName = is_new_name
test_of tests.CrateName = is_crate_name
test_of tests.UseList = is_use_list
test_of tests.ConstantName = fronts.is_constant_name

-- the label in the grammar
abbrev pub label_of : Shown → Label
label_of labels.Attributes = names.Attributes
label_of labels.Visible = names.Visible
label_of labels.Generics = names.Generics
label_of labels.Where = names.Where
label_of labels.Front = names.Front
label_of labels.Named = names.Named
label_of labels.Parameter = names.Parameter
label_of labels.Bounds = names.Bounds
label_of labels.Default = names.Default
label_of labels.OfType = names.OfType
label_of labels.Value = names.Value
label_of labels.Bounded = names.Bounded
label_of labels.Fields = names.Fields
label_of labels.Returns = names.Returns
label_of labels.Body = names.Body
label_of labels.Rest = names.Rest

-- the rule that the table reads
abbrev pub rule_of : Table → G
rule_of tables.Type = type
rule_of tables.Bounds = bounds
rule_of tables.Target = range types.Wanted Target
rule_of tables.TargetRest = range types.Whole Target
rule_of tables.Argument = range types.Wanted Inside
rule_of tables.ArgumentRest = range types.Whole Inside
rule_of tables.Expression = expression

-- the state of the walk from which the table reads
abbrev pub start_of : Table → WalkState
start_of tables.Type = in_range types.Wanted 0
start_of tables.Bounds = in_range types.Bound 0
start_of tables.Target = from_state places.Target (states.Range types.Wanted)
start_of tables.TargetRest = from_state places.Target (states.Range types.Whole)
start_of tables.Argument = from_state places.Inside (states.Range types.Wanted)
start_of tables.ArgumentRest = from_state places.Inside (states.Range types.Whole)
start_of tables.Expression = in_expression

-- each table reads exactly the pieces of its rule
abbrev pub TablesRead : Type 0
TablesRead = (table : Table) → ReadsBy (rule_of table) (IsFrom (start_of table))

-- the rule that a table reads if its first sign passes a test
abbrev pub guarded_rule : Guard → G
guarded_rule guards.Value = entries.entry_value
guarded_rule guards.Angle = angle (Range types.Whole Outside)
guarded_rule guards.Word = paths.word_type
guarded_rule guards.Operand = other_operand Outside
guarded_rule guards.Unrestricted =
    Either (named_operand Outside) (operand_but (is classes.Restriction) true Outside)
guarded_rule guards.Target = Either (named_operand Target) (operand_but (is classes.Exclamation) true Target)
guarded_rule guards.PlainTarget = Either (named_operand Target) (operand_but (is classes.Exclamation) false Target)
guarded_rule guards.Argument = all_operand Inside
guarded_rule guards.ArgumentRest =
    Either (To (is classes.As) (Range types.Wanted Inside)) (plain_continuation Inside)

-- the table that reads it
abbrev pub table_of : Guard → Table
table_of guards.Value = tables.Expression
table_of guards.Angle = tables.Type
table_of guards.Word = tables.Type
table_of guards.Operand = tables.Type
table_of guards.Unrestricted = tables.Type
table_of guards.Target = tables.Target
table_of guards.PlainTarget = tables.Target
table_of guards.Argument = tables.Argument
table_of guards.ArgumentRest = tables.ArgumentRest

-- the test of the first sign
abbrev pub admits : Guard → SignClass → Bool
admits guards.Value c = not (entries.continues c)
admits guards.Angle c = opens c
admits guards.Word c = is_word c
admits guards.Operand c = not (is_word c) && not (is classes.Lifetime c)
admits guards.Unrestricted c = not (is classes.Restriction c)
admits guards.Target c = not (is classes.Exclamation c)
admits guards.PlainTarget c = not (is classes.Exclamation c) && not (opens c)
admits guards.Argument c = not (is_word c) && not (is classes.Lifetime c)
admits guards.ArgumentRest c = not (is classes.Equals c) && not (is classes.Comma c || is classes.Colon c)

-- the name of the rule
abbrev pub name_of : Goal → Name
name_of goals.Function = names.Function
name_of goals.Qualified = names.Qualified
name_of goals.Async = names.Async
name_of goals.Constant = names.Constant
name_of goals.Static = names.Static
name_of goals.Alias = names.Alias
name_of goals.Struct = names.Struct
name_of goals.Enum = names.Enum
name_of goals.Union = names.Union
name_of goals.Trait = names.Trait
name_of goals.Impl = names.Impl
name_of goals.Module = names.Module
name_of goals.Use = names.Use
name_of goals.UsePath = names.UsePath
name_of goals.Call = names.Call
name_of goals.TargetRest = Range types.Whole Target

-- a number for the named rule: at least that of its data, which src/goal_syntax.rt names
abbrev pub goal_size : Goal → ℕ
goal_size goals.Function = 360
goal_size goals.Qualified = 735
goal_size goals.Static = 49
goal_size goals.Alias = 394
goal_size goals.Struct = 381
goal_size goals.Enum = 332
goal_size goals.Union = 332
goal_size goals.Trait = 397
goal_size goals.Module = 16
goal_size goals.Async = 2955
goal_size goals.Constant = 8052
goal_size goals.TargetRest = 1
goal_size goals.Impl = 2638
goal_size goals.Call = 45
goal_size goals.UsePath = 14
goal_size goals.Use = 61

-- a number for the rule, which is greater than those of its parts
abbrev pub size_of : Syntax → ℕ
size_of (forms.Then' p a q b) = suc (suc (size_of a + size_of b))
size_of (forms.Either' p a q b) = suc (suc (size_of a + size_of b))
size_of (forms.Many' p a) = suc (suc (size_of a))
size_of (forms.To test goal) = suc (suc (goal_size goal))
size_of (forms.List' p a) = suc (suc (size_of a))
size_of (forms.Nonterminal nonterminal) = suc (nonterminal_size nonterminal)
size_of _ = 1

-- the rule of the grammar
abbrev pub grammar_of : Syntax → G
grammar_of forms.Nothing = Nothing
grammar_of (forms.Sign test) = Sign (test_of test)
grammar_of (forms.Mark label) = Mark (label_of label)
grammar_of (forms.Table table) = rule_of table
grammar_of (forms.Guarded guard) = guarded_rule guard
grammar_of (forms.To test goal) = To (test_of test) (name_of goal)
grammar_of (forms.Then' p a q b) = Then (grammar_of a) (grammar_of b)
grammar_of (forms.Either' p a q b) = Either (grammar_of a) (grammar_of b)
grammar_of (forms.Many' p a) = Many (grammar_of a)
grammar_of (forms.List' p a) = comma_list (grammar_of a)
grammar_of (forms.Nonterminal nonterminal) = rule_named nonterminal
