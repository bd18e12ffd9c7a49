-- What a template becomes when its holes are filled.
use Rattle.std.specs.Prelude.{ℕ, Bool, true, false, zero, suc, List, Option, Some, None, Ok, Err}
use Rattle.proc_macro2.specs.Extent.{Extent}
use Rattle.proc_macro2.specs.Forest.{Forest, nil, leaf, group, chain}
use Rattle.proc_macro2.specs.Token.{Token, Name, Mark, Literal}
use Rattle.proc_macro2.specs.declared.Delimiter.{Delimiter}
use Rattle.quoting.specs.Holes.{Named, Outcome, all_in_turn, filling_of, put_in}
use Rattle.quoting.specs.Interpolation.{Interpolation, Names, Repeats, interpolation, tree_count}
use Rattle.quoting.specs.Turns.{Check, check_turns, turns_of}
use Rattle.quoting.specs.declared.errors.TemplateError.TheVariants.{NoList, TooDeep}

-- two outcomes one after the other. An error of the first comes before one of the second
abbrev pub then_outcome : Outcome → Outcome → Outcome
then_outcome (Err fault) more = Err fault
then_outcome (Ok stream) (Err fault) = Err fault
then_outcome (Ok stream) (Ok more) = Ok (chain stream more)

-- a group of the outcome, or its error
abbrev pub enclosed_in : Delimiter → ℕ → ℕ → Outcome → Outcome
enclosed_in d lo hi (Err fault) = Err fault
enclosed_in d lo hi (Ok inside) = Ok (group d lo hi inside nil)

-- the token, or the trees that replace the hole or repetition that it begins
abbrev pub replacement : (Interpolation → Outcome) → Token → ℕ → ℕ → Option Interpolation → Outcome
replacement gives token lo hi None = Ok (leaf token lo hi nil)
replacement gives token lo hi (Some found) = gives found

-- whether a hole or a repetition was found
abbrev pub is_found : Option Interpolation → Bool
is_found None = false
is_found (Some found) = true

-- whether the trees begin with a hole or a repetition
abbrev pub has_meaning : Forest → Bool
has_meaning nil = false
has_meaning (leaf token lo hi rest) = is_found (interpolation token rest)
has_meaning (group d lo hi inside rest) = false

-- the token, which becomes Alone if it is a mark right before a hole or a repetition
abbrev pub set_apart : Bool → Token → Token
set_apart false token = token
set_apart true (Name raw name) = Name raw name
set_apart true (Mark c joint) = Mark c false
set_apart true (Literal text) = Literal text

-- the filled trees after the first `passed` ones. Groups are filled inside and may nest up to `depth` deep. Holes and
-- repetitions are replaced by what `gives` returns for them. Other trees are kept, apart from `set_apart`
abbrev pub filled_by : (ℕ → Interpolation → Outcome) → ℕ → ℕ → Forest → Outcome
filled_by gives depth passed nil = Ok nil
filled_by gives depth zero (leaf token lo hi rest) =
    then_outcome (replacement (gives depth) (set_apart (has_meaning rest) token) lo hi (interpolation token rest))
    (filled_by gives depth (tree_count (interpolation token rest)) rest)
filled_by gives depth (suc passed) (leaf token lo hi rest) = filled_by gives depth passed rest
filled_by gives depth (suc passed) (group d lo hi inside rest) = filled_by gives depth passed rest
filled_by gives zero zero (group d lo hi inside rest) = Err (TooDeep (record { lo = lo; hi = hi }))
filled_by gives (suc depth) zero (group d lo hi inside rest) =
    then_outcome (enclosed_in d lo hi (filled_by gives depth 0 inside)) (filled_by gives (suc depth) 0 rest)

-- the separator before a turn. The first turn has none
abbrev pub before_turn : Forest → ℕ → Forest
before_turn between zero = nil
before_turn between (suc turn) = between

-- the given number of turns, from the given turn on, with the separator between them
abbrev pub turns_from : (ℕ → Outcome) → Forest → ℕ → ℕ → Outcome
turns_from gives between turn zero = Ok nil
turns_from gives between turn (suc more) =
    then_outcome (then_outcome (Ok (before_turn between turn)) (gives turn)) (turns_from gives between (suc turn) more)

-- a repetition of the given number of turns, or the error of the names inside
abbrev pub unless_fault : (ℕ → Outcome) → Forest → ℕ → Check → Outcome
unless_fault gives between turns (Err fault) = Err fault
unless_fault gives between turns (Ok done) = turns_from gives between 0 turns

-- a repetition of the given number of turns, or `NoList` if it names no list. `NoList` comes before errors inside
abbrev pub turns_outcome : List Named → (ℕ → Outcome) → ℕ → Forest → Extent → Forest → Option ℕ → Outcome
turns_outcome holes gives depth body span between None = Err (NoList span)
turns_outcome holes gives depth body span between (Some turns) =
    unless_fault gives between turns (check_turns holes depth turns body)

-- the trees that replace a hole or a repetition. Repetitions may nest up to `more` deep, and groups up to `depth` deep.
-- In a turn of a repetition every list is its value for the turn, also in the repetitions inside. So a list is used up
-- by the outermost repetition that names it
abbrev pub comes : ℕ → List Named → ℕ → Interpolation → Outcome
comes more holes depth (Names name span) = put_in span (filling_of holes name)
comes zero holes depth (Repeats body span between) = Err (TooDeep span)
comes (suc more) holes zero (Repeats body span between) = Err (TooDeep span)
comes (suc more) holes (suc depth) (Repeats body span between) =
    turns_outcome holes (λ turn. filled_by (comes more (all_in_turn turn holes)) depth 0 body) depth body span between
    (turns_of holes body)

-- the number of groups that may be nested in a template, and so of repetitions
abbrev pub depth_limit : ℕ
depth_limit = 64

-- `filled`: the template with its holes filled, or its first error in reading order, where a group comes before its
-- contents. So `NoList` comes before any error inside the repetition. At one pair of parentheses `TooDeep` comes before
-- `NoList`. In a repetition the errors of the names come first, and then those of its turns in order
abbrev pub fill_template : List Named → Forest → Outcome
fill_template holes template = filled_by (comes depth_limit holes) depth_limit 0 template
