-- The number of turns of a repetition, and the errors of the names inside it.
use Rattle.std.specs.Prelude.{ℕ, zero, suc, ◌==◌, List, Option, Some, None, Result, Ok, Err, if◌then◌else◌}
use Rattle.proc_macro2.specs.Extent.{Extent}
use Rattle.proc_macro2.specs.Forest.{Forest, nil, leaf, group}
use Rattle.quoting.specs.Items.{Filling}
use Rattle.quoting.specs.Holes.{Named, filling_of, list_length}
use Rattle.quoting.specs.Interpolation.{Interpolation, Names, Repeats, interpolation}
use Rattle.quoting.specs.declared.errors.TemplateError.{TemplateError}
use Rattle.quoting.specs.declared.errors.TemplateError.TheVariants.{NoHole, UnequalLists, TooDeep}

-- ---- the number of turns

-- the length of the list that a hole names
abbrev pub named_length : List Named → Option Interpolation → Option ℕ
named_length holes None = None
named_length holes (Some (Names name span)) = list_length (filling_of holes name)
named_length holes (Some (Repeats body span between)) = None

-- the first length, or the second if there is none
abbrev pub or_else : Option ℕ → Option ℕ → Option ℕ
or_else None after = after
or_else (Some turns) after = Some turns

-- the length of the first list that the trees name at any depth, or else the given length
abbrev pub turns_or : List Named → Forest → Option ℕ → Option ℕ
turns_or holes nil after = after
turns_or holes (leaf token lo hi rest) after =
    or_else (named_length holes (interpolation token rest)) (turns_or holes rest after)
turns_or holes (group d lo hi inside rest) after = turns_or holes inside (turns_or holes rest after)

-- the number of turns of a repetition of the trees, or `None` if they name no list at any depth
abbrev pub turns_of : List Named → Forest → Option ℕ
turns_of holes body = turns_or holes body None

-- ---- the errors of the names inside

-- success, or the first error in reading order
abbrev pub Check : Type 0
Check = Result (Unit {0}) TemplateError

-- two checks one after the other. The error of the first comes first
abbrev pub and_then : Check → Check → Check
and_then (Err fault) more = Err fault
and_then (Ok done) more = more

-- checks that a list has as many values as there are turns
abbrev pub length_checked : ℕ → Extent → Option ℕ → Check
length_checked turns span None = Ok tt
length_checked turns span (Some n) = if n == turns then Ok tt else Err (UnequalLists span)

-- checks that a name has a hole, and that a list has as many values as there are turns
abbrev pub name_checked : ℕ → Extent → Option Filling → Check
name_checked turns span None = Err (NoHole span)
name_checked turns span (Some filling) = length_checked turns span (list_length (Some filling))

-- checks the name of a hole. The names inside a repetition are checked where its trees are visited
abbrev pub interpolation_checked : List Named → ℕ → Option Interpolation → Check
interpolation_checked holes turns None = Ok tt
interpolation_checked holes turns (Some (Names name span)) = name_checked turns span (filling_of holes name)
interpolation_checked holes turns (Some (Repeats body span between)) = Ok tt

-- checks the names in the trees of a repetition of `turns` turns, at any depth and also in the repetitions inside it.
-- Groups may nest up to `depth` deep
abbrev pub check_turns : List Named → ℕ → ℕ → Forest → Check
check_turns holes depth turns nil = Ok tt
check_turns holes depth turns (leaf token lo hi rest) =
    and_then (interpolation_checked holes turns (interpolation token rest)) (check_turns holes depth turns rest)
check_turns holes zero turns (group d lo hi inside rest) = Err (TooDeep (record { lo = lo; hi = hi }))
check_turns holes (suc depth) turns (group d lo hi inside rest) =
    and_then (check_turns holes depth turns inside) (check_turns holes (suc depth) turns rest)
