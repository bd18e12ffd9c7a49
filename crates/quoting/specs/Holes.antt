-- The holes of a template and their fillings.
use Rattle.std.specs.Prelude.{ℕ, List, [], ◌∷◌, Option, Some, None, Result, Ok, Err, if◌then◌else◌, nat_eq}
use Rattle.std.specs.Cmp.Lexicographic.{pointwise}
use Rattle.proc_macro2.specs.Extent.{Extent}
use Rattle.proc_macro2.specs.Forest.{Forest}
use Rattle.quoting.specs.Items.{Filling, One, Unfit, Each, no_name, no_number, item_at, item_count}
use Rattle.quoting.specs.declared.errors.TemplateError.{TemplateError}
use Rattle.quoting.specs.declared.errors.TemplateError.TheVariants.{NoHole, LoneList, NotIdent, NotFinite}

-- a name and its filling
pub record Named : Type 0 where
  pub name : List ℕ
  pub filling : Filling

-- the trees of the result, or the first error in reading order
abbrev pub Outcome : Type 0
Outcome = Result Forest TemplateError

-- the filling of the first hole with the given name
abbrev pub filling_of : List Named → List ℕ → Option Filling
filling_of [] name = None
filling_of (hole ∷ holes) name = if pointwise nat_eq name hole.name then Some hole.filling else filling_of holes name

-- the length of the list, if the filling is one
abbrev pub list_length : Option Filling → Option ℕ
list_length None = None
list_length (Some (One stream)) = None
list_length (Some (Unfit why)) = None
list_length (Some (Each items)) = Some (item_count items)

-- ---- in a turn of a repetition

-- the list's value for the turn
abbrev pub value_at : ℕ → Filling → Option Filling
value_at turn (One stream) = None
value_at turn (Unfit why) = None
value_at turn (Each items) = item_at turn items

-- the value, or else the filling
abbrev pub or_itself : Filling → Option Filling → Filling
or_itself filling None = filling
or_itself filling (Some value) = value

-- the list's value for the turn. A list without one, which the repetition cannot name, is unchanged
abbrev pub in_turn : ℕ → Filling → Filling
in_turn turn filling = or_itself filling (value_at turn filling)

-- the holes in a turn of a repetition
abbrev pub all_in_turn : ℕ → List Named → List Named
all_in_turn turn [] = []
all_in_turn turn (hole ∷ holes) =
    record { name = hole.name; filling = in_turn turn hole.filling } ∷ all_in_turn turn holes

-- ---- the trees that replace a hole

-- the trees of the filling. A list outside of a repetition is an error
abbrev pub put_in : Extent → Option Filling → Outcome
put_in span None = Err (NoHole span)
put_in span (Some (One stream)) = Ok stream
put_in span (Some (Unfit no_name)) = Err (NotIdent span)
put_in span (Some (Unfit no_number)) = Err (NotFinite span)
put_in span (Some (Each items)) = Err (LoneList span)
