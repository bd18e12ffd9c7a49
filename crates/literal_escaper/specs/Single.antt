-- The one unit of a character literal or a byte literal.
use Rattle.std.specs.Prelude.{ℕ, ◌||◌, ◌==◌, if◌then◌else◌, List, [], ◌∷◌, Result, Ok, Err}
use Rattle.literal_escaper.specs.declared.errors.EscapeError.{EscapeError}
use Rattle.literal_escaper.specs.declared.errors.EscapeError.TheVariants.{BareCarriageReturn, EscapeOnlyChar}
use Rattle.literal_escaper.specs.declared.errors.EscapeError.TheVariants.{MoreThanOneChar, ZeroChars}
use Rattle.literal_escaper.specs.Character.{backslash, carriage_return, line_feed, quote, tab}
use Rattle.literal_escaper.specs.Escape.{Read, escape, fault}
use Rattle.literal_escaper.specs.Kind.{Kind}

-- the unit of a character that is no escape, or an error
abbrev pub single_plain : {U : Type 0} → Kind U → ℕ → Result U EscapeError
single_plain kind c =
    if (c == line_feed) || (c == tab) || (c == quote) then Err EscapeOnlyChar
    else if c == carriage_return then Err BareCarriageReturn
    else kind.of_char c

-- reads the unit of a character or of the escape that it begins
abbrev pub single_front : {U : Type 0} → Kind U → ℕ → List ℕ → Read U
single_front kind c text =
    if c == backslash then escape kind text else record { unit = single_plain kind c; rest = text }

-- the unit, if no text follows it, and otherwise an error
abbrev pub only_unit : {U : Type 0} → U → List ℕ → Read U
only_unit unit [] = record { unit = Ok unit; rest = [] }
only_unit unit (c ∷ rest) = fault MoreThanOneChar rest

-- what was read, if it is the whole content, and otherwise an error
abbrev pub only : {U : Type 0} → Result U EscapeError → List ℕ → Read U
only (Ok unit) rest = only_unit unit rest
only (Err e) rest = fault e rest

-- `single-item`: reads the one unit of a content, or an error
unfoldable pub single : {U : Type 0} → Kind U → List ℕ → Read U
single kind [] = fault ZeroChars []
single kind (c ∷ text) = let read = single_front kind c text in only read.unit read.rest
