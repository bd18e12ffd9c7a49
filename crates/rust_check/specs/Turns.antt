-- Whether the controls of direction on a line are balanced.
use Rattle.std.specs.Prelude.{ℕ, Bool, true, false, not, ◌||◌, ◌==◌, List, [], ◌∷◌, Option, Some, None, take_while}
use Rattle.std.specs.Prelude.{if◌then◌else◌}
use Rattle.std.specs.Int.{is_in_range}
use Rattle.pm_span.specs.CharOffset.{is_line_feed}
use Rattle.rust_check.specs.declared.turns.Turn.{Turn}
use Rattle.rust_check.specs.declared.turns.Turn.TheVariants.{Stays, Opens, Closes}

-- what a control opens or closes: embeddings and overrides (`false`) are closed by U+202C, and isolates (`true`) by
-- U+2069
abbrev pub turn_of : ℕ → Turn
turn_of c =
    if (c == 0x202A) || (c == 0x202B) || (c == 0x202D) || (c == 0x202E) then Opens false
    else (if is_in_range 0x2066 0x2068 c then Opens true
    else (if c == 0x202C then Closes false else (if c == 0x2069 then Closes true else Stays)))

abbrev pub is_same : Bool → Bool → Bool
is_same true b = b
is_same false b = not b

-- what is open after a part is closed, the innermost first; None if the innermost open part is another one or nothing
-- is open
abbrev pub close_part : Bool → List Bool → Option (List Bool)
close_part apart [] = None
close_part apart (innermost ∷ opened) = if is_same innermost apart then Some opened else None

abbrev pub parts_after : Turn → List Bool → Option (List Bool)
parts_after Stays opened = Some opened
parts_after (Opens apart) opened = Some (apart ∷ opened)
parts_after (Closes apart) opened = close_part apart opened

abbrev pub open_after : Option (List Bool) → ℕ → Option (List Bool)
open_after None c = None
open_after (Some opened) c = parts_after (turn_of c) opened

abbrev pub all_open : Option (List Bool) → List ℕ → Option (List Bool)
all_open opened [] = opened
all_open opened (c ∷ rest) = all_open (open_after opened c) rest

abbrev pub closes_all : Option (List Bool) → Bool
closes_all (Some []) = true
closes_all _ = false

-- the first line of a text, which ends before the first LF
abbrev pub fed_line : List ℕ → List ℕ
fed_line text = take_while (λ c. not (is_line_feed c)) text

-- whether all that is opened on the first line is closed there, the innermost first, and nothing else is closed
abbrev pub is_balanced : List ℕ → Bool
is_balanced text = closes_all (all_open (Some []) (fed_line text))
