-- The content of an entry, without its position.
use Rattle.std.specs.Prelude.{Bool, false, List, [], ◌∷◌}
use Rattle.std.specs.Str.{chars}
use Rattle.lexical.specs.Token.{Name, Mark, Literal}
use Rattle.pm_stream.specs.Events.{Event, One, Opens, Closes}
use Rattle.token_buffer.specs.Reads.{literal_text}
use Rattle.token_buffer.specs.declared.part.Part.{Part}
use Rattle.token_buffer.specs.declared.part.Part.TheVariants as parts

-- the event, with its positions set to 0
abbrev pub at_zero : Event → Event
at_zero (One token lo hi) = One token 0 0
at_zero (Opens d lo) = Opens d 0
at_zero (Closes d hi) = Closes d 0

abbrev pub all_unplaced : List Event → List Event
all_unplaced [] = []
all_unplaced (event ∷ events) = at_zero event ∷ all_unplaced events

-- the event of a part, with its positions set to 0
abbrev pub part_event : Part → Event
part_event (parts.Ident name) = One (Name name.raw (chars name.text.now)) 0 0
part_event (parts.Punct mark joint) = One (Mark mark joint) 0 0
part_event (parts.Literal literal) = One (Literal (literal_text literal)) 0 0
part_event (parts.Open d) = Opens d 0
part_event (parts.Close d) = Closes d 0

-- whether a space goes before the part, if `gap` tells whether one goes after the part before it
abbrev pub gap_before : Part → Bool → Bool
gap_before (parts.Ident name) gap = gap
gap_before (parts.Punct mark joint) gap = gap
gap_before (parts.Literal literal) gap = gap
gap_before (parts.Open d) gap = gap
gap_before (parts.Close d) gap = false
