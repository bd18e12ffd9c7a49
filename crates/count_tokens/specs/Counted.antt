-- The number of tokens of each kind in a text.
use Rattle.std.specs.Prelude.{Bool, true, false, ◌≡◌, ◌*◌, ◌≤◌, List, length}
use Rattle.std.specs.List.{count_by}
use Rattle.lexical.specs.Token.{Name, Mark, Literal}
use Rattle.pm_stream.specs.Events.{Event, One, Opens}
use Rattle.pm_stream.specs.Taken.{Taken, Waiting}
use Rattle.count_tokens.specs.declared.Counts.{Counts}

-- whether the event is an identifier or the name of a lifetime
abbrev pub is_name : Event → Bool
is_name (One (Name raw name) lo hi) = true
is_name _ = false

-- whether the event is a mark
abbrev pub is_mark : Event → Bool
is_mark (One (Mark mark joint) lo hi) = true
is_mark _ = false

-- whether the event is a literal
abbrev pub is_literal : Event → Bool
is_literal (One (Literal text) lo hi) = true
is_literal _ = false

-- whether the event is the opener of a group
abbrev pub begins_group : Event → Bool
begins_group (Opens delimiter lo) = true
begins_group _ = false

-- the number of events of each kind
abbrev pub counts_of : List Event → Counts
counts_of events = record {
  names = count_by is_name events;
  marks = count_by is_mark events;
  literals = count_by is_literal events;
  groups = count_by begins_group events;
}

-- the counts are those of all that was read, which has at most seven events for each character
pub record Counted (now : Counts) (taken : Taken Waiting) : Type 0 where
  pub counts : now ≡ counts_of taken.events
  pub few : length taken.events ≤ 7 * length taken.passed
