-- What a contract says of a buffer or a cursor: its trees.
use Rattle.std.specs.Prelude.{ℕ, List}
use Rattle.pm_stream.specs.Forest.{Forest}
use Rattle.token_buffer.specs.Entries.{events_of}
use Rattle.token_buffer.specs.Held.{Holds, Holds-prop}
use Rattle.token_buffer.specs.Unflattened.{trees_of_events}
use Rattle.token_buffer.specs.declared.entry.Entry.{Entry}

-- the trees of the entries
abbrev pub trees_of : List ℕ → List Entry → Forest
trees_of text entries = trees_of_events (events_of text entries)

-- whether the entries are the tokens of their trees
abbrev pub HoldsOwn : List ℕ → List Entry → Type 0
HoldsOwn text entries = Holds text entries (trees_of text entries)

pub HoldsOwn-prop : (text : List ℕ) (entries : List Entry) → IsProp (HoldsOwn text entries)
HoldsOwn-prop text entries = Holds-prop text entries (trees_of text entries)
