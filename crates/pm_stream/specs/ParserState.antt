-- What the parser has read so far.
use Rattle.std.specs.Prelude.{◌≡◌, List, [], ◌++◌, length}
use Rattle.pm_stream.specs.Events.{Event}
use Rattle.pm_stream.specs.OpenGroups.{unclosed_onto, IsBuiltUpTo}
use Rattle.pm_stream.specs.Trees.{forest}
use Rattle.pm_stream.specs.Nesting.{innermost, groups_open, IsNested}
use Rattle.pm_stream.specs.Taken.{Taken, position}
use Rattle.pm_stream.specs.declared.parse.Frame.{Frame}
use Rattle.pm_stream.specs.declared.parse.Parser.{Parser}

-- the parser's list holds the trees of all open groups. They are built, and their events are those that were taken
pub record Parses (parser : Parser) (taken : Taken Frame) : Type 0 where
  pub nested : IsNested taken.opened (length parser.trees.items)
  pub events : unclosed_onto (groups_open taken.opened parser.trees.items)
      (forest (innermost taken.opened parser.trees.items)) [] ≡ taken.events
  pub built : IsBuiltUpTo (position taken) (groups_open taken.opened parser.trees.items)
      (forest (innermost taken.opened parser.trees.items))

-- the step added trees with these events
abbrev pub Adds : Parser → Parser → List Event → Type 0
Adds old new more = (taken : Taken Frame) → Parses old taken → Parses new (record {
  base = taken.base;
  source = taken.source;
  passed = taken.passed;
  opened = taken.opened;
  events = taken.events ++ more;
})
