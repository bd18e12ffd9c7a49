-- The openers that no closer matches.
use Rattle.pm_stream.specs.Events.{Opens}
use Rattle.pm_stream.specs.Forest.{Forest, flattening}
use Rattle.std.proofs.Common.{List, [], ◌∷◌}
use Rattle.pm_stream.specs.OpenGroups.{Opened, unclosed_onto}
use Rattle.pm_stream.specs.Reading.{openers_of}
use Rattle.pm_stream.proofs.EventLemmas.{unclosed-append, flattening_balanced}
use Rattle.explain.specs.Open.{LeavesOpen}

-- the events of open groups leave the openers of these groups open
pub leaves_open : (groups : List Opened) (trees : Forest)
    → LeavesOpen (unclosed_onto groups trees []) (openers_of groups)
leaves_open [] trees = flattening_balanced trees
leaves_open (x ∷ groups) trees = (
  unclosed_onto groups x.outer [],
  flattening trees,
  unclosed-append groups x.outer [] (Opens x.delimiter x.lo ∷ flattening trees),
  flattening_balanced trees,
  leaves_open groups x.outer,
)
