use Rattle.std.proofs.Common.{◌≡◌, take}
use Rattle.quoting.specs.Items.{One, each_of}
use Rattle.quoting.proofs.lists.kept_streams.Given as goal

abbrev pub invariant-loop-stream : goal.invariant-loop-stream
invariant-loop-stream l = l.values ≡ each_of One (take l.stream-index l.streams)
