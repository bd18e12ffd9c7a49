use Rattle.std.proofs.Common.{length}
use Rattle.out_of_memory.proofs.shown.show_stream.Given as goal

abbrev pub decreases-loop-walk : goal.decreases-loop-walk
decreases-loop-walk g l = length l.walk
