use Rattle.std.proofs.Common.{length}
use Rattle.declarations.proofs.expected_text.+next_name.Given as goal

abbrev pub decreases-next_name : goal.decreases-next_name
decreases-next_name l = length l.rows.now
