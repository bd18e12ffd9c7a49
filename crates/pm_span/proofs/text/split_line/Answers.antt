use Rattle.pm_span.proofs.SplitLemmas.{line_split}
use Rattle.pm_span.proofs.text.split_line.Goals as goal

pub returns-clause-split : goal.returns-clause-split
returns-clause-split c = line_split c.args.text.now c.split_once.result c.utf8.text c.split_once.ensures.cases
