use Rattle.std.proofs.Common.{ap, ◌∙◌}
use Rattle.pm_stream.specs.Trees.{forest}
use Rattle.pm_stream.proofs.TreeLemmas.{forest-push}
use Rattle.pm_stream.proofs.stream.changes.push_onto.Goals as goal

pub returns-clause-ok : goal.returns-clause-ok
returns-clause-ok c = ap forest c.in_ok-push.ensures.items ∙ forest-push c.args.trees.now.items c.args.tree
