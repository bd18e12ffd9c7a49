use Rattle.pm_stream.specs.Building.{split}
use Rattle.pm_stream.proofs.BuildingLemmas.{gives_all}
use Rattle.pm_stream.proofs.stream.TokenStream.from_trees.Goals as goal

pub returns-clause-ok : goal.returns-clause-ok
returns-clause-ok g c =
    gives_all g.I.IntoIterator.into_iter_gives g.I.IntoIter.Iterator.next_gives split c.args.trees
    c.new-stream.result c.extend_trees.new.self c.new-stream.ensures c.in_ok-extend_trees.ensures.ran
