use Rattle.std.proofs.Common.{ap, ◌∙◌}
use Rattle.pm_stream.specs.Forest.{chain}
use Rattle.pm_stream.specs.Trees.{alone, forest}
use Rattle.pm_stream.proofs.TreeLemmas.{forest-push}
use Rattle.pm_stream.proofs.stream.put_last.Goals as goal

pub returns-in-Ok-clause-ok : goal.returns-in-Ok-clause-ok
returns-in-Ok-clause-ok c =
    ap forest c.in-Ok.ensures.items ∙ forest-push c.in-Some.own.now.items c.args.tree
    ∙ ap (λ v. chain (forest v.items) (alone c.args.tree)) c.in-Some.ensures.value
