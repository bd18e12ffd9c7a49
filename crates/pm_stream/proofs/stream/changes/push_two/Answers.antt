use Rattle.std.proofs.Common.{[], ◌∷◌, ◌++◌, ap, ◌∙◌}
use Rattle.pm_stream.specs.declared.stream.TokenTree.TheVariants.{Punct}
use Rattle.pm_stream.proofs.BuildingLemmas.{pushed_two}
use Rattle.pm_stream.proofs.stream.changes.push_two.Goals as goal

pub returns-clause-ok : goal.returns-clause-ok
returns-clause-ok c =
    pushed_two c.args.trees.now.items c.push.new.self.items c.push-2.new.self.items c.args.minus c.args.literal
    (c.in_ok-push.ensures.items ∙ ap (λ ts. ts ++ Punct c.args.minus ∷ []) c.in_ok-reserve.ensures.items)
    c.in_ok-push-2.ensures.items
