use Rattle.std.proofs.Common.{◌∙◌, ap}
use Rattle.quoting.specs.Items.{One, and_last}
use Rattle.quoting.proofs.ItemLemmas.{each_more}
use Rattle.quoting.proofs.lists.kept_streams.Goals as goal

pub loop-stream-preserved : goal.loop-stream-preserved
loop-stream-preserved c =
    c.in_ok-put.ensures.ok
    ∙ (ap (λ s. and_last c.loop-stream.values (One s)) c.in_ok-clone.ensures.cases
    ∙ each_more One c.args.streams.now c.loop-stream.stream-index
    c.stream-item.result c.stream-item.result c.loop-stream.values
    c.loop-stream-test.true c.stream-item.is c.loop-stream.invariant)
