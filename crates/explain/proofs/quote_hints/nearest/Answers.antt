use Rattle.std.proofs.Common.{subst, sym}
use Rattle.explain.proofs.NearestLemmas.{Sought, nearest_found, sought_first, sought_more, sought_shorter}
use Rattle.explain.proofs.quote_hints.nearest.Goals as goal

pub loop-after-init : goal.loop-after-init
loop-after-init c = sought_first c.args.inside _ c.skip_to-quote.ensures

pub loop-after-smaller : goal.loop-after-smaller
loop-after-smaller c =
    sought_shorter c.loop-after.quote c.in-Some.after c.skip-end.result c.skip_to-quote-in-Some.result
    c.in-Some.ensures c.skip-end.ensures c.skip_to-quote-in-Some.ensures

pub loop-after-preserved : goal.loop-after-preserved
loop-after-preserved c =
    subst (Sought c.args.inside c.skip_to-quote-in-Some.result) (sym c.longer-best.ensures)
    (sought_more c.args.inside c.loop-after.quote c.in-Some.after c.skip-end.result c.skip_to-quote-in-Some.result
    c.loop-after.best c.loop-after.invariant c.in-Some.ensures c.skip-end.ensures c.skip_to-quote-in-Some.ensures)

pub returns : goal.returns
returns c = nearest_found c.args.inside c.loop-after.quote c.loop-after.best c.loop-after.invariant c.in_default.ensures
