use Rattle.std.proofs.Common.{refl}
use Rattle.lexical.proofs.ByteLemmas.{past_ascii, past_one, past_all, less_left}
use Rattle.lexical.proofs.bytes.skip.Goals as goal

pub loop-after-init : goal.loop-after-init
loop-after-init c = past_ascii c.args.class c.args.at c.args.at _ (refl, refl) c.skip_ascii-end.ensures

pub loop-after-smaller : goal.loop-after-smaller
loop-after-smaller c = less_left c.args.class c.loop-after.end c.in-Some.after _ c.in-Some.ensures
    c.skip_ascii-end-in-Some.ensures

pub loop-after-preserved : goal.loop-after-preserved
loop-after-preserved c =
    past_ascii c.args.class c.args.at c.in-Some.after _
    (past_one c.args.class c.args.at c.loop-after.end c.in-Some.after c.loop-after.invariant c.in-Some.ensures)
    c.skip_ascii-end-in-Some.ensures

pub returns : goal.returns
returns c = past_all c.args.class c.args.at c.loop-after.end c.loop-after.invariant c.in_default.ensures
