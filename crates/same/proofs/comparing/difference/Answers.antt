use Rattle.same.proofs.ComparingLemmas.{goes_on, goes_start, next_of}
use Rattle.same.proofs.comparing.difference.Goals as goal

pub loop-one-init : goal.loop-one-init
loop-one-init c =
    goes_start c.args.comments c.args.first.now c.args.second.now c.new-ones.result c.new-others.result
    c.new-ones.ensures.walk c.new-ones.ensures.front c.new-ones.ensures.comments c.new-ones.ensures.step
    c.new-others.ensures.walk c.new-others.ensures.front c.new-others.ensures.comments c.new-others.ensures.step

pub loop-one-preserved : goal.loop-one-preserved
loop-one-preserved c =
    goes_on _ _ _ c.loop-one.ones c.next.new.self c.loop-one.others c.next-other.new.self c.in-Some.one
    c.next-other.result c.loop-one.invariant c.in-Some.ensures.first
    (next_of c.loop-one.others c.next-other.new.self c.next-other.result c.next-other.ensures.first
    c.next-other.ensures.none)
    (c.in_ok-is_same.ensures.0 c.if-not-branch.false)
