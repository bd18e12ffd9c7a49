use Rattle.std.proofs.Common.{◌≡◌, length, rules}
use Rattle.highlight.proofs.NestingLemmas.{spared_step}
use Rattle.highlight.proofs.nesting.Nesting.into_styles.Goals as goal

pub loop-opener-preserved : goal.loop-opener-preserved
loop-opener-preserved c =
    let depth : c.len.result ≡ length c.pop.new.self.items = search rules in
    spared_step _ _ _ _ _ _ _ c.in-Some.ensures.items depth c.set_style.ensures c.loop-opener.invariant
