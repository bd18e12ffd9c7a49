use Rattle.outline.proofs.TagLemmas.{ended_none, ended_one}
use Rattle.outline.proofs.tags.print_all.Goals as goal

pub loop-line-preserved : goal.loop-line-preserved
loop-line-preserved g c = λ new rest.
    c.loop-line.invariant new
    (ended_one c.args.lines.now c.loop-line.line-index c.line-item.result _ _ new c.loop-line-test.true c.line-item.is
    c.in_ok-writeln.ensures.bytes rest)

pub returns : goal.returns
returns g c =
    c.loop-line.invariant (g.W.Write.contents c.loop-line.writer)
    (ended_none c.args.lines.now c.loop-line.line-index _ c.loop-line-test.false)
