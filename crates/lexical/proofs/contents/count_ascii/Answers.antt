use Rattle.std.proofs.Common.{sym}
use Rattle.std.specs.Char.{is_ascii}
use Rattle.lexical.proofs.RunLemmas.{count_end, count_on, count_stop}
use Rattle.lexical.proofs.SearchLemmas.{allowed_ascii}
use Rattle.lexical.proofs.contents.count_ascii.Goals as goal

pub returns-then-is_ascii : goal.returns-then-is_ascii
returns-then-is_ascii c = allowed_ascii c.args.bytes.now c.if-is_ascii.ensures.cases

pub loop-count-preserved : goal.loop-count-preserved
loop-count-preserved c =
    count_on is_ascii c.args.bytes.now c.loop-count.count c.loop-count-test.true
    (sym c.if-not-is_ascii.ensures) c.loop-count.invariant.1

pub returns-after-loop-count : goal.returns-after-loop-count
returns-after-loop-count c =
    count_end is_ascii c.args.bytes.now c.loop-count.count c.loop-count-test.false c.loop-count.invariant.1

pub returns-then-not-is_ascii : goal.returns-then-not-is_ascii
returns-then-not-is_ascii c =
    count_stop is_ascii c.args.bytes.now c.loop-count.count c.loop-count-test.true
    (sym c.if-not-is_ascii.ensures) c.loop-count.invariant.1
