use Rattle.std.proofs.Common.{sym}
use Rattle.lexical.specs.Bytes.{ascii_in}
use Rattle.lexical.proofs.RunLemmas.{count_end, count_on, count_stop}
use Rattle.lexical.proofs.bytes.count_ascii.Goals as goal

pub loop-count-preserved : goal.loop-count-preserved
loop-count-preserved c =
    count_on (ascii_in c.args.class) c.args.bytes.now c.loop-count.count c.loop-count-test.true
    (sym c.if-not-holds_ascii.ensures) c.loop-count.invariant.1

pub returns-after-loop-count : goal.returns-after-loop-count
returns-after-loop-count c =
    count_end (ascii_in c.args.class) c.args.bytes.now c.loop-count.count c.loop-count-test.false
    c.loop-count.invariant.1

pub returns-then-not-holds_ascii : goal.returns-then-not-holds_ascii
returns-then-not-holds_ascii c =
    count_stop (ascii_in c.args.class) c.args.bytes.now c.loop-count.count c.loop-count-test.true
    (sym c.if-not-holds_ascii.ensures) c.loop-count.invariant.1
