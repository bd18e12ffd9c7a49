use Rattle.declarations.proofs.EntryCheckLemmas.{place_here, place_none, place_on}
use Rattle.declarations.proofs.entry_check.place_of.Goals as goal

pub returns-then-is : goal.returns-then-is
returns-then-is c =
    let now = c.loop-word.invariant in
    place_here c.args.known.now c.args.entry.now c.loop-word.at c.loop-word.word-index _ c.is.result now.0 now.1
    c.loop-word-test.true c.is.ensures c.if-is.true

pub loop-word-preserved : goal.loop-word-preserved
loop-word-preserved c =
    let now = c.loop-word.invariant in
    place_on c.args.known.now c.args.entry.now c.loop-word.at c.loop-word.word-index _ c.is.result now.0 now.1
    c.loop-word-test.true c.is.ensures c.if-is.false

pub returns : goal.returns
returns c =
    let now = c.loop-word.invariant in
    place_none c.args.known.now c.args.entry.now c.loop-word.at c.loop-word.word-index now.0 now.1
    c.loop-word-test.false
