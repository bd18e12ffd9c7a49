use Rattle.same.proofs.WordLemmas.{follows_none, follows_skip, follows_word}
use Rattle.same.proofs.words.Words.next.Goals as goal

pub returns-in-Some-begin-clause-first : goal.returns-in-Some-begin-clause-first
returns-in-Some-begin-clause-first c =
    follows_word _ c.loop-source_word.self c.begin.new.self c.next_after_white-next.result
    c.next_after_white-next.new.self
    c.in_ok-next.field-0 c.loop-source_word.invariant c.next_after_white-next.ensures c.in_ok-next.was
    c.begin.ensures.walk
    c.begin.ensures.comments c.in-Some-begin.source_word c.begin.ensures.here c.in-Some-begin.ensures.some

pub loop-source_word-preserved : goal.loop-source_word-preserved
loop-source_word-preserved c =
    follows_skip _ c.loop-source_word.self c.begin.new.self c.next_after_white-next.result
    c.next_after_white-next.new.self
    c.in_ok-next.field-0 c.loop-source_word.invariant c.next_after_white-next.ensures c.in_ok-next.was
    c.begin.ensures.walk
    c.begin.ensures.comments c.in_default-begin.ensures.none c.in_default-begin.ensures.step

pub returns-in_err-next-clause-none : goal.returns-in_err-next-clause-none
returns-in_err-next-clause-none c =
    rw c.from_residual.ensures (follows_none c.args.self.now c.loop-source_word.self c.next_after_white-next.result
    c.next_after_white-next.new.self c.loop-source_word.invariant c.next_after_white-next.ensures c.in_err-next.was)
