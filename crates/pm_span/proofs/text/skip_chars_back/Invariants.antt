use Rattle.pm_span.proofs.SeamLemmas.{IsCutBack}
use Rattle.pm_span.proofs.text.skip_chars_back.Given as goal

-- `front` is the text before the characters so far
abbrev pub invariant-loop : goal.invariant-loop
invariant-loop l = IsCutBack l.text l.front.rest.now l.counter
