use Rattle.rust_check.proofs.TurnsLemmas.{IsTurned}
use Rattle.rust_check.proofs.turns.is_balanced.Given as goal

abbrev pub invariant-loop-c : goal.invariant-loop-c
invariant-loop-c l = IsTurned l.text l.rest.rest.now l.opened.items
