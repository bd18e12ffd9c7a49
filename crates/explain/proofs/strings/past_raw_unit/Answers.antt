use Rattle.std.proofs.Common.{sym, ◌∙◌, arith}
use Rattle.explain.proofs.ScanLemmas.{raw_any}
use Rattle.explain.proofs.strings.past_raw_unit.Goals as goal
use Rattle.explain.proofs.strings.past_raw_unit.Goals.{else-c-eq34-via-then-c-eq34+else-begins}
use Rattle.explain.proofs.strings.past_raw_unit.Goals.{else-c-eq34-via-else-c-eq34}

pub returns : goal.returns
returns c =
    raw_any c.args.hashes.now c.in_ok-c.c c.args.at c.in_ok-c.after c.in_ok-c.ensures.0 c.in_ok-c.ensures.1
    (elim c.else-c-eq34.branch [
      | else-c-eq34-via-then-c-eq34+else-begins w ↦ λ is. sym w.begins.ensures ∙ w.if-begins.false
      | else-c-eq34-via-else-c-eq34 w ↦ λ is. absurd (omega (arith, is, w.if-c-eq34.false))
    ])
