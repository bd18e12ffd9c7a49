use Rattle.std.proofs.Common.{[], ◌∷◌, arith, sym, ◌∙◌}
use Rattle.lexical.specs.RawString.{may_stand_raw}
use Rattle.lexical.proofs.HashLemmas.{raw_one}
use Rattle.explain.proofs.raw_contents.past_unit.Goals as goal
use Rattle.explain.proofs.raw_contents.past_unit.Goals.{else-c-eq34-via-then-c-eq34+else-begins}
use Rattle.explain.proofs.raw_contents.past_unit.Goals.{else-c-eq34-via-else-c-eq34}

pub returns-then-may_stand : goal.returns-then-may_stand
returns-then-may_stand c = record {
  front = c.in_ok-c.c ∷ [];
  found = raw_one (may_stand_raw c.args.kind) c.args.hashes.now _ _ c.in_ok-c.c c.in_ok-c.ensures.0
      (elim c.else-c-eq34.branch [
        | else-c-eq34-via-then-c-eq34+else-begins w ↦ λ is. sym w.begins.ensures ∙ w.if-begins.false
        | else-c-eq34-via-else-c-eq34 w ↦ λ is. absurd (omega (arith, is, w.if-c-eq34.false))
      ])
      c.if-c-eq13.false (sym c.may_stand.ensures ∙ c.if-may_stand.true);
  count = c.in_ok-c.ensures.1;
}
