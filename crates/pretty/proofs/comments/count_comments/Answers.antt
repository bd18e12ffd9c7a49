use Rattle.std.proofs.Common.{arith, ap, sym, cond, ℕ}
use Rattle.lexical.proofs.SpacedLemmas.{spaced_shorter}
use Rattle.pretty.proofs.CommentLemmas.{passed_all, passed_piece}
use Rattle.pretty.proofs.comments.count_comments.Goals as goal

pub loop-next-preserved-then-is_comment : goal.loop-next-preserved-then-is_comment
loop-next-preserved-then-is_comment c =
    let walk = c.loop-next.walk in
    let spaced = c.next_after_white.result in
    let to = c.next_after_white.new.self in
    let is = c.next_after_white.ensures in
    let one = ap {B = ℕ} (λ b. cond b 1 0) (sym c.is_comment.ensures) in
    record {
      few =
          omega (arith, c.loop-next.invariant.few, spaced_shorter walk spaced to is c.in-Some.next c.in-Some.is);
      passed = passed_piece _ walk spaced to is _ c.loop-next.invariant.passed c.in-Some.next _ c.in-Some.is
          (omega (arith, one, ap {B = ℕ} (λ b. cond b 1 0) c.if-is_comment.true));
    }

pub loop-next-preserved : goal.loop-next-preserved
loop-next-preserved c =
    let walk = c.loop-next.walk in
    let spaced = c.next_after_white.result in
    let to = c.next_after_white.new.self in
    let is = c.next_after_white.ensures in
    let one = ap {B = ℕ} (λ b. cond b 1 0) (sym c.is_comment.ensures) in
    record {
      few =
          omega (arith, c.loop-next.invariant.few, spaced_shorter walk spaced to is c.in-Some.next c.in-Some.is);
      passed = passed_piece _ walk spaced to is _ c.loop-next.invariant.passed c.in-Some.next _ c.in-Some.is
          (omega (arith, one, ap {B = ℕ} (λ b. cond b 1 0) c.if-is_comment.false));
    }

pub returns : goal.returns
returns c =
    passed_all _ c.loop-next.walk c.next_after_white.result c.next_after_white.new.self c.next_after_white.ensures _
    c.loop-next.invariant.passed c.in_default.is
