use Rattle.std.proofs.Common.{refl, arith, rules}
use Rattle.std.proofs.lemmas.Result.{IfOk-from_err}
use Rattle.std.specs.Str.{chars}
use Rattle.lexical.proofs.PieceFacts.{piece_boundary}
use Rattle.pm_stream.specs.declared.reading.Lexed.{Lexed}
use Rattle.pm_stream.proofs.ReadingLemmas.{can_pass, can_read, not_whole, reads_past, reads_start, shorter}
use Rattle.pm_stream.proofs.reading.walk.Goals as goal

pub loop-piece-init : goal.loop-piece-init
loop-piece-init g c = record {
  utf8 = c.utf8.text;
  left = refl;
  reads = reads_start c.args.base (chars c.args.text.now) _ _ (search rules) c.requires.starts _ (search rules);
}

pub take-requires : goal.take-requires
take-requires g c =
    can_read _ c.loop-piece.invariant.reads c.in-Some.ensures.found c.loop-piece.invariant.utf8
    (omega (arith, c.loop-piece.invariant.left))

pub range_from-tail-requires : goal.range_from-tail-requires
range_from-tail-requires g c =
    λ _. piece_boundary _ c.loop-piece.rest.now c.in-Some.piece c.loop-piece.invariant.utf8 c.in-Some.ensures.found

pub white-requires : goal.white-requires
white-requires g c =
    can_pass (record { piece = c.in-Some.piece; text = c.loop-piece.rest; at = c.loop-piece.at })
    c.loop-piece.invariant.reads c.in-Some.ensures.found c.loop-piece.invariant.utf8
    (omega (arith, c.loop-piece.invariant.left)) c.range_from-tail.ensures.value c.past_white-white.ensures.passed
    (c.in_ok-take.ensures.ok (search rules))

pub overflow_add-at : goal.overflow_add-at
overflow_add-at g c =
    let less = shorter c.loop-piece.invariant.utf8 c.in-Some.ensures.found c.range_from-tail.ensures.value
    c.past_white-white.ensures.passed in
    omega (arith, c.loop-piece.invariant.left, less.0)

pub overflow_cast-at : goal.overflow_cast-at
overflow_cast-at g c =
    let less = shorter c.loop-piece.invariant.utf8 c.in-Some.ensures.found c.range_from-tail.ensures.value
    c.past_white-white.ensures.passed in
    omega (arith, c.loop-piece.invariant.left, less.0)

pub overflow_add-at-in-Some : goal.overflow_add-at-in-Some
overflow_add-at-in-Some g c =
    let less = shorter c.loop-piece.invariant.utf8 c.in-Some.ensures.found c.range_from-tail.ensures.value
    c.past_white-white.ensures.passed in
    omega (arith, c.loop-piece.invariant.left, less.0)

pub loop-piece-smaller : goal.loop-piece-smaller
loop-piece-smaller g c =
    (shorter c.loop-piece.invariant.utf8 c.in-Some.ensures.found c.range_from-tail.ensures.value
    c.past_white-white.ensures.passed).1

pub loop-piece-preserved : goal.loop-piece-preserved
loop-piece-preserved g c =
    let lexed : Lexed = record { piece = c.in-Some.piece; text = c.loop-piece.rest; at = c.loop-piece.at } in
    let h = c.loop-piece.invariant.reads in
    let found = c.in-Some.ensures.found in
    let utf8 = c.loop-piece.invariant.utf8 in
    let cut = c.range_from-tail.ensures.value in
    let white = c.past_white-white.ensures.passed in
    let less = shorter utf8 found cut white in
    record {
      utf8 = c.past_white-white.ensures.utf8;
      left = omega (arith, c.loop-piece.invariant.left, less.0);
      reads = reads_past lexed h found utf8 (omega (arith, c.loop-piece.invariant.left)) cut white
          (c.in_ok-take.ensures.ok (search rules)) _
          (not_whole lexed h found utf8 (omega (arith, c.loop-piece.invariant.left)) cut white c.args.text.now _
          c.utf8.text c.past_white-white.ensures.utf8 refl refl) c.white.ensures;
    }

pub returns-in_err-take-clause-reads : goal.returns-in_err-take-clause-reads
returns-in_err-take-clause-reads g c =
    IfOk-from_err c.from_residual.result _ c.from_residual.ensures.0

pub returns-in_err-take-clause-stops : goal.returns-in_err-take-clause-stops
returns-in_err-take-clause-stops g c =
    IfOk-from_err c.from_residual.result _ c.from_residual.ensures.0

pub returns-in_err-take-clause-left : goal.returns-in_err-take-clause-left
returns-in_err-take-clause-left g c =
    IfOk-from_err c.from_residual.result _ c.from_residual.ensures.0

pub returns-then-not-branch-clause-reads : goal.returns-then-not-branch-clause-reads
returns-then-not-branch-clause-reads g c =
    let kept = c.in_ok-take.ensures.stray c.if-not-branch.true in
    rw (kept.0, kept.1) c.loop-piece.invariant.reads

pub returns-then-not-branch-clause-stops : goal.returns-then-not-branch-clause-stops
returns-then-not-branch-clause-stops g c =
    let kept = c.in_ok-take.ensures.stray c.if-not-branch.true in
    (c.in-Some.ensures.found, rw kept.1 kept.2)

pub returns-then-not-branch-clause-left : goal.returns-then-not-branch-clause-left
returns-then-not-branch-clause-left g c = c.loop-piece.invariant.left

pub returns-clause-reads : goal.returns-clause-reads
returns-clause-reads g c = c.loop-piece.invariant.reads

pub returns-clause-stops : goal.returns-clause-stops
returns-clause-stops g c = c.in_default.ensures.none

pub returns-clause-left : goal.returns-clause-left
returns-clause-left g c = c.loop-piece.invariant.left
