use Rattle.std.proofs.Common.{◌≡◌, ◌||◌, ◌∷◌, [], List, ℕ, false, sym, ap, ◌∙◌, subst}
use Rattle.std.specs.Str.{chars}
use Rattle.relayout.specs.Written.{ends_line}
use Rattle.relayout.proofs.KeptLemmas.{Keeps, keeps_all, keeps_comment, keeps_part, keeps_white}
use Rattle.relayout.proofs.PartLemmas.{part_shortens}
use Rattle.relayout.proofs.RelaidLemmas.{cover_none, no_chars, some_chars, string_chars}
use Rattle.relayout.proofs.comments.commented.Goals as goal

pub loop-rest-preserved-then-white-gt0 : goal.loop-rest-preserved-then-white-gt0
loop-rest-preserved-then-white-gt0 c = record {
  kept_text = c.loop-rest.invariant.kept_text;
  rest_text = c.past_white-white.ensures.utf8;
  keeps = keeps_white c.args.any (chars c.args.text.now) (chars c.loop-rest.kept.now) (chars c.loop-rest.rest.now)
      (chars c.past_white-white.result.0.now) c.loop-rest.out c.loop-rest.first c.loop-rest.free
      c.is_free_after-free.result c.past_white-white.result.1 c.past_white-white.ensures.passed c.if-white-gt0.true
      (λ front e. c.is_free_after-free.ensures
      ∙ ap (λ w. c.loop-rest.free || ends_line w) (c.before-then-white-gt0.ensures front e))
      c.loop-rest.invariant.keeps;
}

pub loop-rest-preserved-in-Some : goal.loop-rest-preserved-in-Some
loop-rest-preserved-in-Some c =
    let found = rw c.in-Some.is at c.in_ok-after.ensures.found in
    let utf8 = rw c.in-Some.is at c.in_ok-after.ensures.utf8 in
    record {
      kept_text = utf8;
      rest_text = utf8;
      keeps = keeps_comment c.args.any (chars c.args.text.now) (chars c.loop-rest.kept.now) (chars c.loop-rest.rest.now)
          (chars c.in-Some.after.now) c.loop-rest.out c.push_comment.new.out c.loop-rest.first c.loop-rest.free found.0
          found.1 c.loop-rest.invariant.keeps;
    }

pub returns-in_default-past_piece-clause-no_piece : goal.returns-in_default-past_piece-clause-no_piece
returns-in_default-past_piece-clause-no_piece c = λ all covers.
    let some = some_chars c.loop-rest.rest.now c.loop-rest.invariant.rest_text
    (sym c.is_empty.ensures ∙ c.loop-rest-test.true) in
    cover_none c.loop-rest.first (chars c.loop-rest.rest.now) c.in_default-past_piece.ensures.found
    (λ e. let clash : ◌≡◌ {A = List ℕ} (some.0 ∷ some.1) [] = sym some.2 ∙ e in cc)
    (c.loop-rest.invariant.keeps.makes.only (record { pieces = all; whole = covers.whole; stand = covers.stand }))

pub loop-rest-smaller : goal.loop-rest-smaller
loop-rest-smaller c =
    let found = c.in-Some-past_piece.ensures.found in
    part_shortens c.args.any c.loop-rest.first c.loop-rest.free (chars c.loop-rest.rest.now)
    (chars c.in-Some-past_piece.after.now) found.0 found.1

pub loop-rest-preserved : goal.loop-rest-preserved
loop-rest-preserved c =
    let found = c.in-Some-past_piece.ensures.found in
    let none = rw c.in_default.is at c.in_ok-after.ensures.found in
    record {
      kept_text = c.loop-rest.invariant.kept_text;
      rest_text = c.in-Some-past_piece.ensures.utf8;
      keeps = subst (Keeps c.args.any (chars c.args.text.now) false c.in-Some-past_piece.is_free
          (chars c.loop-rest.kept.now) (chars c.in-Some-past_piece.after.now)) (sym none.1)
          (keeps_part c.args.any (chars c.args.text.now) (chars c.loop-rest.kept.now) (chars c.loop-rest.rest.now)
          (chars c.in-Some-past_piece.after.now) c.loop-rest.out c.loop-rest.first c.loop-rest.free
          c.in-Some-past_piece.is_free found.0 found.1 found.2 found.3 c.loop-rest.invariant.keeps);
    }

pub returns-clause-ok : goal.returns-clause-ok
returns-clause-ok c =
    let none = no_chars c.loop-rest.rest.now (sym c.is_empty.ensures ∙ c.loop-rest-test.false) in
    rw (string_chars c.into_string.result c.push_text.new.self c.into_string.ensures)
    (keeps_all c.args.any (chars c.args.text.now) (chars c.loop-rest.kept.now) (chars c.loop-rest.rest.now)
    c.loop-rest.out c.push_text.new.self c.loop-rest.first c.loop-rest.free none c.in_ok-push_text.ensures.ok
    c.loop-rest.invariant.keeps)
