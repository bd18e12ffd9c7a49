use Rattle.std.proofs.Common.{◌≡◌, ◌+◌, ◌*◌, ◌-◌, ◌<◌, ℕ, List, length, drop, get_or, refl, sym, ap, subst, ◌∙◌, arith}
use Rattle.std.specs.Str.{chars}
use Rattle.std.proofs.lemmas.List.{drop-drop, length_push}
use Rattle.std.proofs.lemmas.Result.{err_from_is_err_and}
use Rattle.pm_span.specs.ByteIndex.{IsByteOffset}
use Rattle.pm_span.proofs.ByteOffsetLemmas.{block_more}
use Rattle.pm_span.proofs.SeamLemmas.{rest_bytes}
use Rattle.pm_span.proofs.byte_index.block_ends.Goals as goal

-- the rest of the text after one more block
next_left :
    (text before after : List ℕ) (n : ℕ) → chars before ≡ drop (64 * n) (chars text)
    → chars after ≡ drop 64 (chars before) → chars after ≡ drop (64 * (n + 1)) (chars text)
next_left text before after n left next =
    let sum : 64 * n + 64 ≡ 64 * (n + 1) = omega arith in
    next ∙ (ap (drop 64) left ∙ (drop-drop 64 (64 * n) (chars text) ∙ ap (λ k. drop k (chars text)) sum))

pub overflow_sub-text : goal.overflow_sub-text
overflow_sub-text c =
    let left = next_left c.args.text.now c.loop.rest.now c.skip_block-rest.result.now c.loop.counter
    c.loop.invariant.left c.skip_block-rest.ensures.value in
    omega (
      arith,
      rest_bytes c.args.text.now c.skip_block-rest.result.now (64 * (c.loop.counter + 1)) c.utf8.text
          c.skip_block-rest.utf8 left,
    )

pub loop-preserved : goal.loop-preserved
loop-preserved c =
    let text = c.args.text.now in
    let rest = c.skip_block-rest.result.now in
    let ends = c.loop.ends.items in
    let left = next_left text c.loop.rest.now rest c.loop.counter c.loop.invariant.left
    c.skip_block-rest.ensures.value in
    let bytes = rest_bytes text rest (64 * (c.loop.counter + 1)) c.utf8.text c.skip_block-rest.utf8 left in
    let here : IsByteOffset (chars text) (64 * (c.loop.counter + 1)) (length text - length rest) = record {
      within = omega (arith, c.requires, c.loop-test.true);
      value = omega (arith, bytes);
    } in
    let last = subst (λ n. IsByteOffset (chars text) (64 * (n + 1)) (length text - length rest))
    (sym c.loop.invariant.count) here in
    record {
      utf8 = c.skip_block-rest.utf8;
      left = left;
      count = ap length c.in_ok-push.ensures.items ∙ (length_push ends _ ∙ ap (λ n. n + 1) c.loop.invariant.count);
      each = subst (λ ends. (block : ℕ) → block < length ends
          → IsByteOffset (chars text) (64 * (block + 1)) (get_or ends block 0))
          (sym c.in_ok-push.ensures.items) (block_more ends (length text - length rest) c.loop.invariant.each last);
    }

pub loop-init : goal.loop-init
loop-init c = record {
  utf8 = c.utf8.text;
  left = refl;
  count = ap length c.in_ok-ends.ensures.items;
  each = λ block less. absurd (omega (arith, ap length c.in_ok-ends.ensures.items, less));
}

pub returns-in_err-ends : goal.returns-in_err-ends
returns-in_err-ends c =
    let p = err_from_is_err_and c.from_residual.result c.from_residual.ensures.1 in rw p.1 tt

pub returns-in_err-push : goal.returns-in_err-push
returns-in_err-push c =
    let failed = c.from_residual-in_err-push in
    let p = err_from_is_err_and failed.result failed.ensures.1 in rw p.1 tt

pub returns : goal.returns
returns c = record {
  each = c.loop.invariant.each;
  all = omega (arith, c.requires, c.loop-test.false, c.loop.invariant.count);
}
