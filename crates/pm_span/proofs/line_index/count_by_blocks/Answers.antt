use Rattle.std.proofs.Common.{◌≡◌, ℕ, ◌*◌, ◌≤◌, List, [], ◌∷◌, ◌++◌, length, inl, inr, sym, ap, subst, arith}
use Rattle.std.proofs.lemmas.Bool.{cases_lt}
use Rattle.std.proofs.lemmas.List.{get_or_append_left, get_or_push, length_push}
use Rattle.pm_span.specs.LineIndex.{AreBlocks, AreUpTo}
use Rattle.pm_span.proofs.line_index.count_by_blocks.Goals as goal

-- the bound is also true of fewer offsets and of a larger `char_offset`
AreUpTo-weaker : {offsets : List ℕ} {n m j k : ℕ} → AreUpTo offsets n j → m ≤ n → j ≤ k → AreUpTo offsets m k
AreUpTo-weaker up fewer later = record {
  within = omega (arith, up.within);
  before = λ i less. omega (arith, up.before i (omega arith));
}

-- the counts are right with one more block
AreBlocks-push :
    (size : ℕ) (starts blocks : List ℕ) (n m start : ℕ) → AreBlocks size starts blocks → AreUpTo starts n start
    → m ≤ n → start ≤ length blocks * size → AreBlocks size starts (blocks ++ m ∷ [])
AreBlocks-push size starts blocks n m start so_far up fewer begins block less = elim (cases_lt block (length blocks)) [
  | inl before ↦
      subst (λ x. AreUpTo starts x (block * size)) (sym (get_or_append_left blocks (m ∷ []) 0 block before))
      (so_far block before)
  | inr last ↦
      let here : block ≡ length blocks = omega (arith, length_push blocks m) in
      subst (λ x. AreUpTo starts x (block * size)) (sym (get_or_push blocks m 0 block (sym here)))
      (AreUpTo-weaker up fewer (omega (arith, ap (λ i. i * size) here)))
]

pub loop-preserved : goal.loop-preserved
loop-preserved c =
    let old = c.loop.blocks.items in
    let up = c.count_on-lines.ensures.before in
    let next = c.saturating_add-block_start.ensures in
    record {
      blocks = subst (AreBlocks c.args.block c.args.starts.now) (sym c.in_ok-push.ensures.items)
          (AreBlocks-push c.args.block c.args.starts.now old c.count_on-lines.result _ c.loop.block_start
          c.loop.invariant.blocks up (omega (arith, c.min.ensures))
          (omega (arith, c.loop.invariant.start, ap (λ n. n * c.args.block) c.loop.invariant.count)));
      count = omega (arith, ap length c.in_ok-push.ensures.items, length_push old c.min.result, c.loop.invariant.count);
      lines = AreUpTo-weaker up (omega arith) (omega (arith, next, c.loop.invariant.fits));
      start = omega (arith, next, c.loop.invariant.start);
      fits = omega (arith, next);
    }
