use Rattle.std.proofs.Common.{◌≡◌, ◌*◌, ◌<◌, ◌≤◌, ℕ, List, length, get_or, sym, ap, subst, ◌∙◌, arith}
use Rattle.pm_span.specs.LineIndex.{AreBlocks, AreUpTo}
use Rattle.pm_span.proofs.line_index.LineIndex.lines_before.Goals as goal

-- the count of a block is right for each offset from the block's start on
of_block :
    {starts blocks slice own : List ℕ} (size block : ℕ) {lines char_offset : ℕ} → AreBlocks size starts blocks
    → starts ≡ own → slice ≡ blocks → block < length slice → lines ≡ get_or slice block 0 → block * size ≤ char_offset
    → AreUpTo own lines char_offset
of_block {starts} {blocks} {slice} {own} size block {lines} {char_offset} counts same whole less is begins =
    let here = counts block (omega (arith, ap length whole)) in
    let at : lines ≡ get_or blocks block 0 = is ∙ ap (λ xs. get_or xs block 0) whole in
    subst (λ xs. AreUpTo xs lines char_offset) same
    (subst (λ n. AreUpTo starts n char_offset) (sym at) (record {
      within = here.within;
      before = λ k k_less. omega (arith, here.before k k_less, begins);
    }))

pub returns-in-Some : goal.returns-in-Some
returns-in-Some c =
    of_block _ _ c.self.invariant.counts c.self.view_is c.deref.ensures.value c.in-Some.ensures.lookup.3.0
    (c.in-Some.ensures.lookup.3.1 0) c.block_of.ensures
