use Rattle.std.proofs.Common.{◌≡◌, ◌∷◌, ◌+◌, ◌-◌, ◌<◌, ◌≤◌, ℕ, zero, suc, List, length, get_or, sym, ap, subst}
use Rattle.std.proofs.Common.{◌∙◌, arith}
use Rattle.pm_span.specs.CharOffset.{line_column}
use Rattle.pm_span.specs.LineIndex.{AreUpTo, after_line_feeds}
use Rattle.pm_span.proofs.LineLemmas.{after_line_feeds_from-rising, line_column_found}
use Rattle.pm_span.proofs.line_index.LineIndex.line_column.Goals as goal

-- the last line start that was counted is at or before the offset
last_up_to :
    {starts : List ℕ} {n char_offset start : ℕ} → AreUpTo starts n char_offset → start ≡ get_or (0 ∷ starts) n 0
    → start ≤ char_offset
last_up_to {n = zero} up is = omega (arith, is)
last_up_to {n = suc n} up is = omega (arith, is, up.before n (omega arith))

-- the line and column from the count are right
count_gives :
    (text : List ℕ) {starts slice : List ℕ} {n start char_offset : ℕ} → slice ≡ starts → starts ≡ after_line_feeds text
    → AreUpTo slice n char_offset → (n < length slice → char_offset < get_or slice n 0)
    → start ≡ get_or (0 ∷ starts) n 0 → char_offset ≤ length text
    → record { line = n + 1; column = char_offset - start } ≡ line_column text char_offset
count_gives text {starts} {slice} {n} {start} {char_offset} whole same up past is within =
    let e : slice ≡ after_line_feeds text = whole ∙ same in
    let here = subst (λ xs. AreUpTo xs n char_offset) e up in
    let next = subst (λ xs. n < length xs → char_offset < get_or xs n 0) e past in
    let found = line_column_found text char_offset n start within here.within here.before
    (λ j le less. omega (arith, next (omega arith), after_line_feeds_from-rising 0 text n j 0 le less))
    (is ∙ ap (λ xs. get_or (0 ∷ xs) n 0) same) in
    sym found.1

pub line_start-line_start-requires : goal.line_start-line_start-requires
line_start-line_start-requires c =
    omega (arith, c.count_on-line_feeds.ensures.before.within, ap length (c.deref.ensures.value ∙ c.self.view_is))

pub overflow_sub-result : goal.overflow_sub-result
overflow_sub-result c =
    last_up_to (subst (λ xs. AreUpTo xs c.count_on-line_feeds.result c.args.char_offset)
    (c.deref.ensures.value ∙ c.self.view_is) c.count_on-line_feeds.ensures.before) c.line_start-line_start.ensures

pub returns : goal.returns
returns c = λ text same within.
    count_gives text (c.deref.ensures.value ∙ c.self.view_is) same c.count_on-line_feeds.ensures.before
    c.count_on-line_feeds.ensures.after c.line_start-line_start.ensures within
