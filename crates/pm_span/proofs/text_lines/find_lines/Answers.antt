use Rattle.std.proofs.Common.{◌≡◌, ℕ, ◌+◌, true, List, ◌∷◌, [], ◌++◌, length, ap, sym, subst, ◌∙◌, arith}
use Rattle.std.proofs.Common.{append_assoc, append-nil, Option, Some, None, IfSome}
use Rattle.std.specs.Borrow.{Bor}
use Rattle.std.specs.Option.{MatchOption}
use Rattle.std.proofs.lemmas.Option.{none-some, same_Some}
use Rattle.std.proofs.lemmas.Result.{err_from_is_err_and}
use Rattle.std.specs.Str.{chars, IsUtf8}
use Rattle.pm_span.specs.LineIndex.{after_line_feeds_from}
use Rattle.pm_span.specs.Line.{is_one_line}
use Rattle.pm_span.proofs.SplitLemmas.{after_line_feeds_from-line, after_line_feeds_from-split, split_size}
use Rattle.pm_span.proofs.text_lines.find_lines.Goals as goal

-- the first line of the rest, and the text after it
record IsFirst (rest : List ℕ) (x : Bor (List ℕ) × Bor (List ℕ)) (count : ℕ) : Type 0 where
  split : chars rest ≡ chars x.0.now ++ (10 ∷ chars x.1.now)
  one : is_one_line (chars x.0.now) ≡ true
  after : IsUtf8 x.1.now
  size : count ≡ length (chars x.0.now)

is_first :
    (rest : List ℕ) (o : Option (Bor (List ℕ) × Bor (List ℕ))) (x : Bor (List ℕ) × Bor (List ℕ)) (count : ℕ)
    → o ≡ Some x
    → MatchOption o (is_one_line (chars rest) ≡ true)
    (λ x. (chars rest ≡ chars x.0.now ++ (10 ∷ chars x.1.now)) × (is_one_line (chars x.0.now) ≡ true))
    → IfSome o (λ x. IsUtf8 x.0.now × IsUtf8 x.1.now)
    → MatchOption o (count ≡ length (chars rest)) (λ x. count ≡ length (chars x.0.now)) → IsFirst rest x count
is_first rest None x count is split utf8 size = absurd (none-some x is)
is_first rest (Some y) x count is split utf8 size = subst (λ x. IsFirst rest x count) (same_Some y x is)
    (record { split = split.0; one = split.1; after = utf8.1; size = size })

-- the rest is the last line
is_last :
    (rest : List ℕ) (o : Option (Bor (List ℕ) × Bor (List ℕ))) (count : ℕ) → o ≡ None
    → MatchOption o (is_one_line (chars rest) ≡ true)
    (λ x. (chars rest ≡ chars x.0.now ++ (10 ∷ chars x.1.now)) × (is_one_line (chars x.0.now) ≡ true))
    → MatchOption o (count ≡ length (chars rest)) (λ x. count ≡ length (chars x.0.now))
    → (is_one_line (chars rest) ≡ true) × (count ≡ length (chars rest))
is_last rest None count is split size = (split, size)
is_last rest (Some x) count is split size = absurd (none-some x (sym is))

pub loop-after-preserved : goal.loop-after-preserved
loop-after-preserved c =
    let line = c.in-Some.field-0-0 in
    let after = chars c.in-Some.after.now in
    let found = c.first_line-count.ensures in
    let first = is_first c.loop-after.rest.now c.first_line-count.result.split (line, c.in-Some.after)
    c.first_line-count.result.count c.in-Some.is found.split found.utf8 found.count in
    let n = c.loop-after.start + c.first_line-count.result.count + 1 in
    let size : n ≡ c.loop-after.start + (length (chars line.now) + 1) = omega (arith, first.size) in
    let left = after_line_feeds_from n after in
    let more = after_line_feeds_from-split c.loop-after.start n _ _ _ first.split first.one size in
    record {
      utf8 = first.after;
      count = omega (arith, c.loop-after.invariant.count, first.size, split_size _ _ _ first.split);
      starts = ap (λ xs. xs ++ left) c.in_ok-push-in-Some.ensures.items
          ∙ (append_assoc c.loop-after.starts.items (n ∷ []) left
          ∙ (ap (λ xs. c.loop-after.starts.items ++ xs) (sym more) ∙ c.loop-after.invariant.starts));
    }

pub returns-in-None-clause-starts : goal.returns-in-None-clause-starts
returns-in-None-clause-starts c =
    let last = is_last c.loop-after.rest.now c.first_line-count.result.split c.first_line-count.result.count
    c.in-None.is c.first_line-count.ensures.split c.first_line-count.ensures.count in
    sym (ap (λ xs. c.loop-after.starts.items ++ xs)
    (after_line_feeds_from-line c.loop-after.start (chars c.loop-after.rest.now) last.0)
    ∙ append-nil c.loop-after.starts.items)
    ∙ c.loop-after.invariant.starts

pub loop-after-init : goal.loop-after-init
loop-after-init c = record {
  utf8 = c.utf8.text;
  count = omega arith;
  starts = ap (λ xs. xs ++ after_line_feeds_from 0 (chars c.args.text.now)) c.new-starts.ensures.items;
}

pub returns-in_err-push-in-Some-clause-starts : goal.returns-in_err-push-in-Some-clause-starts
returns-in_err-push-in-Some-clause-starts c =
    let p = err_from_is_err_and c.from_residual.result c.from_residual.ensures.1 in rw p.1 tt

pub returns-in_err-push-in-Some-clause-count : goal.returns-in_err-push-in-Some-clause-count
returns-in_err-push-in-Some-clause-count c =
    let p = err_from_is_err_and c.from_residual.result c.from_residual.ensures.1 in rw p.1 tt

pub returns-in-None-clause-count : goal.returns-in-None-clause-count
returns-in-None-clause-count c =
    let last = is_last c.loop-after.rest.now c.first_line-count.result.split c.first_line-count.result.count
    c.in-None.is c.first_line-count.ensures.split c.first_line-count.ensures.count in
    omega (arith, c.loop-after.invariant.count, last.1)
