-- The counts after one more piece.
use Rattle.std.proofs.Common.{◌≡◌, ◌+◌, ◌≤◌, cond, Bool, List, ◌++◌, length, length-append}
use Rattle.std.proofs.Common.{ap, ◌∙◌, arith}
use Rattle.std.specs.List.{count_by}
use Rattle.std.proofs.lemmas.List.Sums.{sum_by-append}
use Rattle.lexical.specs.Found.{kind_of}
use Rattle.lexical.proofs.PieceFacts.{piece_not_empty}
use Rattle.pm_stream.specs.Events.{Event}
use Rattle.pm_stream.specs.Taken.{IsTakenTo, Waiting, past}
use Rattle.pm_stream.specs.declared.reading.Lexed.{Lexed}
use Rattle.count_tokens.specs.Counted.{Counted, begins_group, counts_of, is_literal, is_mark, is_name}
use Rattle.count_tokens.specs.declared.Counts.{Counts}

count_by-append : (p : Event → Bool) (es fs : List Event) → count_by p (es ++ fs) ≡ count_by p es + count_by p fs
count_by-append p es fs = sum_by-append (λ x. cond (p x) 1 0) es fs

same_counts : (a b : Counts) → a.names ≡ b.names → a.marks ≡ b.marks → a.literals ≡ b.literals → a.groups ≡ b.groups
    → a ≡ b
same_counts a b names marks literals groups = λ i.
    record { names = names i; marks = marks i; literals = literals i; groups = groups i }

module _ (old : Counts) (lexed : Lexed) (to : IsTakenTo Counted old lexed) where
  -- counting the events of a piece keeps the invariant
  pub count_step : (new : Counts) (opened : List Waiting) (es : List Event) → length es ≤ 7
      → new.names ≡ old.names + count_by is_name es → new.marks ≡ old.marks + count_by is_mark es
      → new.literals ≡ old.literals + count_by is_literal es → new.groups ≡ old.groups + count_by begins_group es
      → Counted new (past to.before to.is.found.front opened es)
  count_step new opened es most names marks literals groups =
      let before = to.before.events in
      let found = to.is.found in
      let kind = kind_of lexed.piece.kind found.front in
      let some = piece_not_empty to.is.first kind found.front found.rest found.stands in
      let was = to.takes.counts in
      record {
        counts = same_counts new (counts_of (before ++ es))
            (names ∙ omega (arith, ap (λ (c : Counts). c.names) was, count_by-append is_name before es))
            (marks ∙ omega (arith, ap (λ (c : Counts). c.marks) was, count_by-append is_mark before es))
            (literals ∙ omega (arith, ap (λ (c : Counts). c.literals) was, count_by-append is_literal before es))
            (groups ∙ omega (arith, ap (λ (c : Counts). c.groups) was, count_by-append begins_group before es));
        few = omega (
          arith,
          to.takes.few,
          most,
          length-append before es,
          length-append to.before.passed found.front,
          ap length some.2,
        );
      }
