use Rattle.std.proofs.Common.{rules, string_bytes, Some, None, Ok, ◌≡◌, ap, ◌∙◌}
use Rattle.conformance.proofs.ComparisonLemmas.{IsComparison-more}
use Rattle.conformance.proofs.lines.compare_lines.Goals as goal
use Rattle.conformance.proofs.lines.compare_lines.Goals.{in-Some-2+in_ok-write_all, in_default}

pub loop-line-preserved : goal.loop-line-preserved
loop-line-preserved g c =
    let is : c.next.result ≡ Some (Ok c.in_ok-line.line) = c.in-Some.is ∙ ap Some c.in_ok-line.was in
    let cut = rw is at c.next.ensures.steps.1 in
    let line = string_bytes c.in_ok-line.line in
    let reported = rw c.as_str.ensures.value at c.in_ok-report.ensures in
    elim c.match-branch-3.branch [
      | in-Some-2+in_ok-write_all w ↦
          let report = rw w.in-Some-2.is at reported in
          IsComparison-more _ _ _ _ _ _ _ _ (Some (string_bytes w.in-Some-2.report)) c.loop-line.invariant
          (record { line = line; first = cut.0; rest = cut.1; report = report })
          (search rules) (search rules) (search rules)
      | in_default w ↦
          IsComparison-more _ _ _ _ _ _ _ _ None c.loop-line.invariant
          (record { line = line; first = cut.0; rest = cut.1; report = tt })
          (search rules) (search rules) (search rules)
    ]

pub returns : goal.returns
returns g c = (_, rw c.in-None.is at c.next.ensures.steps.1, c.loop-line.invariant)
