use Rattle.std.proofs.Common.{rules, string_bytes}
use Rattle.conformance.specs.Comparison.{by_answer}
use Rattle.conformance.proofs.lines.difference.Goals as goal

pub returns : goal.returns
returns c = by_answer (string_bytes c.match-answer_to.here) (search rules)
