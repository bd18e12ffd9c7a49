use Rattle.std.proofs.Common.{◌≡◌, ◌++◌, drop}
use Rattle.find_calls.specs.Opened.{call_spans}
use Rattle.find_calls.proofs.calls.spans_of_calls.Given as goal

-- the spans so far and those of the candidates that are left are all
abbrev pub invariant-loop-one : goal.invariant-loop-one
invariant-loop-one l = l.spans.items ++ call_spans (drop l.one-index l.found) ≡ call_spans l.found
