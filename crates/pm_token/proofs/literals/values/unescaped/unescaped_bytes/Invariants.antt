use Rattle.std.proofs.Common.{◌≡◌, ◌++◌}
use Rattle.literal_escaper.specs.Value.{units_of, last_fault_or}
use Rattle.pm_token.specs.Value.{bytes_of}
use Rattle.pm_token.proofs.literals.values.unescaped.unescaped_bytes.Given as goal

-- the value so far and the remaining units make up the result, with the last error of both
abbrev pub invariant-loop-unit : goal.invariant-loop-unit
invariant-loop-unit l = record {
  finite : (goal.iterator-loop-unit).can_next l.unit-iterator × (goal.iterator-loop-unit).is_finite l.unit-iterator;
  joined : bytes_of l.value ++ units_of l.unit-iterator ≡ units_of l.initial.unit-iterator;
  fault : last_fault_or l.fault l.unit-iterator ≡ last_fault_or l.initial.fault l.initial.unit-iterator;
}
