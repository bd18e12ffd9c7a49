use Rattle.write_getters.proofs.FieldsLemmas.{Collected}
use Rattle.write_getters.proofs.getters.getter_fields.Given as goal

abbrev pub invariant-loop-field : goal.invariant-loop-field
invariant-loop-field l = Collected l.fn.fields l.field-iterator l.names.items l.kinds.items
