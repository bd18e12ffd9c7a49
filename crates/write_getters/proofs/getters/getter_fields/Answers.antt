use Rattle.std.proofs.Common.{◌∙◌, sym, subst, Some}
use Rattle.declarations.specs.List.{GivesField}
use Rattle.write_getters.proofs.FieldsLemmas.{collected_all, collected_put, collected_skip, name_put, nameless}
use Rattle.write_getters.proofs.getters.getter_fields.Goals as goal

pub loop-field-preserved-in_ok-add-2 : goal.loop-field-preserved-in_ok-add-2
loop-field-preserved-in_ok-add-2 c =
    let field = c.in_ok-field.field in
    collected_put c.args.fields c.loop-field.field-iterator c.next.new.self field c.loop-field.names.items
    c.loop-field.kinds.items c.add.new.list.items c.add-then-not-is_skipped.new.list.items c.in_ok-name.name
    c.in_ok-kind.field-0 c.loop-field.invariant
    (subst (λ r. GivesField c.loop-field.field-iterator (Some r) c.next.new.self) c.in_ok-field.was
    c.in-Some.ensures.steps)
    (sym c.is_skipped.ensures ∙ c.if-not-is_skipped.true)
    (name_put field c.in-Some-name.name c.in_ok-clone.field-0 c.in_ok-name.name c.in-Some-name.is
    c.in_ok-clone.ensures.cases c.in_ok-name.ensures.ok)
    c.in_ok-kind.ensures c.in_ok-add.ensures c.in_ok-add-2.ensures

pub loop-field-preserved-else-not-is_skipped : goal.loop-field-preserved-else-not-is_skipped
loop-field-preserved-else-not-is_skipped c =
    collected_skip c.args.fields c.loop-field.field-iterator c.next.new.self c.in_ok-field.field
    c.loop-field.names.items c.loop-field.kinds.items c.loop-field.invariant
    (subst (λ r. GivesField c.loop-field.field-iterator (Some r) c.next.new.self) c.in_ok-field.was
    c.in-Some.ensures.steps)
    (sym c.is_skipped.ensures ∙ c.if-not-is_skipped.false)

pub loop-field-preserved : goal.loop-field-preserved
loop-field-preserved c =
    let gives = subst (λ r. GivesField c.loop-field.field-iterator (Some r) c.next.new.self) c.in_ok-field.was
    c.in-Some.ensures.steps in
    absurd (nameless c.loop-field.field-iterator.named c.loop-field.field-iterator.left.now gives.0.0
    c.in_ok-field.field c.loop-field.invariant.named gives.0.1 c.in_default.is)

pub returns : goal.returns
returns c =
    collected_all c.args.fields c.loop-field.field-iterator c.next.new.self _ _ c.loop-field.invariant
    c.in-None.ensures.steps
