use Rattle.declarations.proofs.ParameterLemmas.{whole_fails, whole_finds, whole_parts}
use Rattle.declarations.proofs.parameter.parameter_of.Goals as goal

pub returns-in-Ok-rest_of : goal.returns-in-Ok-rest_of
returns-in-Ok-rest_of c =
    let named = c.in-Ok-rest_of.ensures in
    let parts = whole_parts c.args.trees.now c.in-Ok.after.now c.part-attributes.result.now
    c.in-Ok-rest_of.named.pattern.now c.in-Ok-rest_of.rest.now c.in-Ok-rest_of.named.kind c.in-Ok.ensures
    c.part-attributes.ensures named.1 in (
      whole_finds c.args.trees.now c.in-Ok.after.now c.in-Ok-rest_of.rest.now c.in-Ok.ensures named.0,
      parts.0,
      parts.1,
      parts.2,
    )

pub returns-in-Err-rest_of : goal.returns-in-Err-rest_of
returns-in-Err-rest_of c =
    whole_fails c.args.trees.now c.in-Ok.after.now c.in-Err-rest_of.left.now c.in-Ok.ensures c.in-Err-rest_of.ensures
