use Rattle.std.proofs.lemmas.Result.{err_from_is_err_and}
use Rattle.declarations.proofs.ParamLemmas.{Bounded, Named, bounds_fail, default_fails, name_fails}
use Rattle.declarations.proofs.ParamRuleLemmas.{attributes_stick, bounds_stick, default_sticks, name_sticks}
use Rattle.declarations.proofs.ParamRuleLemmas.{parameter_finds}
use Rattle.declarations.proofs.param_parts.param_of.Goals as goal

pub returns-in_err-attributes-clause-nothing : goal.returns-in_err-attributes-clause-nothing
returns-in_err-attributes-clause-nothing c =
    let p = err_from_is_err_and c.from_residual.result c.from_residual.ensures.1 in
    rw p.1 (λ param rest is. c.in_err-attributes.ensures.parts.nothing param.attributes is.from_name is.attributes)

pub returns-in_err-kind-clause-nothing : goal.returns-in_err-kind-clause-nothing
returns-in_err-kind-clause-nothing c =
    let p = err_from_is_err_and c.from_residual-in_err-kind.result c.from_residual-in_err-kind.ensures.1 in
    rw p.1 (name_fails c.args.trees.now c.in_ok-attributes.attributes.now c.in_ok-attributes.from_name.now
    c.in_err-kind.field-0.0.now c.in_ok-attributes.ensures.parts c.in_err-kind.ensures.nothing)

pub returns-in_err-bounds-clause-nothing : goal.returns-in_err-bounds-clause-nothing
returns-in_err-bounds-clause-nothing c =
    let p = err_from_is_err_and c.from_residual-in_err-bounds.result c.from_residual-in_err-bounds.ensures.1 in
    let named : Named c.args.trees.now c.in_ok-attributes.attributes.now c.in_ok-kind.kind c.in_ok-kind.name.now
    c.in_ok-kind.from_bounds.now = record {
      from_name = c.in_ok-attributes.from_name.now;
      attributes_read = c.in_ok-attributes.ensures.parts;
      name_read = c.in_ok-kind.ensures.ok;
    } in
    rw p.1 (bounds_fail c.args.trees.now c.in_ok-attributes.attributes.now c.in_ok-kind.kind
    c.in_ok-kind.name.now c.in_ok-kind.from_bounds.now c.in_err-bounds.field-0.0.now named
    c.in_err-bounds.ensures.parts)

pub returns-in_err-default-clause-nothing : goal.returns-in_err-default-clause-nothing
returns-in_err-default-clause-nothing c =
    let p = err_from_is_err_and c.from_residual-in_err-default.result c.from_residual-in_err-default.ensures.1 in
    let bounded : Bounded c.args.trees.now c.in_ok-attributes.attributes.now c.in_ok-kind.kind c.in_ok-kind.name.now
    c.in_ok-bounds.bounds.now c.in_ok-bounds.from_default.now = record {
      from_bounds = c.in_ok-kind.from_bounds.now;
      named = record {
        from_name = c.in_ok-attributes.from_name.now;
        attributes_read = c.in_ok-attributes.ensures.parts;
        name_read = c.in_ok-kind.ensures.ok;
      };
      bounds_read = c.in_ok-bounds.ensures.parts;
    } in
    rw p.1 (default_fails c.args.trees.now c.in_ok-attributes.attributes.now c.in_ok-kind.kind
    c.in_ok-kind.name.now c.in_ok-bounds.bounds.now c.in_ok-bounds.from_default.now c.in_err-default.field-0.0.now
    bounded c.in_err-default.ensures.parts)

pub returns-in_err-attributes-clause-rule : goal.returns-in_err-attributes-clause-rule
returns-in_err-attributes-clause-rule c =
    let p = err_from_is_err_and c.from_residual.result c.from_residual.ensures.1 in
    rw (p.1, p.2) (attributes_stick c.args.trees.now c.in_err-attributes.field-0.0.now
    c.in_err-attributes.ensures.rule)

pub returns-in_err-kind-clause-rule : goal.returns-in_err-kind-clause-rule
returns-in_err-kind-clause-rule c =
    let p = err_from_is_err_and c.from_residual-in_err-kind.result c.from_residual-in_err-kind.ensures.1 in
    rw (p.1, p.2) (name_sticks c.args.trees.now c.in_ok-attributes.from_name.now c.in_ok-attributes.ensures.rule
    c.in_err-kind.field-0.0.now c.in_err-kind.ensures.rule)

pub returns-in_err-bounds-clause-rule : goal.returns-in_err-bounds-clause-rule
returns-in_err-bounds-clause-rule c =
    let p = err_from_is_err_and c.from_residual-in_err-bounds.result c.from_residual-in_err-bounds.ensures.1 in
    rw (p.1, p.2) (bounds_stick c.args.trees.now c.in_ok-attributes.from_name.now c.in_ok-attributes.ensures.rule
    c.in_ok-kind.kind c.in_ok-kind.from_bounds.now c.in_ok-kind.ensures.rule c.in_err-bounds.field-0.0.now
    c.in_err-bounds.ensures.rule)

pub returns-in_err-default-clause-rule : goal.returns-in_err-default-clause-rule
returns-in_err-default-clause-rule c =
    let p = err_from_is_err_and c.from_residual-in_err-default.result c.from_residual-in_err-default.ensures.1 in
    rw (p.1, p.2) (default_sticks c.args.trees.now c.in_ok-attributes.from_name.now c.in_ok-attributes.ensures.rule
    c.in_ok-kind.kind c.in_ok-kind.from_bounds.now c.in_ok-kind.ensures.rule c.in_ok-bounds.from_default.now
    c.in_ok-bounds.ensures.rule c.in_err-default.field-0.0.now c.in_err-default.ensures.rule)

pub returns-clause-rule : goal.returns-clause-rule
returns-clause-rule c =
    parameter_finds c.args.trees.now c.in_ok-attributes.from_name.now c.in_ok-attributes.ensures.rule
    c.in_ok-kind.kind c.in_ok-kind.from_bounds.now c.in_ok-kind.ensures.rule c.in_ok-bounds.from_default.now
    c.in_ok-bounds.ensures.rule c.in_ok-default.from_end.now c.in_ok-default.ensures.rule
