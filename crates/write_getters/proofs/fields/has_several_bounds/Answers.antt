use Rattle.std.proofs.Common.{◌∷◌, ◌∙◌, ap, rules, tests}
use Rattle.std.proofs.lemmas.Iterator.{YieldsList-from_slice}
use Rattle.std.proofs.lemmas.Iterator.Search.{any_from_yields_List}
use Rattle.write_getters.specs.Fields.{is_plus}
use Rattle.write_getters.proofs.FieldsLemmas.{several}
use Rattle.write_getters.proofs.fields.has_several_bounds.Goals as goal

pub returns-in-Some-Ident-default : goal.returns-in-Some-Ident-default
returns-in-Some-Ident-default c =
    let found = c.in-Some-Ident-default in
    several c.args.field.now.field_type.now found.bounds.now found.word c.any.result
    (found.ensures.cases.0 ∙ ap (λ tree. tree ∷ found.bounds.now) found.field-0-0-is) (search (rules, tests))
    (any_from_yields_List is_plus c.any.new.self _ c.any.result c.any.ensures.ran
    (YieldsList-from_slice found.bounds.now cc) (λ x b q k. search (rules, tests)))
