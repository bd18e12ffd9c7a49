use Rattle.std.proofs.Common.{ap, rules, tests}
use Rattle.std.proofs.lemmas.Iterator.Consumers.{YieldsList-from_first}
use Rattle.std.proofs.lemmas.Iterator.Search.{any_from_yields_List}
use Rattle.declarations.specs.Attribute.{attributes_in, parts_of}
use Rattle.write_getters.specs.Fields.{is_skip}
use Rattle.write_getters.proofs.fields.is_skipped.Goals as goal

pub returns : goal.returns
returns c =
    any_from_yields_List is_skip c.any.new.self _ c.any.result c.any.ensures.ran
    (YieldsList-from_first parts_of (λ list. attributes_in list.left.now) _ (ap attributes_in c.new.ensures))
    (λ x b q k. search (rules, tests))
