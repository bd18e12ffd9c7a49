use Rattle.std.proofs.Common.{◌∙◌, refl, sym}
use Rattle.declarations.specs.rules.Parameters as rule
use Rattle.declarations.proofs.ParameterLemmas.{plain_reads}
use Rattle.declarations.proofs.ReaderLemmas.{lacks}
use Rattle.declarations.proofs.parameter.plain_pattern.Goals as goal

pub returns-then-begins_plain : goal.returns-then-begins_plain
returns-then-begins_plain c =
    plain_reads c.args.trees.now c.pattern_rest.result (sym c.begins_plain.ensures ∙ c.if-begins_plain.true)
    c.pattern_rest.ensures

pub returns-else-begins_plain : goal.returns-else-begins_plain
returns-else-begins_plain c =
    lacks rule.plain_pattern c.args.trees.now (sym c.begins_plain.ensures ∙ c.if-begins_plain.false) refl
