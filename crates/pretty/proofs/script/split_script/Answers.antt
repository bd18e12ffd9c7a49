use Rattle.std.proofs.Common.{◌∙◌, refl, sym, ap}
use Rattle.std.specs.Str.{chars}
use Rattle.std.proofs.lemmas.Str.{chars-nil}
use Rattle.lexical.specs.Finder.{while_front, while_rest}
use Rattle.pretty.specs.Script.{in_line}
use Rattle.pretty.proofs.ScriptLemmas.{run_rest, run_whole}
use Rattle.pretty.proofs.script.split_script.Goals as goal

pub returns-then-not-is_script-clause-line : goal.returns-then-not-is_script-clause-line
returns-then-not-is_script-clause-line c = rw (sym c.is_script.ensures ∙ c.if-not-is_script.true) chars-nil

pub before-requires : goal.before-requires
before-requires c =
    let left = ap (λ t. while_rest in_line (chars t)) (sym c.new.ensures.rest)
    ∙ run_rest in_line _ c.skip_to.ensures.front _ c.skip_to.ensures.found in
    (while_front in_line (chars c.args.text.now), run_whole in_line _ _ left)

pub returns-clause-line : goal.returns-clause-line
returns-clause-line c =
    let left = ap (λ t. while_rest in_line (chars t)) (sym c.new.ensures.rest)
    ∙ run_rest in_line _ c.skip_to.ensures.front _ c.skip_to.ensures.found in
    rw (sym c.is_script.ensures ∙ c.if-not-is_script.false)
    (c.before-2.ensures (while_front in_line (chars c.args.text.now)) (run_whole in_line _ _ left))

pub returns-clause-code : goal.returns-clause-code
returns-clause-code c =
    let left = ap (λ t. while_rest in_line (chars t)) (sym c.new.ensures.rest)
    ∙ run_rest in_line _ c.skip_to.ensures.front _ c.skip_to.ensures.found in
    rw (sym c.is_script.ensures ∙ c.if-not-is_script.false) (sym left)
