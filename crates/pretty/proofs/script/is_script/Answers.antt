use Rattle.std.proofs.Common.{codes, sym, ap, ◌∙◌, not}
use Rattle.std.specs.Str.{chars}
use Rattle.lexical.specs.Class.{is_white}
use Rattle.lexical.specs.Text.{begins_with}
use Rattle.lexical.proofs.RuleSteps.{lacks_text, past_text}
use Rattle.pretty.proofs.ScriptLemmas.{run_rest, script_is, script_none}
use Rattle.pretty.proofs.script.is_script.Goals as goal

pub returns-in-Some : goal.returns-in-Some
returns-in-Some c =
    let split = ap chars (sym c.new.ensures.rest) ∙ (past_text _ c.new.result c.in-Some.code c.in-Some.ensures).0 in
    let left = run_rest is_white _ c.skip.ensures.front _ c.skip.ensures.found in
    ap not c.begins.ensures ∙ sym (script_is (chars c.args.text.now) _ _ split left)

pub returns-in-None : goal.returns-in-None
returns-in-None c =
    let lacks = ap (λ t. begins_with (codes "#!") (chars t)) (sym c.new.ensures.rest)
    ∙ lacks_text (codes "#!") _ c.in-None.ensures in
    sym (script_none (chars c.args.text.now) lacks)
