use Rattle.std.proofs.Common.{rules, true, false, codes, refl, sym, ap}
use Rattle.std.specs.Str.{chars}
use Rattle.lexical.specs.Class.{is_ident_start}
use Rattle.lexical.specs.Text.{begins_with}
use Rattle.lexical.specs.Identifier.{name, raw_name}
use Rattle.lexical.specs.Rule.{Exactly}
use Rattle.lexical.proofs.RuleSteps.{lacks_text, past_text, one_passes, passes_whole, then_passes, apart_passes}
use Rattle.lexical.proofs.AnswerLemmas.{name_read, name_lacks}
use Rattle.lexical.proofs.identifiers.identifier.Goals as goal

pub before-requires : goal.before-requires
before-requires c = passes_whole raw_name (tt, tt) _ _ c.in_ok-end.ensures

pub returns-in_err-end : goal.returns-in_err-end
returns-in_err-end c =
    let nothing = name_lacks c.args.at c.in-Some.inside
    (sym c.if-begins_literal.ensures) c.in-Some.ensures c.in_err-end.ensures in
    search (rules, nothing)

pub returns-in-Some : goal.returns-in-Some
returns-in-Some c =
    let split = (past_text (codes "r#") c.args.at c.in-Some.inside c.in-Some.ensures).0 in
    name_read true c.args.at c.in-Some.inside c.in_ok-end.end _ split (ap (begins_with (codes "r#")) split)
    (sym c.if-begins_literal.ensures)
    (then_passes (Exactly (codes "r#")) raw_name _ _ _ c.in-Some.ensures c.in_ok-end.ensures) c.before-in-Some.ensures
    c.before-in-Some.utf8

pub before-requires-2 : goal.before-requires-2
before-requires-2 c =
    passes_whole name (tt, tt) _ _
    (then_passes _ _ _ _ _ (one_passes is_ident_start _ c.args.at c.args.after c.requires.split c.requires.one
    c.requires.starts) c.skip-end.ensures)

pub returns : goal.returns
returns c =
    let plain = lacks_text (codes "r#") (chars c.args.at.rest.now) c.in_default.ensures in
    let passes = then_passes _ _ _ _ _
    (one_passes is_ident_start _ c.args.at c.args.after c.requires.split c.requires.one c.requires.starts)
    c.skip-end.ensures in
    name_read false c.args.at c.args.at c.skip-end.result _ refl plain (sym c.if-begins_literal.ensures)
    (apart_passes (codes "r#") name _ _ plain passes) c.before-2.ensures c.before-2.utf8
