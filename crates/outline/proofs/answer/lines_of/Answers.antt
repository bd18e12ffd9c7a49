use Rattle.std.proofs.Common.{Err, ap, map, string_bytes, sym, ◌∙◌}
use Rattle.std.specs.Str.{chars}
use Rattle.token_buffer.specs.declared.errors.BufferError.TheVariants.{Parse}
use Rattle.outline.proofs.AnswerLemmas.{buffer_lists, buffer_unlisted, fault_is_held, lex_of, unread_may_fail}
use Rattle.outline.proofs.answer.lines_of.Goals as goal

pub parse_failure-requires : goal.parse_failure-requires
parse_failure-requires c =
    let is = c.in-Err-Parse.field-0-is ∙ ap Parse (sym c.in-Err-Parse.error-is) in
    fault_is_held c.in_ok-map.map (chars c.args.text.now) c.in-Err-Parse.error c.in_ok-map.ensures.ok
    (lex_of c.in-Err-Parse.field-0 c.in-Err-Parse.error is _ c.in-Err-Parse.ensures.fault.lex)

pub returns-in-Err-Parse-clause-err : goal.returns-in-Err-Parse-clause-err
returns-in-Err-Parse-clause-err c =
    let is = c.in-Err-Parse.field-0-is ∙ ap Parse (sym c.in-Err-Parse.error-is) in
    unread_may_fail (chars c.args.text.now) c.in_ok-map.map c.in-Err-Parse.error c.parse_failure.result
    c.in_ok-map.ensures.ok (lex_of c.in-Err-Parse.field-0 c.in-Err-Parse.error is _ c.in-Err-Parse.ensures.fault.lex)
    (λ full. (c.in-Err-Parse.ensures.map_full.0 (ap Err (is ∙ ap Parse full))).1) c.parse_failure.ensures.fault
    c.parse_failure.ensures.map_full c.parse_failure.ensures.memory

pub returns-in-Ok-2-clause-ok : goal.returns-in-Ok-2-clause-ok
returns-in-Ok-2-clause-ok c =
    let text = chars c.args.text.now in
    let listed = rw c.in-Ok-2.is at (c.in_ok-lines.ensures.ok text c.in_ok-map.ensures.ok) in
    buffer_lists c.args.form c.args.path.now text c.in-Ok.buffer c.begin.result
    (map string_bytes c.in-Ok-2.lines.items) c.in-Ok.ensures.ok c.begin.ensures listed

pub returns-clause-none : goal.returns-clause-none
returns-clause-none c =
    let never = rw c.in-Err.is at c.in_ok-lines.ensures.none in
    buffer_unlisted (chars c.args.text.now) c.in-Ok.buffer c.begin.result c.in-Ok.ensures.ok c.begin.ensures never
