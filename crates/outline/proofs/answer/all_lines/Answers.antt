use Rattle.std.proofs.Common.{◌≡◌, ◌∙◌, ◌++◌, ◌∷◌, [], ap, append-nil, map, option_map, string_bytes, sym}
use Rattle.std.specs.Option.{option_to_list}
use Rattle.outline.specs.Answer.{lines_of}
use Rattle.outline.specs.Outline.{entry_of_value}
use Rattle.outline.proofs.AnswerLemmas.{lines_end, lines_entry}
use Rattle.outline.proofs.FilesLemmas.{texts_append}
use Rattle.outline.proofs.answer.all_lines.Goals as goal
use Rattle.outline.proofs.answer.all_lines.Goals.{in-Some+in_ok-push, in_default}

pub loop-entry-init : goal.loop-entry-init
loop-entry-init c = λ text of.
    ap (λ ls. map string_bytes ls ++ lines_of c.args.form c.args.path.now text (map entry_of_value c.args.entries.now))
    c.new-lines.ensures.items

pub loop-entry-preserved : goal.loop-entry-preserved
loop-entry-preserved c = λ text of.
    let old = c.loop-entry.lines.items in
    let line = c.in_ok-line.field-0 in
    let put : map string_bytes c.match-branch-2.lines.items
    ≡ map string_bytes old ++ option_to_list (option_map string_bytes line) =
    elim c.match-branch-2.branch [
      | in-Some+in_ok-push w ↦
          ap (λ v. map string_bytes v.items) w.lines-is ∙ ap (map string_bytes) w.in_ok-push.ensures.items
          ∙ texts_append old (w.in-Some.line ∷ [])
          ∙ ap (λ o. map string_bytes old ++ option_to_list (option_map string_bytes o)) (sym w.in-Some.is)
      | in_default w ↦
          ap (λ v. map string_bytes v.items) w.lines-is ∙ sym (append-nil (map string_bytes old))
          ∙ ap (λ o. map string_bytes old ++ option_to_list (option_map string_bytes o)) (sym w.in_default.is)
    ] in
    lines_entry c.args.form c.args.path.now text c.args.entries.now c.loop-entry.entry-index c.entry-item.result
    (option_to_list (option_map string_bytes line)) (map string_bytes old)
    (map string_bytes c.match-branch-2.lines.items) _ c.loop-entry-test.true c.entry-item.is
    (ap option_to_list (c.in_ok-line.ensures text of)) put (c.loop-entry.invariant text of)

pub returns : goal.returns
returns c = λ text of.
    lines_end c.args.form c.args.path.now text c.args.entries.now c.loop-entry.entry-index
    (map string_bytes c.loop-entry.lines.items) _ c.loop-entry-test.false (c.loop-entry.invariant text of)
