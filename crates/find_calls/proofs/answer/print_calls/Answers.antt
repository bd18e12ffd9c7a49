use Rattle.std.proofs.Common.{◌≡◌, ◌∙◌, Err, None, refl, sym, ap, subst, rules, inl, inr}
use Rattle.std.specs.List.{AllByRecursion as Each}
use Rattle.std.specs.Str.{chars}
use Rattle.std.specs.Io.KnownBytes.{Appends}
use Rattle.memchr.specs.Find.{FindsNeedle}
use Rattle.pm_span.specs.Files.{Files, Holds, new_map, with_file}
use Rattle.messages.proofs.ParsedLemmas.{Keeps-same}
use Rattle.find_calls.specs.Answer.{StartsIn, are_some, lines}
use Rattle.find_calls.specs.Calls.{calls}
use Rattle.token_buffer.specs.declared.errors.BufferError.TheVariants.{Parse}
use Rattle.find_calls.proofs.CallLemmas.{both_held, fault_is_held, lex_of, some_if, unread_may_fail}
use Rattle.find_calls.proofs.answer.print_calls.Goals as goal

pub returns-then-is_none-clause-ok : goal.returns-then-is_none-clause-ok
returns-then-is_none-clause-ok g c =
    let none : c.find.result ≡ None = search rules in
    let found : FindsNeedle c.args.text.now c.args.name.now 0 c.find.result
    = rw (c.as_bytes.ensures.value, c.as_bytes-2.ensures.value) at c.find.ensures in
    inl (subst (FindsNeedle c.args.text.now c.args.name.now 0) none found, Keeps-same _, refl)

pub parse_failure-requires : goal.parse_failure-requires
parse_failure-requires g c =
    let map = c.in_ok-add_file.ensures.ok ∙ ap (λ (m : Files). with_file m (chars c.args.text.now)) c.new-map.ensures in
    let is = c.in-Err-Parse.field-0-is ∙ ap Parse (sym c.in-Err-Parse.error-is) in
    fault_is_held _ (chars c.args.text.now) _ map
    (lex_of c.in-Err-Parse.field-0 _ is _ c.in-Err-Parse.ensures.fault.lex)

pub returns-in-Err-Parse-clause-err : goal.returns-in-Err-Parse-clause-err
returns-in-Err-Parse-clause-err g c =
    let map = c.in_ok-add_file.ensures.ok ∙ ap (λ (m : Files). with_file m (chars c.args.text.now)) c.new-map.ensures in
    let is = c.in-Err-Parse.field-0-is ∙ ap Parse (sym c.in-Err-Parse.error-is) in
    inl (unread_may_fail (chars c.args.text.now) _ _ _ _ map
    (lex_of c.in-Err-Parse.field-0 _ is _ c.in-Err-Parse.ensures.fault.lex)
    (λ full. (c.in-Err-Parse.ensures.map_full.0 (ap Err (is ∙ ap Parse full))).1) c.parse_failure.ensures.fault
    c.parse_failure.ensures.map_full c.parse_failure.ensures.memory)

pub print_lines-requires : goal.print_lines-requires
print_lines-requires g c =
    let spans = c.as_slice.ensures.value ∙ (c.in_ok-spans.ensures ∙ ap (calls c.args.name.now) c.begin.ensures) in
    let map = c.in_ok-add_file.ensures.ok ∙ ap (λ (m : Files). with_file m (chars c.args.text.now)) c.new-map.ensures in
    let held = both_held c.args.name.now (chars c.args.text.now) c.in-Ok.buffer c.in-Ok.ensures.ok in
    subst (λ m. Each (Holds m) c.as_slice.result.now) (sym map)
    (subst (Each (Holds (with_file new_map (chars c.args.text.now)))) (sym spans) held.0)

pub returns-clause-ok : goal.returns-clause-ok
returns-clause-ok g c =
    let spans = c.as_slice.ensures.value ∙ (c.in_ok-spans.ensures ∙ ap (calls c.args.name.now) c.begin.ensures) in
    let map = c.in_ok-add_file.ensures.ok ∙ ap (λ (m : Files). with_file m (chars c.args.text.now)) c.new-map.ensures in
    let held = both_held c.args.name.now (chars c.args.text.now) c.in-Ok.buffer c.in-Ok.ensures.ok in
    let starts = subst (λ m. Each (StartsIn m (chars c.args.text.now)) c.as_slice.result.now) (sym map)
    (subst (Each (StartsIn (with_file new_map (chars c.args.text.now)) (chars c.args.text.now))) (sym spans) held.1) in
    inr (
      c.in-Ok.buffer,
      c.in-Ok.ensures.ok,
      subst (λ xs. Appends (g.W.Write.contents c.args.writer.now) (g.W.Write.contents c.print_lines.new.to)
          (lines c.args.path.now (chars c.args.text.now) xs)) spans
          (c.in_ok-print_lines.ensures (chars c.args.text.now) starts),
      some_if c.in_ok-spans.spans.items c.is_empty.result (search (rules, c.is_empty.ensures))
          ∙ ap are_some (c.in_ok-spans.ensures ∙ ap (calls c.args.name.now) c.begin.ensures),
    )
