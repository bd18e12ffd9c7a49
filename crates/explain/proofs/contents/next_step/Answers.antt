use Rattle.std.proofs.Common.{◌≡◌, None, Some, rules, false, sym, ap, ◌∙◌, subst, ◌++◌, ◌∷◌, arith}
use Rattle.std.specs.Str.{chars}
use Rattle.lexical.specs.Text.{begins_any}
use Rattle.explain.specs.Content.{line_ends}
use Rattle.explain.specs.Walk.{IsFront}
use Rattle.explain.proofs.ContentLemmas.{front_boundary, no_line_end, no_line_inside, step_fault, step_line, step_unit}
use Rattle.explain.proofs.contents.next_step.Goals as goal

pub returns-in-Some : goal.returns-in-Some
returns-in-Some c = step_line c.args.kind c.args.at c.in-Some.after c.args.end c.in-Some.ensures c.requires

pub read_front-requires : goal.read_front-requires
read_front-requires c =
    no_line_inside (chars c.content.result.now) (34 ∷ chars c.args.end.rest.now)
    (subst (λ t. begins_any line_ends t ≡ false)
    (c.requires.1 ∙ ap (λ t. t ++ (34 ∷ chars c.args.end.rest.now)) (sym (c.content.ensures 34 c.requires.0 (omega
    arith)
    c.requires.1)))
    (no_line_end (chars c.args.at.rest.now) c.in_default.ensures))

pub after_bytes-requires : goal.after_bytes-requires
after_bytes-requires c =
    front_boundary c.args.at c.args.end c.in-Some-None.field-0 c.args.kind c.requires.0 c.requires.1
    (subst (λ t. IsFront c.args.kind t c.in-Some-None.field-0)
    (c.content.ensures 34 c.requires.0 (omega arith) c.requires.1) c.in-Some-None.ensures)

pub after_bytes-requires-in-Some-Some : goal.after_bytes-requires-in-Some-Some
after_bytes-requires-in-Some-Some c =
    front_boundary c.args.at c.args.end c.in-Some-Some.field-0 c.args.kind c.requires.0 c.requires.1
    (subst (λ t. IsFront c.args.kind t c.in-Some-Some.field-0)
    (c.content.ensures 34 c.requires.0 (omega arith) c.requires.1) c.in-Some-Some.ensures)

pub returns-in-Some-None : goal.returns-in-Some-None
returns-in-Some-None c =
    let none : c.in-Some-None.field-0.error ≡ None = search rules in
    step_unit c.args.at c.after_bytes.result c.args.end c.in-Some-None.field-0
    (record { rest = c.after_bytes.ensures.rest; count = c.after_bytes.ensures.count }) c.args.kind c.requires.0
    c.requires.1
    (subst (λ t. IsFront c.args.kind t c.in-Some-None.field-0)
    (c.content.ensures 34 c.requires.0 (omega arith) c.requires.1) c.in-Some-None.ensures)
    none

pub returns-in-Some-Some : goal.returns-in-Some-Some
returns-in-Some-Some c =
    let some : c.in-Some-Some.field-0.error ≡ Some c.in-Some-Some.error = search rules in
    step_fault c.args.at c.after_bytes-in-Some-Some.result c.args.end c.in-Some-Some.field-0
    (record { rest = c.after_bytes-in-Some-Some.ensures.rest; count = c.after_bytes-in-Some-Some.ensures.count })
    c.args.kind c.in-Some-Some.error c.requires.0 c.requires.1
    (subst (λ t. IsFront c.args.kind t c.in-Some-Some.field-0)
    (c.content.ensures 34 c.requires.0 (omega arith) c.requires.1) c.in-Some-Some.ensures)
    some (no_line_end (chars c.args.at.rest.now) c.in_default.ensures)
