use Rattle.std.proofs.Common.{◌-◌, ◌≡◌, refl, ap, ◌∙◌, arith}
use Rattle.pm_span.specs.CharOffset.{line_column}
use Rattle.pm_span.proofs.ConsecutiveLemmas.{found_none, found_some, holds_at, of_each, line_column-nil}
use Rattle.pm_span.proofs.source_map.SourceMap.line_column.Goals as goal

pub line_column-requires : goal.line_column-requires
line_column-requires c =
    let found = found_some refl c.in-Some.is c.file_of.ensures.found in
    let within = (holds_at (record { lo = c.args.position; hi = c.args.position }) found (omega arith)).1 c.requires in
    omega (arith, within, c.lo.ensures)

pub returns-in-None : goal.returns-in-None
returns-in-None c = λ text lo file.
    of_each (record { lo = c.args.position; hi = c.args.position })
    (λ n t l. record { line = 1; column = 0 } ≡ line_column t (c.args.position - l))
    (found_none refl c.in-None.is c.file_of.ensures.found) (omega arith)
    (line_column-nil (c.args.position - 0)) text lo file

pub returns-in-Some : goal.returns-in-Some
returns-in-Some c = λ text lo file.
    of_each (record { lo = c.args.position; hi = c.args.position })
    (λ n t l. c.line_column.result ≡ line_column t (c.args.position - l))
    (found_some refl c.in-Some.is c.file_of.ensures.found) (omega arith)
    (c.line_column.ensures ∙ ap (λ l. line_column c.in-Some.file.now.text (c.args.position - l)) c.lo.ensures) text lo
    file
