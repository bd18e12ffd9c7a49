use Rattle.std.proofs.Common.{◌++◌, ◌∙◌, ap, refl, sym, true}
use Rattle.std.proofs.Output.{has_written_of_eq}
use Rattle.std.proofs.lemmas.Result.{err_from_is_err_and}
use Rattle.std.specs.Str.{encode_utf8_all}
use Rattle.pm_stream.specs.Delimited.{opening}
use Rattle.pm_stream.specs.Printed.{space}
use Rattle.pm_stream.specs.PrintedTree.{ending, step_text}
use Rattle.pm_stream.specs.Steps.{step_of}
use Rattle.pm_stream.proofs.PrintLemmas.{spaced_written}
use Rattle.pm_stream.proofs.display.print_step.Goals as goal

pub returns-in_err-print_space-in-Enter-clause-writes : goal.returns-in_err-print_space-in-Enter-clause-writes
returns-in_err-print_space-in-Enter-clause-writes g c = λ plain ok.
    let p = err_from_is_err_and c.from_residual.result c.from_residual.ensures.1 in
    let never = rw p.1 at ok in absurd cc

pub returns-in_err-print_space-in-Enter-clause-gap : goal.returns-in_err-print_space-in-Enter-clause-gap
returns-in_err-print_space-in-Enter-clause-gap g c =
    let p = err_from_is_err_and c.from_residual.result c.from_residual.ensures.1 in rw p.1 tt

pub returns-in_err-print_space-in-Token-clause-writes : goal.returns-in_err-print_space-in-Token-clause-writes
returns-in_err-print_space-in-Token-clause-writes g c = λ plain ok.
    let back = c.from_residual-in_err-print_space-in-Token in
    let p = err_from_is_err_and back.result back.ensures.1 in
    let never = rw p.1 at ok in absurd cc

pub returns-in_err-print_space-in-Token-clause-gap : goal.returns-in_err-print_space-in-Token-clause-gap
returns-in_err-print_space-in-Token-clause-gap g c =
    let back = c.from_residual-in_err-print_space-in-Token in
    let p = err_from_is_err_and back.result back.ensures.1 in rw p.1 tt

pub returns-in_ok-print_space-in-Enter-clause-writes : goal.returns-in_ok-print_space-in-Enter-clause-writes
returns-in_ok-print_space-in-Enter-clause-writes g c = λ plain ok.
    let spaced = c.in_ok-print_space-in-Enter.ensures plain (refl {a = true}) in
    let opened = c.print_opening.ensures spaced.plain ok in
    spaced_written _ _ _ _ c.args.gap.now (opening c.delimiter-delimiter.result) _ spaced opened
    (ap (λ s. step_text c.args.gap.now (step_of s)) c.in-Enter.is
    ∙ ap (λ d. space c.args.gap.now ++ opening d) (sym c.delimiter-delimiter.ensures))

pub returns-in-Leave-clause-writes : goal.returns-in-Leave-clause-writes
returns-in-Leave-clause-writes g c = λ plain ok.
    has_written_of_eq _ _ _ _ _ (ap encode_utf8_all (ap ending c.delimiter.ensures
    ∙ ap (λ s. step_text c.args.gap.now (step_of s)) (sym c.in-Leave.is))) (c.print_ending.ensures plain ok)

pub returns-in_ok-print_space-in-Token-clause-writes : goal.returns-in_ok-print_space-in-Token-clause-writes
returns-in_ok-print_space-in-Token-clause-writes g c = λ plain ok.
    let spaced = c.in_ok-print_space-in-Token.ensures plain (refl {a = true}) in
    let front = c.print_front.ensures spaced.plain ok in
    spaced_written _ _ _ _ c.args.gap.now _ _ spaced front
    (ap (λ s. step_text c.args.gap.now (step_of s)) c.in-Token.is)
