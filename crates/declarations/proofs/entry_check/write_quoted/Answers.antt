use Rattle.std.proofs.Common.{refl, true}
use Rattle.std.proofs.Output.{has_written_append}
use Rattle.declarations.proofs.ExpectedTextLemmas.{err_not_ok}
use Rattle.declarations.proofs.entry_check.write_quoted.Goals as goal

pub returns-in_err-write_str : goal.returns-in_err-write_str
returns-in_err-write_str g c =
    λ plain ok. absurd (err_not_ok c.from_residual.result c.from_residual.ensures.0 ok)

pub returns-in_err-write_str-2 : goal.returns-in_err-write_str-2
returns-in_err-write_str-2 g c =
    λ plain ok.
    absurd (err_not_ok c.from_residual-in_err-write_str-2.result c.from_residual-in_err-write_str-2.ensures.0 ok)

pub returns : goal.returns
returns g c = λ plain ok.
    let first = c.in_ok-write_str.ensures.writes plain (refl {a = true}) in
    let second = c.in_ok-write_str-2.ensures.writes first.plain (refl {a = true}) in
    let third = c.write_str-3.ensures.writes second.plain ok in
    has_written_append _ _ _ _ _ _ first (has_written_append _ _ _ _ _ _ second third)
