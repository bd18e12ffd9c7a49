use Rattle.std.proofs.Common.{refl, true}
use Rattle.std.proofs.Output.{has_written_append}
use Rattle.declarations.proofs.ExpectedTextLemmas.{err_not_ok}
use Rattle.declarations.proofs.entry_check.write_next.Goals as goal

pub returns-in_err-write_str : goal.returns-in_err-write_str
returns-in_err-write_str g c =
    λ plain ok. absurd (err_not_ok c.from_residual.result c.from_residual.ensures.0 ok)

pub returns : goal.returns
returns g c = λ plain ok.
    let comma = c.in_ok-write_str.ensures.writes plain (refl {a = true}) in
    has_written_append _ _ _ _ _ _ comma (c.write_quoted.ensures comma.plain ok)
