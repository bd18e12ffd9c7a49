use Rattle.std.proofs.Common.{refl, true}
use Rattle.std.proofs.Output.{has_written_append}
use Rattle.declarations.proofs.ExpectedTextLemmas.{err_not_ok}
use Rattle.declarations.proofs.expected_text.write_both.Goals as goal

pub returns-in_err-write_str : goal.returns-in_err-write_str
returns-in_err-write_str g c =
    λ plain ok. absurd (err_not_ok c.from_residual.result c.from_residual.ensures.0 ok)

pub returns : goal.returns
returns g c = λ plain ok.
    let first = c.in_ok-write_str.ensures.writes plain (refl {a = true}) in
    has_written_append _ _ _ _ _ _ first (c.write_str-2.ensures.writes first.plain ok)
