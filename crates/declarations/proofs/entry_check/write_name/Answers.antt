use Rattle.std.proofs.Common.{[], refl, true}
use Rattle.std.proofs.Output.{has_written_append}
use Rattle.declarations.proofs.ExpectedTextLemmas.{err_not_ok}
use Rattle.declarations.proofs.entry_check.write_name.Goals as goal

pub returns-in_err-write_str-in-Some : goal.returns-in_err-write_str-in-Some
returns-in_err-write_str-in-Some g c =
    λ plain ok. absurd (err_not_ok c.from_residual.result c.from_residual.ensures.0 ok)

pub returns-in_err-fmt-in-Some : goal.returns-in_err-fmt-in-Some
returns-in_err-fmt-in-Some g c =
    let made = c.from_residual-in_err-fmt-in-Some in
    λ plain ok. absurd (err_not_ok made.result made.ensures.0 ok)

pub returns-in_ok-fmt-in-Some : goal.returns-in_ok-fmt-in-Some
returns-in_ok-fmt-in-Some g c = λ plain ok.
    let begin = c.in_ok-write_str-in-Some.ensures.writes plain (refl {a = true}) in
    let name = c.in_ok-fmt-in-Some.ensures.writes begin.plain (refl {a = true}) in
    let close = c.write_str-in-Some.ensures.writes name.plain ok in
    rw c.in-Some.is
    (has_written_append _ _ _ _ _ _ begin (has_written_append _ _ _ _ _ _ name close))

pub returns-in-None : goal.returns-in-None
returns-in-None g c = λ plain ok.
    rw c.in-None.is (record { wrote = record { parts = []; calls = refl; whole = refl }; plain = plain })
