use Rattle.std.proofs.Common.{refl, true}
use Rattle.std.proofs.Output.{has_written_append, has_written_of_eq}
use Rattle.declarations.proofs.EntryCheckLemmas.{missing_text, repeated_text, unknown_text}
use Rattle.declarations.proofs.ExpectedTextLemmas.{err_not_ok}
use Rattle.declarations.proofs.entry_check.EntryErrorDisplay.fmt.Goals as goal

pub returns-in-NoEntry-clause-writes : goal.returns-in-NoEntry-clause-writes
returns-in-NoEntry-clause-writes g c = λ plain ok.
    has_written_of_eq g.W.Write.write_str_gives _ _ _ _ (missing_text c.args.self.now c.in-NoEntry.is)
    (c.write_message.ensures plain ok)

pub returns-in_err-write_str-in-Unknown-clause-writes : goal.returns-in_err-write_str-in-Unknown-clause-writes
returns-in_err-write_str-in-Unknown-clause-writes g c =
    let made = c.from_residual in
    λ plain ok. absurd (err_not_ok made.result made.ensures.0 ok)

pub returns-in_err-write_str-in-Unknown-clause-styled : goal.returns-in_err-write_str-in-Unknown-clause-styled
returns-in_err-write_str-in-Unknown-clause-styled g c = tt

pub returns-in_err-write_name-in-Unknown-clause-writes : goal.returns-in_err-write_name-in-Unknown-clause-writes
returns-in_err-write_name-in-Unknown-clause-writes g c =
    let made = c.from_residual-in_err-write_name-in-Unknown in
    λ plain ok. absurd (err_not_ok made.result made.ensures.0 ok)

pub returns-in_err-write_name-in-Unknown-clause-styled : goal.returns-in_err-write_name-in-Unknown-clause-styled
returns-in_err-write_name-in-Unknown-clause-styled g c = tt

pub returns-in_err-write_str-in-Repeated-clause-writes : goal.returns-in_err-write_str-in-Repeated-clause-writes
returns-in_err-write_str-in-Repeated-clause-writes g c =
    let made = c.from_residual-in_err-write_str-in-Repeated in
    λ plain ok. absurd (err_not_ok made.result made.ensures.0 ok)

pub returns-in_err-write_str-in-Repeated-clause-styled : goal.returns-in_err-write_str-in-Repeated-clause-styled
returns-in_err-write_str-in-Repeated-clause-styled g c = tt

pub returns-in-NoEntry-clause-styled : goal.returns-in-NoEntry-clause-styled
returns-in-NoEntry-clause-styled g c = tt

pub returns-in_ok-write_name-in-Unknown-clause-writes : goal.returns-in_ok-write_name-in-Unknown-clause-writes
returns-in_ok-write_name-in-Unknown-clause-writes g c = λ plain ok.
    let first = c.in_ok-write_str-in-Unknown.ensures.writes plain (refl {a = true}) in
    let name = c.in_ok-write_name-in-Unknown.ensures first.plain (refl {a = true}) in
    has_written_of_eq g.W.Write.write_str_gives _ _ _ _ (unknown_text c.args.self.now c.in-Unknown.is)
    (has_written_append _ _ _ _ _ _ first (has_written_append _ _ _ _ _ _ name (c.write_known.ensures name.plain ok)))

pub returns-in_ok-write_name-in-Unknown-clause-styled : goal.returns-in_ok-write_name-in-Unknown-clause-styled
returns-in_ok-write_name-in-Unknown-clause-styled g c = tt

pub returns-in_ok-write_str-in-Repeated-clause-writes : goal.returns-in_ok-write_str-in-Repeated-clause-writes
returns-in_ok-write_str-in-Repeated-clause-writes g c = λ plain ok.
    let first = c.in_ok-write_str-in-Repeated.ensures.writes plain (refl {a = true}) in
    has_written_of_eq g.W.Write.write_str_gives _ _ _ _ (repeated_text c.args.self.now c.in-Repeated.is)
    (has_written_append _ _ _ _ _ _ first (c.write_name-in-Repeated.ensures first.plain ok))

pub returns-in_ok-write_str-in-Repeated-clause-styled : goal.returns-in_ok-write_str-in-Repeated-clause-styled
returns-in_ok-write_str-in-Repeated-clause-styled g c = tt
