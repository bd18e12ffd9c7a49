use Rattle.std.proofs.Common.{[], refl, true}
use Rattle.std.proofs.Output.{has_written_append}
use Rattle.declarations.proofs.expected_text.write_names.Goals as goal

pub returns-in_ok-write_str-in-Some : goal.returns-in_ok-write_str-in-Some
returns-in_ok-write_str-in-Some g c = λ plain ok.
    let name = c.in_ok-write_str-in-Some.ensures.writes plain (refl {a = true}) in
    let more = c.write_more.ensures name.plain ok in
    rw c.in-Some.ensures (has_written_append _ _ _ _ _ _ name more)

pub returns-in-None : goal.returns-in-None
returns-in-None g c = λ plain ok.
    rw c.in-None.ensures
    (record { wrote = record { parts = []; calls = refl; whole = refl }; plain = plain })
