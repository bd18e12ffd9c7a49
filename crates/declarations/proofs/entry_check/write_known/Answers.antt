use Rattle.std.proofs.Common.{refl, true}
use Rattle.std.proofs.Output.{has_written_append}
use Rattle.std.proofs.lemmas.List.{nil_from_length}
use Rattle.declarations.proofs.entry_check.write_known.Goals as goal

pub returns-in_ok-write_quoted-in-Some : goal.returns-in_ok-write_quoted-in-Some
returns-in_ok-write_quoted-in-Some g c = λ plain ok.
    let begin = c.in_ok-write_str-in-Some.ensures.writes plain (refl {a = true}) in
    let word = c.in_ok-write_quoted-in-Some.ensures begin.plain (refl {a = true}) in
    let words = c.write_more.ensures word.plain ok in
    rw c.in-Some.ensures.cases.0
    (has_written_append _ _ _ _ _ _ begin (has_written_append _ _ _ _ _ _ word words))

pub returns-in-None : goal.returns-in-None
returns-in-None g c = λ plain ok.
    rw (nil_from_length c.args.known.now c.in-None.ensures.cases) (c.write_str-in-None.ensures.writes plain ok)
