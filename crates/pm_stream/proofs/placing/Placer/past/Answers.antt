use Rattle.std.proofs.Common.{length, ap, ◌∙◌, arith}
use Rattle.pm_stream.specs.Places.{moved_past}
use Rattle.pm_stream.proofs.PlaceLemmas.{placed_room}
use Rattle.pm_stream.proofs.placing.Placer.past.Goals as goal

pub past-requires-clause-lines : goal.past-requires-clause-lines
past-requires-clause-lines c =
    let is = c.requires.is in
    let front = ap length (c.own_text.ensures is) in
    omega (arith, (placed_room c.requires.takes).0, c.requires.at, is.room, front, is.found.chars)

pub past-requires-clause-columns : goal.past-requires-clause-columns
past-requires-clause-columns c =
    let is = c.requires.is in
    let front = ap length (c.own_text.ensures is) in
    omega (arith, (placed_room c.requires.takes).1, c.requires.at, is.room, front, is.found.chars)

pub returns : goal.returns
returns c = λ is. c.past.ensures ∙ ap (moved_past c.args.self.now.here) (c.own_text.ensures is)
