use Rattle.std.proofs.Common.{refl, ap, ◌∙◌, length, arith}
use Rattle.pm_stream.specs.Places.{moved_past}
use Rattle.pm_stream.proofs.PlaceLemmas.{placed_gap, placed_room, white_boundary, white_text}
use Rattle.pm_stream.proofs.placing.PlacerTokenSink.white.Goals as goal

pub range-requires-clause-end_boundary : goal.range-requires-clause-end_boundary
range-requires-clause-end_boundary c = white_boundary c.args.text.now _ c.args.size c.utf8.text c.requires.white

pub past-self-requires-clause-lines : goal.past-self-requires-clause-lines
past-self-requires-clause-lines c =
    let cut = white_text c.args.text.now _ c.args.size _ c.utf8.text c.requires.white c.range.ensures.value in
    omega (arith, (placed_room c.requires.takes).0, c.requires.room, ap length cut, c.requires.white.chars)

pub past-self-requires-clause-columns : goal.past-self-requires-clause-columns
past-self-requires-clause-columns c =
    let cut = white_text c.args.text.now _ c.args.size _ c.utf8.text c.requires.white c.range.ensures.value in
    omega (arith, (placed_room c.requires.takes).1, c.requires.room, ap length cut, c.requires.white.chars)

pub returns : goal.returns
returns c = λ can.
    placed_gap can.takes can.white.front (c.past-self.ensures ∙ ap (moved_past c.args.self.now.here)
    (white_text c.args.text.now _ c.args.size _ c.utf8.text can.white c.range.ensures.value)) refl
