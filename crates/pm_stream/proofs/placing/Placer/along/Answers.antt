use Rattle.std.proofs.Common.{arith}
use Rattle.pm_stream.proofs.PlaceLemmas.{moves_along, placed_room}
use Rattle.pm_stream.proofs.placing.Placer.along.Goals as goal

pub overflow_add-result : goal.overflow_add-result
overflow_add-result c = omega (arith, (placed_room c.requires.takes).1, c.requires.at, c.requires.is.room)

pub returns : goal.returns
returns c = λ is line. moves_along c.args.self.now.here is.found.front c.args.lexed.piece.chars is.found.chars line
