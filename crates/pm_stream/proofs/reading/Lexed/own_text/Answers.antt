use Rattle.lexical.proofs.PieceFacts.{piece_boundary}
use Rattle.pm_stream.proofs.PieceLemmas.{piece_chars}
use Rattle.pm_stream.proofs.reading.Lexed.own_text.Goals as goal

pub range-requires-clause-end_boundary : goal.range-requires-clause-end_boundary
range-requires-clause-end_boundary c =
    piece_boundary _ c.args.self.text.now c.args.self.piece c.requires.utf8 c.requires.found

pub returns : goal.returns
returns c = λ is. piece_chars is c.range.result.now c.range.ensures.value
