use Rattle.std.proofs.Common.{◌∙◌}
use Rattle.lexical.specs.declared.piece.PieceKind.TheVariants as pieces
use Rattle.pm_stream.proofs.PlaceLemmas.{mark_line, placed_token}
use Rattle.pm_stream.proofs.ReadingLemmas.{on_ok}
use Rattle.pm_stream.proofs.placing.PlacerTokenSink.mark.Goals as goal

pub returns : goal.returns
returns c =
    on_ok c.push.result (λ now. placed_token c.args.lexed (pieces.Mark c.args._joint c.args._mark) tt
    (λ is. now.0 ∙ c.along.ensures is (mark_line is _ _ c.requires.1)) now.1) c.push.ensures
