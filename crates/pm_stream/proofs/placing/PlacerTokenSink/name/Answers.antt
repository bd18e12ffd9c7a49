use Rattle.std.proofs.Common.{◌∙◌}
use Rattle.lexical.specs.declared.piece.PieceKind.TheVariants as pieces
use Rattle.pm_stream.proofs.PlaceLemmas.{name_line, placed_token}
use Rattle.pm_stream.proofs.ReadingLemmas.{on_ok}
use Rattle.pm_stream.proofs.placing.PlacerTokenSink.name.Goals as goal

pub returns : goal.returns
returns c =
    on_ok c.push.result (λ now. placed_token c.args.lexed (pieces.Name c.args._raw c.args._name) tt
    (λ is. now.0 ∙ c.along.ensures is (name_line is _ _ c.requires.1)) now.1) c.push.ensures
