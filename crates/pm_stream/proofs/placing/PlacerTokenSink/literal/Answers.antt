use Rattle.std.proofs.Common.{◌∙◌}
use Rattle.lexical.specs.declared.piece.PieceKind.TheVariants as pieces
use Rattle.pm_stream.proofs.PlaceLemmas.{placed_token}
use Rattle.pm_stream.proofs.ReadingLemmas.{on_ok}
use Rattle.pm_stream.proofs.placing.PlacerTokenSink.literal.Goals as goal

pub returns : goal.returns
returns c =
    on_ok c.push.result
    (λ now. placed_token c.args.lexed pieces.Literal tt (λ is. now.0 ∙ c.past.ensures is) now.1) c.push.ensures
