use Rattle.std.proofs.Common.{◌∙◌}
use Rattle.lexical.specs.declared.piece.PieceKind.TheVariants as pieces
use Rattle.pm_stream.proofs.PlaceLemmas.{placed_token}
use Rattle.pm_stream.proofs.ReadingLemmas.{on_ok}
use Rattle.pm_stream.proofs.placing.PlacerTokenSink.doc.Goals as goal

pub returns : goal.returns
returns c =
    on_ok c.push_doc.result (λ now. placed_token c.args.lexed (pieces.Doc c.args.inner c.args._doc_body) tt
    (λ is. now.0 ∙ c.past.ensures is) now.1) c.push_doc.ensures
