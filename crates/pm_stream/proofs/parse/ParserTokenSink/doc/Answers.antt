use Rattle.std.proofs.Common.{[], ap}
use Rattle.std.specs.Str.{chars}
use Rattle.lexical.specs.declared.piece.PieceKind.TheVariants as kinds
use Rattle.pm_span.specs.Extent.{Extent}
use Rattle.pm_stream.specs.Events.{doc_onto}
use Rattle.pm_stream.proofs.ReadingLemmas.{on_ok}
use Rattle.pm_stream.proofs.ParsingLemmas.{parses_token}
use Rattle.pm_stream.proofs.parse.ParserTokenSink.doc.Goals as goal

pub returns : goal.returns
returns c =
    on_ok c.push_doc.result (λ step.
    parses_token c.args.lexed (kinds.Doc c.args.inner c.args.doc_body) _ step
    (λ is. ap (λ (x : Extent). doc_onto x.lo x.hi c.args.inner (chars c.args.doc_body.now) []) (c.span.ensures is)))
    c.push_doc.ensures
