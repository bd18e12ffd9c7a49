use Rattle.std.proofs.Common.{[], ◌∷◌, ap}
use Rattle.lexical.specs.Token.{Mark}
use Rattle.lexical.specs.declared.piece.PieceKind.TheVariants as kinds
use Rattle.pm_span.specs.Extent.{Extent}
use Rattle.pm_stream.specs.Events.{One}
use Rattle.pm_stream.proofs.ReadingLemmas.{on_ok}
use Rattle.pm_stream.proofs.ParsingLemmas.{parses_token}
use Rattle.pm_stream.proofs.parse.ParserTokenSink.mark.Goals as goal

pub returns : goal.returns
returns c =
    on_ok c.push_mark.result (λ step.
    parses_token c.args.lexed (kinds.Mark c.args.joint c.args.mark) _ step
    (λ is. ap (λ (x : Extent). One (Mark c.args.mark c.args.joint) x.lo x.hi ∷ []) (c.span.ensures is)))
    c.push_mark.ensures
