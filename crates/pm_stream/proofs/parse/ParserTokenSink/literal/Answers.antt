use Rattle.std.proofs.Common.{[], ◌∷◌, ap₂}
use Rattle.lexical.specs.Token.{Literal}
use Rattle.lexical.specs.declared.piece.PieceKind.TheVariants as kinds
use Rattle.pm_span.specs.Extent.{Extent}
use Rattle.pm_stream.specs.Events.{One}
use Rattle.pm_stream.proofs.PieceLemmas.{literal_found}
use Rattle.pm_stream.proofs.ReadingLemmas.{on_ok}
use Rattle.pm_stream.proofs.ParsingLemmas.{parses_token}
use Rattle.pm_stream.proofs.parse.ParserTokenSink.literal.Goals as goal

pub push_literal-requires : goal.push_literal-requires
push_literal-requires c =
    let is = c.requires.0.is in
    literal_found is c.own_text.result.now c.requires.1 (c.own_text.ensures is)

pub returns : goal.returns
returns c =
    on_ok c.push_literal.result (λ step.
    parses_token c.args.lexed kinds.Literal _ step
    (λ is. ap₂ (λ q (x : Extent). One (Literal q) x.lo x.hi ∷ []) (c.own_text.ensures is) (c.span.ensures is)))
    c.push_literal.ensures
