use Rattle.std.proofs.Common.{◌+◌, length}
use Rattle.std.specs.Str.{chars}
use Rattle.lexical.specs.declared.piece.PieceKind.TheVariants as kinds
use Rattle.pm_stream.proofs.PieceLemmas.{name_found, name_events}
use Rattle.pm_stream.proofs.ReadingLemmas.{on_ok}
use Rattle.pm_stream.proofs.ParsingLemmas.{parses_token}
use Rattle.pm_stream.proofs.parse.ParserTokenSink.name.Goals as goal

pub ident-requires : goal.ident-requires
ident-requires c = name_found c.requires.0.is c.args.raw c.args.name c.requires.1

pub returns : goal.returns
returns c =
    on_ok c.push.result (λ step.
    parses_token c.args.lexed (kinds.Name c.args.raw c.args.name) _ step
    (λ is. name_events c.in_ok-name.name (chars c.args.name.now) c.args.raw c.span.result c.args.lexed.at
    (c.args.lexed.at + length is.found.front) c.in_ok-name.ensures.ok (c.span.ensures is))) c.push.ensures
