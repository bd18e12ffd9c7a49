use Rattle.pm_stream.proofs.ReadingLemmas.{on_ok}
use Rattle.pm_stream.proofs.ParsingLemmas.{parses_close}
use Rattle.pm_stream.proofs.parse.ParserTokenSink.close.Goals as goal

pub returns : goal.returns
returns c =
    on_ok c.push_group.result
    (parses_close c.args.self.now c.push_group.new.self c.args.frame c.args.lexed c.args.delimiter c.span_of.result
    c.span_of.ensures) c.push_group.ensures
