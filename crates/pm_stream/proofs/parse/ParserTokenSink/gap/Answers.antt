use Rattle.pm_stream.proofs.ParsingLemmas.{parses_past}
use Rattle.pm_stream.proofs.parse.ParserTokenSink.gap.Goals as goal

pub returns : goal.returns
returns c = λ to. parses_past c.args.self.now to.before to.is.found.front to.takes
