use Rattle.pm_stream.proofs.ParsingLemmas.{parses_past}
use Rattle.pm_stream.proofs.parse.ParserTokenSink.white.Goals as goal

pub returns : goal.returns
returns c = λ can. parses_past c.args.self.now can.before can.white.front can.takes
