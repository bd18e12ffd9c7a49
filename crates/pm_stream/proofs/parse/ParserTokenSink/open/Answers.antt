use Rattle.std.proofs.Common.{refl, arith}
use Rattle.pm_stream.proofs.ParsingLemmas.{parses_open}
use Rattle.pm_stream.proofs.parse.ParserTokenSink.open.Goals as goal

pub returns : goal.returns
returns c = (
  refl,
  λ can.
      parses_open c.args.self.now c.args.lexed c.args.delimiter _
      (omega (arith, c.args.self.now.trees.ok.0, c.len.ensures)) can.to,
)
