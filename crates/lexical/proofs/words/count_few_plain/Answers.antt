use Rattle.std.proofs.Common.{arith}
use Rattle.lexical.specs.MachineWord.{is_plain_ascii}
use Rattle.lexical.proofs.PlainLaneLemmas.{run_passes}
use Rattle.lexical.proofs.words.count_few_plain.Goals as goal

pub returns-in-None : goal.returns-in-None
returns-in-None c = run_passes is_plain_ascii _ c.args.bytes.now (omega (arith, c.count_plain_bytes.ensures))
