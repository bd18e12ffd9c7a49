use Rattle.proc_macro2.proofs.LineLemmas.{broken_line}
use Rattle.proc_macro2.proofs.laws.broken_line.Goals as goal

pub returns : goal.returns
returns c = broken_line
