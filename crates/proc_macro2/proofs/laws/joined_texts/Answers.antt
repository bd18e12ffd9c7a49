use Rattle.proc_macro2.proofs.LineLemmas.{joined_texts}
use Rattle.proc_macro2.proofs.laws.joined_texts.Goals as goal

pub returns : goal.returns
returns c = joined_texts
