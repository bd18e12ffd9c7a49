use Rattle.proc_macro2.proofs.WholeTrees.{stands_whole}
use Rattle.proc_macro2.proofs.laws.trees_stand_whole.Goals as goal

pub returns : goal.returns
returns c = stands_whole
