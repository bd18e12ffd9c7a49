use Rattle.grammars.proofs.LawLemmas as laws
use Rattle.grammars.proofs.laws.lists.Goals as goal

pub returns : goal.returns
returns g c = record {
  written = laws.list_is_written g.row.C.Denot g.row.N.Denot g.row.L.Denot;
}
