use Rattle.grammars.proofs.LawLemmas as laws
use Rattle.grammars.proofs.laws.machine_reads.Goals as goal

pub returns : goal.returns
returns g c = record {
  sound = laws.sound g.row.C.Denot g.row.N.Denot g.row.L.Denot;
  complete = laws.complete g.row.C.Denot g.row.N.Denot g.row.L.Denot;
}
