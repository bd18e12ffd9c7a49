use Rattle.grammars.proofs.LawLemmas as laws
use Rattle.grammars.proofs.laws.one_reading.Goals as goal

pub returns : goal.returns
returns g c = record {
  reading = laws.one_reading g.row.C.Denot g.row.N.Denot g.row.L.Denot;
  otherwise = laws.reads_or_fails g.row.C.Denot g.row.N.Denot g.row.L.Denot;
  fault = laws.one_fault g.row.C.Denot g.row.N.Denot g.row.L.Denot;
}
