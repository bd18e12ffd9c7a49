use Rattle.grammars.proofs.LawLemmas as laws
use Rattle.grammars.proofs.laws.found_tells.Goals as goal

pub returns : goal.returns
returns g c = record {
  reading = laws.found_is_reading g.row.C.Denot g.row.N.Denot g.row.L.Denot;
  left = laws.left_is_fault g.row.C.Denot g.row.N.Denot g.row.L.Denot;
  stuck = laws.stuck_is_fault g.row.C.Denot g.row.N.Denot g.row.L.Denot;
}
