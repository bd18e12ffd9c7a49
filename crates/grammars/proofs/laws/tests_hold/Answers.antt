use Rattle.grammars.proofs.LawLemmas as laws
use Rattle.grammars.proofs.laws.tests_hold.Goals as goal

pub returns : goal.returns
returns g c = record {
  deterministic = laws.test_is_deterministic g.row.C.Denot g.row.N.Denot g.row.L.Denot;
  productive = laws.test_is_productive g.row.C.Denot g.row.N.Denot g.row.L.Denot;
}
