use Rattle.grammars.proofs.LawLemmas as laws
use Rattle.grammars.proofs.laws.next_signs.Goals as goal

pub returns : goal.returns
returns g c = record {
  next = laws.next_is_exact g.row.C.Denot g.row.N.Denot g.row.L.Denot;
  end = laws.end_is_exact g.row.C.Denot g.row.N.Denot g.row.L.Denot;
}
