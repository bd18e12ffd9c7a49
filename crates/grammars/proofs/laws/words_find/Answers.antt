use Rattle.grammars.proofs.LawLemmas as laws
use Rattle.grammars.proofs.laws.words_find.Goals as goal

pub returns : goal.returns
returns g c = record {
  lacks = laws.lacks_finds g.row.C.Denot g.row.N.Denot g.row.L.Denot;
  skips = laws.skips_finds g.row.C.Denot g.row.N.Denot g.row.L.Denot;
  nothing = laws.nothing_finds g.row.C.Denot g.row.N.Denot g.row.L.Denot;
  mark = laws.mark_finds g.row.C.Denot g.row.N.Denot g.row.L.Denot;
  sign = laws.sign_finds g.row.C.Denot g.row.N.Denot g.row.L.Denot;
  to = laws.to_finds g.row.C.Denot g.row.N.Denot g.row.L.Denot;
  both = laws.then_finds g.row.C.Denot g.row.N.Denot g.row.L.Denot;
  first = laws.first_finds g.row.C.Denot g.row.N.Denot g.row.L.Denot;
  second = laws.second_finds g.row.C.Denot g.row.N.Denot g.row.L.Denot;
  other = laws.other_finds g.row.C.Denot g.row.N.Denot g.row.L.Denot;
  more = laws.more_finds g.row.C.Denot g.row.N.Denot g.row.L.Denot;
  element = laws.element_finds g.row.C.Denot g.row.N.Denot g.row.L.Denot;
}
