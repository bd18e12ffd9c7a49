use Rattle.grammars.proofs.NextWordLemmas as laws
use Rattle.grammars.proofs.laws.words_see.Goals as goal

pub returns : goal.returns
returns g c = record {
  next = laws.is_next g.row.C.Denot g.row.N.Denot g.row.L.Denot;
  seen = laws.is_seen g.row.C.Denot g.row.N.Denot g.row.L.Denot;
  lacks = laws.lacks g.row.C.Denot g.row.N.Denot g.row.L.Denot;
  at_end = laws.at_end g.row.C.Denot g.row.N.Denot g.row.L.Denot;
  nothing = laws.nothing g.row.C.Denot g.row.N.Denot g.row.L.Denot;
  mark = laws.mark g.row.C.Denot g.row.N.Denot g.row.L.Denot;
  sign = laws.sign g.row.C.Denot g.row.N.Denot g.row.L.Denot;
  to = laws.to g.row.C.Denot g.row.N.Denot g.row.L.Denot;
  then_stuck = laws.then_stuck g.row.C.Denot g.row.N.Denot g.row.L.Denot;
  then_moves = laws.then_moves g.row.C.Denot g.row.N.Denot g.row.L.Denot;
  then_stays = laws.then_stays g.row.C.Denot g.row.N.Denot g.row.L.Denot;
  first = laws.first g.row.C.Denot g.row.N.Denot g.row.L.Denot;
  second = laws.second g.row.C.Denot g.row.N.Denot g.row.L.Denot;
  neither = laws.neither g.row.C.Denot g.row.N.Denot g.row.L.Denot;
  many_stays = laws.many_stays g.row.C.Denot g.row.N.Denot g.row.L.Denot;
  many_stuck = laws.many_stuck g.row.C.Denot g.row.N.Denot g.row.L.Denot;
  many_moves = laws.many_moves g.row.C.Denot g.row.N.Denot g.row.L.Denot;
  many_last = laws.many_last g.row.C.Denot g.row.N.Denot g.row.L.Denot;
  list_stays = laws.list_stays g.row.C.Denot g.row.N.Denot g.row.L.Denot;
  list_stuck = laws.list_stuck g.row.C.Denot g.row.N.Denot g.row.L.Denot;
  list_ends = laws.list_ends g.row.C.Denot g.row.N.Denot g.row.L.Denot;
  list_waits = laws.list_waits g.row.C.Denot g.row.N.Denot g.row.L.Denot;
  list_moves = laws.list_moves g.row.C.Denot g.row.N.Denot g.row.L.Denot;
  list_last = laws.list_last g.row.C.Denot g.row.N.Denot g.row.L.Denot;
}
