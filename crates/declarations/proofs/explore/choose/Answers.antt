use Rattle.std.proofs.Common.{refl, arith}
use Rattle.declarations.proofs.ExploreLemmas.{neither_seen, second_seen}
use Rattle.declarations.proofs.explore.choose.Goals as goal

pub returns-then-second-first : goal.returns-then-second-first
returns-then-second-first c = λ a b trees e still d.
    second_seen a b trees c.args.first e c.args.second still d c.if-second-first.true

pub returns-else-second-first : goal.returns-else-second-first
returns-else-second-first c = λ a b trees e still d.
    let not = c.if-second-first.false in
    neither_seen a b trees c.args.first e c.args.second (record { left = c.args.second.left; next = c.both.result })
    still d (omega arith) refl c.both.ensures
