use Rattle.std.proofs.Common.{rules, take, ◌++◌}
use Rattle.std.proofs.KnownBytes.{Appends-trans}
use Rattle.tokens.proofs.KnownLemmas.{whole_moves}
use Rattle.tokens.proofs.writing.write_all.Goals as goal

pub loop-rest-preserved : goal.loop-rest-preserved
loop-rest-preserved g c =
    let before = c.loop-rest.invariant in
    record {
      front = before.front ++ take c.in-Ok.n c.loop-rest.rest.now;
      whole = whole_moves _ before.front c.loop-rest.rest.now c.in-Ok.n before.whole;
      appends = Appends-trans _ _ _ _ _ before.appends c.in-Ok.ensures.bytes;
      flag = search rules;
    }
