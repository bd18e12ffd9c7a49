use Rattle.std.proofs.Common.{refl}
use Rattle.std.specs.Str.{chars}
use Rattle.pm_stream.proofs.PlaceLemmas.{placed_all, placed_none}
use Rattle.pm_stream.proofs.placing.place_trees_at.Goals as goal

pub read-requires-clause-starts : goal.read-requires-clause-starts
read-requires-clause-starts c = placed_none c.args.base (chars c.args.text.now) _ c.requires.begins refl
    c.in_ok-with_capacity.ensures.items

pub returns-clause-ok : goal.returns-clause-ok
returns-clause-ok c = placed_all c.args.base (chars c.args.text.now) c.read.new.sink c.in_ok-read.ensures.ok
