use Rattle.std.proofs.Common.{string_bytes}
use Rattle.std.specs.Str.{chars}
use Rattle.pm_stream.proofs.ReprintLemmas.{prints_all}
use Rattle.pm_stream.proofs.reprinting.reprint_at.Goals as goal

pub returns-clause-ok : goal.returns-clause-ok
returns-clause-ok c =
    prints_all c.args.base (chars c.args.text.now) (string_bytes c.into_string.result) c.read.new.sink
    c.in_ok-read.ensures.ok c.into_string.ensures
