use Rattle.pm_stream.proofs.ReadingLemmas.{reads_ok, reads_refused}
use Rattle.pm_stream.proofs.reading.read.Goals as goal

pub returns-clause-ok : goal.returns-clause-ok
returns-clause-ok g c = reads_ok _ c.end.result c.in_ok-ending.ensures.reads c.end.ensures.ok

pub returns-clause-lex : goal.returns-clause-lex
returns-clause-lex g c =
    reads_refused _ c.in_ok-ending.ending.stray c.end.result c.in_ok-ending.ensures.reads
    c.in_ok-ending.ensures.stops c.end.ensures.stuck c.end.ensures.stays_open
