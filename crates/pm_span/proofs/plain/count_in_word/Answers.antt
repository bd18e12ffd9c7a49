use Rattle.std.proofs.Common.{arith}
use Rattle.pm_span.proofs.PlainLemmas.{plain_in_word, plain_in_word_ends, plain_past_word, turned_word_low}
use Rattle.pm_span.proofs.plain.count_in_word.Goals as goal

pub overflow_add-stops : goal.overflow_add-stops
overflow_add-stops c = omega (arith, turned_word_low c.from_le_bytes-word.result)

pub returns-then-stops-eq0-clause-all : goal.returns-then-stops-eq0-clause-all
returns-then-stops-eq0-clause-all c =
    plain_past_word c.args.bytes.now c.told-bytes c.fits-bytes c.from_le_bytes-word.result c.from_le_bytes-word.ensures
    c.if-stops-eq0.true

pub returns-clause-some : goal.returns-clause-some
returns-clause-some c =
    plain_in_word c.args.bytes.now c.told-bytes c.fits-bytes c.from_le_bytes-word.result c.from_le_bytes-word.ensures

pub returns-clause-few : goal.returns-clause-few
returns-clause-few c = plain_in_word_ends c.from_le_bytes-word.result c.if-stops-eq0.false
