use Rattle.std.proofs.Common.{arith}
use Rattle.lexical.proofs.LaneLemmas.{name_in_word, name_in_word_ends, name_past_word, small_word_low}
use Rattle.lexical.proofs.words.count_in_word.Goals as goal

pub overflow_add-letters : goal.overflow_add-letters
overflow_add-letters c = omega (arith, small_word_low c.from_le_bytes-word.result)

pub overflow_add-letters-2 : goal.overflow_add-letters-2
overflow_add-letters-2 c = omega (arith, small_word_low c.from_le_bytes-word.result)

pub returns-then-stops-eq0-clause-all : goal.returns-then-stops-eq0-clause-all
returns-then-stops-eq0-clause-all c =
    name_past_word c.args.bytes.now c.told-bytes c.fits-bytes c.from_le_bytes-word.result c.from_le_bytes-word.ensures
    c.if-stops-eq0.true

pub returns-clause-some : goal.returns-clause-some
returns-clause-some c =
    name_in_word c.args.bytes.now c.told-bytes c.fits-bytes c.from_le_bytes-word.result c.from_le_bytes-word.ensures

pub returns-clause-few : goal.returns-clause-few
returns-clause-few c = name_in_word_ends c.from_le_bytes-word.result c.if-stops-eq0.false
