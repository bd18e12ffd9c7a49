use Rattle.std.proofs.Common.{arith}
use Rattle.lexical.proofs.LineLaneLemmas.{line_in_word, line_in_word_ends, line_past_word}
use Rattle.lexical.proofs.PlainLaneLemmas.{xor_low}
use Rattle.lexical.proofs.words.count_line_in_word.Goals as goal

pub overflow_add-feeds : goal.overflow_add-feeds
overflow_add-feeds c = omega (arith, xor_low c.from_le_bytes-word.result 0x0A0A_0A0A_0A0A_0A0A (omega arith))

pub overflow_add-returns : goal.overflow_add-returns
overflow_add-returns c = omega (arith, xor_low c.from_le_bytes-word.result 0x0D0D_0D0D_0D0D_0D0D (omega arith))

pub returns-then-ends-eq0-clause-all : goal.returns-then-ends-eq0-clause-all
returns-then-ends-eq0-clause-all c =
    line_past_word c.args.bytes.now c.told-bytes c.fits-bytes c.from_le_bytes-word.result c.from_le_bytes-word.ensures
    c.if-ends-eq0.true

pub returns-clause-some : goal.returns-clause-some
returns-clause-some c =
    line_in_word c.args.bytes.now c.told-bytes c.fits-bytes c.from_le_bytes-word.result c.from_le_bytes-word.ensures

pub returns-clause-few : goal.returns-clause-few
returns-clause-few c = line_in_word_ends c.from_le_bytes-word.result c.if-ends-eq0.false
