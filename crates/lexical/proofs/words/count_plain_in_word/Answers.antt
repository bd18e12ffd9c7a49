use Rattle.std.proofs.Common.{arith}
use Rattle.lexical.proofs.PlainLaneLemmas.{plain_in_word, plain_in_word_ends, plain_past_word, xor_low}
use Rattle.lexical.proofs.words.count_plain_in_word.Goals as goal

pub overflow_add-quotes : goal.overflow_add-quotes
overflow_add-quotes c = omega (arith, xor_low c.from_le_bytes-word.result 0x2222_2222_2222_2222 (omega arith))

pub overflow_add-backslashes : goal.overflow_add-backslashes
overflow_add-backslashes c = omega (arith, xor_low c.from_le_bytes-word.result 0x5C5C_5C5C_5C5C_5C5C (omega arith))

pub overflow_add-returns : goal.overflow_add-returns
overflow_add-returns c = omega (arith, xor_low c.from_le_bytes-word.result 0x0D0D_0D0D_0D0D_0D0D (omega arith))

pub returns-then-hits-eq0-clause-all : goal.returns-then-hits-eq0-clause-all
returns-then-hits-eq0-clause-all c =
    plain_past_word c.args.bytes.now c.told-bytes c.fits-bytes c.from_le_bytes-word.result c.from_le_bytes-word.ensures
    c.if-hits-eq0.true

pub returns-clause-some : goal.returns-clause-some
returns-clause-some c =
    plain_in_word c.args.bytes.now c.told-bytes c.fits-bytes c.from_le_bytes-word.result c.from_le_bytes-word.ensures

pub returns-clause-few : goal.returns-clause-few
returns-clause-few c = plain_in_word_ends c.from_le_bytes-word.result c.if-hits-eq0.false
