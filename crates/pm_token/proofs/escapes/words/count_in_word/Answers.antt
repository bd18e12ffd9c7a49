use Rattle.std.proofs.Common.{arith}
use Rattle.pm_token.proofs.StringLaneLemmas.{low_small, string_in_word, string_in_word_ends, string_past_word, xor_low}
use Rattle.pm_token.proofs.escapes.words.count_in_word.Goals as goal

pub overflow_add-controls : goal.overflow_add-controls
overflow_add-controls c = omega (arith, low_small c.from_le_bytes-word.result)

pub overflow_add-deletes : goal.overflow_add-deletes
overflow_add-deletes c = omega (arith, xor_low c.from_le_bytes-word.result 0x7F7F_7F7F_7F7F_7F7F (omega arith))

pub overflow_add-backslashes : goal.overflow_add-backslashes
overflow_add-backslashes c = omega (arith, xor_low c.from_le_bytes-word.result 0x5C5C_5C5C_5C5C_5C5C (omega arith))

pub overflow_add-quotes : goal.overflow_add-quotes
overflow_add-quotes c = omega (arith, xor_low c.from_le_bytes-word.result 0x2222_2222_2222_2222 (omega arith))

pub returns-then-stops-eq0-clause-all : goal.returns-then-stops-eq0-clause-all
returns-then-stops-eq0-clause-all c =
    string_past_word c.args.bytes.now c.told-bytes c.fits-bytes c.from_le_bytes-word.result
    c.from_le_bytes-word.ensures c.if-stops-eq0.true

pub returns-clause-some : goal.returns-clause-some
returns-clause-some c =
    string_in_word c.args.bytes.now c.told-bytes c.fits-bytes c.from_le_bytes-word.result c.from_le_bytes-word.ensures

pub returns-clause-few : goal.returns-clause-few
returns-clause-few c = string_in_word_ends c.from_le_bytes-word.result c.if-stops-eq0.false
