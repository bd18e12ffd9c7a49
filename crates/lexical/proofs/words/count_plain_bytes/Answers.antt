use Rattle.std.proofs.Common.{◌≡◌, ◌≢◌, ℕ, true, nat_lt, arith, sym}
use Rattle.lexical.specs.MachineWord.{is_plain_ascii}
use Rattle.lexical.proofs.RunLemmas.{count_end, count_on}
use Rattle.lexical.proofs.words.count_plain_bytes.Goals as goal

passes : (b : ℕ) → nat_lt b 128 ≡ true → b ≢ 34 → b ≢ 92 → b ≢ 13 → is_plain_ascii b ≡ true
passes b low not34 not92 not13 = grind (arith, low, not34, not92, not13)

pub loop-count-preserved : goal.loop-count-preserved
loop-count-preserved c =
    count_on is_plain_ascii c.args.bytes.now c.loop-count.count c.loop-count-test.true
    (passes _ (sym c.if-not-is_ascii.ensures) c.if-byte-eq34.false c.if-byte-eq92.false c.if-byte-eq13.false)
    c.loop-count.invariant.1

pub returns-after-loop-count : goal.returns-after-loop-count
returns-after-loop-count c =
    count_end is_plain_ascii c.args.bytes.now c.loop-count.count c.loop-count-test.false c.loop-count.invariant.1
