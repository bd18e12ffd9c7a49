use Rattle.std.proofs.Common.{◌≡◌, ◌≢◌, ℕ, true, nat_lt, not, ap, sym}
use Rattle.std.proofs.lemmas.Bool.{and_from, ne_eqb, or_from}
use Rattle.lexical.specs.MachineWord.{is_line_ascii}
use Rattle.lexical.proofs.RunLemmas.{count_end, count_on}
use Rattle.lexical.proofs.words.count_line_bytes.Goals as goal

passes : (b : ℕ) → nat_lt b 128 ≡ true → b ≢ 10 → b ≢ 13 → is_line_ascii b ≡ true
passes b low not10 not13 = and_from _ _ low (ap not (or_from _ _ (ne_eqb b 10 not10) (ne_eqb b 13 not13)))

pub loop-count-preserved : goal.loop-count-preserved
loop-count-preserved c =
    count_on is_line_ascii c.args.bytes.now c.loop-count.count c.loop-count-test.true
    (passes _ (sym c.if-not-is_ascii.ensures) c.if-byte-eq10.false c.if-byte-eq13.false) c.loop-count.invariant.1

pub returns-after-loop-count : goal.returns-after-loop-count
returns-after-loop-count c =
    count_end is_line_ascii c.args.bytes.now c.loop-count.count c.loop-count-test.false c.loop-count.invariant.1
