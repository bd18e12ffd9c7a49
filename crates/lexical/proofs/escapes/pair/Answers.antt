use Rattle.lexical.proofs.RuleSteps.{then_lacks, then_reads}
use Rattle.lexical.proofs.escapes.pair.Goals as goal

pub returns-in_err-one-in-Plain : goal.returns-in_err-one-in-Plain
returns-in_err-one-in-Plain c =
    rw (c.in-Plain.is, c.from_residual.ensures) (then_lacks _ _ _ c.in_err-one-in-Plain.ensures)

pub returns-in_ok-one-in-Plain : goal.returns-in_ok-one-in-Plain
returns-in_ok-one-in-Plain c =
    rw c.in-Plain.is (then_reads _ _ c.args.at _ _ c.in_ok-one-in-Plain.ensures c.one-in-Plain.ensures)

pub returns-in-Byte : goal.returns-in-Byte
returns-in-Byte c = rw c.in-Byte.is c.hex_pair.ensures
