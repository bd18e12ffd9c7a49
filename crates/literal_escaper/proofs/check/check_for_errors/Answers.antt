use Rattle.std.proofs.Common.{List, subst, sym}
use Rattle.literal_escaper.specs.Errors.{Error}
use Rattle.literal_escaper.specs.Within.{AreWithin}
use Rattle.literal_escaper.proofs.ErrorRangeLemmas.{errors_are_within}
use Rattle.literal_escaper.proofs.check.check_for_errors.Goals as goal

pub returns-clause-within : goal.returns-clause-within
returns-clause-within c =
    subst (λ (errors : List Error). AreWithin c.args.src.now errors) (sym c.new.ensures)
    (errors_are_within c.args.mode c.args.src.now c.utf8.src)
