use Rattle.std.proofs.Common.{refl}
use Rattle.declarations.specs.ExpectedText.{all_names}
use Rattle.declarations.proofs.ExpectedTextLemmas.{names_only}
use Rattle.declarations.proofs.expected_text.names.Goals as goal

pub returns-clause-table : goal.returns-clause-table
unfolding all_names
returns-clause-table c = refl

pub returns-clause-only : goal.returns-clause-only
returns-clause-only c = λ set. names_only set set.bits all_names (λ k h. h)
