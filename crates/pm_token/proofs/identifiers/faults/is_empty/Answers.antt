use Rattle.std.proofs.Common.{◌∙◌}
use Rattle.pm_token.proofs.NameLemmas.{empty_same}
use Rattle.pm_token.proofs.identifiers.faults.is_empty.Goals as goal

pub returns : goal.returns
returns c = c.is_empty.ensures ∙ empty_same c.args.text.now c.utf8.text
