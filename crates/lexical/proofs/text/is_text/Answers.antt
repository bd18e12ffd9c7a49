use Rattle.std.proofs.Common.{◌∙◌}
use Rattle.lexical.proofs.TextLemmas.{ascii_same}
use Rattle.lexical.proofs.text.is_text.Goals as goal

pub returns : goal.returns
returns c = c.eq.ensures ∙ ascii_same c.args.text.now c.args.ascii.now c.utf8.text c.requires
