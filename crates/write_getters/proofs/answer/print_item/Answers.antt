use Rattle.std.proofs.Common.{[]}
use Rattle.std.proofs.KnownBytes.{Appends-nil}
use Rattle.write_getters.proofs.AnswerLemmas.{no_code}
use Rattle.write_getters.proofs.answer.print_item.Goals as goal

pub returns-in_default : goal.returns-in_default
returns-in_default g c = (
  [],
  no_code c.args.templates.now c.args.item.now.kind c.args.item.now.trees.now c.in_default.not-Struct,
  Appends-nil _,
)
