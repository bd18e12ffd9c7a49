use Rattle.std.proofs.Common.{◌≡◌, ◌∙◌, ◌-◌, ap, arith, take, length}
use Rattle.std.specs.Str.{chars}
use Rattle.lexical.proofs.TextLemmas.{front_len, front_boundary, front_chars}
use Rattle.std.proofs.lemmas.Grind.{common_steps}
use Rattle.lexical.proofs.text.before.Goals as goal

pub overflow_sub-text : goal.overflow_sub-text
overflow_sub-text c = omega (
  arith,
  front_len c.args.text.now c.args.rest.now c.requires.0 c.utf8.text c.utf8.rest c.requires.1,
)

pub range-requires-clause-end_boundary : goal.range-requires-clause-end_boundary
range-requires-clause-end_boundary c =
    front_boundary c.args.text.now c.args.rest.now c.requires.0 c.utf8.text c.utf8.rest c.requires.1

pub returns : goal.returns
returns c = λ front e.
    let cut : c.range.result.now ≡ take (length c.args.text.now - length c.args.rest.now) c.args.text.now =
    grind (arith, common_steps) in
    ap chars cut ∙ front_chars c.args.text.now c.args.rest.now front c.utf8.text c.utf8.rest e
