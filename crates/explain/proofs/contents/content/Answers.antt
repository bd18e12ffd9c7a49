use Rattle.std.proofs.Common.{◌≡◌, ◌∙◌, ◌-◌, ap, arith, take, length}
use Rattle.std.specs.Str.{chars}
use Rattle.std.proofs.lemmas.Grind.{common_steps}
use Rattle.explain.proofs.ContentLemmas.{content_size, content_boundary, content_chars}
use Rattle.explain.proofs.contents.content.Goals as goal

pub overflow_sub-size : goal.overflow_sub-size
overflow_sub-size c =
    let inside = c.requires.2 in
    omega (arith, content_size c.args.at c.args.end c.requires.0 inside.0 c.requires.1 inside.1)

pub overflow_sub-size-2 : goal.overflow_sub-size-2
overflow_sub-size-2 c =
    let inside = c.requires.2 in
    omega (arith, content_size c.args.at c.args.end c.requires.0 inside.0 c.requires.1 inside.1)

pub range-requires-clause-end_boundary : goal.range-requires-clause-end_boundary
range-requires-clause-end_boundary c =
    let inside = c.requires.2 in
    content_boundary c.args.at c.args.end c.requires.0 inside.0 c.requires.1 inside.1

pub returns : goal.returns
returns c = λ quote left low is.
    let cut : c.range.result.now ≡ take (length c.args.at.rest.now - length c.args.end.rest.now - 1)
    c.args.at.rest.now =
    grind (arith, common_steps) in
    ap chars cut ∙ content_chars c.args.at c.args.end quote left low is
