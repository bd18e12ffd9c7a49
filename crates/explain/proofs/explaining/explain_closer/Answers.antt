use Rattle.std.proofs.Common.{◌+◌, ◌++◌, ◌∙◌, [], ap, refl, sym, arith}
use Rattle.std.specs.Str.{chars}
use Rattle.lexical.proofs.PieceFacts.{piece_boundary, piece_rest}
use Rattle.pm_stream.proofs.PieceLemmas.{same_fronts}
use Rattle.explain.proofs.explaining.explain_closer.Goals as goal

pub range_from-tail-requires : goal.range_from-tail-requires
range_from-tail-requires c = λ _. piece_boundary _ c.args.rest.now c.args.closer c.utf8.rest c.requires.stands.1

pub stretch-requires-2-clause-to : goal.stretch-requires-2-clause-to
stretch-requires-2-clause-to c =
    let found = c.requires.stands.1 in
    let tail = ap chars c.range_from-tail.ensures.value
    ∙ piece_rest _ c.args.rest.now c.args.closer c.utf8.rest found in
    (found.front, found.whole ∙ ap (λ t. found.front ++ t) (sym tail))

pub returns-clause-before : goal.returns-clause-before
returns-clause-before c = λ base text_before whole place. c.stretch.ensures base text_before [] whole refl place
    (omega arith)

pub returns-clause-at : goal.returns-clause-at
returns-clause-at c = λ base text_before part after whole place split size.
    let found = c.requires.stands.1 in
    let tail = ap chars c.range_from-tail.ensures.value
    ∙ piece_rest _ c.args.rest.now c.args.closer c.utf8.rest found in
    let same = same_fronts found.front part found.rest after (sym found.whole ∙ split) (sym found.chars ∙ size) in
    c.stretch-2.ensures base text_before part whole
    (found.whole ∙ (ap (λ f. f ++ found.rest) same ∙ ap (λ t. part ++ t) (sym tail))) place
    (ap (λ n. c.args.at + n) size)
