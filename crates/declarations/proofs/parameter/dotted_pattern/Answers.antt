use Rattle.std.proofs.lemmas.Result.{err_from_is_err_and}
use Rattle.declarations.specs.rules.Parameters.{pattern_rest, two_dots}
use Rattle.declarations.proofs.ReaderLemmas.{then_reads, then_sticks}
use Rattle.declarations.proofs.parameter.dotted_pattern.Goals as goal

pub returns-in_err-two_dots : goal.returns-in_err-two_dots
returns-in_err-two_dots c =
    let p = err_from_is_err_and c.from_residual.result c.from_residual.ensures.1 in
    rw (p.1, p.2) (then_sticks two_dots pattern_rest c.args.trees.now c.in_err-two_dots.field-0.0.now
    c.in_err-two_dots.ensures)

pub returns : goal.returns
returns c =
    then_reads two_dots pattern_rest c.args.trees.now c.in_ok-two_dots.field-0.now c.pattern_rest.result
    c.in_ok-two_dots.ensures c.pattern_rest.ensures
