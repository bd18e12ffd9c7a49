use Rattle.std.proofs.Common.{[], ◌∙◌, ap, subst, sym}
use Rattle.std.proofs.lemmas.Result.{err_from_is_err_and}
use Rattle.pm_stream.specs.Forest.{IsBuilt, flat_onto, flattening}
use Rattle.pm_stream.specs.Trees.{forest}
use Rattle.pm_stream.proofs.parse.parse.Goals as goal

pub read-requires-clause-starts : goal.read-requires-clause-starts
read-requires-clause-starts c = record {
  nested = tt;
  events = ap (λ trees. flat_onto (forest trees) []) c.new.ensures.items;
  built = subst (λ trees. IsBuilt (forest trees)) (sym c.new.ensures.items) tt;
}

pub returns-in_err-read-clause-ok : goal.returns-in_err-read-clause-ok
returns-in_err-read-clause-ok c =
    let p = err_from_is_err_and c.from_residual.result c.from_residual.ensures.1 in rw p.1 tt

pub returns-in_err-read-clause-built : goal.returns-in_err-read-clause-built
returns-in_err-read-clause-built c =
    let p = err_from_is_err_and c.from_residual.result c.from_residual.ensures.1 in rw p.1 tt

pub returns-in_err-read-clause-lex : goal.returns-in_err-read-clause-lex
returns-in_err-read-clause-lex c =
    let p = err_from_is_err_and c.from_residual.result c.from_residual.ensures.1 in
    rw (p.1, p.2) c.in_err-read.ensures.lex

pub finish-requires : goal.finish-requires
finish-requires c = c.in_ok-read.ensures.ok.takes.built

pub returns-in_err-finish-clause-ok : goal.returns-in_err-finish-clause-ok
returns-in_err-finish-clause-ok c =
    let back = c.from_residual-in_err-finish in
    let p = err_from_is_err_and back.result back.ensures.1 in rw p.1 tt

pub returns-in_err-finish-clause-built : goal.returns-in_err-finish-clause-built
returns-in_err-finish-clause-built c =
    let back = c.from_residual-in_err-finish in
    let p = err_from_is_err_and back.result back.ensures.1 in rw p.1 tt

pub returns-in_err-finish-clause-lex : goal.returns-in_err-finish-clause-lex
returns-in_err-finish-clause-lex c =
    let back = c.from_residual-in_err-finish in
    let p = err_from_is_err_and back.result back.ensures.1 in rw (p.1, p.2) tt

pub returns-clause-ok : goal.returns-clause-ok
returns-clause-ok c =
    let all = c.in_ok-read.ensures.ok in
    record {
      pieces = all.parses.pieces;
      covers = all.parses.covers;
      expands = ap flattening c.in_ok-finish.ensures.ok ∙ (all.takes.events ∙ all.parses.expands);
    }

pub returns-clause-built : goal.returns-clause-built
returns-clause-built c = subst IsBuilt (sym c.in_ok-finish.ensures.ok) c.in_ok-read.ensures.ok.takes.built
