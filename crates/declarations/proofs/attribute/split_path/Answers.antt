use Rattle.std.proofs.Common.{◌∙◌, ap, drop, take, arith}
use Rattle.declarations.proofs.AttributeLemmas.{path_within}
use Rattle.declarations.proofs.attribute.split_path.Goals as goal

pub split_at-requires : goal.split_at-requires
split_at-requires c =
    let within = path_within c.args.trees.now in
    omega arith

pub returns-clause-path : goal.returns-clause-path
returns-clause-path c = c.split_at.ensures.front ∙ ap (λ n. take n c.args.trees.now) c.path_len.ensures

pub returns-clause-rest : goal.returns-clause-rest
returns-clause-rest c = c.split_at.ensures.back ∙ ap (λ n. drop n c.args.trees.now) c.path_len.ensures
