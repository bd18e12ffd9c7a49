use Rattle.std.proofs.Common.{subst}
use Rattle.pm_stream.specs.Forest.{IsBuilt}
use Rattle.pm_stream.proofs.BuildingLemmas.{built_after, literal_built, split_negative, split_plain}
use Rattle.pm_stream.proofs.stream.TokenStream.put_literal.Goals as goal

pub invariant_of-self : goal.invariant_of-self
invariant_of-self c =
    let parts = c.split_minus-minus in
    let same = split_plain c.args.literal parts.result.1 parts.result.0 parts.ensures c.in-None.is in
    built_after c.push.result _ _ _ c.push.ensures.ok c.push.ensures.err c.self.invariant
    (subst IsBuilt same (literal_built c.args.literal c.span.ensures.built c.span.ensures.ordered))

pub invariant_of-self-in-Some : goal.invariant_of-self-in-Some
invariant_of-self-in-Some c =
    let parts = c.split_minus-minus in
    let same =
    split_negative c.args.literal parts.result.1 c.in-Some.minus parts.result.0 parts.ensures c.in-Some.is in
    built_after c.push_negative.result _ _ _ c.push_negative.ensures.ok c.push_negative.ensures.err c.self.invariant
    (subst IsBuilt same (literal_built c.args.literal c.span.ensures.built c.span.ensures.ordered))
