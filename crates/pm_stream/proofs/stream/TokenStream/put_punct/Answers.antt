use Rattle.pm_stream.proofs.BuildingLemmas.{built_after}
use Rattle.pm_stream.proofs.stream.TokenStream.put_punct.Goals as goal

pub invariant_of-self : goal.invariant_of-self
invariant_of-self c =
    built_after c.push.result _ _ _ c.push.ensures.ok c.push.ensures.err c.self.invariant
    (c.span.ensures.built, c.span.ensures.ordered, tt)
