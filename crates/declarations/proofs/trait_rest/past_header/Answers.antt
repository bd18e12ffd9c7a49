use Rattle.declarations.proofs.TraitLemmas.{lacks_generics}
use Rattle.declarations.proofs.trait_rest.past_header.Goals as goal

pub returns-in-Err-past_generics : goal.returns-in-Err-past_generics
returns-in-Err-past_generics c =
    lacks_generics c.args.trees.now c.in-Ok.from_generics.now c.in-Err-past_generics.left.now c.in-Ok.ensures
    c.in-Err-past_generics.ensures
