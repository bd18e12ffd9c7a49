use Rattle.pm_c.proofs.ListingLemmas.{length_width}
use Rattle.pm_c.proofs.listing.width.Goals as goal

pub returns : goal.returns
returns c = length_width _ _ c.trees.ensures.value
