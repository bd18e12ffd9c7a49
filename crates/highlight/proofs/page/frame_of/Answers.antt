use Rattle.std.proofs.Common.{refl}
use Rattle.highlight.specs.Page.{page_foot, page_head}
use Rattle.highlight.proofs.page.frame_of.Goals as goal

pub returns-in-Html-clause-head : goal.returns-in-Html-clause-head
unfolding page_head
returns-in-Html-clause-head c = rw c.in-Html.is refl

pub returns-in-Html-clause-foot : goal.returns-in-Html-clause-foot
unfolding page_foot
returns-in-Html-clause-foot c = rw c.in-Html.is refl
