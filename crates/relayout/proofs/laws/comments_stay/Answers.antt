use Rattle.relayout.proofs.CommentLemmas.{comments_cover, comments_keep}
use Rattle.relayout.proofs.laws.comments_stay.Goals as goal

pub returns : goal.returns
returns c = λ any source parts covers may.
    (comments_cover any source parts covers may, comments_keep any source parts covers may)
