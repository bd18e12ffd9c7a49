use Rattle.std.proofs.KnownBytes.{Appends-trans}
use Rattle.std.proofs.lemmas.Result.{on_ok_weaker}
use Rattle.rust_check.proofs.answer.write_comments.Goals as goal

pub returns : goal.returns
returns g c =
    on_ok_weaker c.write_closed.result (λ later. Appends-trans _ _ _ _ _ c.in_ok-write_depth.ensures later)
    c.write_closed.ensures
