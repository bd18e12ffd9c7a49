use Rattle.std.proofs.Common.{◌∙◌, ap, Ok, Some}
use Rattle.quoting.specs.Filled.{then_outcome}
use Rattle.quoting.specs.Holes.{put_in}
use Rattle.quoting.specs.Values.{value_of}
use Rattle.quoting.proofs.PartLemmas.{joined_nil}
use Rattle.quoting.proofs.putting.put_value.Goals as goal

pub returns-in-Nothing-clause-ok : goal.returns-in-Nothing-clause-ok
returns-in-Nothing-clause-ok c =
    ap (λ v. then_outcome (Ok c.args.out.now) (put_in c.args.span (Some (value_of v)))) c.in-Nothing.is
    ∙ ap Ok (joined_nil c.args.out.now)
