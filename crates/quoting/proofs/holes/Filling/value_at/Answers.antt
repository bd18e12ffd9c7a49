use Rattle.std.proofs.Common.{◌∙◌, sym, ap, Some, None}
use Rattle.quoting.specs.Given.{filling_by, looked_up}
use Rattle.quoting.specs.Holes.{value_at}
use Rattle.quoting.specs.Items.{One}
use Rattle.quoting.proofs.ItemLemmas.{lends_item}
use Rattle.quoting.proofs.holes.Filling.value_at.Goals as goal

pub returns-in_err-get-in-Each : goal.returns-in_err-get-in-Each
returns-in_err-get-in-Each c =
    ap looked_up c.from_residual.ensures
    ∙ (lends_item One _ c.args.turn None c.in_err-get-in-Each.ensures.lookup
    ∙ ap (λ f. value_at c.args.turn (filling_by f)) (sym c.in-Each.is))

pub returns-in_ok-get-in-Each : goal.returns-in_ok-get-in-Each
returns-in_ok-get-in-Each c =
    lends_item One _ c.args.turn (Some c.in_ok-get-in-Each.field-0) c.in_ok-get-in-Each.ensures.lookup
    ∙ ap (λ f. value_at c.args.turn (filling_by f)) (sym c.in-Each.is)
