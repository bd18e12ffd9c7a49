use Rattle.std.proofs.Common.{◌≡◌, ◌∙◌, ap, subst, Some, None}
use Rattle.std.specs.Prelude.{MatchOption}
use Rattle.quoting.specs.Items.{item_at}
use Rattle.quoting.specs.Kept.{items_of, item_filling}
use Rattle.quoting.proofs.ItemLemmas.{lent_value}
use Rattle.quoting.proofs.values.Values.get.Goals as goal

pub returns : goal.returns
returns c =
    subst (λ items. MatchOption c.get.result (item_at c.args.index items ≡ None)
    (λ value. item_at c.args.index items ≡ Some (item_filling value.now)))
    (ap items_of c.deref.ensures.value ∙ c.self.view_is)
    (lent_value item_filling c.deref.result.now c.args.index c.get.result c.get.ensures.lookup)
