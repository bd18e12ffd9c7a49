use Rattle.item_headers.proofs.HeaderLemmas.{joined_four}
use Rattle.item_headers.specs.Header.{keyword}
use Rattle.item_headers.specs.Lists.{led, pushed_trees}
use Rattle.item_headers.proofs.params.push_declared.Goals as goal

pub returns : goal.returns
returns c =
    let param = c.args.param.now in
    joined_four c.args.quote.now (pushed_trees param.attributes.now) (keyword param.kind) (pushed_trees param.name.now)
    (led 58 param.bounds.now) _ _ _ _ c.in_ok-push_trees.ensures c.in_ok-push_keyword.ensures
    c.in_ok-push_trees-2.ensures c.in_ok-push_led.ensures
