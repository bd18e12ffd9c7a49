use Rattle.std.proofs.Common.{◌∙◌, sym}
use Rattle.item_headers.proofs.HeaderLemmas.{led_none, led_some}
use Rattle.item_headers.proofs.lists.push_led.Goals as goal

pub returns-then-is_empty : goal.returns-then-is_empty
returns-then-is_empty c =
    led_none 58 c.args.trees.now c.args.quote.now (sym c.is_empty.ensures ∙ c.if-is_empty.true)

pub returns : goal.returns
returns c =
    led_some 58 c.args.trees.now c.args.quote.now c.push_mark.new.quote c.push_trees.new.quote
    (sym c.is_empty.ensures ∙ c.if-is_empty.false) c.in_ok-push_mark.ensures c.in_ok-push_trees.ensures
