use Rattle.std.proofs.Common.{sym}
use Rattle.literal_escaper.proofs.ItemLemmas.{next_left}
use Rattle.literal_escaper.proofs.cooked.next_item.Goals as goal

pub returns : goal.returns
returns g c =
    next_left g.K.Unescape.kind c.args.content.now c.next_front-item.result.item c.next_front-item.result.warning
    c.next_front-item.result.after
    (sym c.in_default.ensures.value) c.next_front-item.ensures.left c.next_front-item.ensures.none
