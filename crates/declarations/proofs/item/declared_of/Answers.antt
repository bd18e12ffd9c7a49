use Rattle.declarations.proofs.ItemLemmas.{declared_finds, declared_has}
use Rattle.declarations.proofs.item.declared_of.Goals as goal

pub returns-in-Ok-named_of : goal.returns-in-Ok-named_of
returns-in-Ok-named_of c =
    let named = c.in-Ok-named_of.ensures in (
      declared_finds c.args.trees.now c.in-Ok.from_name.now c.in-Ok-named_of.rest.now c.in-Ok.keyword.now
          c.in-Ok.declared c.in-Ok.ensures named.0,
      declared_has c.args.trees.now c.in-Ok.from_name.now c.in-Ok-named_of.rest.now c.in-Ok.keyword.now
          c.in-Ok.declared c.in-Ok-named_of.named c.in-Ok.ensures named.1,
    )
