use Rattle.std.proofs.Common.{refl}
use Rattle.declarations.proofs.ItemLemmas.{item_fails, item_finds, item_parts}
use Rattle.declarations.proofs.item.item_of.Goals as goal

pub returns-in-Ok-declared_of : goal.returns-in-Ok-declared_of
returns-in-Ok-declared_of c =
    let has = c.in-Ok-declared_of.ensures in (
      item_finds c.args.trees.now _ _ c.in-Ok.from_keyword.now c.in-Ok-declared_of.rest.now c.in-Ok.ensures has.0,
      λ none. item_parts c.args.trees.now c.in-Ok.from_keyword.now c.in-Ok-declared_of.rest.now _
          c.in-Ok-declared_of.named c.in-Ok.ensures has.0 has.1 refl refl refl refl refl none,
    )

pub returns-in-Err-declared_of : goal.returns-in-Err-declared_of
returns-in-Err-declared_of c =
    item_fails c.args.trees.now _ _ c.in-Ok.from_keyword.now c.in-Err-declared_of.left.now c.in-Ok.ensures
    c.in-Err-declared_of.ensures
