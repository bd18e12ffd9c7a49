use Rattle.declarations.proofs.ItemLemmas.{named_ends, named_fails, named_finds, named_has}
use Rattle.declarations.proofs.item.named_of.Goals as goal

pub returns-in-Ok-end_of : goal.returns-in-Ok-end_of
returns-in-Ok-end_of c =
    let end = c.in-Ok-end_of.ensures in (
      named_finds c.args.declared c.args.trees.now c.in-Ok.from_generics.now c.in-Ok-past_generics.from_end.now
          c.in-Ok-end_of.rest.now c.in-Ok.name.now c.in-Ok.ensures c.in-Ok-past_generics.ensures end.0,
      named_has c.args.declared c.args.trees.now c.in-Ok.from_generics.now c.in-Ok-past_generics.from_end.now
          c.in-Ok-end_of.rest.now _ c.in-Ok.ensures c.in-Ok-past_generics.ensures c.part-generics.ensures end.1,
    )

pub returns-in-Err-end_of : goal.returns-in-Err-end_of
returns-in-Err-end_of c =
    named_ends c.args.declared c.args.trees.now c.in-Ok.from_generics.now c.in-Ok-past_generics.from_end.now
    c.in-Err-end_of.left.now c.in-Ok.name.now c.in-Ok.ensures c.in-Ok-past_generics.ensures c.in-Err-end_of.ensures

pub returns-in-Err-past_generics : goal.returns-in-Err-past_generics
returns-in-Err-past_generics c =
    named_fails c.args.declared c.args.trees.now c.in-Ok.from_generics.now c.in-Err-past_generics.left.now
    c.in-Ok.name.now c.in-Ok.ensures c.in-Err-past_generics.ensures
