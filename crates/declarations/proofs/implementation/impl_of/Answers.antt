use Rattle.declarations.proofs.ImplLemmas.{end_fails, header_fails, item_finds, item_has}
use Rattle.declarations.proofs.implementation.impl_of.Goals as goal

pub returns-in-Ok-end_of : goal.returns-in-Ok-end_of
returns-in-Ok-end_of c = (
  item_finds c.args.trees.now c.in-Ok.from_header.now c.in-Ok-header_of.from_clause.now c.in-Ok-end_of.rest.now
      c.in-Ok.ensures.0 c.in-Ok-header_of.ensures.0 c.in-Ok-end_of.ensures.0,
  item_has c.args.trees.now
      c.in-Ok.from_header.now c.in-Ok-header_of.from_clause.now c.in-Ok-end_of.rest.now _ c.in-Ok.ensures.1
      c.in-Ok-header_of.ensures.1 c.in-Ok-end_of.ensures.1,
)

pub returns-in-Err-end_of : goal.returns-in-Err-end_of
returns-in-Err-end_of c =
    end_fails c.args.trees.now c.in-Ok.from_header.now c.in-Ok-header_of.from_clause.now c.in-Err-end_of.left.now
    c.in-Ok.ensures.0 c.in-Ok-header_of.ensures.0 c.in-Err-end_of.ensures

pub returns-in-Err-header_of : goal.returns-in-Err-header_of
returns-in-Err-header_of c =
    header_fails c.args.trees.now c.in-Ok.from_header.now c.in-Err-header_of.left.now c.in-Ok.ensures.0
    c.in-Err-header_of.ensures
