use Rattle.declarations.proofs.ItemLemmas.{plain_fails, plain_finds, plain_has}
use Rattle.declarations.proofs.item.plain_end.Goals as goal

pub returns-in-Ok-body_of : goal.returns-in-Ok-body_of
returns-in-Ok-body_of c =
    let body = c.in-Ok-body_of.ensures in (
      plain_finds c.args.trees.now c.in-Ok.from_body.now c.in-Ok-body_of.rest.now c.in-Ok.ensures body.0,
      plain_has c.args.trees.now c.in-Ok.from_body.now c.part.result.now c.in-Ok-body_of.semicolon.now
          c.in-Ok-body_of.rest.now c.in-Ok-body_of.fields c.in-Ok.ensures c.part.ensures body.1,
    )

pub returns-in-Err-body_of : goal.returns-in-Err-body_of
returns-in-Err-body_of c =
    plain_fails c.args.trees.now c.in-Ok.from_body.now c.in-Err-body_of.left.now c.in-Ok.ensures
    c.in-Err-body_of.ensures
