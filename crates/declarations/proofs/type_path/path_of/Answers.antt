use Rattle.std.proofs.Common.{refl}
use Rattle.declarations.proofs.TypePathLemmas.{
  first_at,
  path_finds,
  path_lacks,
  path_parts,
  path_remains,
  path_sticks,
}
use Rattle.declarations.proofs.type_path.path_of.Goals as goal

pub last_of-requires : goal.last_of-requires
last_of-requires c =
    first_at c.args.trees.now c.past_separator.result.now c.past_separator.ensures.finds c.in-Ok.first
    c.in-Ok.ensures.0 c.in-Ok.ensures.1

pub part-requires : goal.part-requires
part-requires c =
    path_remains c.args.trees.now c.past_separator.result.now c.past_separator.ensures.finds c.in-Ok.first
    c.in-Ok.ensures.0 c.in-Ok.ensures.1 c.in-Ok-last_of.last c.in-Ok-last_of.ensures

pub returns-in-Ok-last_of : goal.returns-in-Ok-last_of
returns-in-Ok-last_of c = (
  path_finds c.args.trees.now c.past_separator.result.now c.past_separator.ensures.finds c.in-Ok.first
      c.in-Ok.ensures.0 c.in-Ok.ensures.1 c.in-Ok-last_of.last c.in-Ok-last_of.ensures,
  path_parts c.args.trees.now c.past_separator.result.now c.past_separator.ensures.finds c.in-Ok.first
      c.in-Ok.ensures.0 c.in-Ok.ensures.1 _ c.in-Ok-last_of.last c.past_separator.ensures.may c.in-Ok-last_of.ensures
      c.part.ensures refl refl,
)

pub returns-in-Err-last_of : goal.returns-in-Err-last_of
returns-in-Err-last_of c =
    path_sticks c.args.trees.now c.past_separator.result.now c.past_separator.ensures.finds c.in-Ok.first
    c.in-Ok.ensures.0 c.in-Ok.ensures.1 c.in-Err-last_of.left.now c.in-Err-last_of.ensures

pub returns-in-Err : goal.returns-in-Err
returns-in-Err c =
    path_lacks c.args.trees.now c.past_separator.result.now c.past_separator.ensures.finds c.in-Err.left.now
    c.in-Err.ensures.0 c.in-Err.ensures.1
