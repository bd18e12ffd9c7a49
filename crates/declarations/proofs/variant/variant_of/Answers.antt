use Rattle.declarations.proofs.VariantLemmas.{variant_at, variant_fails, variant_finds}
use Rattle.declarations.proofs.variant.variant_of.Goals as goal

pub returns-in-Ok-named_of : goal.returns-in-Ok-named_of
returns-in-Ok-named_of c =
    let named = c.in-Ok-named_of.ensures in (
      variant_finds c.args.trees.now _ _ c.in-Ok.from_name.now c.in-Ok-named_of.rest.now c.in-Ok.ensures named.0,
      variant_at c.args.trees.now c.in-Ok.from_name.now c.in-Ok-named_of.rest.now _ c.in-Ok.ensures named.0 named.1,
    )

pub returns-in-Err-named_of : goal.returns-in-Err-named_of
returns-in-Err-named_of c =
    variant_fails c.args.trees.now _ _ c.in-Ok.from_name.now c.in-Err-named_of.left.now c.in-Ok.ensures
    c.in-Err-named_of.ensures
