-- A list that is a value of another list contains fewer lists than that one.
use Rattle.std.specs.Prelude.{◌≤◌, List, [], ◌∷◌, max}
use Rattle.std.proofs.Common.{arith}
use denote.Param.Weighed.{most}
use Rattle.quoting.specs.Items.{Items, item, height}
use Rattle.quoting.specs.Kept.{items_of, item_filling}
use Rattle.quoting.specs.declared.values.Item.{Item}
use Rattle.quoting.specs.declared.values.Item.TheVariants.{Stream, Tree, NotIdent, NotFinite}
use Rattle.quoting.specs.declared.values.Item.TheVariants.{List as Listed}
use Rattle.quoting.specs.declared.values.Values.TheDeep.{deep-Item}

-- the height of a list is at least that of its first value and that of the rest
pub deep_le : (value : Item) (f : Items) → max (deep-Item value) (height f) ≤ height (item (item_filling value) f)
deep_le (Stream stream) f = omega arith
deep_le (Tree tree) f = omega arith
deep_le NotIdent f = omega arith
deep_le NotFinite f = omega arith
deep_le (Listed values) f = omega arith

-- the height of the values is at least that of each value, as the size of a `Model` requires
pub most_le-height : (values : List Item) → most deep-Item values ≤ height (items_of values)
most_le-height [] = omega arith
most_le-height (value ∷ values) = omega (arith, deep_le value (items_of values), most_le-height values)
