-- What the values stand for that a list has.
use Rattle.std.specs.Prelude.{List}
use Rattle.proc_macro2.specs.Building.{split}
use Rattle.quoting.specs.Items.{Filling, One, Unfit, Each, Items, no_name, no_number, each_of}
use Rattle.quoting.specs.declared.values.Item.{Item}
use Rattle.quoting.specs.declared.values.Item.TheVariants.{Stream, Tree, NotIdent, NotFinite}
use Rattle.quoting.specs.declared.values.Item.TheVariants.{List as Listed}

-- what a value of a list stands for
abbrev pub item_filling : Item → Filling
item_filling (Stream stream) = One stream
item_filling (Tree tree) = One (split tree)
item_filling NotIdent = Unfit no_name
item_filling NotFinite = Unfit no_number
item_filling (Listed values) = Each values

abbrev pub items_of : List Item → Items
items_of = each_of item_filling
