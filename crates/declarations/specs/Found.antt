-- What rules find, without the labels of the parts.
use Rattle.std.specs.Prelude.{◌≡◌, List, []}
use Rattle.grammars.specs.Find.{Found, Past, Stuck, find}
use Rattle.pm_stream.specs.declared.stream.TokenTree.{TokenTree}
use Rattle.declarations.specs.Reader.{Remains, classes_in}
use Rattle.item_tables.specs.declared.class.SignClass.{SignClass}
use Rattle.declarations.specs.rules.Names.{G, Label}
use Rattle.declarations.specs.rules.Rules.{rules}

-- what is found, without its signs and labels
abbrev pub bare : Found SignClass Label → Found SignClass Label
bare (Past events rest) = Past [] rest
bare (Stuck left) = Stuck left

-- what the rule finds at the start of the signs, without these signs and the labels
abbrev pub finds : G → List SignClass → Found SignClass Label
finds g cs = bare (find rules g cs)

-- what the rule `g` finds in the trees ends where that ends which the rule `h` finds in the rest
pub record TurnsTo (g : G) (trees : List TokenTree) (h : G) (rest : List TokenTree) : Type 0 where
  pub same : finds g (classes_in trees) ≡ finds h (classes_in rest)
  pub remains : Remains rest trees
