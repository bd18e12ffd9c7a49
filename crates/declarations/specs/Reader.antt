-- What a function returns that reads by one rule of the grammar.
use Rattle.std.specs.Prelude.{◌≡◌, List, ◌++◌, Result, Ok, Err}
use Rattle.std.specs.Borrow.{Bor}
use Rattle.grammars.specs.Grammar.{Event}
use Rattle.grammars.specs.Find.{Past, Stuck, find}
use Rattle.pm_stream.specs.declared.stream.TokenTree.{TokenTree}
use Rattle.declarations.specs.Signs.{Sign, classes_of, signs, trees_of}
use Rattle.item_tables.specs.declared.class.SignClass.{SignClass}
use Rattle.declarations.specs.rules.Names.{G, Label}
use Rattle.declarations.specs.rules.Rules.{rules}

-- the classes of the signs of trees
unfoldable pub classes_in : List TokenTree → List SignClass
classes_in trees = classes_of (signs trees)

-- the rest is what remains of the trees after some whole signs
pub record Remains (rest trees : List TokenTree) : Type 0 where
  pub front : List Sign
  pub read : signs trees ≡ front ++ signs rest
  pub whole : trees ≡ trees_of front ++ rest

-- what the rule finds at the start of the trees ends before the rest
pub record Finds (g : G) (trees rest : List TokenTree) : Type 0 where
  pub events : List (Event SignClass Label)
  pub found : find rules g (classes_in trees) ≡ Past events (classes_in rest)
  pub remains : Remains rest trees

-- the rule finds nothing at the start of the trees, and the error is before the left trees
pub record Sticks (g : G) (trees left : List TokenTree) : Type 0 where
  pub stuck : find rules g (classes_in trees) ≡ Stuck (classes_in left)
  pub remains : Remains left trees

-- the result is the trees after what the rule finds, or the trees from the error on
abbrev pub ReadsRule : G → List TokenTree → Result (Bor (List TokenTree)) (Bor (List TokenTree)) → Type 0
ReadsRule g trees (Ok rest) = Finds g trees rest.now
ReadsRule g trees (Err left) = Sticks g trees left.now
