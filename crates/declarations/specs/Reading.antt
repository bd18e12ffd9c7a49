-- What is read from trees, and where the error is if nothing can be read.
use Rattle.std.specs.Prelude.{◌≡◌, ℕ, List, [], ◌∷◌, ◌++◌, Option, Some, None, length}
use Rattle.pm_token.specs.Leaf.{Name}
use Rattle.pm_stream.specs.declared.stream.TokenTree.{TokenTree}
use Rattle.pm_stream.specs.declared.stream.TokenTree.TheVariants.{Ident}
use Rattle.declarations.specs.Signs.{Sign, signs, classes_of, trees_of}
use Rattle.declarations.specs.Walk.{IsFront}
use Rattle.item_tables.specs.declared.class.SignClass.{SignClass}

-- the trees are the part and then the rest, and the part has this form if the rest comes after it
pub record Reads (form : List SignClass → List SignClass → Type 0) (trees part rest : List TokenTree) : Type 0 where
  pub piece : List Sign
  pub read : signs trees ≡ piece ++ signs rest
  pub taken : part ≡ trees_of piece
  pub whole : trees ≡ part ++ rest
  pub stands : form (classes_of piece) (classes_of (signs rest))

-- the prefix of the signs cannot go on with the first sign that is left
abbrev pub StopsBefore : (List SignClass → List SignClass → Type 0) → List SignClass → List SignClass → Type 0
StopsBefore form front [] = Unit {0}
StopsBefore form front (sign ∷ left) = IsFront form (front ++ sign ∷ []) → ⊥

-- nothing of this form can be read. The error is after `at` trees: the longest prefix that other trees could complete
pub record FaultAt (form : List SignClass → List SignClass → Type 0) (trees : List TokenTree) (at : ℕ) : Type 0 where
  pub front : List Sign
  pub left : List TokenTree
  pub read : signs trees ≡ front ++ signs left
  pub whole : trees ≡ trees_of front ++ left
  pub counted : at ≡ length (trees_of front)
  pub goes_on : IsFront form (classes_of front)
  pub longest : StopsBefore form (classes_of front) (classes_of (signs left))
  pub nothing : (part rest : List TokenTree) → Reads form trees part rest → ⊥

-- no other part and rest can be read from these trees by the form
abbrev pub IsOnly : (List SignClass → List SignClass → Type 0) → List TokenTree → List TokenTree → List TokenTree
    → Type 0
IsOnly form trees part rest =
    (part2 rest2 : List TokenTree) → Reads form trees part2 rest2 → (part2 ≡ part) × (rest2 ≡ rest)

-- the first tree, if it is an identifier
abbrev pub first_name : List TokenTree → Option Name
first_name (Ident i ∷ rest) = Some i
first_name _ = None
