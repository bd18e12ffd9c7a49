-- The signs that can come next where trees do not fit the grammar.
use Rattle.std.specs.Prelude.{◌≡◌, ℕ, ◌==◌, ◌↔◌, Bool, true, List, [], ◌∷◌, ◌++◌, length}
use Rattle.std.specs.Int.{bit_at}
use Rattle.pm_stream.specs.declared.stream.TokenTree.{TokenTree}
use Rattle.declarations.specs.Signs.{Sign, classes_of, signs, trees_of}
use Rattle.declarations.specs.Walk.{IsFront}
use Rattle.declarations.specs.Whole.{IsWhole}
use Rattle.item_tables.specs.declared.class.SignClass.{SignClass}
use Rattle.declarations.specs.declared.expected.Expected.{Expected}
use Rattle.item_tables.specs.Classes.{code}

-- whether the class is in the set
abbrev pub holds : Expected → SignClass → Bool
holds set class = bit_at set.bits (code class) == 1

-- whether the end is in the set
abbrev pub holds_end : Expected → Bool
holds_end set = bit_at set.bits 127 == 1

-- the set has these classes, and the end or not
pub record HasSigns (set : Expected) (has : SignClass → Bool) (may_end : Bool) : Type 0 where
  pub classes : (class : SignClass) → holds set class ≡ has class
  pub end : holds_end set ≡ may_end

-- the set has exactly the classes that can come after the first `at` trees so that the form can be completed. It has
-- the end if these trees are the whole of a part
pub record Expects (form : List SignClass → List SignClass → Type 0) (trees : List TokenTree) (at : ℕ) (set : Expected)
    : Type 0 where
  pub front : List Sign
  pub left : List TokenTree
  pub read : signs trees ≡ front ++ signs left
  pub whole : trees ≡ trees_of front ++ left
  pub counted : at ≡ length (trees_of front)
  pub classes : (class : SignClass) → (holds set class ≡ true) ↔ IsFront (IsWhole form) (classes_of front ++ class ∷ [])
  pub end : (holds_end set ≡ true) ↔ form (classes_of front) []
