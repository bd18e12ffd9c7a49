-- Where two lists of words first differ.
use Rattle.std.specs.Prelude.{ℕ, ◌≡◌, ◌≢◌, List, [], ◌∷◌, ◌++◌, Option, Some, None}
use Rattle.same.specs.SourceWord.{Placed, WordValue}

-- the words without the texts from which they come
abbrev pub bare : List Placed → List WordValue
bare [] = []
bare (x ∷ xs) = x.0 ∷ bare xs

abbrev pub first_word : List Placed → Option WordValue
first_word [] = None
first_word (x ∷ xs) = Some x.0

-- the text from the first of the words on, empty if there is none
abbrev pub first_place : List Placed → List ℕ
first_place [] = []
first_place (x ∷ xs) = x.1

-- both lists begin with the same words, and go on with these
pub record SoFar (xs ys : List Placed) (more others : List Placed) : Type 0 where
  pub front : List Placed
  pub other_front : List Placed
  pub first : xs ≡ front ++ more
  pub second : ys ≡ other_front ++ others
  pub same : bare front ≡ bare other_front

-- after the same words the next words differ, or only one list has a next word; these texts begin there
pub record DifferAt (xs ys : List Placed) (first second : List ℕ) : Type 0 where
  pub more : List Placed
  pub others : List Placed
  pub so_far : SoFar xs ys more others
  pub differ : first_word more ≢ first_word others
  pub first_is : first ≡ first_place more
  pub second_is : second ≡ first_place others
