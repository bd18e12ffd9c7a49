-- What the tables read: the walks over them, and where these stop.
use Rattle.std.specs.Prelude.{◌≡◌, Bool, List, ◌++◌, Some, is_some}
use Rattle.pm_stream.specs.declared.stream.TokenTree.{TokenTree}
use Rattle.item_tables.specs.Walk.{ends, step}
use Rattle.declarations.specs.Expected.{HasSigns}
use Rattle.declarations.specs.Signs.{Sign, classes_of, signs, trees_of}
use Rattle.declarations.specs.Walk.{IsWalk, Stops, walk}
use Rattle.item_tables.specs.declared.class.SignClass.{SignClass}
use Rattle.declarations.specs.declared.expected.Expected.{Expected}
use Rattle.item_tables.specs.declared.walk_state.WalkState.{WalkState}

-- what the tables read from a state on
abbrev pub IsFrom : WalkState → List SignClass → List SignClass → Type 0
IsFrom start = IsWalk step ends start

-- the walk from `start` over the signs before the left trees ends in this state
pub record Walked (start : WalkState) (trees left : List TokenTree) (place : WalkState) : Type 0 where
  pub front : List Sign
  pub read : signs trees ≡ front ++ signs left
  pub whole : trees ≡ trees_of front ++ left
  pub walks : walk step start (classes_of front) ≡ Some place

-- the walk from `start` stops before the left trees, in a state where it may end or not
pub record StopsAt (start : WalkState) (ended : Bool) (trees left : List TokenTree) : Type 0 where
  pub place : WalkState
  pub walked : Walked start trees left place
  pub stops : Stops step place (classes_of (signs left))
  pub may_end : ends place ≡ ended

-- the set has the classes for which there is a step from this place, and the end if what is read may end there
abbrev pub AreSteps : WalkState → Expected → Type 0
AreSteps place set = HasSigns set (λ class. is_some (step place class)) (ends place)
