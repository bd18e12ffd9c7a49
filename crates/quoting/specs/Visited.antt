-- Which marks of a stream are visited, and the stream when they are joined.
use Rattle.std.specs.Prelude.{ℕ, ◌+◌, Bool, false, ◌&&◌, ◌==◌, if◌then◌else◌, List, [], ◌∷◌, ◌++◌, drop}
use Rattle.proc_macro2.specs.Forest.{Forest, nil, leaf, group}
use Rattle.proc_macro2.specs.Token.{Name, Mark, Literal}
use Rattle.proc_macro2.specs.WellSpaced.{next_token}
use Rattle.quoting.specs.Joined.{joined_token}
use Rattle.quoting.specs.declared.join.Visit.{Visit}

-- whether the first visit is of the tree with this index in its list, which is in this number of groups
abbrev pub is_visited : ℕ → ℕ → List Visit → Bool
is_visited depth index [] = false
is_visited depth index (visit ∷ visits) = (visit.depth == depth) && (visit.index == index)

-- the visits after that of the token, which has one if it is visited
abbrev pub past_visit : ℕ → ℕ → List Visit → List Visit
past_visit depth index visits = if is_visited depth index visits then drop 1 visits else visits

-- the visits from that of the first tree inside a group on: none, unless the group is visited
abbrev pub inner_visits : ℕ → ℕ → List Visit → List Visit
inner_visits depth index visits = if is_visited depth index visits then drop 1 visits else []

-- the visits after those of the trees, of which the first has this index, and after those of the trees inside them
abbrev pub past_visits : ℕ → ℕ → Forest → List Visit → List Visit
past_visits depth index nil visits = visits
past_visits depth index (leaf token lo hi rest) visits =
    past_visits depth (index + 1) rest (past_visit depth index visits)
past_visits depth index (group d lo hi inside rest) visits =
    past_visits depth (index + 1) rest
    (if is_visited depth index visits then past_visits (depth + 1) 0 inside (drop 1 visits) else visits)

-- `visited-marks`: for each mark of the trees, at any depth and in reading order, whether it is visited. A visit counts
-- once its tree comes. The visits after it wait for it
abbrev pub visited_marks : ℕ → ℕ → Forest → List Visit → List Bool
visited_marks depth index nil visits = []
visited_marks depth index (leaf (Name raw name) lo hi rest) visits =
    visited_marks depth (index + 1) rest (past_visit depth index visits)
visited_marks depth index (leaf (Mark c joint) lo hi rest) visits =
    is_visited depth index visits ∷ visited_marks depth (index + 1) rest (past_visit depth index visits)
visited_marks depth index (leaf (Literal text) lo hi rest) visits =
    visited_marks depth (index + 1) rest (past_visit depth index visits)
visited_marks depth index (group d lo hi inside rest) visits =
    visited_marks (depth + 1) 0 inside (inner_visits depth index visits)
    ++ visited_marks depth (index + 1) rest
    (if is_visited depth index visits then past_visits (depth + 1) 0 inside (drop 1 visits) else visits)

-- the trees in which each visited mark is Joint, if it may be joined
abbrev pub join_visited : ℕ → ℕ → Forest → List Visit → Forest
join_visited depth index nil visits = nil
join_visited depth index (leaf token lo hi rest) visits =
    leaf (joined_token (is_visited depth index visits) token (next_token rest)) lo hi
    (join_visited depth (index + 1) rest (past_visit depth index visits))
join_visited depth index (group d lo hi inside rest) visits =
    group d lo hi (join_visited (depth + 1) 0 inside (inner_visits depth index visits))
    (join_visited depth (index + 1) rest
    (if is_visited depth index visits then past_visits (depth + 1) 0 inside (drop 1 visits) else visits))
