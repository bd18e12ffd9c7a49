-- The value of a stream in contracts: its trees, one after another.
use Rattle.std.specs.Prelude.{ℕ, ◌≤◌, List, [], ◌∷◌}
use Rattle.lexical.specs.Token.{Token}
use Rattle.pm_token.specs.declared.delimiters.Delimiter.{Delimiter}
use Rattle.pm_token.specs.Built.{IsBuiltToken}
use Rattle.pm_stream.specs.Events.{Event, One, Opens, Closes}

-- a list of trees: no trees, or a token or a group and then the other trees
pub data Forest : Type 0 where
  -- no trees
  nil : Forest
  -- a token, with the positions where it begins and ends, and then the other trees
  leaf : Token → ℕ → ℕ → Forest → Forest
  -- a group, with the positions where it begins and ends and the trees inside, and then the other trees
  group : Delimiter → ℕ → ℕ → Forest → Forest → Forest

-- the flattening of the trees, and then other events
abbrev pub flat_onto : Forest → List Event → List Event
flat_onto nil events = events
flat_onto (leaf token lo hi rest) events = One token lo hi ∷ flat_onto rest events
flat_onto (group d lo hi inside rest) events = Opens d lo ∷ flat_onto inside (Closes d hi ∷ flat_onto rest events)

-- `flattening`: the tokens and delimiters of the trees in reading order, with their positions
abbrev pub flattening : Forest → List Event
flattening forest = flat_onto forest []

-- the trees of the first stream, and then those of the second
abbrev pub chain : Forest → Forest → Forest
chain nil more = more
chain (leaf token lo hi rest) more = leaf token lo hi (chain rest more)
chain (group d lo hi inside rest) more = group d lo hi inside (chain rest more)

-- `built`: each token is one of the grammar's, and no span ends before it begins. Every stream is built
abbrev pub IsBuilt : Forest → Type 0
IsBuilt nil = Unit {0}
IsBuilt (leaf token lo hi rest) = IsBuiltToken token × (lo ≤ hi) × IsBuilt rest
IsBuilt (group d lo hi inside rest) = (lo ≤ hi) × IsBuilt inside × IsBuilt rest
