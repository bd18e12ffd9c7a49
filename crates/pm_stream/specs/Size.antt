-- How large a stream is.
use Rattle.std.specs.Prelude.{ℕ, Bool, true, false, ◌+◌}
use Rattle.pm_stream.specs.Forest.{Forest, nil, leaf, group}

-- whether there are no trees
abbrev pub is_nil : Forest → Bool
is_nil nil = true
is_nil (leaf token lo hi rest) = false
is_nil (group d lo hi inside rest) = false

-- the number of trees, including those inside groups
abbrev pub count : Forest → ℕ
count nil = 0
count (leaf token lo hi rest) = 1 + count rest
count (group d lo hi inside rest) = 1 + count inside + count rest
