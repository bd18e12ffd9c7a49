-- What the iterator of a stream's trees gives.
use Rattle.std.specs.Prelude.{List, Option, IfSome}
use Rattle.std.specs.Iterator.{YieldsFirst}
use Rattle.pm_stream.specs.Forest.{IsBuilt}
use Rattle.pm_stream.specs.Trees.{forest, GoesInside}
use Rattle.pm_stream.specs.declared.stream.TokenTree.{TokenTree}

-- the iterator gives the first of the trees that were left, if any, and keeps the others. The tree may be put into a
-- stream
abbrev pub GivesTree : List TokenTree → Option TokenTree → List TokenTree → Type 0
GivesTree old next new = YieldsFirst (λ left. left) old next new × IfSome next GoesInside × IsBuilt (forest new)
