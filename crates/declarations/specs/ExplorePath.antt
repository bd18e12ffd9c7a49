-- How far the rule of a path reads, and with what signs it can go on.
use Rattle.std.specs.Prelude.{◌<◌, List, Result, MatchResult, length}
use Rattle.std.specs.Borrow.{Bor}
use Rattle.pm_stream.specs.declared.stream.TokenTree.{TokenTree}
use Rattle.declarations.specs.Explore.{Explores, Sees}
use Rattle.declarations.specs.declared.expected.Expected.{Expected}
use Rattle.declarations.specs.declared.explore.Seen.{Seen}
use Rattle.declarations.specs.declared.explore_path.PathPlace.{PathPlace}
use Rattle.declarations.specs.declared.explore_path.PathPlace.TheVariants as places
use Rattle.declarations.specs.rules.Names.{AfterArguments, AfterName, AfterSeparator, G}
use Rattle.declarations.specs.rules.Paths.{path}

-- the rule that reads the rest of a path at this place
abbrev pub path_at : PathPlace → G
path_at places.AfterName = path AfterName
path_at places.AfterSeparator = path AfterSeparator
path_at places.AfterArguments = path AfterArguments

-- the rest has fewer trees, and what the rule `h` sees there the rule `g` sees in the trees
pub record GoesInto (g : G) (trees : List TokenTree) (h : G) (rest : List TokenTree) : Type 0 where
  pub fewer : length rest < length trees
  pub goes : (left : List TokenTree) (next : Expected) → Explores h rest left next → Explores g trees left next

-- the result is where the rule goes on as the rest of a path, or what it sees
abbrev pub Turns : G → List TokenTree → Result (PathPlace × Bor (List TokenTree)) Seen → Type 0
Turns g trees result =
    MatchResult result (λ found. GoesInto g trees (path_at found.0) found.1.now) (λ seen. Sees g trees seen)
