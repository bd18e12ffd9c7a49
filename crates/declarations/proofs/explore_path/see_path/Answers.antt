use Rattle.declarations.specs.ExplorePath.{path_at}
use Rattle.declarations.specs.rules.Paths.{type_path}
use Rattle.declarations.proofs.ExplorePathLemmas.{goes_sees}
use Rattle.declarations.proofs.explore_path.see_path.Goals as goal

pub returns-in-Ok : goal.returns-in-Ok
returns-in-Ok c =
    goes_sees type_path (path_at c.in-Ok.place) c.args.trees.now c.in-Ok.rest.now c.see_rest.result c.in-Ok.ensures
    c.see_rest.ensures
