use Rattle.std.specs.Str.{chars}
use Rattle.pm_span.specs.Files.{new_map, next_lo}
use Rattle.pm_stream.specs.Places.{ArePlaced}
use Rattle.pm_stream.proofs.LawLemmas.{reported}
use Rattle.pm_stream.proofs.placing.place_trees.Goals as goal

pub returns-clause-fault : goal.returns-clause-fault
returns-clause-fault c =
    reported (λ trees. ArePlaced c.in-Some.lo (chars c.args.text.now) trees.items) c.in-Some.lo (next_lo new_map)
    (chars c.args.text.now) c.place_trees_at.result (λ trees h. (h.stream, h.parses)) c.in-Some.ensures.found.1
    c.place_trees_at.ensures.ok c.place_trees_at.ensures.lex
