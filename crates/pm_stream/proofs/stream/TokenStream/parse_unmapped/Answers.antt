use Rattle.std.specs.Str.{chars}
use Rattle.pm_span.specs.Files.{new_map, next_lo}
use Rattle.pm_stream.proofs.LawLemmas.{parsed_reported}
use Rattle.pm_stream.proofs.stream.TokenStream.parse_unmapped.Goals as goal

pub returns-clause-fault : goal.returns-clause-fault
returns-clause-fault c =
    parsed_reported c.in-Some.lo (next_lo new_map) (chars c.args.text.now) c.parse.result c.in-Some.ensures.found.1
    c.parse.ensures.ok c.parse.ensures.lex
