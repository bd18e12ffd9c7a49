use Rattle.std.proofs.Common.{string_bytes}
use Rattle.std.specs.Str.{chars}
use Rattle.pm_span.specs.Files.{new_map, next_lo}
use Rattle.pm_stream.specs.PrintsText.{PrintsText}
use Rattle.pm_stream.proofs.LawLemmas.{reported}
use Rattle.pm_stream.proofs.reprinting.reprint.Goals as goal

pub returns-clause-fault : goal.returns-clause-fault
returns-clause-fault c =
    reported (λ out. PrintsText c.in-Some.lo (chars c.args.text.now) (string_bytes out)) c.in-Some.lo (next_lo new_map)
    (chars c.args.text.now) c.reprint_at.result (λ out h. (h.stream, h.parses)) c.in-Some.ensures.found.1
    c.reprint_at.ensures.ok c.reprint_at.ensures.lex
