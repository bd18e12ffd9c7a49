use Rattle.std.proofs.Common.{arith}
use Rattle.memchr.specs.Find.{is_byte}
use Rattle.lexical.proofs.SearchLemmas.{found_run}
use Rattle.lexical.proofs.search.skip_to.Goals as goal

pub returns : goal.returns
returns c =
    found_run (is_byte c.args.stop) (λ d high. grind (arith, c.requires))
    c.args.at c.after_bytes.result c.as_bytes-bytes.result.now c.memchr.result c.unwrap_or-size.result
    c.as_bytes-bytes.ensures.utf8 c.as_bytes-bytes.ensures.value c.memchr.ensures c.unwrap_or-size.ensures
    c.after_bytes.ensures.rest c.after_bytes.ensures.count
