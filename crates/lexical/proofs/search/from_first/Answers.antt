use Rattle.std.proofs.Common.{ap, ◌∙◌, arith}
use Rattle.std.specs.Str.{chars}
use Rattle.memchr.specs.Find.{is_byte}
use Rattle.lexical.proofs.SearchLemmas.{found_rest}
use Rattle.lexical.proofs.search.from_first.Goals as goal

pub range_from-requires : goal.range_from-requires
range_from-requires c =
    λ _. (found_rest (is_byte c.args.stop) (λ d high. grind (arith, c.requires)) c.args.text.now
    c.as_bytes-bytes.result.now c.memchr.result c.unwrap_or-before.result c.utf8.text
    c.as_bytes-bytes.ensures.value c.memchr.ensures c.unwrap_or-before.ensures).0

pub returns-clause-rest : goal.returns-clause-rest
returns-clause-rest c =
    ap chars c.range_from.ensures.value
    ∙ (found_rest (is_byte c.args.stop) (λ d high. grind (arith, c.requires)) c.args.text.now
    c.as_bytes-bytes.result.now c.memchr.result c.unwrap_or-before.result c.utf8.text
    c.as_bytes-bytes.ensures.value c.memchr.ensures c.unwrap_or-before.ensures).1
