use Rattle.std.proofs.Common.{arith}
use Rattle.memchr.specs.Find.{is_byte3}
use Rattle.lexical.specs.Quoted.{is_plain}
use Rattle.lexical.specs.RawString.{may_stand_raw}
use Rattle.lexical.proofs.SearchLemmas.{allowed_boundary, allowed_run, plain_allowed, raw_past}
use Rattle.lexical.proofs.quoted.skip_plain.Goals as goal

pub after_bytes-requires : goal.after_bytes-requires
after_bytes-requires c =
    allowed_boundary (is_byte3 34 92 13) (may_stand_raw c.args.kind) (is_plain c.args.kind) (plain_allowed c.args.kind)
    (λ d high. grind (arith, high)) (may_stand_raw c.args.kind 128) (raw_past c.args.kind)
    c.args.at c.as_bytes-bytes.result.now c.memchr3.result c.unwrap_or-size.result c.count_allowed.result
    c.as_bytes-bytes.ensures.utf8 c.as_bytes-bytes.ensures.value c.memchr3.ensures c.unwrap_or-size.ensures
    c.count_allowed.ensures

pub returns : goal.returns
returns c =
    allowed_run (is_byte3 34 92 13) (may_stand_raw c.args.kind) (is_plain c.args.kind) (plain_allowed c.args.kind)
    (λ d high. grind (arith, high)) (may_stand_raw c.args.kind 128) (raw_past c.args.kind)
    c.args.at c.as_bytes-bytes.result.now c.memchr3.result c.unwrap_or-size.result c.count_allowed.result
    c.as_bytes-bytes.ensures.utf8 c.as_bytes-bytes.ensures.value c.memchr3.ensures c.unwrap_or-size.ensures
    c.count_allowed.ensures
    c.after_bytes.result c.after_bytes.ensures.rest c.after_bytes.ensures.count
