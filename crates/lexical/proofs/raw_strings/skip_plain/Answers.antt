use Rattle.std.proofs.Common.{refl, arith}
use Rattle.memchr.specs.Find.{is_byte2}
use Rattle.lexical.specs.RawString.{may_stand_raw, is_raw_plain}
use Rattle.lexical.proofs.SearchLemmas.{allowed_boundary, allowed_run, raw_past}
use Rattle.lexical.proofs.raw_strings.skip_plain.Goals as goal

pub after_bytes-requires : goal.after_bytes-requires
after_bytes-requires c =
    allowed_boundary (is_byte2 34 13) (may_stand_raw c.args.kind) (is_raw_plain c.args.kind) (λ d. refl)
    (λ d high. grind (arith, high)) (may_stand_raw c.args.kind 128) (raw_past c.args.kind)
    c.args.at c.as_bytes-bytes.result.now c.memchr2.result c.unwrap_or-size.result c.count_allowed.result
    c.as_bytes-bytes.ensures.utf8 c.as_bytes-bytes.ensures.value c.memchr2.ensures c.unwrap_or-size.ensures
    c.count_allowed.ensures

pub returns : goal.returns
returns c =
    allowed_run (is_byte2 34 13) (may_stand_raw c.args.kind) (is_raw_plain c.args.kind) (λ d. refl)
    (λ d high. grind (arith, high)) (may_stand_raw c.args.kind 128) (raw_past c.args.kind)
    c.args.at c.as_bytes-bytes.result.now c.memchr2.result c.unwrap_or-size.result c.count_allowed.result
    c.as_bytes-bytes.ensures.utf8 c.as_bytes-bytes.ensures.value c.memchr2.ensures c.unwrap_or-size.ensures
    c.count_allowed.ensures
    c.after_bytes.result c.after_bytes.ensures.rest c.after_bytes.ensures.count
