use Rattle.std.proofs.Common.{◌<◌, length, ◌∙◌, sym, ap, arith}
use Rattle.lexical.proofs.FastLiteralLemmas.{ends}
use Rattle.lexical.proofs.FastNumberLemmas.{byte_within}
use Rattle.lexical.proofs.FastStringLemmas.{short_string}
use Rattle.lexical.proofs.fast_path.quoted.plain_string.Goals as goal

pub returns-then-ends_literal : goal.returns-then-ends_literal
returns-then-ends_literal c =
    short_string c.args.inside.now c.as_bytes-bytes.result.now c.args.stretch _ _ c.as_bytes-bytes.ensures.value
    c.utf8.inside c.requires c.byte_at.ensures c.if-byte_at-eq34.true
    (ap ends (sym c.byte_at-then-byte_at-eq34.ensures) ∙ sym c.if-ends_literal.ensures)
    c.ascii_extent.ensures.bytes c.ascii_extent.ensures.chars

pub overflow_add-stretch : goal.overflow_add-stretch
overflow_add-stretch c =
    let low : c.args.stretch < length c.as_bytes-bytes.result.now =
    byte_within _ c.args.stretch _ 34 c.byte_at.ensures c.if-byte_at-eq34.true (λ e. omega (arith, e)) in
    omega (arith, low, c.as_bytes-bytes.ensures.len)

pub overflow_add-stretch-then-ends_literal : goal.overflow_add-stretch-then-ends_literal
overflow_add-stretch-then-ends_literal c =
    let low : c.args.stretch < length c.as_bytes-bytes.result.now =
    byte_within _ c.args.stretch _ 34 c.byte_at.ensures c.if-byte_at-eq34.true (λ e. omega (arith, e)) in
    omega (arith, low, c.as_bytes-bytes.ensures.len)
