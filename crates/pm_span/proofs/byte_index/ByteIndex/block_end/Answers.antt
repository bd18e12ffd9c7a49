use Rattle.std.proofs.Common.{◌/◌, length, sym, ap, subst, ◌∙◌, arith}
use Rattle.std.proofs.lemmas.Str.{IsUtf8-string_bytes}
use Rattle.pm_span.specs.ByteIndex.{IsByteOffset}
use Rattle.pm_span.proofs.ByteOffsetLemmas.{text_end}
use Rattle.pm_span.proofs.byte_index.ByteIndex.block_end.Goals as goal

pub overflow_mul-result : goal.overflow_mul-result
overflow_mul-result c =
    let known = c.self.invariant.blocks.each (c.args.char_offset / 64)
    (omega (arith, c.in-Some.ensures.lookup.3.0, ap length c.deref.ensures.value)) in
    omega (arith, known.within, c.self.invariant.size, c.self.invariant.fits)

pub returns-in-None-clause-value : goal.returns-in-None-clause-value
returns-in-None-clause-value c =
    let text = c.self.view_is in
    let size = c.self.inside.count in
    subst (IsByteOffset c.args.self.now size) (sym (c.len.ensures ∙ c.self.inside.text.bytes.ok.0))
    (text_end size (IsUtf8-string_bytes c.self.inside.text) text
    (omega (arith, c.self.invariant.size, ap length text)))
