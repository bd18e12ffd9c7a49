use Rattle.std.proofs.Common.{◌-◌, length, drop, ap, ap₂, refl, ◌∙◌, arith}
use Rattle.std.specs.Str.{chars}
use Rattle.pm_span.proofs.ByteOffsetLemmas.{passes_bytes}
use Rattle.pm_span.proofs.byte_index.skip_block.Goals as goal

pub overflow_sub-size : goal.overflow_sub-size
overflow_sub-size c =
    let block = passes_bytes c.args.text.now 64 c.utf8.text (c.if-is_char_boundary.ensures.test.0 refl) in
    omega (arith, c.char_count.ensures, ap (λ t. length (chars t)) c.split_at.ensures.front, block.few)

pub skip_chars-requires : goal.skip_chars-requires
skip_chars-requires c =
    let block = passes_bytes c.args.text.now 64 c.utf8.text (c.if-is_char_boundary.ensures.test.0 refl) in
    omega (
      arith,
      c.requires,
      c.char_count.ensures,
      ap (λ t. length (chars t)) c.split_at.ensures.front,
      ap (λ t. length (chars t)) c.split_at.ensures.back,
      block.size,
    )

pub returns-then-is_char_boundary-clause-value : goal.returns-then-is_char_boundary-clause-value
returns-then-is_char_boundary-clause-value c =
    let block = passes_bytes c.args.text.now 64 c.utf8.text (c.if-is_char_boundary.ensures.test.0 refl) in
    let count = c.char_count.ensures ∙ ap (λ t. length (chars t)) c.split_at.ensures.front in
    c.skip_chars.ensures.value ∙ (ap₂ (λ k t. drop (64 - k) (chars t)) count c.split_at.ensures.back ∙ block.rest)
