use Rattle.std.proofs.Common.{◌≡◌, ◌-◌, ◌∙◌, take, drop, sym, ap, ap₂, arith}
use Rattle.std.specs.Str.{chars}
use Rattle.pm_span.specs.CharOffset.{byte_offset, between}
use Rattle.pm_span.specs.ByteIndex.{IsByteOffset}
use Rattle.pm_span.proofs.ByteOffsetLemmas.{known_boundary, known_order}
use Rattle.pm_span.proofs.SeamLemmas.{between_at}
use Rattle.pm_span.proofs.file_info.FileInfo.text_between.Goals as goal

-- both byte offsets are those of offsets of the text
from : (c : goal.After-text) → IsByteOffset c.args.self.now.text c.args.start c.byte_range-bytes.result.start
from c = record {
  within = omega (arith, c.requires.ordered, c.requires.within);
  value = c.byte_range-bytes.ensures.start;
}

to : (c : goal.After-text) → IsByteOffset c.args.self.now.text c.args.end c.byte_range-bytes.result.end
to c = record { within = c.requires.within; value = c.byte_range-bytes.ensures.end }

pub range-requires-clause-start_le_end : goal.range-requires-clause-start_le_end
range-requires-clause-start_le_end c = known_order (from c) (to c) c.requires.ordered

pub range-requires-clause-start_boundary : goal.range-requires-clause-start_boundary
range-requires-clause-start_boundary c = λ past. known_boundary c.text.utf8 c.text.ensures.value (from c)

pub range-requires-clause-end_boundary : goal.range-requires-clause-end_boundary
range-requires-clause-end_boundary c = known_boundary c.text.utf8 c.text.ensures.value (to c)

pub returns : goal.returns
returns c =
    let bytes = c.text.result.now in
    let text : chars bytes ≡ c.args.self.now.text = c.text.ensures.value in
    let start : c.byte_range-bytes.result.start ≡ byte_offset (chars bytes) c.args.start =
    c.byte_range-bytes.ensures.start ∙ ap (λ t. byte_offset t c.args.start) (sym text) in
    let end : c.byte_range-bytes.result.end ≡ byte_offset (chars bytes) c.args.end =
    c.byte_range-bytes.ensures.end ∙ ap (λ t. byte_offset t c.args.end) (sym text) in
    ap chars (c.range.ensures.value ∙ ap₂ (λ i j. take (j - i) (drop i bytes)) start end)
    ∙ (between_at bytes c.args.start c.args.end c.text.utf8 c.requires.ordered
    ∙ ap (λ t. between t c.args.start c.args.end) text)
