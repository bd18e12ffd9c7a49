use Rattle.std.proofs.Common.{◌≡◌, ◌+◌, ◌-◌, ◌∙◌, length, take, length-drop, ap, sym, arith}
use Rattle.std.specs.Str.{chars}
use Rattle.std.proofs.lemmas.List.{length-take-le}
use Rattle.pm_span.specs.CharOffset.{byte_offset}
use Rattle.pm_span.proofs.ByteOffsetLemmas.{back_from, known_boundary, known_front, known_rest, on_from}
use Rattle.pm_span.proofs.byte_index.ByteIndex.count_from.Goals as goal

pub range-requires-clause-end_boundary : goal.range-requires-clause-end_boundary
range-requires-clause-end_boundary c =
    let text : chars c.as_str-text.result.now ≡ c.args.self.now = ap chars c.as_str-text.ensures.value
    ∙ c.self.view_is in
    known_boundary c.as_str-text.utf8 text c.requires.known

pub skip_chars_back-front-requires : goal.skip_chars_back-front-requires
skip_chars_back-front-requires c =
    let text : chars c.as_str-text.result.now ≡ c.args.self.now = ap chars c.as_str-text.ensures.value
    ∙ c.self.view_is in
    let known = c.requires.known in
    let whole : c.args.known.bytes - 0 ≡ c.args.known.bytes = omega arith in
    let front = known_front c.as_str-text.utf8 text known
    (c.range.ensures.value ∙ ap (λ n. take n c.as_str-text.result.now) whole) in
    omega (arith, ap length front, length-take-le c.args.known.chars c.args.self.now known.within)

pub range_from-requires : goal.range_from-requires
range_from-requires c =
    let text : chars c.as_str-text.result.now ≡ c.args.self.now = ap chars c.as_str-text.ensures.value
    ∙ c.self.view_is in
    λ past. known_boundary c.as_str-text.utf8 text c.requires.known

pub skip_chars-rest-requires : goal.skip_chars-rest-requires
skip_chars-rest-requires c =
    let text : chars c.as_str-text.result.now ≡ c.args.self.now = ap chars c.as_str-text.ensures.value
    ∙ c.self.view_is in
    let rest = known_rest c.as_str-text.utf8 text c.requires.known c.range_from.ensures.value in
    omega (arith, ap length rest, length-drop c.args.known.chars c.args.self.now, c.requires.within)

-- the text after the offset, as bytes
left : (c : goal.After-skip_chars-rest)
    → byte_offset c.args.self.now c.args.char_offset + length c.skip_chars-rest.result.now
    ≡ length c.as_str-text.result.now
left c =
    let text : chars c.as_str-text.result.now ≡ c.args.self.now = ap chars c.as_str-text.ensures.value
    ∙ c.self.view_is in
    let rest = known_rest c.as_str-text.utf8 text c.requires.known c.range_from.ensures.value in
    on_from c.as_str-text.result.now c.args.self.now c.range_from.result.now c.skip_chars-rest.result.now
    c.args.known.chars c.args.char_offset (c.args.char_offset - c.args.known.chars) c.as_str-text.utf8
    c.skip_chars-rest.utf8 text rest (omega arith) c.skip_chars-rest.ensures.value

pub overflow_sub-result : goal.overflow_sub-result
overflow_sub-result c = omega (arith, left c)

pub returns-then-char_offset-known-2 : goal.returns-then-char_offset-known-2
returns-then-char_offset-known-2 c =
    let text : chars c.as_str-text.result.now ≡ c.args.self.now = ap chars c.as_str-text.ensures.value
    ∙ c.self.view_is in
    let known = c.requires.known in
    let whole : c.args.known.bytes - 0 ≡ c.args.known.bytes = omega arith in
    let front = known_front c.as_str-text.utf8 text known
    (c.range.ensures.value ∙ ap (λ n. take n c.as_str-text.result.now) whole) in
    back_from c.args.self.now c.range.result.now c.skip_chars_back-front.result.now
    c.args.known.chars c.args.char_offset (c.args.known.chars - c.args.char_offset) c.skip_chars_back-front.utf8
    front known.within (omega arith) c.skip_chars_back-front.ensures.value

pub returns-else-char_offset-known-2 : goal.returns-else-char_offset-known-2
returns-else-char_offset-known-2 c = omega (arith, left c)

pub returns-then-char_offset-known : goal.returns-then-char_offset-known
returns-then-char_offset-known c =
    c.requires.known.value ∙ ap (byte_offset c.args.self.now) (sym c.if-char_offset-known.true)
