use Rattle.std.proofs.Common.{◌+◌, IfSome, ap, arith, subst, sym, ◌∙◌}
use Rattle.std.proofs.lemmas.List.{take_rest}
use Rattle.lexical.specs.Bytes.{ascii_in}
use Rattle.lexical.specs.Number.{Number}
use Rattle.lexical.specs.Quick.{IsAsciiAt}
use Rattle.lexical.specs.declared.bytes.Class.TheVariants.{Digit}
use Rattle.lexical.proofs.FastBasedLemmas.{announced_binary, announced_hexadecimal, announced_octal}
use Rattle.lexical.proofs.FastNumberLemmas.{byte_followed, byte_within}
use Rattle.lexical.proofs.FastUndottedLemmas.{undotted_read}
use Rattle.lexical.proofs.fast_path.numbers.long_number_size.Goals as goal

pub returns-then-holds_ascii : goal.returns-then-holds_ascii
returns-then-holds_ascii c =
    let bytes = c.as_bytes-bytes.result.now in
    undotted_read c.args.text.now bytes _ c.byte_at.result c.count_digits-digits.result c.byte_at-next.result
    c.byte_at-then-next-eq46.result c.as_bytes-bytes.ensures.value c.byte_at.ensures c.if-not-holds_ascii.ensures
    c.count_digits-digits.ensures c.byte_at-next.ensures c.if-next-eq46.true
    (take_rest bytes (c.count_digits-digits.result + 1)) c.byte_at-then-next-eq46.ensures c.if-holds_ascii.ensures

pub returns-then-next-eq120 : goal.returns-then-next-eq120
returns-then-next-eq120 c =
    announced_hexadecimal c.args.text.now c.as_bytes-bytes.result.now c.as_bytes-bytes.ensures.value
    c.based_size.result c.based_size.ensures

pub returns-then-next-eq111 : goal.returns-then-next-eq111
returns-then-next-eq111 c =
    announced_octal c.args.text.now c.as_bytes-bytes.result.now c.as_bytes-bytes.ensures.value
    c.based_size-then-next-eq111.result c.based_size-then-next-eq111.ensures

pub returns-then-next-eq98 : goal.returns-then-next-eq98
returns-then-next-eq98 c =
    announced_binary c.args.text.now c.as_bytes-bytes.result.now c.as_bytes-bytes.ensures.value
    c.based_size-then-next-eq98.result c.based_size-then-next-eq98.ensures

pub slice_bounds-after-count : goal.slice_bounds-after-count
slice_bounds-after-count c =
    byte_followed c.as_bytes-bytes.result.now c.count_digits-digits.result _ 46 c.byte_at-next.ensures
    c.if-next-eq46.true (λ e. omega (arith, e))

pub float_size-requires-clause-first : goal.float_size-requires-clause-first
float_size-requires-clause-first c = ap (ascii_in Digit) (sym c.byte_at.ensures) ∙ sym c.if-not-holds_ascii.ensures

pub float_size-requires-clause-count : goal.float_size-requires-clause-count
float_size-requires-clause-count c = c.count_digits-digits.ensures

pub returns-then-next-eq46 : goal.returns-then-next-eq46
returns-then-next-eq46 c =
    subst (λ t. IfSome c.float_size.result (IsAsciiAt Number t)) c.as_bytes-bytes.ensures.value
    c.float_size.ensures

pub suffixed_size-requires-clause-first : goal.suffixed_size-requires-clause-first
suffixed_size-requires-clause-first c = ap (ascii_in Digit) (sym c.byte_at.ensures) ∙ sym c.if-not-holds_ascii.ensures

pub suffixed_size-requires-clause-count : goal.suffixed_size-requires-clause-count
suffixed_size-requires-clause-count c = c.count_digits-digits.ensures

pub returns-then-begins_suffix : goal.returns-then-begins_suffix
returns-then-begins_suffix c =
    subst (λ t. IfSome c.suffixed_size.result (IsAsciiAt Number t)) c.as_bytes-bytes.ensures.value
    c.suffixed_size.ensures

pub dotless_size-requires-clause-first : goal.dotless_size-requires-clause-first
dotless_size-requires-clause-first c = ap (ascii_in Digit) (sym c.byte_at.ensures) ∙ sym c.if-not-holds_ascii.ensures

pub dotless_size-requires-clause-count : goal.dotless_size-requires-clause-count
dotless_size-requires-clause-count c = c.count_digits-digits.ensures

pub returns-then-holds_ascii-2 : goal.returns-then-holds_ascii-2
returns-then-holds_ascii-2 c =
    subst (λ t. IfSome c.dotless_size.result (IsAsciiAt Number t)) c.as_bytes-bytes.ensures.value
    c.dotless_size.ensures

pub overflow_add-after : goal.overflow_add-after
overflow_add-after c =
    omega (
      arith,
      byte_within c.as_bytes-bytes.result.now c.count_digits-digits.result _ 46 c.byte_at-next.ensures
          c.if-next-eq46.true (λ e. omega (arith, e)),
    )
