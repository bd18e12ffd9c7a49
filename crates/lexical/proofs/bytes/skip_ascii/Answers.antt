use Rattle.std.proofs.Common.{arith, ap, length, refl}
use Rattle.std.specs.Str.{chars}
use Rattle.lexical.proofs.ByteLemmas.{ascii_boundary, ascii_whole, ascii_run}
use Rattle.lexical.proofs.bytes.skip_ascii.Goals as goal

pub range_from-requires : goal.range_from-requires
range_from-requires c =
    λ some. ascii_boundary c.args.class c.args.at c.as_bytes.result.now c.as_bytes.ensures.value c.as_bytes.ensures.utf8
    c.count_ascii-size.result c.count_ascii-size.ensures

pub overflow_add-result : goal.overflow_add-result
overflow_add-result c =
    omega (
      arith,
      c.args.at.room,
      ascii_whole c.args.class c.args.at c.as_bytes.result.now c.as_bytes.ensures.value c.as_bytes.ensures.utf8
          c.count_ascii-size.result c.count_ascii-size.ensures,
    )

pub invariant_of-result-clause-room : goal.invariant_of-result-clause-room
invariant_of-result-clause-room c =
    omega (
      arith,
      c.args.at.room,
      ap (λ x. length (chars x)) c.range_from.ensures.value,
      ascii_whole c.args.class c.args.at c.as_bytes.result.now c.as_bytes.ensures.value c.as_bytes.ensures.utf8
          c.count_ascii-size.result c.count_ascii-size.ensures,
    )

pub returns : goal.returns
returns c =
    ascii_run c.args.class c.args.at c.as_bytes.result.now c.as_bytes.ensures.value c.as_bytes.ensures.utf8
    c.count_ascii-size.result c.count_ascii-size.ensures
    _ c.range_from.ensures.value refl
