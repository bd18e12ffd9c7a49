use Rattle.std.proofs.Common.{arith, ap, sym, ◌∙◌}
use Rattle.std.specs.Prelude.{length}
use Rattle.std.proofs.lemmas.Str.{encodes-chars}
use Rattle.pm_token.proofs.literals.values.raw.raw_bytes.Goals as goal

pub returns-in_err-extend_from_slice-clause-memory : goal.returns-in_err-extend_from_slice-clause-memory
returns-in_err-extend_from_slice-clause-memory c = λ empty.
    let same = encodes-chars c.args.content.now c.utf8.content in
    absurd (omega (
      arith,
      c.in_err-extend_from_slice.ensures.full,
      c.new-value.ensures.len,
      ap length c.as_bytes.ensures.value,
      ap length (sym same ∙ empty),
    ))

pub returns-clause-ok : goal.returns-clause-ok
returns-clause-ok c =
    let same = sym (encodes-chars c.args.content.now c.utf8.content) in
    grind (arith, same, c.in_ok-extend_from_slice.ensures.items, c.as_bytes.ensures.value, c.new-value.ensures.items)
