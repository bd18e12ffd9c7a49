use Rattle.std.proofs.Common.{arith, sym}
use Rattle.std.proofs.lemmas.Str.{encodes-chars}
use Rattle.pm_token.proofs.literals.values.raw.raw_c_string.Goals as goal

pub returns : goal.returns
returns c =
    let same = sym (encodes-chars c.args.content.now c.utf8.content) in grind (
      arith,
      same,
      c.in_ok-push.ensures.items,
      c.in_ok-extend_from_slice.ensures.items,
      c.as_bytes.ensures.value,
      c.in_ok-value.ensures.items,
    )
