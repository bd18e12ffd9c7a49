use Rattle.std.proofs.Common.{arith, length, ◌+◌, ◌++◌, ◌∙◌, length-append}
use Rattle.std.specs.Str.{chars}
use Rattle.lexical.proofs.TextLemmas.{front_len}
use Rattle.explain.proofs.ExplainingLemmas.{extent_of, whole_past}
use Rattle.explain.proofs.explaining.stretch.Goals as goal

pub overflow_sub-result : goal.overflow_sub-result
overflow_sub-result c =
    omega (
      arith,
      front_len c.args.text.now c.args.from.now c.requires.from.0 c.utf8.text c.utf8.from c.requires.from.1,
    )

pub overflow_sub-result-2 : goal.overflow_sub-result-2
overflow_sub-result-2 c =
    omega (
      arith,
      front_len c.args.text.now c.args.to.now (c.requires.from.0 ++ c.requires.to.0) c.utf8.text c.utf8.to
          (whole_past _ _ _ c.requires.from.0 c.requires.to.0 c.requires.from.1 c.requires.to.1),
    )

pub returns : goal.returns
returns c = λ base front part whole more lo hi.
    let all = whole_past (chars c.args.text.now) (chars c.args.from.now) (chars c.args.to.now) front part whole more in
    record {
      start = omega (arith, front_len c.args.text.now c.args.from.now front c.utf8.text c.utf8.from whole);
      end = omega (arith, front_len c.args.text.now c.args.to.now (front ++ part) c.utf8.text c.utf8.to all);
      span = c.span_of.ensures ∙ extent_of c.args.lo c.args.hi (base + length front) (base + length (front ++ part)) lo
          (omega (arith, lo, hi, length-append front part));
    }
