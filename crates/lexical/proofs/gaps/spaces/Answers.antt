use Rattle.std.proofs.Common.{◌∙◌, ap, sym, refl, arith, length, length-drop, codes, eqb}
use Rattle.std.specs.List.{starts_with}
use Rattle.std.proofs.lemmas.List.{take_rest}
use Rattle.lexical.proofs.WhiteRunLemmas.{four_spaces}
use Rattle.lexical.proofs.gaps.spaces.Goals as goal

pub loop-count-preserved : goal.loop-count-preserved
loop-count-preserved c =
    let rest = take_rest c.args.bytes.now c.loop-count.count in (
      omega (
        arith,
        c.loop-count-test.ensures.bound refl,
        ap length rest,
        length-drop c.loop-count.count c.args.bytes.now,
        c.loop-count.invariant.0,
      ),
      four_spaces c.args.bytes.now c.loop-count.count
          (ap (λ xs. starts_with eqb xs (codes "    ")) (sym rest)
          ∙ (sym c.starts_with.ensures.value ∙ c.loop-count-test.true))
          c.loop-count.invariant.1,
    )
