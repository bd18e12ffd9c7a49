use Rattle.std.proofs.Common.{arith}
use Rattle.explain.proofs.hints.between.Goals as goal

pub returns : goal.returns
returns c = λ begin front part whole more lo size.
    c.stretch.ensures begin front part whole more lo (omega (arith, size))
