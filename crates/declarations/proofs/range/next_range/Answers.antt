use Rattle.std.proofs.Common.{arith}
use Rattle.declarations.proofs.range.next_range.Goals as goal

pub returns-in_err-class-clause-none : goal.returns-in_err-class-clause-none
returns-in_err-class-clause-none c = rw (c.from_residual.ensures, c.in_err-class.ensures) tt

pub returns-in_err-next-clause-none : goal.returns-in_err-next-clause-none
returns-in_err-next-clause-none c =
    rw (c.from_residual-in_err-next.ensures, c.in_ok-class.ensures.read) c.in_err-next.ensures.none

pub returns-clause-found : goal.returns-clause-found
returns-clause-found c =
    let fewer = c.in_ok-class.ensures.fewer in
    let most = c.in_ok-next.ensures.most in
    (c.in_ok-class.class, c.in_ok-class.ensures, c.in_ok-next.ensures.found, omega (arith, fewer, most))
