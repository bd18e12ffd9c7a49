use Rattle.std.proofs.Common.{◌≡◌, ◌∙◌, None, Some, sym}
use Rattle.declarations.specs.Bare.{held_alone}
use Rattle.declarations.proofs.BareLemmas.{held_fewer, innermost_held, innermost_none}
use Rattle.declarations.proofs.bare.innermost.Goals as goal

pub loop-next-smaller : goal.loop-next-smaller
loop-next-smaller c =
    let held : held_alone c.loop-next.inside.now ≡ Some c.in-Some.next.now = cc in
    held_fewer c.loop-next.inside.now c.in-Some.next.now held

pub loop-next-preserved : goal.loop-next-preserved
loop-next-preserved c =
    let held : held_alone c.loop-next.inside.now ≡ Some c.in-Some.next.now = cc in
    c.loop-next.invariant ∙ innermost_held c.loop-next.inside.now c.in-Some.next.now held

pub returns : goal.returns
returns c =
    let none : held_alone c.loop-next.inside.now ≡ None = cc in
    sym (innermost_none c.loop-next.inside.now none) ∙ sym c.loop-next.invariant
