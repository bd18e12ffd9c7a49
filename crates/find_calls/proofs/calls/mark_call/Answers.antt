use Rattle.std.proofs.Common.{refl, arith}
use Rattle.find_calls.proofs.OpenLemmas.{called-past, called-set}
use Rattle.find_calls.proofs.calls.mark_call.Goals as goal

pub returns-in-Some : goal.returns-in-Some
returns-in-Some c =
    called-set c.args.index c.args.found.now.items c.in-Some.candidate.now
    (omega (arith, c.in-Some.ensures.variant.0 refl, c.args.found.now.ok.0)) c.in-Some.ensures.item.1

pub returns-in_default : goal.returns-in_default
returns-in_default c =
    called-past c.args.index c.args.found.now.items
    (λ less. let clash = c.in_default.ensures.variant.1 (omega (arith, less, c.args.found.now.ok.0)) in absurd (cc))
