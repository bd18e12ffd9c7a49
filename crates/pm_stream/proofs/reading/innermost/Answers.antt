use Rattle.std.proofs.Common.{◌≡◌, ◌-◌, Some, ap, ap₂, sym, ◌∙◌, arith, rules}
use lib.ListN.{get_or}
use Rattle.pm_stream.proofs.ReadingLemmas.{pop_last}
use Rattle.pm_stream.proofs.reading.innermost.Goals as goal

pub returns-clause-some : goal.returns-clause-some
returns-clause-some g c =
    let last = c.in_ok-last.field-0.now in
    let item = c.in_ok-last.ensures.item in
    let fits : (g.S.TokenSink.opens last).0 ≡ c.args.delimiter = search rules in
    pop_last c.args.opened.now.items c.pop.new.self.items c.pop.result
    (λ x. (g.S.TokenSink.opens x).0 ≡ c.args.delimiter)
    last
    (c.pop.ensures.value last (omega (arith, item.3.0, c.deref.ensures.len))
    ∙ ap Some (sym (item.1 ∙ ap₂ (λ xs n. get_or xs (n - 1) last) c.deref.ensures.value c.deref.ensures.len)))
    c.pop.ensures.items fits

pub returns-in_err-last-clause-some : goal.returns-in_err-last-clause-some
returns-in_err-last-clause-some g c = rw c.from_residual.ensures tt

pub returns-then-ne-clause-some : goal.returns-then-ne-clause-some
returns-then-ne-clause-some g c = tt

pub returns-clause-none : goal.returns-clause-none
returns-clause-none g c =
    let last = c.in_ok-last.field-0.now in
    let item = c.in_ok-last.ensures.item in
    let some = c.pop.ensures.value last (omega (arith, item.3.0, c.deref.ensures.len)) in
    rw some tt
