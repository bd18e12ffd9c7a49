use Rattle.std.proofs.Common.{◌≡◌, ◌+◌, ◌-◌, ◌%◌, ◌++◌, ℕ, [], ◌∷◌, length, sym, ap, subst, ◌∙◌, arith, rules}
use Rattle.std.proofs.Math.ListN.{set}
use Rattle.pm_stream.specs.Events.{Closes}
use Rattle.pm_stream.specs.Taken.{past}
use Rattle.token_buffer.specs.Filled.{Fills}
use Rattle.token_buffer.specs.declared.entry.Entry.TheVariants as entries
use Rattle.pm_stream.proofs.ReadingLemmas.{on_ok}
use Rattle.token_buffer.proofs.FilledLemmas.{fills_close, index_fits}
use Rattle.token_buffer.proofs.filling.FillingTokenSink.close.Goals as goal

pub returns : goal.returns
returns c =
    let old = c.args.self.now in
    let x = c.args.group in
    let hi = c.args.lexed.at + 1 in
    let size : c.len.result ≡ length old.entries.items = search rules in
    let count : ℕ = (c.len.result - x.index - 1) % 4294967296 in
    on_ok c.push.result (λ step can.
    let before = can.to.before in
    let inside = index_fits old before x can.outer can.to.takes can.innermost in
    subst (λ d. Fills c.push.new.self (past before can.to.is.found.front can.outer (Closes d hi ∷ []))) can.fits
    (fills_close old before x can.outer can.to.takes can.innermost c.push.new.self can.to.is.found.front hi
    count (λ few. omega (arith, size, inside, few)) step.text
    (step.entries ∙ ap (λ d. set old.entries.items x.index (entries.Open d x.lo count)
    ++ (entries.Close d hi ∷ [])) (sym can.fits)))) c.push.ensures
