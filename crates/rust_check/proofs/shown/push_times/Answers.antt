use Rattle.std.proofs.Common.{◌∙◌, ◌++◌, ap, sym, append_assoc, string_bytes}
use Rattle.rust_check.specs.Shown.{times}
use Rattle.rust_check.proofs.ShownLemmas.{times_more}
use Rattle.rust_check.proofs.shown.push_times.Goals as goal

pub loop-preserved : goal.loop-preserved
loop-preserved c =
    let old = string_bytes c.args.out.now in
    let text = c.args.text.now in
    c.in_ok-push_str.ensures.bytes
    ∙ (ap (λ l. l ++ text) c.loop.invariant ∙ (append_assoc old (times c.loop.counter text) text
    ∙ ap (λ l. old ++ l) (sym (times_more c.loop.counter text))))
