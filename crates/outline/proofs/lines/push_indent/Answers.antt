use Rattle.std.proofs.Common.{◌∙◌, ◌++◌, ap, sym, append_assoc, codes, string_bytes}
use Rattle.outline.specs.Line.{times}
use Rattle.outline.proofs.LineLemmas.{times_more}
use Rattle.outline.proofs.lines.push_indent.Goals as goal

pub loop-preserved : goal.loop-preserved
loop-preserved c =
    let old = string_bytes c.args.out.now in
    c.in_ok-push_str.ensures.bytes
    ∙ (ap (λ l. l ++ codes "  ") c.loop.invariant ∙ (append_assoc old (times c.loop.counter (codes "  ")) (codes "  ")
    ∙ ap (λ l. old ++ l) (sym (times_more c.loop.counter (codes "  ")))))
