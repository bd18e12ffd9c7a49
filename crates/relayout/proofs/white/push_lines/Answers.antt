use Rattle.std.proofs.Common.{◌≡◌, false, sym, ap, ◌∙◌, append-nil, ◌++◌}
use Rattle.std.specs.Str.{chars}
use Rattle.relayout.specs.Written.{ends_line}
use Rattle.relayout.proofs.WhiteLemmas.{ends_none}
use Rattle.relayout.proofs.white.push_lines.Goals as goal

pub returns-then-not-branch : goal.returns-then-not-branch
returns-then-not-branch c =
    let none : ends_line (chars c.args.run.now) ≡ false =
    sym (c.in_ok-push_line_ends.ensures.0) ∙ c.if-not-branch.true in
    let same : c.push_line_ends.new.out ≡ c.args.out.now =
    c.in_ok-push_line_ends.ensures.1 ∙ (ap (λ l. c.args.out.now ++ l) (ends_none false (chars c.args.run.now) none)
    ∙ append-nil c.args.out.now) in
    rw none (rw same at c.push_text.ensures.ok)
