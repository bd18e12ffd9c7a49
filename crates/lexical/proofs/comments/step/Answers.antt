use Rattle.std.proofs.Common.{◌≡◌, ◌+◌, ◌-◌, ◌<◌, ◌≤◌, ℕ, ◌∷◌, codes, length, ap, arith}
use Rattle.std.specs.Str.{chars}
use Rattle.lexical.specs.declared.cursor.TextCursor.{TextCursor}
use Rattle.lexical.proofs.BlockSteps.{closes, opens, passes}
use Rattle.lexical.proofs.RuleSteps.{past_text}
use Rattle.lexical.proofs.comments.step.Goals as goal

one_past : (c : ℕ) (at to : TextCursor) → chars at.rest.now ≡ c ∷ chars to.rest.now
    → length (chars to.rest.now) < length (chars at.rest.now)
one_past c at to e = omega (arith, ap length e)

two_past : (c d : ℕ) (at to : TextCursor) → chars at.rest.now ≡ c ∷ d ∷ chars to.rest.now
    → length (chars to.rest.now) < length (chars at.rest.now)
two_past c d at to e = omega (arith, ap length e)

fewer : (depth before after : ℕ) → depth ≤ before → after ≡ before + 2 → depth - 1 ≤ after
fewer depth before after fits e = omega arith

more : (depth before after : ℕ) → depth ≤ before → after ≡ before + 2 → depth + 1 ≤ after
more depth before after fits e = omega arith

same : (depth before after : ℕ) → depth ≤ before → after ≡ before + 1 → depth ≤ after
same depth before after fits e = omega arith

pub returns-in_err-after-clause-leads : goal.returns-in_err-after-clause-leads
returns-in_err-after-clause-leads c = rw c.from_residual.ensures c.in_err-after.ensures

pub returns-in_err-after-clause-shorter : goal.returns-in_err-after-clause-shorter
returns-in_err-after-clause-shorter c = rw c.from_residual.ensures tt

pub returns-in_err-after-clause-fits : goal.returns-in_err-after-clause-fits
returns-in_err-after-clause-fits c = rw c.from_residual.ensures tt

pub overflow_sub-result : goal.overflow_sub-result
overflow_sub-result c = c.requires.inside

pub returns-in-Some-clause-leads : goal.returns-in-Some-clause-leads
returns-in-Some-clause-leads c =
    closes c.args.depth c.args.at c.in-Some.closed c.requires.inside c.in-Some.ensures

pub returns-in-Some-clause-shorter : goal.returns-in-Some-clause-shorter
returns-in-Some-clause-shorter c =
    two_past 42 47 c.args.at c.in-Some.closed (past_text (codes "*/") c.args.at c.in-Some.closed c.in-Some.ensures).0

pub returns-in-Some-clause-fits : goal.returns-in-Some-clause-fits
returns-in-Some-clause-fits c =
    fewer c.args.depth c.args.at.chars_before c.in-Some.closed.chars_before c.requires.fits
    (past_text (codes "*/") c.args.at c.in-Some.closed c.in-Some.ensures).1

pub returns-in-Some-past-clause-leads : goal.returns-in-Some-past-clause-leads
returns-in-Some-past-clause-leads c =
    opens c.args.depth c.args.at c.in-Some-past.opened c.requires.inside c.in-Some-past.ensures

pub returns-in-Some-past-clause-shorter : goal.returns-in-Some-past-clause-shorter
returns-in-Some-past-clause-shorter c =
    two_past 47 42 c.args.at c.in-Some-past.opened
    (past_text (codes "/*") c.args.at c.in-Some-past.opened c.in-Some-past.ensures).0

pub returns-in-Some-past-clause-fits : goal.returns-in-Some-past-clause-fits
returns-in-Some-past-clause-fits c =
    more c.args.depth c.args.at.chars_before c.in-Some-past.opened.chars_before c.requires.fits
    (past_text (codes "/*") c.args.at c.in-Some-past.opened c.in-Some-past.ensures).1

pub returns-clause-leads : goal.returns-clause-leads
returns-clause-leads c =
    passes c.args.depth c.in_ok-after.field-0-0 c.args.at c.in_ok-after.after c.requires.inside
    c.in_ok-after.ensures.0 c.in_ok-after.ensures.1 c.in_default.ensures c.in_default-past.ensures

pub returns-clause-shorter : goal.returns-clause-shorter
returns-clause-shorter c =
    one_past c.in_ok-after.field-0-0 c.args.at c.in_ok-after.after c.in_ok-after.ensures.0

pub returns-clause-fits : goal.returns-clause-fits
returns-clause-fits c =
    same c.args.depth c.args.at.chars_before c.in_ok-after.after.chars_before c.requires.fits c.in_ok-after.ensures.1
