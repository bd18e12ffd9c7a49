use Rattle.std.proofs.Common.{subst, IsTrue, sym}
use Rattle.pm_token.proofs.WholeLemmas.{whole_literal}
use Rattle.pm_token.proofs.literals.whole.is_literal.Goals as goal

pub returns : goal.returns
returns c =
    let whole = whole_literal c.args.text.now c.literal_at.result c.utf8.text c.literal_at.ensures.found
    c.literal_at.ensures.none in
    (λ h. whole.0 (subst IsTrue c.eq.ensures h), λ h. subst IsTrue (sym c.eq.ensures) (whole.1 h))
