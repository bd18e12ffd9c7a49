use Rattle.pm_token.proofs.WholeLemmas.{number_text}
use Rattle.pm_token.proofs.literals.Literal.split_minus.Goals as goal

pub invariant_of-result-2 : goal.invariant_of-result-2
invariant_of-result-2 c =
    number_text c.self.inside.text c.strip_minus.new.self c.strip_minus.result c.if-not-strip_minus.false
    c.strip_minus.ensures.found c.strip_minus.ensures.rest c.self.invariant
