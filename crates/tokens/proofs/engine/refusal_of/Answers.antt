use Rattle.tokens.proofs.OutputLemmas.{HasFaultAt-refused}
use Rattle.tokens.proofs.engine.refusal_of.Goals as goal

pub returns-clause-lex : goal.returns-clause-lex
returns-clause-lex c = λ start starts.
    HasFaultAt-refused _ _ c.in-Err.error _ start c.utf8.text (rw c.new-map.ensures at c.in-Err.ensures.fault.lex)
    (rw c.new-map.ensures at c.in-Err.ensures.kept)
    c.refusal.ensures.lex c.refusal.ensures.map_full c.refusal.ensures.memory starts
