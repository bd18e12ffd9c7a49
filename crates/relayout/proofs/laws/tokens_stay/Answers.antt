use Rattle.relayout.proofs.TokenLemmas.{keeps_tokens}
use Rattle.relayout.proofs.laws.tokens_stay.Goals as goal

pub returns : goal.returns
returns c = keeps_tokens
