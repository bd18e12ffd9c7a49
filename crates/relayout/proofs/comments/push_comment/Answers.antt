use Rattle.std.proofs.Common.{refl, sym, ◌∙◌}
use Rattle.relayout.proofs.KeptLemmas.{no_hash}
use Rattle.relayout.proofs.comments.push_comment.Goals as goal

pub returns-then-not-begins-clause-found : goal.returns-then-not-begins-clause-found
returns-then-not-begins-clause-found c = (λ _. no_hash c.args.any _ (sym c.begins.ensures ∙ c.if-not-begins.true), refl)
