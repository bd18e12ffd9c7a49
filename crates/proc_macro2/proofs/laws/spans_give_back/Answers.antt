use Rattle.proc_macro2.proofs.GiveLemmas.{spans_give_back, listed_give_back}
use Rattle.proc_macro2.proofs.laws.spans_give_back.Goals as goal

pub returns : goal.returns
returns c = record { each = spans_give_back; listed = listed_give_back }
