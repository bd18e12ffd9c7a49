use Rattle.std.proofs.Common.{◌≡◌, OnOk, subst, sym}
use Rattle.std.specs.Str.{chars}
use Rattle.item_headers.specs.Lists.{first_lead}
use Rattle.proc_macro2.specs.Forest.{chain}
use Rattle.item_headers.proofs.lists.push_first_lead.Goals as goal

pub returns-in-Where : goal.returns-in-Where
unfolding chars
returns-in-Where c =
    subst (λ l. OnOk c.push_word.result (c.push_word.new.quote ≡ chain c.args.quote.now (first_lead l)))
    (sym c.in-Where.is) c.push_word.ensures
