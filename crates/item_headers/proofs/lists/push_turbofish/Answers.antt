use Rattle.std.proofs.Common.{true}
use Rattle.item_headers.proofs.HeaderLemmas.{joined_three}
use Rattle.item_headers.specs.Lists.{mark}
use Rattle.proc_macro2.specs.Forest.{leaf, nil}
use Rattle.proc_macro2.specs.Token.{Mark}
use Rattle.item_headers.proofs.lists.push_turbofish.Goals as goal

pub returns : goal.returns
returns c =
    joined_three c.args.quote.now (leaf (Mark 58 true) 0 0 nil) (mark 58) (mark 60) _ _ _
    c.in_ok-push_joint_colon.ensures c.in_ok-push_mark.ensures c.in_ok-push_mark-2.ensures
