use Rattle.std.proofs.Common.{[], sym, ◌∙◌, append-nil}
use Rattle.pm_token.proofs.CStringLemmas.{no_bytes_left}
use Rattle.pm_token.proofs.escapes.TextBuilder.push_c_string.Goals as goal

pub returns : goal.returns
returns c =
    let all = c.loop-left.invariant.reads []
    (no_bytes_left c.loop-left.left.now (sym c.is_empty.ensures ∙ c.loop-left-test.false)) in
    record { ok = (all.0, all.1, sym (all.2 ∙ append-nil c.loop-left.self)) }
