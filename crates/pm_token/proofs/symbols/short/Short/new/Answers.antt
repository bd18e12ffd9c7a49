use Rattle.std.proofs.Common.{sym, ◌∙◌, subst, IsUtf8, replicate}
use Rattle.pm_token.specs.declared.symbols.short.TheConstants.{ROOM}
use Rattle.pm_token.proofs.ShortLemmas.{copy_holds}
use Rattle.pm_token.proofs.symbols.short.Short.new.Goals as goal

pub invariant_of-result : goal.invariant_of-result
invariant_of-result c =
    let holds = copy_holds (replicate ROOM 0) c.args.text.now _
    (c.copy_from_slice.ensures.after ∙ c.as_bytes.ensures.value) in
    (c.requires, ∣ subst IsUtf8 (sym holds.front) c.utf8.text ∣₁, holds.rest)
