use Rattle.std.proofs.Common.{◌≤◌, length, subst, rules}
use Rattle.std.proofs.lemmas.Str.{encodes-chars}
use Rattle.pm_token.specs.declared.symbols.short.TheConstants.{ROOM}
use Rattle.pm_token.proofs.symbols.Text.new.Goals as goal

pub returns-in_err-long-clause-short : goal.returns-in_err-long-clause-short
returns-in_err-long-clause-short c = λ short.
    let fits : length c.args.text.now ≤ ROOM =
    subst (λ bytes. length bytes ≤ ROOM) (encodes-chars _ c.utf8.text) short in
    search rules
