use Rattle.std.proofs.Common.{◌≤◌, length, subst, rules}
use Rattle.std.specs.Prelude.{string_bytes}
use Rattle.std.proofs.lemmas.Str.{IsUtf8-string_bytes, encodes-chars}
use Rattle.pm_token.specs.declared.symbols.short.TheConstants.{ROOM}
use Rattle.pm_token.proofs.symbols.Text.from_string.Goals as goal

pub returns-in_err-long_from_string-clause-short : goal.returns-in_err-long_from_string-clause-short
returns-in_err-long_from_string-clause-short c = λ short.
    let bytes = encodes-chars (string_bytes c.args.text) (IsUtf8-string_bytes c.args.text) in
    let fits : length (string_bytes c.args.text) ≤ ROOM = subst (λ bytes. length bytes ≤ ROOM) bytes short in
    search rules
