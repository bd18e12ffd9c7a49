-- A lifetime: a lone quote and the name after it.
use Rattle.std.proofs.Common.{◌≡◌, true, false, Option, Some, None, MatchOption, ap, ◌∙◌}
use Rattle.std.specs.Str.{chars}
use Rattle.lexical.specs.Token as tokens
use Rattle.token_buffer.specs.Reads.{left, BeginsWith, name_first, lifetime_first}
use Rattle.token_buffer.specs.declared.cursor.Cursor.{Cursor}
use Rattle.token_buffer.specs.declared.cursor.Name.{Name}

pub lifetime_found : (self name : Cursor) (answer : Option (Name × Cursor))
    → BeginsWith (tokens.Mark 39 true) self name
    → MatchOption answer (name_first (left name) ≡ false)
    (λ found. BeginsWith (tokens.Name found.0.raw (chars found.0.text.now)) name found.1)
    → MatchOption answer (lifetime_first (left self) ≡ false) (λ found. (x : Cursor)
    × BeginsWith (tokens.Mark 39 true) self x
    × BeginsWith (tokens.Name found.0.raw (chars found.0.text.now)) x found.1)
lifetime_found self name None quote none = ap lifetime_first quote.2 ∙ none
lifetime_found self name (Some found) quote is = (name, quote, is)
