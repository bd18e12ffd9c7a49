-- Tokens for the tests.
use Rattle.std.proofs.Common.{false, [], ◌∷◌, refl}
use Rattle.std.specs.Str.{chars}
use Rattle.lexical.specs.Token.{Name}
use Rattle.pm_token.specs.Built.{IsBuiltToken}

-- the identifier `_`
pub is_built_low_line : IsBuiltToken (Name false (chars (95 ∷ [])))
unfolding chars
is_built_low_line = (
  record {
    front = 95 ∷ [];
    back = [];
    whole = refl;
    first = (95, refl, refl);
    second = record { each = refl; stops = refl };
  },
  refl,
  refl,
)
