-- What is odd about a line end.
use Rattle.std.proofs.Common.{◌≡◌, ◌∙◌, ℕ, Bool, true, false, List, [], ◌∷◌, codes, refl, rules, sym}
use Rattle.std.specs.Str.{chars}
use Rattle.std.proofs.lemmas.Str.{chars-IsAscii}
use Rattle.rust_check.specs.LineEnds.{begins_feed, found_at_end, is_other, odd}
use Rattle.rust_check.specs.declared.ends.LineEnds.{LineEnds}
use Rattle.rust_check.specs.declared.finding.TextPosition.{TextPosition}

pub chars_return : chars (13 ∷ []) ≡ 13 ∷ []
chars_return = chars-IsAscii (13 ∷ []) (search rules)

pub chars_feed : chars (10 ∷ []) ≡ 10 ∷ []
chars_feed = chars-IsAscii (10 ∷ []) (search rules)

-- a CR that no LF follows is found
pub bare : (ends : LineEnds) (place : TextPosition) (c : ℕ) (rest : List ℕ) (begins : Bool) → c ≡ 13
    → begins ≡ begins_feed rest
    → begins ≡ false → chars (13 ∷ []) ≡ 13 ∷ []
    → odd (codes "bare-return") (codes "CR that no LF follows") (chars (13 ∷ [])) place ∷ []
    ≡ found_at_end ends place c rest
bare ends place c rest begins is tests goes spelled =
    let none : begins_feed rest ≡ false = sym tests ∙ goes in
    rw (spelled, is, none) refl

-- an LF that ends its line differently from the lines before it is found
pub mixed_end : (ends : LineEnds) (place : TextPosition) (c : ℕ) (rest : List ℕ) (other : Bool) → c ≡ 10
    → other ≡ is_other ends
    → other ≡ true → chars (10 ∷ []) ≡ 10 ∷ []
    → odd (codes "mixed-line-ends") (codes "a line that ends unlike those before it") (chars (10 ∷ [])) place ∷ []
    ≡ found_at_end ends place c rest
mixed_end ends place c rest other is tests goes spelled =
    let so : is_other ends ≡ true = sym tests ∙ goes in
    rw (spelled, is, so) refl
