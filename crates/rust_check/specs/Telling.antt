-- Findings that are written on one line each.
use Rattle.std.specs.Prelude.{ℕ, ◌≡◌, ◌+◌, ◌≤◌, Bool, true, false, ◌||◌, List, [], ◌∷◌, ◌++◌, Option}
use Rattle.std.specs.Io.KnownBytes.{Appends}
use Rattle.rust_check.specs.Message.{Found, line_message}
use Rattle.rust_check.specs.TextPosition.{place_after}
use Rattle.rust_check.specs.declared.finding.TextPosition.{TextPosition}
use Rattle.rust_check.specs.declared.options.Form.{Form}

-- one line for each finding
abbrev pub lines_of : Form → List ℕ → List Found → List ℕ
lines_of form path [] = []
lines_of form path (x ∷ more) = line_message form path x ++ lines_of form path more

abbrev pub is_any : List Found → Bool
is_any [] = false
is_any (x ∷ more) = true

-- all the findings are written, in order, and `after` says whether there was one before or is one now
pub record Tells (form : Form) (path : List ℕ) (xs : List Found) (old new : Option (List ℕ)) (before after : Bool)
    : Type 0 where
  pub bytes : Appends old new (lines_of form path xs)
  pub any : after ≡ (before || is_any xs)

-- what is found at the characters of a text that begins at this place, where each is judged by what is known from the
-- characters before it, by itself and by what follows it
abbrev pub found_along : {S : Type 0} → (S → TextPosition → ℕ → List ℕ → List Found) → (S → ℕ → List ℕ → S) → S
    → TextPosition
    → List ℕ → List Found
found_along found next known place [] = []
found_along found next known place (c ∷ rest) =
    found known place c rest ++ found_along found next (next known c rest) (place_after place c) rest

-- a position has no more lines and columns before it than bytes
pub record IsWithin (place : TextPosition) : Type 0 where
  pub line : place.line ≤ place.begin + 1
  pub column : place.column ≤ place.begin
