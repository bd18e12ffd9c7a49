-- Texts that are written character by character.
use Rattle.std.specs.Prelude.{ℕ, List, [], ◌∷◌, ◌++◌}

-- what the function gives for each character, one after the other
abbrev pub each : (ℕ → List ℕ) → List ℕ → List ℕ
each give [] = []
each give (c ∷ text) = give c ++ each give text
