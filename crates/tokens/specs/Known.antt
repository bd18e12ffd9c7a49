-- What calls do to the bytes that a source has left and a sink holds, if these bytes are known.
use Rattle.std.specs.Prelude.{ℕ, Bool, ◌≡◌, List, [], ◌++◌, Option, Some, None, IsFalse}
use Rattle.std.specs.Io.KnownBytes.{Appends}

-- a source whose bytes are known has none left
abbrev pub IsReadOut : Option (List ℕ) → Option (List ℕ) → Type 0
IsReadOut None new = Unit {0}
IsReadOut (Some input) new = new ≡ Some []

-- a prefix of the bytes was appended to what the sink holds
pub record AppendsFront (old new : Option (List ℕ)) (bytes : List ℕ) : Type 0 where
  pub front : List ℕ
  pub back : List ℕ
  pub whole : bytes ≡ front ++ back
  pub appends : Appends old new front

-- the bytes were appended to what the sink holds, or a prefix of them if a write failed
pub record Says (old new : Option (List ℕ)) (failed : Bool) (bytes : List ℕ) : Type 0 where
  pub whole : IsFalse failed → Appends old new bytes
  pub front : AppendsFront old new bytes
