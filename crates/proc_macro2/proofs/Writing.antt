-- Writing the items of a list.
use Rattle.std.proofs.Common.{ℕ, List, flat_map, Option}
use Rattle.std.specs.Io.KnownBytes.{Appends}

-- whether writing the remaining items after `now` gives what writing all items after `old` gives
abbrev pub WritesAll : {A : Type 0} → (A → List ℕ) → Option (List ℕ) → List A → Option (List ℕ) → List A → Type 0
WritesAll gives old all now left =
    (new : Option (List ℕ)) → Appends now new (flat_map gives left) → Appends old new (flat_map gives all)
