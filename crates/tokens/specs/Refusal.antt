-- Which writes count as failed.
use Rattle.std.specs.Prelude.{ℕ, Bool, true, not, ◌&&◌, ◌==◌, List, length, Result, Ok, Err}

-- whether the write failed, or took no bytes of a slice that isn't empty
abbrev pub is_refusal : {E : Type 0} → Result ℕ E → List ℕ → Bool
is_refusal (Ok n) bytes = (n == 0) && not (length bytes == 0)
is_refusal (Err e) bytes = true
