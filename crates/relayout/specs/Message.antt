-- The message of the error.
use Rattle.std.specs.Prelude.{ℕ, List, codes}
use Rattle.relayout.specs.declared.errors.RelayoutError.{RelayoutError}
use Rattle.relayout.specs.declared.errors.RelayoutError.TheVariants.{NoPiece, Memory}

-- the message of the error
abbrev pub message : RelayoutError → List ℕ
message NoPiece = codes "cannot split the text into tokens"
message (Memory error) = codes "no memory"
