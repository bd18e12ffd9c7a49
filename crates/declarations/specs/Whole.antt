-- Trees that are read as a whole.
use Rattle.std.specs.Prelude.{◌≡◌, List, []}
use Rattle.pm_stream.specs.declared.stream.TokenTree.{TokenTree}
use Rattle.declarations.specs.Reading.{Reads}
use Rattle.item_tables.specs.declared.class.SignClass.{SignClass}

-- a piece of the form with nothing after it
abbrev pub IsWhole : (List SignClass → List SignClass → Type 0) → List SignClass → List SignClass → Type 0
IsWhole form piece rest = form piece rest × (rest ≡ [])

-- all of the trees are one part of the form
abbrev pub ReadsAll : (List SignClass → List SignClass → Type 0) → List TokenTree → Type 0
ReadsAll form trees = Reads (IsWhole form) trees trees []
