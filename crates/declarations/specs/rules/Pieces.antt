-- The pieces of signs that a rule reads.
use Rattle.std.specs.Prelude.{◌↔◌, List, [], ◌∷◌}
use Rattle.grammars.specs.Reading.{IsPiece}
use Rattle.declarations.specs.rules.Names.{G}
use Rattle.declarations.specs.rules.Rules.{rules}
use Rattle.item_tables.specs.declared.class.SignClass.{SignClass}

-- the form has exactly the pieces of the rule, at the start of any signs
abbrev pub ReadsBy : G → (List SignClass → List SignClass → Type 0) → Type 0
ReadsBy g form = (piece rest : List SignClass) → form piece rest ↔ IsPiece rules (g ∷ []) piece rest

-- the form whose pieces are those of the rule
abbrev pub ByRule : G → List SignClass → List SignClass → Type 0
ByRule g = IsPiece rules (g ∷ [])
