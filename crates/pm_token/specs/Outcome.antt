-- The result of an attempt to parse a text.
use Rattle.std.specs.Prelude.{◌≡◌, Bool, true, false, Result, Ok, Err}
use Rattle.pm_span.specs.Extent.{Extent, nowhere}
use Rattle.pm_token.specs.declared.errors.ParseError.{ParseError}
use Rattle.pm_token.specs.declared.errors.ParseError.TheVariants.{Lex, MapFull, Memory}

-- whether this is true of the error's span, if the error is a syntax error
abbrev pub IfLex : ParseError → (Extent → Type 0) → Type 0
IfLex (Lex fault) holds = holds fault
IfLex MapFull holds = Unit {0}
IfLex (Memory error) holds = Unit {0}

-- whether the text was read: it was parsed, or it has a syntax error
abbrev pub was_read : {T : Type 0} → Result T ParseError → Bool
was_read (Ok parsed) = true
was_read (Err (Lex fault)) = true
was_read (Err MapFull) = false
was_read (Err (Memory error)) = false

-- whether the error fits the text: a syntax error at 0..0 if the text isn't whole, or out of memory if it is
abbrev pub IsRefusalOf : Type 0 → ParseError → Type 0
IsRefusalOf whole (Lex fault) = (fault ≡ nowhere) × (whole → ⊥)
IsRefusalOf whole MapFull = ⊥
IsRefusalOf whole (Memory error) = whole
