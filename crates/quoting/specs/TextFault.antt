-- The errors of templates that are given as text.
use Rattle.std.specs.Prelude.{ℕ, ◌≡◌, List, Result, Ok, Err}
use Rattle.proc_macro2.specs.Files.{Files, with_file}
use Rattle.proc_macro2.specs.Forest.{Forest}
use Rattle.proc_macro2.specs.Parsing.{FaultAt, ParsesTo}
use Rattle.proc_macro2.specs.declared.ParseError.TheVariants.{Lex, MapFull, Memory as NoMemory}
use Rattle.quoting.specs.Filled.{fill_template}
use Rattle.quoting.specs.Holes.{Named}
use Rattle.quoting.specs.declared.errors.TemplateError.{TemplateError}
use Rattle.quoting.specs.declared.errors.TemplateError.TheVariants.{NoHole, LoneList, NoList, UnequalLists}
use Rattle.quoting.specs.declared.errors.TemplateError.TheVariants.{NotIdent, NotFinite, TooDeep, Parse, Memory}

-- whether the text parses to a template that has the given error
abbrev pub IsTemplateFault : ℕ → List ℕ → List Named → TemplateError → Type 0
IsTemplateFault first text holes fault =
    (template : Forest) × ParsesTo first text template × (fill_template holes template ≡ Err fault)

-- the error is that of the template, or the syntax error of its text. After `Memory` the text parses; after
-- `Parse(Memory)` nothing is known
abbrev pub IsTextFault : ℕ → List ℕ → List Named → TemplateError → Type 0
IsTextFault first text holes (NoHole span) = IsTemplateFault first text holes (NoHole span)
IsTextFault first text holes (LoneList span) = IsTemplateFault first text holes (LoneList span)
IsTextFault first text holes (NoList span) = IsTemplateFault first text holes (NoList span)
IsTextFault first text holes (UnequalLists span) = IsTemplateFault first text holes (UnequalLists span)
IsTextFault first text holes (NotIdent span) = IsTemplateFault first text holes (NotIdent span)
IsTextFault first text holes (NotFinite span) = IsTemplateFault first text holes (NotFinite span)
IsTextFault first text holes (TooDeep span) = IsTemplateFault first text holes (TooDeep span)
IsTextFault first text holes (Parse (Lex fault)) = (fault.lo ≡ fault.hi) × FaultAt first text fault.lo
IsTextFault first text holes (Parse MapFull) = Unit {0}
IsTextFault first text holes (Parse (NoMemory error)) = Unit {0}
IsTextFault first text holes (Memory error) = (template : Forest) × ParsesTo first text template

-- the map after the call. It has the text as its next file, unless the text did not fit or memory ran out during
-- parsing
abbrev pub LeavesMap : Files → List ℕ → Files → Result (Unit {0}) TemplateError → Type 0
LeavesMap old text new (Ok done) = new ≡ with_file old text
LeavesMap old text new (Err (NoHole span)) = new ≡ with_file old text
LeavesMap old text new (Err (LoneList span)) = new ≡ with_file old text
LeavesMap old text new (Err (NoList span)) = new ≡ with_file old text
LeavesMap old text new (Err (UnequalLists span)) = new ≡ with_file old text
LeavesMap old text new (Err (NotIdent span)) = new ≡ with_file old text
LeavesMap old text new (Err (NotFinite span)) = new ≡ with_file old text
LeavesMap old text new (Err (TooDeep span)) = new ≡ with_file old text
LeavesMap old text new (Err (Parse (Lex fault))) = new ≡ with_file old text
LeavesMap old text new (Err (Parse MapFull)) = new ≡ old
LeavesMap old text new (Err (Parse (NoMemory error))) = new ≡ old
LeavesMap old text new (Err (Memory error)) = new ≡ with_file old text
