-- Errors of templates that are given as text.
use Rattle.std.proofs.Common.{◌≡◌, ℕ, List, Result, Ok, Err, IfErr}
use Rattle.proc_macro2.specs.Forest.{Forest}
use Rattle.proc_macro2.specs.Parsing.{ParsesTo}
use Rattle.quoting.specs.Filled.{fill_template}
use Rattle.quoting.specs.Given.{UnlessMemory}
use Rattle.quoting.specs.Holes.{Named}
use Rattle.quoting.specs.TextFault.{IsTextFault}
use Rattle.quoting.specs.declared.errors.TemplateError.{TemplateError}
use Rattle.quoting.specs.declared.errors.TemplateError.TheVariants.{NoHole, LoneList, NoList, UnequalLists}
use Rattle.quoting.specs.declared.errors.TemplateError.TheVariants.{NotIdent, NotFinite, TooDeep, Parse, Memory}

-- an error of the template that a text parses to is an error of the text
fault_of_text : (first : ℕ) (text : List ℕ) (holes : List Named) (template : Forest) (fault : TemplateError)
    → ParsesTo first text template
    → UnlessMemory fault (fill_template holes template ≡ Err fault) → IsTextFault first text holes fault
fault_of_text first text holes template (NoHole span) parses is = (template, parses, is)
fault_of_text first text holes template (LoneList span) parses is = (template, parses, is)
fault_of_text first text holes template (NoList span) parses is = (template, parses, is)
fault_of_text first text holes template (UnequalLists span) parses is = (template, parses, is)
fault_of_text first text holes template (NotIdent span) parses is = (template, parses, is)
fault_of_text first text holes template (NotFinite span) parses is = (template, parses, is)
fault_of_text first text holes template (TooDeep span) parses is = (template, parses, is)
fault_of_text first text holes template (Parse error) parses is = absurd is
fault_of_text first text holes template (Memory error) parses is = (template, parses)

pub fault_of_parsed : (first : ℕ) (text : List ℕ) (holes : List Named) (template : Forest)
    (r : Result (Unit {0}) TemplateError)
    → ParsesTo first text template → IfErr r (λ fault. UnlessMemory fault (fill_template holes template ≡ Err fault))
    → IfErr r (IsTextFault first text holes)
fault_of_parsed first text holes template (Ok u) parses is = tt
fault_of_parsed first text holes template (Err fault) parses is =
    fault_of_text first text holes template fault parses is
