-- Lemmas about the line and column of an input's syntax error.
use Rattle.std.proofs.Common.{◌≡◌, ◌↔◌, ℕ, ◌+◌, ◌-◌, List, Err, if◌then◌else◌, refl, subst, arith}
use Rattle.std.specs.Str.{chars, IsUtf8}
use Rattle.std.specs.Prelude.{alloc_error}
use Rattle.proc_macro2.specs.declared.LineColumn.{LineColumn}
use Rattle.proc_macro2.specs.declared.ParseError.{ParseError}
use Rattle.proc_macro2.specs.declared.ParseError.TheVariants.{Lex, MapFull, Memory}
use Rattle.proc_macro2.specs.Extent.{Extent}
use Rattle.proc_macro2.specs.Lookup.{StartsAt}
use Rattle.proc_macro2.specs.Files.{Files, new_map, next_lo, with_file}
use Rattle.proc_macro2.specs.Forest.{Forest}
use Rattle.proc_macro2.specs.Outcome.{IfLex, was_read}
use Rattle.proc_macro2.specs.Parsing.{FaultAt}
use Rattle.proc_macro2.proofs.FaultLemmas.{fault_within}
use Rattle.proc_macro2.proofs.LineColumnLemmas.{fault_starts}
use Rattle.tokens.specs.declared.errors.RunError.{RunError}
use Rattle.tokens.specs.declared.errors.RunError.TheVariants as run
use Rattle.tokens.specs.Output.{HasFaultAt}

-- the input's error is where the error of the only text in the map begins
HasFaultAt-read : (new : Files) (input : List ℕ) (fault : Extent) (start : LineColumn) → IsUtf8 input
    → new ≡ with_file new_map (chars input) → fault.lo ≡ fault.hi → FaultAt 1 (chars input) fault.lo
    → StartsAt new fault start → HasFaultAt input start
HasFaultAt-read new input fault start text read empty stands starts =
    let within = fault_within 1 (chars input) fault.lo stands in
    let back : fault.lo ≡ 1 + (fault.lo - 1) = omega arith in
    record {
      text = text;
      before = fault.lo - 1;
      fault = subst (FaultAt 1 (chars input)) back stands;
      at = fault_starts new_map new (chars input) fault start read (empty, stands) starts;
    }

-- an error with line and column has those of the input's syntax error
pub HasFaultAt-refused : (new : Files) (input : List ℕ) (error : ParseError) (why : RunError) (start : LineColumn)
    → IsUtf8 input
    → IfLex error (λ fault. (fault.lo ≡ fault.hi) × FaultAt (next_lo new_map) (chars input) fault.lo)
    → new ≡ (if was_read {T = Forest} (Err error) then with_file new_map (chars input) else new_map)
    → IfLex error (λ fault. (p : LineColumn) × (why ≡ run.Lex p) × StartsAt new fault p)
    → ((why ≡ run.MapFull) ↔ (error ≡ MapFull)) → ((why ≡ run.Memory alloc_error) ↔ (error ≡ Memory alloc_error))
    → why ≡ run.Lex start → HasFaultAt input start
HasFaultAt-refused new input (Lex fault) why start text lex kept starts full memory is =
    let same : starts.0 ≡ start = cc in
    subst (HasFaultAt input) same (HasFaultAt-read new input fault starts.0 text kept lex.0 lex.1 starts.2)
HasFaultAt-refused new input MapFull why start text lex kept starts full memory is = let e = full.1 refl in cc
HasFaultAt-refused new input (Memory error) why start text lex kept starts full memory is = let e = memory.1 refl in cc
