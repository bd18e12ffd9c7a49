-- Programs that parse a text and write a result fail only as `MayFail` says.
use Rattle.std.proofs.Common.{Bool, ◌≡◌, ℕ, List, Option, Some, None, refl, length, Err, if◌then◌else◌, true, false}
use Rattle.std.specs.Io.KnownBytes.{Keeps}
use Rattle.std.specs.IoError.{error_kind}
use Rattle.std.specs.declared.alloc.AllocError.{AllocError}
use Rattle.std.specs.declared.io.Error.{Error}
use Rattle.proc_macro2.proofs.LineColumnLemmas.{fault_starts}
use Rattle.proc_macro2.specs.Files.{Files, Fits, new_map, next_lo, with_file}
use Rattle.proc_macro2.specs.Lookup.{StartsAt}
use Rattle.proc_macro2.specs.Outcome.{IfLex, was_read}
use Rattle.proc_macro2.specs.Parsing.{FaultAt}
use Rattle.proc_macro2.specs.declared.LineColumn.{LineColumn}
use Rattle.proc_macro2.specs.declared.ParseError.{ParseError}
use Rattle.proc_macro2.specs.declared.ParseError.TheVariants.{Lex, MapFull, Memory}
use Rattle.messages.specs.Failure.{is_memory, writing_failed}
use Rattle.messages.specs.Parsed.{MayFail}
use Rattle.messages.specs.declared.errors.Failure.{Failure}
use Rattle.messages.specs.declared.errors.Failure.TheVariants.{Fault, MapFull as TooLong, Memory as NoMemory, Write}

-- known bytes stay if nothing is written
pub Keeps-same : (known : Option (List ℕ)) → Keeps known known
Keeps-same None = tt
Keeps-same (Some bytes) = refl

by_memory : (text : List ℕ) (old new : Option (List ℕ)) (error : Error) (is : Bool)
    → MayFail text old new (if is then NoMemory else Write error)
by_memory text old new error true = tt
by_memory text old new error false = tt

-- an error of a write
pub writing_may_fail : (text : List ℕ) (old new : Option (List ℕ)) (error : Error)
    → MayFail text old new (writing_failed error)
writing_may_fail text old new error = by_memory text old new error (is_memory (error_kind error))

-- a text that was not parsed into a new map
pub unparsed_may_fail : (T : Type 0) (text : List ℕ) (known : Option (List ℕ)) (map : Files) (error : ParseError)
    (failure : Failure)
    → map ≡ (if was_read {T = T} (Err error) then with_file new_map text else new_map)
    → IfLex error (λ fault. (fault.lo ≡ fault.hi) × FaultAt (next_lo new_map) text fault.lo)
    → (error ≡ MapFull → Fits new_map (length text) → ⊥)
    → IfLex error (λ fault. (start : LineColumn) × (failure ≡ Fault start) × StartsAt map fault start)
    → (error ≡ MapFull → failure ≡ TooLong) → ((refused : AllocError) → error ≡ Memory refused → failure ≡ NoMemory)
    → MayFail text known known failure
unparsed_may_fail T text known map (Lex fault) failure kept stands full (start, is, starts) too_long no_memory =
    rw is (fault.lo, stands.1, fault_starts new_map map text fault start kept stands starts, Keeps-same known)
unparsed_may_fail T text known map MapFull failure kept stands full lex_fault too_long no_memory =
    rw (too_long refl) (full refl, Keeps-same known)
unparsed_may_fail T text known map (Memory refused) failure kept stands full lex_fault too_long no_memory =
    rw (no_memory refused refl) tt
