-- The answers of the functions that replace the escapes of a content.
use Rattle.std.proofs.Common.{◌≡◌, ℕ, List, [], ◌∷◌, ◌++◌, Option, Some, None, Result, Ok, Err, length}
use Rattle.std.proofs.Common.{sym, ap, ap₂, ◌∙◌, arith, length-append, append-nil}
use Rattle.std.specs.declared.ops.Range.{Range}
use Rattle.std.specs.declared.alloc.AllocError.{AllocError}
use Rattle.literal_escaper.specs.declared.errors.EscapeError.{EscapeError}
use Rattle.literal_escaper.specs.Items.{Item}
use Rattle.literal_escaper.specs.Value.{units_of, last_fault_or, last_fault, value_or, value_of}
use Rattle.pm_token.specs.declared.literals.conversion.ConversionErrorKind.{ConversionErrorKind}
use Rattle.pm_token.specs.declared.literals.conversion.ConversionErrorKind.TheVariants.{FailedToUnescape, Memory}
use Rattle.pm_token.specs.Value.{Answers, value_from}

-- running out of memory is an answer, whatever the value of a content with escapes is
pub answers_memory : {T V : Type 0} (seen : T → V) (read : Result V EscapeError) (result : Result T ConversionErrorKind)
    (error : AllocError) → result ≡ Err (Memory error) → Answers seen (value_from (Some read) None) result
answers_memory seen (Ok value) result error e = record {
  ok = rw e tt;
  unescape = λ fault h. absurd cc;
  kind = (λ h. absurd cc, λ h. absurd cc);
}
answers_memory seen (Err fault) result error e = record {
  ok = rw e tt;
  unescape = λ other h. absurd cc;
  kind = (λ h. absurd cc, λ h. absurd cc);
}

-- the value of a content without a fault is the answer
pub answers_value : {T V : Type 0} (seen : T → V) (read : Result V EscapeError) (answer : T) → read ≡ Ok (seen answer)
    → Answers seen (value_from (Some read) None) (Ok answer)
answers_value seen (Ok value) answer e = record {
  ok = cc;
  unescape = λ fault h. absurd cc;
  kind = (λ h. absurd cc, λ h. absurd cc);
}
answers_value seen (Err fault) answer e = absurd cc

-- the fault of a content is the answer
pub answers_fault : {T V : Type 0} (seen : T → V) (read : Result V EscapeError) (kind : ConversionErrorKind)
    (fault : EscapeError) → read ≡ Err fault → kind ≡ FailedToUnescape fault
    → Answers seen (value_from (Some read) None) (Err kind)
answers_fault seen (Ok value) kind fault e is = absurd cc
answers_fault seen (Err found) kind fault e is = record {
  ok = tt;
  unescape = λ other h. cc;
  kind = (λ h. absurd cc, λ h. absurd cc);
}

-- at the end the last fault so far is that of all items
pub end_fault : {U : Type 0} (all left : List (Item U)) (before : Option EscapeError) → left ≡ []
    → last_fault_or before left ≡ last_fault_or None all → last_fault all ≡ before
end_fault all [] before e same = sym same
end_fault all (item ∷ left) before e same = absurd cc

-- at the end the units so far are those of all items
pub end_value : {U : Type 0} (all left : List (Item U)) (before : Option EscapeError) (seen : List U) → left ≡ []
    → seen ++ units_of left ≡ units_of all → last_fault_or before left ≡ last_fault_or None all
    → value_of all ≡ value_or before seen
end_value all [] before seen e joined same = ap₂ value_or (sym same) (sym joined ∙ append-nil seen)
end_value all (item ∷ left) before seen e joined same = absurd cc

value_or_nil : {U : Type 0} (fault : Option EscapeError) (units : List U) → value_or fault units ≡ Ok [] → units ≡ []
value_or_nil None units e = cc
value_or_nil (Some fault) units e = absurd cc

-- a content that has a unit has another value than the empty one
pub not_empty : {U : Type 0} (all left rest : List (Item U)) (range : Range ℕ) (unit : U) (seen : List U)
    → left ≡ (range, Ok unit) ∷ rest → seen ++ units_of left ≡ units_of all → value_of all ≡ Ok [] → ⊥
not_empty all left rest range unit seen e joined empty =
    omega (
      arith,
      length-append seen (unit ∷ units_of rest),
      ap length (ap (λ items. seen ++ units_of items) (sym e) ∙ joined
          ∙ value_or_nil (last_fault all) (units_of all) empty),
    )

-- nor has a content with a fault the empty value
pub not_faulty : {U : Type 0} (before : Option EscapeError) (units : List U) (fault : EscapeError)
    → before ≡ Some fault → value_or before units ≡ Ok [] → ⊥
not_faulty None units fault e empty = absurd cc
not_faulty (Some found) units fault e empty = absurd cc
