-- The errors of lists.
use Rattle.std.proofs.Common.{◌≡◌, ◌∙◌, ap, ◌-◌, Bool, true, false, List, [], ◌∷◌, length, inr}
use Rattle.std.proofs.Common.{arith}
use Rattle.std.proofs.lemmas.List.{length-append}
use Rattle.grammars.specs.Deterministic.{IsStart}
use Rattle.pm_stream.specs.declared.stream.TokenTree.{TokenTree}
use Rattle.declarations.specs.Explore.{ExpectsComma}
use Rattle.declarations.specs.Fault.{first_extent}
use Rattle.declarations.specs.Forms.{IsVariant}
use Rattle.declarations.specs.List.{IsListFault, IsPastComma, field_form, field_rule}
use Rattle.declarations.specs.Reading.{Reads}
use Rattle.declarations.specs.declared.fault.Fault.{Fault}
use Rattle.declarations.specs.rules.Names.{G}
use Rattle.declarations.specs.rules.Parts as parts
use Rattle.declarations.specs.rules.Pieces.{ByRule}
use Rattle.declarations.specs.rules.Rules.{follows, rules}
use Rattle.declarations.proofs.ListLemmas.{none_past, part_span}
use Rattle.declarations.proofs.RuleExpectsLemmas.{reads_expects}
use Rattle.declarations.proofs.StartLemmas as begin

-- a part is read, and neither `,` nor the end comes after it
pub lacks_comma : (g : G) → IsStart rules follows (g ∷ []) → (trees part rest : List TokenTree) (fault : Fault)
    → Reads (ByRule g) trees part rest → ((left : List TokenTree) → IsPastComma rest left → ⊥)
    → fault.at ≡ length trees - length rest → fault.span ≡ first_extent rest
    → ExpectsComma g trees fault.expected → IsListFault (ByRule g) trees fault
lacks_comma g start trees part rest fault reads none at span e =
    let all = ap length reads.whole ∙ length-append part rest in
    let counted : fault.at ≡ length part = omega arith in
    record {
      place = inr (record {
        part = part;
        rest = rest;
        reads = reads;
        counted = counted;
        none = none;
        onward = e.onward;
        goes_on = reads_expects g start trees part rest fault.at e.onward reads
            (λ none_left. none rest (none_past rest none_left)) at e.goes_on;
        expected = e.signs;
      });
      span = part_span trees part rest fault.at fault.span reads.whole counted span;
    }

pub field_lacks_comma : (named : Bool) (trees part rest : List TokenTree) (fault : Fault)
    → Reads (field_form named) trees part rest → ((left : List TokenTree) → IsPastComma rest left → ⊥)
    → fault.at ≡ length trees - length rest → fault.span ≡ first_extent rest
    → ExpectsComma (field_rule named) trees fault.expected → IsListFault (field_form named) trees fault
field_lacks_comma true = lacks_comma parts.field begin.field_starts
field_lacks_comma false = lacks_comma parts.tuple_field begin.tuple_field_starts

pub variant_lacks_comma : (trees part rest : List TokenTree) (fault : Fault) → Reads IsVariant trees part rest
    → ((left : List TokenTree) → IsPastComma rest left → ⊥) → fault.at ≡ length trees - length rest
    → fault.span ≡ first_extent rest → ExpectsComma parts.variant trees fault.expected
    → IsListFault IsVariant trees fault
variant_lacks_comma = lacks_comma parts.variant begin.variant_starts
