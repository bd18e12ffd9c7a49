-- Lists of parts, one part at a time.
use Rattle.std.proofs.Common.{◌≡◌, ℕ, ◌≤◌, ◌<◌, refl, sym, ◌∙◌, ap, Bool, true, false, List, [], ◌∷◌}
use Rattle.std.proofs.Common.{◌++◌, length, Option, drop, arith}
use Rattle.std.proofs.lemmas.List.{length-append}
use Rattle.std.proofs.Math.Seq.{drop-append_seam}
use Rattle.pm_span.specs.Extent.{Extent}
use Rattle.pm_stream.specs.declared.stream.TokenTree.{TokenTree}
use Rattle.pm_stream.specs.declared.stream.TokenTree.TheVariants.{Group, Ident, Punct, Literal}
use Rattle.declarations.specs.Fault.{extent_at, first_extent}
use Rattle.declarations.specs.List.{IsPastComma, IsFieldOf, field_form}
use Rattle.declarations.specs.Reading.{Reads}
use Rattle.declarations.specs.Variant.{IsVariantAt}
use Rattle.item_tables.specs.declared.class.SignClass.{SignClass}
use Rattle.declarations.specs.declared.field.Field.{Field}
use Rattle.declarations.specs.declared.variant.Variant.{Variant}
use Rattle.declarations.proofs.StartLemmas as begin
use Rattle.declarations.proofs.RuleFormLemmas.{rule_fewer}
use Rattle.declarations.specs.rules.Parts as rule

-- ---- a comma

pub none_past : (trees : List TokenTree) → length trees ≡ 0 → IsPastComma trees trees
none_past [] none = refl
none_past (tree ∷ trees) none = absurd (omega arith)

pub past_fewer : (rest left : List TokenTree) → IsPastComma rest left → length left ≤ length rest
past_fewer [] left past = rw past (omega arith)
past_fewer (Punct mark ∷ rest) left past = rw past.1 (omega arith)
past_fewer (Group g ∷ rest) left past = absurd past
past_fewer (Ident i ∷ rest) left past = absurd past
past_fewer (Literal l ∷ rest) left past = absurd past

-- ---- a part has at least one tree

pub field_fewer : (named : Bool) (trees rest left : List TokenTree) (field : Field)
    → IsFieldOf named trees field rest → IsPastComma rest left → length left < length trees
field_fewer true trees rest left field at past =
    let fewer = rule_fewer rule.field begin.field_starts trees at.part rest refl at.reads in
    let after = past_fewer rest left past in
    omega arith
field_fewer false trees rest left field at past =
    let fewer = rule_fewer rule.tuple_field begin.tuple_field_starts trees at.part rest refl at.reads in
    let after = past_fewer rest left past in
    omega arith

pub variant_fewer : (trees rest left : List TokenTree) (variant : Variant) → IsVariantAt trees variant rest
    → IsPastComma rest left → length left < length trees
variant_fewer trees rest left variant at past =
    let fewer = rule_fewer rule.variant begin.variant_starts trees at.part rest refl at.reads in
    let after = past_fewer rest left past in
    omega arith

-- ---- a part without a comma after it

pub part_span : (trees part rest : List TokenTree) (at : ℕ) (span : Option Extent) → trees ≡ part ++ rest
    → at ≡ length part → span ≡ first_extent rest → span ≡ extent_at trees at
part_span trees part rest at span whole counted first =
    first ∙ ap first_extent (sym (drop-append_seam part rest) ∙ ap (λ n. drop n (part ++ rest)) (sym counted)
    ∙ ap (drop at) (sym whole))

pub rest_within : (form : List SignClass → List SignClass → Type 0) (trees part rest : List TokenTree)
    → Reads form trees part rest → length rest ≤ length trees
rest_within form trees part rest reads =
    let all = ap length reads.whole ∙ length-append part rest in
    omega arith

-- the trees of a field are those of a part
pub field_part : (named : Bool) (trees rest : List TokenTree) (field : Field) → IsFieldOf named trees field rest
    → (part : List TokenTree) × Reads (field_form named) trees part rest
field_part true trees rest field at = (at.part, at.reads)
field_part false trees rest field at = (at.part, at.reads)
