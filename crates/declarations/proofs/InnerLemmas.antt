-- Inner attributes, read by their rule.
use Rattle.std.proofs.Common.{◌≡◌, refl, sym, ◌∙◌, ℕ, ◌-◌, ◌≤◌, Bool, List, [], ◌∷◌, ◌++◌, length}
use Rattle.std.proofs.Common.{Option}
use Rattle.grammars.specs.Deterministic.{IsStart}
use Rattle.grammars.specs.First.{heads}
use Rattle.pm_span.specs.Extent.{Extent}
use Rattle.pm_stream.specs.declared.stream.TokenTree.{TokenTree}
use Rattle.declarations.specs.Expected.{Expects}
use Rattle.declarations.specs.Explore.{ExpectsWhole}
use Rattle.declarations.specs.Fault.{extent_at, first_extent}
use Rattle.declarations.specs.Forms.{AreInnerAttributes}
use Rattle.declarations.specs.ItemRest.{inner_attribute}
use Rattle.declarations.specs.Reader.{Finds, Sticks, classes_in}
use Rattle.declarations.specs.Reading.{FaultAt, IsOnly, Reads}
use Rattle.declarations.specs.declared.expected.Expected.{Expected}
use Rattle.item_tables.specs.Classes.{is}
use Rattle.item_tables.specs.declared.class.SignClass.{SignClass}
use Rattle.item_tables.specs.declared.class.SignClass.TheVariants as signs
use Rattle.declarations.specs.rules.Names.{one}
use Rattle.declarations.specs.rules.Parts.{inner_attributes}
use Rattle.declarations.specs.rules.Rules.{follows, rules}
use Rattle.declarations.proofs.ReaderLemmas.{remains_span, remains_within}
use Rattle.declarations.proofs.RuleExpectsLemmas.{stuck_expects}
use Rattle.declarations.proofs.TreeLemmas.{or_nothing}
use Rattle.declarations.proofs.StartLemmas as begin
use Rattle.declarations.proofs.RuleFaultLemmas.{rule_fault}
use Rattle.declarations.proofs.RuleFormLemmas.{found_only, found_reads}

inner_heads : (cs : List SignClass) → heads inner_attribute cs ≡ heads (one signs.HashBang) cs
inner_heads [] = refl
inner_heads (c ∷ cs) = or_nothing (is signs.HashBang c) (is signs.Brackets c)

pub begins : (trees : List TokenTree) (b : Bool) → b ≡ heads (one signs.HashBang) (classes_in trees)
    → b ≡ heads inner_attribute (classes_in trees)
begins trees b h = h ∙ sym (inner_heads (classes_in trees))

starts_inner : IsStart rules follows (inner_attributes ∷ [])
starts_inner = begin.inner_attributes_starts

pub inner_reads : (trees part rest : List TokenTree) → Finds inner_attributes trees rest → trees ≡ part ++ rest
    → Reads AreInnerAttributes trees part rest
inner_reads = found_reads inner_attributes starts_inner

pub inner_only : (trees part rest : List TokenTree) → Finds inner_attributes trees rest → trees ≡ part ++ rest
    → IsOnly AreInnerAttributes trees part rest
inner_only = found_only inner_attributes starts_inner

pub inner_fault : (trees left : List TokenTree) (at : ℕ) → Sticks inner_attributes trees left
    → at ≡ length trees - length left
    → FaultAt AreInnerAttributes trees at
inner_fault = rule_fault inner_attributes starts_inner

pub inner_expects : (trees left : List TokenTree) (at : ℕ) (set : Expected) → Sticks inner_attributes trees left
    → at ≡ length trees - length left → ExpectsWhole inner_attributes trees set
    → Expects AreInnerAttributes trees at set
inner_expects = stuck_expects inner_attributes starts_inner

pub inner_span : (trees left : List TokenTree) (at : ℕ) (span : Option Extent) → Sticks inner_attributes trees left
    → at ≡ length trees - length left → span ≡ first_extent left
    → span ≡ extent_at trees at
inner_span trees left at span f counted first = remains_span trees left at span f.remains counted first

pub inner_within : (trees left : List TokenTree) → Sticks inner_attributes trees left → length left ≤ length trees
inner_within trees left f = remains_within trees left f.remains

pub ruleset inner_parts = (inner_reads, inner_only, inner_fault, inner_expects, inner_span, inner_within)
