-- Calls that split off what a function read by a rule.
use Rattle.std.proofs.Common.{◌≡◌, sym, ◌∙◌, ap, subst, ℕ, ◌-◌, ◌≤◌, List, ◌++◌, Option, length}
use Rattle.std.proofs.lemmas.List.{append_cancel_right}
use Rattle.pm_span.specs.Extent.{Extent}
use Rattle.pm_stream.specs.declared.stream.TokenTree.{TokenTree}
use Rattle.declarations.specs.Expected.{Expects}
use Rattle.declarations.specs.Explore.{ExpectsWhole}
use Rattle.declarations.specs.Fault.{extent_at, first_extent}
use Rattle.declarations.specs.Field.{HasFieldParts, HasTypeParts, IsFieldAt}
use Rattle.declarations.specs.Forms.{AreAttributes, AreBounds, AreFields, AreGenerics, AreTupleFields, AreVariants}
use Rattle.declarations.specs.Forms.{IsExpression, IsField, IsItem, IsTupleField, IsType, IsVariant, IsVisibility}
use Rattle.declarations.specs.Forms.{IsWhere}
use Rattle.declarations.specs.PartList.{list_rule}
use Rattle.declarations.specs.Reader.{Finds, Remains, Sticks}
use Rattle.declarations.specs.Reading.{FaultAt, IsOnly, Reads}
use Rattle.declarations.specs.Variant.{IsVariantAt}
use Rattle.item_tables.specs.declared.class.SignClass.{SignClass}
use Rattle.declarations.specs.declared.expected.Expected.{Expected}
use Rattle.declarations.specs.declared.field.Field.{Field}
use Rattle.declarations.specs.declared.part_list.Element.TheVariants as elements
use Rattle.declarations.specs.declared.variant.Variant.{Variant}
use Rattle.declarations.specs.rules.Expressions.{expression}
use Rattle.declarations.specs.rules.Items.{type_item}
use Rattle.declarations.specs.rules.Parts.{attributes, field, fields, generics, tuple_field, tuple_fields, variant}
use Rattle.declarations.specs.rules.Parts.{variants, visibility, where_clause}
use Rattle.declarations.specs.rules.Types.{bounds, type}
use Rattle.declarations.proofs.ReaderLemmas.{remains_span, remains_within}
use Rattle.declarations.proofs.RuleExpectsLemmas.{stuck_expects}
use Rattle.declarations.proofs.RuleFaultLemmas.{rule_fault}
use Rattle.declarations.proofs.RuleFormLemmas.{found_only, found_reads, only_reading}
use Rattle.declarations.proofs.StartLemmas as begin

-- ---- attributes

pub attributes_reads : (trees part rest : List TokenTree) → Finds attributes trees rest → trees ≡ part ++ rest
    → Reads AreAttributes trees part rest
attributes_reads = found_reads attributes begin.attributes_starts

pub attributes_only : (trees part rest : List TokenTree) → Finds attributes trees rest → trees ≡ part ++ rest
    → IsOnly AreAttributes trees part rest
attributes_only = found_only attributes begin.attributes_starts

pub attributes_fault : (trees left : List TokenTree) (at : ℕ) → Sticks attributes trees left
    → at ≡ length trees - length left
    → FaultAt AreAttributes trees at
attributes_fault = rule_fault attributes begin.attributes_starts

pub attributes_span : (trees left : List TokenTree) (at : ℕ) (span : Option Extent) → Sticks attributes trees left
    → at ≡ length trees - length left → span ≡ first_extent left
    → span ≡ extent_at trees at
attributes_span trees left at span s counted first = remains_span trees left at span s.remains counted first

pub attributes_within : (trees left : List TokenTree) → Sticks attributes trees left → length left ≤ length trees
attributes_within trees left s = remains_within trees left s.remains

pub attributes_expects : (trees left : List TokenTree) (at : ℕ) (set : Expected) → Sticks attributes trees left
    → at ≡ length trees - length left → ExpectsWhole attributes trees set
    → Expects AreAttributes trees at set
attributes_expects = stuck_expects attributes begin.attributes_starts

pub ruleset attribute_parts =
    (attributes_reads, attributes_only, attributes_fault, attributes_span, attributes_within, attributes_expects)

-- ---- visibilities

pub visibility_reads : (trees part rest : List TokenTree) → Finds visibility trees rest → trees ≡ part ++ rest
    → Reads IsVisibility trees part rest
visibility_reads = found_reads visibility begin.visibility_starts

pub visibility_only : (trees part rest : List TokenTree) → Finds visibility trees rest → trees ≡ part ++ rest
    → IsOnly IsVisibility trees part rest
visibility_only = found_only visibility begin.visibility_starts

pub ruleset visibility_parts = (visibility_reads, visibility_only)

-- ---- generic parameters

pub generics_reads : (trees part rest : List TokenTree) → Finds generics trees rest → trees ≡ part ++ rest
    → Reads AreGenerics trees part rest
generics_reads = found_reads generics begin.generics_starts

pub generics_only : (trees part rest : List TokenTree) → Finds generics trees rest → trees ≡ part ++ rest
    → IsOnly AreGenerics trees part rest
generics_only = found_only generics begin.generics_starts

pub generics_fault : (trees left : List TokenTree) (at : ℕ) → Sticks generics trees left
    → at ≡ length trees - length left
    → FaultAt AreGenerics trees at
generics_fault = rule_fault generics begin.generics_starts

pub generics_span : (trees left : List TokenTree) (at : ℕ) (span : Option Extent) → Sticks generics trees left
    → at ≡ length trees - length left → span ≡ first_extent left
    → span ≡ extent_at trees at
generics_span trees left at span s counted first = remains_span trees left at span s.remains counted first

pub generics_within : (trees left : List TokenTree) → Sticks generics trees left → length left ≤ length trees
generics_within trees left s = remains_within trees left s.remains

pub generics_expects : (trees left : List TokenTree) (at : ℕ) (set : Expected) → Sticks generics trees left
    → at ≡ length trees - length left → ExpectsWhole generics trees set
    → Expects AreGenerics trees at set
generics_expects = stuck_expects generics begin.generics_starts

pub ruleset generic_parts =
    (generics_reads, generics_only, generics_fault, generics_span, generics_within, generics_expects)

-- ---- where clauses

pub where_reads : (trees part rest : List TokenTree) → Finds where_clause trees rest → trees ≡ part ++ rest
    → Reads IsWhere trees part rest
where_reads = found_reads where_clause begin.where_clause_starts

pub where_only : (trees part rest : List TokenTree) → Finds where_clause trees rest → trees ≡ part ++ rest
    → IsOnly IsWhere trees part rest
where_only = found_only where_clause begin.where_clause_starts

pub where_fault : (trees left : List TokenTree) (at : ℕ) → Sticks where_clause trees left
    → at ≡ length trees - length left
    → FaultAt IsWhere trees at
where_fault = rule_fault where_clause begin.where_clause_starts

pub where_span : (trees left : List TokenTree) (at : ℕ) (span : Option Extent) → Sticks where_clause trees left
    → at ≡ length trees - length left → span ≡ first_extent left
    → span ≡ extent_at trees at
where_span trees left at span s counted first = remains_span trees left at span s.remains counted first

pub where_within : (trees left : List TokenTree) → Sticks where_clause trees left → length left ≤ length trees
where_within trees left s = remains_within trees left s.remains

pub where_expects : (trees left : List TokenTree) (at : ℕ) (set : Expected) → Sticks where_clause trees left
    → at ≡ length trees - length left → ExpectsWhole where_clause trees set
    → Expects IsWhere trees at set
where_expects = stuck_expects where_clause begin.where_clause_starts

pub ruleset where_parts =
    (where_reads, where_only, where_fault, where_span, where_within, where_expects)

-- ---- types

pub type_reads : (trees part rest : List TokenTree) → Finds type trees rest → trees ≡ part ++ rest
    → Reads IsType trees part rest
type_reads = found_reads type begin.type_starts

pub type_only : (trees part rest : List TokenTree) → Finds type trees rest → trees ≡ part ++ rest
    → IsOnly IsType trees part rest
type_only = found_only type begin.type_starts

pub type_fault : (trees left : List TokenTree) (at : ℕ) → Sticks type trees left
    → at ≡ length trees - length left
    → FaultAt IsType trees at
type_fault = rule_fault type begin.type_starts

pub type_span : (trees left : List TokenTree) (at : ℕ) (span : Option Extent) → Sticks type trees left
    → at ≡ length trees - length left → span ≡ first_extent left
    → span ≡ extent_at trees at
type_span trees left at span s counted first = remains_span trees left at span s.remains counted first

pub type_within : (trees left : List TokenTree) → Sticks type trees left → length left ≤ length trees
type_within trees left s = remains_within trees left s.remains

pub type_expects : (trees left : List TokenTree) (at : ℕ) (set : Expected) → Sticks type trees left
    → at ≡ length trees - length left → ExpectsWhole type trees set
    → Expects IsType trees at set
type_expects = stuck_expects type begin.type_starts

pub ruleset type_parts =
    (type_reads, type_only, type_fault, type_span, type_within, type_expects)

-- ---- bounds

pub bounds_reads : (trees part rest : List TokenTree) → Finds bounds trees rest → trees ≡ part ++ rest
    → Reads AreBounds trees part rest
bounds_reads = found_reads bounds begin.bounds_starts

pub bounds_only : (trees part rest : List TokenTree) → Finds bounds trees rest → trees ≡ part ++ rest
    → IsOnly AreBounds trees part rest
bounds_only = found_only bounds begin.bounds_starts

pub bounds_fault : (trees left : List TokenTree) (at : ℕ) → Sticks bounds trees left
    → at ≡ length trees - length left
    → FaultAt AreBounds trees at
bounds_fault = rule_fault bounds begin.bounds_starts

pub bounds_span : (trees left : List TokenTree) (at : ℕ) (span : Option Extent) → Sticks bounds trees left
    → at ≡ length trees - length left → span ≡ first_extent left
    → span ≡ extent_at trees at
bounds_span trees left at span s counted first = remains_span trees left at span s.remains counted first

pub bounds_within : (trees left : List TokenTree) → Sticks bounds trees left → length left ≤ length trees
bounds_within trees left s = remains_within trees left s.remains

pub bounds_expects : (trees left : List TokenTree) (at : ℕ) (set : Expected) → Sticks bounds trees left
    → at ≡ length trees - length left → ExpectsWhole bounds trees set
    → Expects AreBounds trees at set
bounds_expects = stuck_expects bounds begin.bounds_starts

pub ruleset bound_parts =
    (bounds_reads, bounds_only, bounds_fault, bounds_span, bounds_within, bounds_expects)

-- ---- expressions

pub expression_reads : (trees part rest : List TokenTree) → Finds expression trees rest → trees ≡ part ++ rest
    → Reads IsExpression trees part rest
expression_reads = found_reads expression begin.expression_starts

pub expression_only : (trees part rest : List TokenTree) → Finds expression trees rest → trees ≡ part ++ rest
    → IsOnly IsExpression trees part rest
expression_only = found_only expression begin.expression_starts

pub expression_fault : (trees left : List TokenTree) (at : ℕ) → Sticks expression trees left
    → at ≡ length trees - length left
    → FaultAt IsExpression trees at
expression_fault = rule_fault expression begin.expression_starts

pub expression_span : (trees left : List TokenTree) (at : ℕ) (span : Option Extent) → Sticks expression trees left
    → at ≡ length trees - length left → span ≡ first_extent left
    → span ≡ extent_at trees at
expression_span trees left at span s counted first = remains_span trees left at span s.remains counted first

pub expression_within : (trees left : List TokenTree) → Sticks expression trees left → length left ≤ length trees
expression_within trees left s = remains_within trees left s.remains

pub expression_expects : (trees left : List TokenTree) (at : ℕ) (set : Expected) → Sticks expression trees left
    → at ≡ length trees - length left → ExpectsWhole expression trees set
    → Expects IsExpression trees at set
expression_expects = stuck_expects expression begin.expression_starts

pub ruleset expression_parts =
    (expression_reads, expression_only, expression_fault, expression_span, expression_within, expression_expects)

-- ---- lists of fields

pub fields_reads : (trees part rest : List TokenTree) → Finds (list_rule elements.Field) trees rest
    → trees ≡ part ++ rest
    → Reads AreFields trees part rest
fields_reads = found_reads fields begin.fields_starts

pub fields_only : (trees part rest : List TokenTree) → Finds (list_rule elements.Field) trees rest
    → trees ≡ part ++ rest
    → IsOnly AreFields trees part rest
fields_only = found_only fields begin.fields_starts

pub fields_fault : (trees left : List TokenTree) (at : ℕ) → Sticks (list_rule elements.Field) trees left
    → at ≡ length trees - length left
    → FaultAt AreFields trees at
fields_fault = rule_fault fields begin.fields_starts

pub fields_span : (trees left : List TokenTree) (at : ℕ) (span : Option Extent)
    → Sticks (list_rule elements.Field) trees left
    → at ≡ length trees - length left → span ≡ first_extent left
    → span ≡ extent_at trees at
fields_span trees left at span s counted first = remains_span trees left at span s.remains counted first

pub fields_within : (trees left : List TokenTree) → Sticks (list_rule elements.Field) trees left
    → length left ≤ length trees
fields_within trees left s = remains_within trees left s.remains

pub fields_expects : (trees left : List TokenTree) (at : ℕ) (set : Expected)
    → Sticks (list_rule elements.Field) trees left
    → at ≡ length trees - length left → ExpectsWhole fields trees set
    → Expects AreFields trees at set
fields_expects = stuck_expects fields begin.fields_starts

pub ruleset field_lists_read =
    (fields_reads, fields_only, fields_fault, fields_span, fields_within, fields_expects)

-- ---- lists of fields without names

pub tuple_fields_reads : (trees part rest : List TokenTree) → Finds (list_rule elements.TupleField) trees rest
    → trees ≡ part ++ rest
    → Reads AreTupleFields trees part rest
tuple_fields_reads = found_reads tuple_fields begin.tuple_fields_starts

pub tuple_fields_only : (trees part rest : List TokenTree) → Finds (list_rule elements.TupleField) trees rest
    → trees ≡ part ++ rest
    → IsOnly AreTupleFields trees part rest
tuple_fields_only = found_only tuple_fields begin.tuple_fields_starts

pub tuple_fields_fault : (trees left : List TokenTree) (at : ℕ) → Sticks (list_rule elements.TupleField) trees left
    → at ≡ length trees - length left
    → FaultAt AreTupleFields trees at
tuple_fields_fault = rule_fault tuple_fields begin.tuple_fields_starts

pub tuple_fields_span : (trees left : List TokenTree) (at : ℕ) (span : Option Extent)
    → Sticks (list_rule elements.TupleField) trees left
    → at ≡ length trees - length left → span ≡ first_extent left
    → span ≡ extent_at trees at
tuple_fields_span trees left at span s counted first = remains_span trees left at span s.remains counted first

pub tuple_fields_within : (trees left : List TokenTree) → Sticks (list_rule elements.TupleField) trees left
    → length left ≤ length trees
tuple_fields_within trees left s = remains_within trees left s.remains

pub tuple_fields_expects : (trees left : List TokenTree) (at : ℕ) (set : Expected)
    → Sticks (list_rule elements.TupleField) trees left
    → at ≡ length trees - length left → ExpectsWhole tuple_fields trees set
    → Expects AreTupleFields trees at set
tuple_fields_expects = stuck_expects tuple_fields begin.tuple_fields_starts

pub ruleset tuple_field_lists_read = (
  tuple_fields_reads,
  tuple_fields_only,
  tuple_fields_fault,
  tuple_fields_span,
  tuple_fields_within,
  tuple_fields_expects,
)

-- ---- lists of variants

pub variants_reads : (trees part rest : List TokenTree) → Finds (list_rule elements.Variant) trees rest
    → trees ≡ part ++ rest
    → Reads AreVariants trees part rest
variants_reads = found_reads variants begin.variants_starts

pub variants_only : (trees part rest : List TokenTree) → Finds (list_rule elements.Variant) trees rest
    → trees ≡ part ++ rest
    → IsOnly AreVariants trees part rest
variants_only = found_only variants begin.variants_starts

pub variants_fault : (trees left : List TokenTree) (at : ℕ) → Sticks (list_rule elements.Variant) trees left
    → at ≡ length trees - length left
    → FaultAt AreVariants trees at
variants_fault = rule_fault variants begin.variants_starts

pub variants_span : (trees left : List TokenTree) (at : ℕ) (span : Option Extent)
    → Sticks (list_rule elements.Variant) trees left
    → at ≡ length trees - length left → span ≡ first_extent left
    → span ≡ extent_at trees at
variants_span trees left at span s counted first = remains_span trees left at span s.remains counted first

pub variants_within : (trees left : List TokenTree) → Sticks (list_rule elements.Variant) trees left
    → length left ≤ length trees
variants_within trees left s = remains_within trees left s.remains

pub variants_expects : (trees left : List TokenTree) (at : ℕ) (set : Expected)
    → Sticks (list_rule elements.Variant) trees left
    → at ≡ length trees - length left → ExpectsWhole variants trees set
    → Expects AreVariants trees at set
variants_expects = stuck_expects variants begin.variants_starts

pub ruleset variant_lists_read =
    (variants_reads, variants_only, variants_fault, variants_span, variants_within, variants_expects)

-- ---- fields and variants, whose parts are read

reads_remain : (form : List SignClass → List SignClass → Type 0) (trees part rest : List TokenTree)
    → Reads form trees part rest
    → Remains rest trees
reads_remain form trees part rest reads = record {
  front = reads.piece;
  read = reads.read;
  whole = reads.whole ∙ ap (λ p. p ++ rest) reads.taken;
}

same_part : (form : List SignClass → List SignClass → Type 0) (trees part other rest : List TokenTree)
    → Reads form trees part rest → trees ≡ other ++ rest
    → Reads form trees other rest
same_part form trees part other rest reads whole =
    subst (λ p. Reads form trees p rest) (append_cancel_right part other rest (sym reads.whole ∙ whole)) reads

pub field_remains : (trees rest : List TokenTree) (found : Field)
    → IsFieldAt IsField HasFieldParts trees found rest
    → Remains rest trees
field_remains trees rest found at = reads_remain IsField trees at.part rest at.reads

pub field_reads : (trees part rest : List TokenTree) (found : Field)
    → IsFieldAt IsField HasFieldParts trees found rest → trees ≡ part ++ rest
    → Reads IsField trees part rest
field_reads trees part rest found at whole = same_part IsField trees at.part part rest at.reads whole

pub field_only : (trees part rest : List TokenTree) (found : Field)
    → IsFieldAt IsField HasFieldParts trees found rest → trees ≡ part ++ rest
    → IsOnly IsField trees part rest
field_only trees part rest found at whole =
    only_reading field begin.field_starts trees part rest
    (field_reads trees part rest found at whole)

pub ruleset fields_read = (field_remains, field_reads, field_only)

pub tuple_field_remains : (trees rest : List TokenTree) (found : Field)
    → IsFieldAt IsTupleField HasTypeParts trees found rest
    → Remains rest trees
tuple_field_remains trees rest found at = reads_remain IsTupleField trees at.part rest at.reads

pub tuple_field_reads : (trees part rest : List TokenTree) (found : Field)
    → IsFieldAt IsTupleField HasTypeParts trees found rest → trees ≡ part ++ rest
    → Reads IsTupleField trees part rest
tuple_field_reads trees part rest found at whole = same_part IsTupleField trees at.part part rest at.reads whole

pub tuple_field_only : (trees part rest : List TokenTree) (found : Field)
    → IsFieldAt IsTupleField HasTypeParts trees found rest → trees ≡ part ++ rest
    → IsOnly IsTupleField trees part rest
tuple_field_only trees part rest found at whole =
    only_reading tuple_field begin.tuple_field_starts trees part rest
    (tuple_field_reads trees part rest found at whole)

pub ruleset tuple_fields_read = (tuple_field_remains, tuple_field_reads, tuple_field_only)

pub variant_remains : (trees rest : List TokenTree) (found : Variant) → IsVariantAt trees found rest
    → Remains rest trees
variant_remains trees rest found at = reads_remain IsVariant trees at.part rest at.reads

pub variant_reads : (trees part rest : List TokenTree) (found : Variant) → IsVariantAt trees found rest
    → trees ≡ part ++ rest
    → Reads IsVariant trees part rest
variant_reads trees part rest found at whole = same_part IsVariant trees at.part part rest at.reads whole

pub variant_only : (trees part rest : List TokenTree) (found : Variant) → IsVariantAt trees found rest
    → trees ≡ part ++ rest
    → IsOnly IsVariant trees part rest
variant_only trees part rest found at whole =
    only_reading variant begin.variant_starts trees part rest
    (variant_reads trees part rest found at whole)

pub ruleset variants_read = (variant_remains, variant_reads, variant_only)

-- ---- items

pub item_reads : (trees part rest : List TokenTree) → Finds type_item trees rest → trees ≡ part ++ rest
    → Reads IsItem trees part rest
item_reads = found_reads type_item begin.type_item_starts

pub item_only : (trees part rest : List TokenTree) → Finds type_item trees rest → trees ≡ part ++ rest
    → IsOnly IsItem trees part rest
item_only = found_only type_item begin.type_item_starts

pub item_fault : (trees left : List TokenTree) (at : ℕ) → Sticks type_item trees left
    → at ≡ length trees - length left
    → FaultAt IsItem trees at
item_fault = rule_fault type_item begin.type_item_starts

pub item_span : (trees left : List TokenTree) (at : ℕ) (span : Option Extent) → Sticks type_item trees left
    → at ≡ length trees - length left → span ≡ first_extent left
    → span ≡ extent_at trees at
item_span trees left at span s counted first = remains_span trees left at span s.remains counted first

pub item_expects : (trees left : List TokenTree) (at : ℕ) (set : Expected) → Sticks type_item trees left
    → at ≡ length trees - length left → ExpectsWhole type_item trees set
    → Expects IsItem trees at set
item_expects = stuck_expects type_item begin.type_item_starts

pub ruleset items_read = (item_reads, item_only, item_fault, item_span, item_expects)
