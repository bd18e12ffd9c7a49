-- A reading may begin with each rule of a public form.
use Rattle.std.proofs.Common.{refl, [], ◌∷◌}
use Rattle.grammars.specs.Deterministic.{IsStart}
use Rattle.declarations.specs.rules.Expressions.{expression}
use Rattle.declarations.specs.rules.Items.{any_item, type_item}
use Rattle.declarations.specs.rules.Parts.{attributes, field, fields, generics, inner_attributes, tuple_field}
use Rattle.declarations.specs.rules.Parts.{tuple_fields, variant, variants, visibility, where_clause}
use Rattle.declarations.specs.rules.Rules.{follows, rules}
use Rattle.declarations.specs.rules.Types.{bounds, type}
use Rattle.declarations.proofs.RuleLemmas.{starts}

pub type_starts : IsStart rules follows (type ∷ [])
type_starts = starts type refl refl

pub bounds_starts : IsStart rules follows (bounds ∷ [])
bounds_starts = starts bounds refl refl

pub attributes_starts : IsStart rules follows (attributes ∷ [])
attributes_starts = starts attributes refl refl

pub inner_attributes_starts : IsStart rules follows (inner_attributes ∷ [])
inner_attributes_starts = starts inner_attributes refl refl

pub visibility_starts : IsStart rules follows (visibility ∷ [])
visibility_starts = starts visibility refl refl

pub field_starts : IsStart rules follows (field ∷ [])
field_starts = starts field refl refl

pub fields_starts : IsStart rules follows (fields ∷ [])
fields_starts = starts fields refl refl

pub tuple_field_starts : IsStart rules follows (tuple_field ∷ [])
tuple_field_starts = starts tuple_field refl refl

pub tuple_fields_starts : IsStart rules follows (tuple_fields ∷ [])
tuple_fields_starts = starts tuple_fields refl refl

pub variant_starts : IsStart rules follows (variant ∷ [])
variant_starts = starts variant refl refl

pub variants_starts : IsStart rules follows (variants ∷ [])
variants_starts = starts variants refl refl

pub generics_starts : IsStart rules follows (generics ∷ [])
generics_starts = starts generics refl refl

pub where_clause_starts : IsStart rules follows (where_clause ∷ [])
where_clause_starts = starts where_clause refl refl

pub expression_starts : IsStart rules follows (expression ∷ [])
expression_starts = starts expression refl refl

pub type_item_starts : IsStart rules follows (type_item ∷ [])
type_item_starts = starts type_item refl refl

pub any_item_starts : IsStart rules follows (any_item ∷ [])
any_item_starts = starts any_item refl refl
