-- The parts of a variant.
use Rattle.std.proofs.Common.{◌≡◌, refl, ◌∙◌, ap, subst, ℕ, ◌-◌, true, false, ◌||◌, List, [], ◌∷◌}
use Rattle.std.proofs.Common.{◌++◌, inl, inr, Option, length}
use Rattle.grammars.specs.Deterministic.{IsStart}
use Rattle.grammars.specs.First.{heads, may_begin}
use Rattle.grammars.specs.Grammar.{Either, Mark, Nothing, Sign, Then}
use Rattle.pm_span.specs.Extent.{Extent}
use Rattle.pm_token.specs.Leaf.{Name}
use Rattle.pm_token.specs.declared.delimiters.Delimiter.TheVariants as delimiters
use Rattle.pm_stream.specs.declared.stream.Group.{Group as Grouped}
use Rattle.pm_stream.specs.declared.stream.TokenTree.{TokenTree}
use Rattle.pm_stream.specs.declared.stream.TokenTree.TheVariants.{Group, Ident}
use Rattle.declarations.specs.Expected.{Expects}
use Rattle.declarations.specs.Explore.{ExpectsWhole}
use Rattle.declarations.specs.Fault.{extent_at, first_extent}
use Rattle.declarations.specs.Field.{ReadsFront}
use Rattle.declarations.specs.Forms.{IsExpression, IsVariant}
use Rattle.declarations.specs.Function.{IsNameAt}
use Rattle.declarations.specs.Reader.{Finds, Sticks, classes_in}
use Rattle.declarations.specs.Reading.{FaultAt, Reads}
use Rattle.declarations.specs.Signs.{BeginsWith, group_class}
use Rattle.declarations.specs.Variant.{AreDelimited, HasDiscriminant, HasVariantRest, IsValue}
use Rattle.declarations.specs.Variant.{IsVariantAt, variant_rest, with_fields}
use Rattle.declarations.specs.Whole.{ReadsAll}
use Rattle.item_tables.specs.Classes.{is, is_round}
use Rattle.item_tables.specs.declared.class.SignClass.{SignClass}
use Rattle.item_tables.specs.declared.class.SignClass.TheVariants as signs
use Rattle.declarations.specs.declared.expected.Expected.{Expected}
use Rattle.declarations.specs.declared.item.Fields.{Fields}
use Rattle.declarations.specs.declared.item.Fields.TheVariants as fields
use Rattle.declarations.specs.declared.variant.Variant.{Variant}
use Rattle.declarations.specs.rules.Bodies.{braces}
use Rattle.declarations.specs.rules.Expressions.{expression}
use Rattle.declarations.specs.rules.Names.{Fields as FieldsPart, G, Named, Rest, Value, one, word}
use Rattle.declarations.specs.rules.Parts.{attributes, discriminant, variant, variant_fields}
use Rattle.declarations.specs.rules.Pieces.{ByRule}
use Rattle.declarations.specs.rules.Rules.{follows, rules}
use Rattle.declarations.proofs.FieldLemmas.{begins_as, front_fails, front_finds, front_of, front_sticks, front_whole}
use Rattle.declarations.proofs.FieldLemmas.{mark_first, reads_alone}
use Rattle.declarations.proofs.FunctionPartLemmas.{begins_group, name_finds, no_braces, no_round, round_class}
use Rattle.declarations.proofs.ReaderLemmas.{first_finds, first_sticks, heads_none, heads_sign, mark_finds, mark_sticks}
use Rattle.declarations.proofs.ReaderLemmas.{other_finds, perhaps_stays, remains_span, sign_finds, then_fails}
use Rattle.declarations.proofs.ReaderLemmas.{then_finds, then_sticks}
use Rattle.declarations.proofs.RuleFormLemmas.{found_reads}
use Rattle.declarations.proofs.TreeLemmas.{or_nothing}
use Rattle.declarations.proofs.StartLemmas as begin
use Rattle.declarations.proofs.RuleFaultLemmas.{rule_fault}
use Rattle.declarations.proofs.RuleExpectsLemmas.{stuck_expects}

-- ---- the fields

-- parentheses or braces
abbrev any_fields : G
any_fields = Either (Sign is_round) (one signs.Braces)

abbrev marked_fields : G
marked_fields = Then (Mark FieldsPart) any_fields

abbrev round_sign : G
round_sign = Sign is_round

fields_heads : (cs : List SignClass) → heads marked_fields cs ≡ (heads round_sign cs || heads braces cs)
fields_heads [] = refl
fields_heads (c ∷ cs) = refl

pub tuple_finds : (trees rest : List TokenTree) (g : Grouped) → trees ≡ Group g ∷ rest
    → g.delimiter ≡ delimiters.Parenthesis
    → Finds variant_fields trees rest
tuple_finds trees rest g whole round =
    let b = begins_group trees rest g whole in
    let h : is_round (group_class g.delimiter g.stream) ≡ true =
    ap (λ d. is_round (group_class d g.stream)) round ∙ round_class g.stream in
    first_finds marked_fields Nothing trees rest
    (heads_sign marked_fields trees rest (group_class g.delimiter g.stream) b
    ∙ ap (λ x. x || is signs.Braces (group_class g.delimiter g.stream)) h)
    (mark_finds FieldsPart any_fields trees rest
    (first_finds (Sign is_round) (one signs.Braces) trees rest
    (heads_sign (Sign is_round) trees rest (group_class g.delimiter g.stream) b ∙ h)
    (sign_finds is_round trees rest (group_class g.delimiter g.stream) b h)))

pub named_finds : (trees rest : List TokenTree) (g : Grouped) → trees ≡ Group g ∷ rest
    → g.delimiter ≡ delimiters.Brace
    → Finds variant_fields trees rest
named_finds trees rest g whole brace =
    let class : group_class g.delimiter g.stream ≡ signs.Braces = ap (λ d. group_class d g.stream) brace in
    let b : BeginsWith trees signs.Braces rest =
    subst (λ c. BeginsWith trees c rest) class (begins_group trees rest g whole) in
    first_finds marked_fields Nothing trees rest (heads_sign marked_fields trees rest signs.Braces b)
    (mark_finds FieldsPart any_fields trees rest
    (other_finds (Sign is_round) (one signs.Braces) trees rest
    (heads_sign (Sign is_round) trees rest signs.Braces b) refl
    (sign_finds (is signs.Braces) trees rest signs.Braces b refl)))

pub no_fields : (trees : List TokenTree)
    → ((g : Grouped) (rest : List TokenTree) → trees ≡ Group g ∷ rest → g.delimiter ≡ delimiters.Parenthesis → ⊥)
    → ((g : Grouped) (rest : List TokenTree) → trees ≡ Group g ∷ rest → g.delimiter ≡ delimiters.Brace → ⊥)
    → Finds variant_fields trees trees
no_fields trees none other =
    perhaps_stays marked_fields trees
    (fields_heads (classes_in trees) ∙ rw (no_round trees none, no_braces trees other) refl)

pub ruleset fields_read = (tuple_finds, named_finds, no_fields)

-- ---- the discriminant

starts_expression : IsStart rules follows (expression ∷ [])
starts_expression = begin.expression_starts

-- `=` and an expression
abbrev equals : G
equals = Then (Mark Rest) (Then (one signs.Equals) (Then (Mark Value) expression))

equals_first : (c : SignClass) → may_begin equals c ≡ is signs.Equals c
equals_first c = or_nothing (is signs.Equals c) (may_begin (Then (Mark Value) expression) c)

module _ (trees from_value : List TokenTree) (class : SignClass) (b : BeginsWith trees class from_value)
    (h : is signs.Equals class ≡ true) where
  equals_heads : heads equals (classes_in trees) ≡ true
  equals_heads = heads_sign equals trees from_value class b ∙ (equals_first class ∙ h)

  pub value_finds : (rest : List TokenTree) → Finds expression from_value rest → Finds discriminant trees rest
  value_finds rest f =
      first_finds equals Nothing trees rest equals_heads
      (mark_finds Rest _ trees rest
      (then_finds (one signs.Equals) _ trees from_value rest (sign_finds (is signs.Equals) trees from_value class b h)
      (mark_finds Value expression from_value rest f)))

  pub value_fails : (left : List TokenTree) → Sticks expression from_value left → Sticks discriminant trees left
  value_fails left s =
      first_sticks equals Nothing trees left equals_heads
      (mark_sticks Rest _ trees left
      (then_fails (one signs.Equals) _ trees from_value left (sign_finds (is signs.Equals) trees from_value class b h)
      (mark_sticks Value expression from_value left s)))

  pub value_has : (value rest : List TokenTree) → Finds expression from_value rest → from_value ≡ value ++ rest
      → HasDiscriminant trees value rest
  value_has value rest f whole =
      inl (record {
        from_value = from_value;
        equals = begins_as trees from_value signs.Equals class b h;
        value_read = found_reads expression starts_expression from_value value rest f whole;
      })

pub no_equals : (trees rest : List TokenTree) (class : SignClass) → BeginsWith trees class rest
    → is signs.Equals class ≡ false
    → Finds discriminant trees trees
no_equals trees rest class b h =
    perhaps_stays equals trees (heads_sign equals trees rest class b ∙ (equals_first class ∙ h))

pub no_equals_left : (trees : List TokenTree) → trees ≡ [] → Finds discriminant trees trees
no_equals_left trees e = perhaps_stays equals trees (heads_none equals trees e)

pub no_value : (trees value : List TokenTree) → value ≡ [] → HasDiscriminant trees value trees
no_value trees value e = inr (e, refl)

pub ruleset discriminants = (value_finds, value_fails, value_has, no_equals, no_equals_left, no_value)

-- ---- from the name on

abbrev from_fields : G
from_fields = Then variant_fields discriminant

pub rest_finds : (trees mid next rest : List TokenTree) (n : Name) → IsNameAt trees n mid
    → Finds variant_fields mid next → Finds discriminant next rest
    → Finds variant_rest trees rest
rest_finds trees mid next rest n at f g =
    mark_finds Named (Then word from_fields) trees rest
    (then_finds word from_fields trees mid rest (name_finds trees mid n at)
    (then_finds variant_fields discriminant mid next rest f g))

pub rest_has : (trees mid next value rest : List TokenTree) (n : Name) (found : Fields) → IsNameAt trees n mid
    → mid ≡ with_fields found next → AreDelimited found → HasDiscriminant next value rest
    → HasVariantRest trees n found value rest
rest_has trees mid next value rest n found at whole delimited has = record {
  from_fields = mid;
  from_value = next;
  named = at;
  fields = whole;
  delimited = delimited;
  value = has;
}

pub rest_fails : (trees mid next left : List TokenTree) (n : Name) → IsNameAt trees n mid
    → Finds variant_fields mid next → Sticks discriminant next left
    → Sticks variant_rest trees left
rest_fails trees mid next left n at f s =
    mark_sticks Named (Then word from_fields) trees left
    (then_fails word from_fields trees mid left (name_finds trees mid n at)
    (then_fails variant_fields discriminant mid next left f s))

pub rest_sticks : (trees left : List TokenTree) → Sticks word trees left → Sticks variant_rest trees left
rest_sticks trees left s =
    mark_sticks Named (Then word from_fields) trees left (then_sticks word from_fields trees left s)

pub ruleset named = (rest_finds, rest_has, rest_fails, rest_sticks)

-- ---- the whole variant

pub starts_variant : IsStart rules follows (variant ∷ [])
starts_variant = begin.variant_starts

-- the trees of the discriminant, with its `=`
record ValueTrees (trees value rest : List TokenTree) : Type 0 where
  all : List TokenTree
  whole : trees ≡ all ++ rest
  is_value : IsValue all value

value_alone : (trees value rest : List TokenTree) → Reads (ByRule expression) trees value rest
    → ReadsAll IsExpression value
value_alone = reads_alone expression

value_trees : (trees value rest : List TokenTree) → HasDiscriminant trees value rest → ValueTrees trees value rest
value_trees trees value rest (inl has) =
    let mark = mark_first trees has.from_value signs.Equals has.equals refl in
    record {
      all = mark.0 ∷ value;
      whole = mark.1 ∙ ap (λ r. mark.0 ∷ r) has.value_read.whole;
      is_value = (refl, mark.2, value_alone has.from_value value rest has.value_read);
    }
value_trees trees value rest (inr none) = record { all = []; whole = none.1; is_value = none.0 }

fields_before : (found : Fields) (all rest : List TokenTree)
    → with_fields found (all ++ rest) ≡ with_fields found all ++ rest
fields_before (fields.Named g) all rest = refl
fields_before (fields.Tuple g) all rest = refl
fields_before fields.Unit all rest = refl

pub variant_finds : (trees a v mid rest : List TokenTree) → ReadsFront trees a v mid → Finds variant_rest mid rest
    → Finds variant trees rest
variant_finds = front_finds variant_rest

pub variant_fails : (trees a v mid left : List TokenTree) → ReadsFront trees a v mid → Sticks variant_rest mid left
    → Sticks variant trees left
variant_fails = front_fails variant_rest

pub variant_sticks : (trees left : List TokenTree) → Sticks attributes trees left → Sticks variant trees left
variant_sticks = front_sticks variant_rest

pub variant_at : (trees mid rest : List TokenTree) (found : Variant)
    → ReadsFront trees found.attributes.now found.visibility.now mid → Finds variant_rest mid rest
    → HasVariantRest mid found.name.now found.fields found.discriminant.now rest
    → IsVariantAt trees found rest
variant_at trees mid rest found f h has =
    let a = found.attributes.now in
    let v = found.visibility.now in
    let n = found.name.now in
    let value = value_trees has.from_value found.discriminant.now rest has.value in
    let other : List TokenTree = Ident n ∷ with_fields found.fields value.all in
    let whole : mid ≡ other ++ rest =
    has.named.whole
    ∙ ap (λ r. Ident n ∷ r) (has.fields
    ∙ (ap (with_fields found.fields) value.whole ∙ fields_before found.fields value.all rest)) in
    record {
      part = a ++ (v ++ other);
      reads = found_reads variant starts_variant trees (a ++ (v ++ other)) rest
          (variant_finds trees a v mid rest f h) (front_whole trees a v mid rest f other whole);
      parts = record {
        value = value.all;
        front = front_of trees a v mid rest f other h.remains whole;
        is_name = has.named.is_name;
        delimited = has.delimited;
        is_value = value.is_value;
      };
    }

pub ruleset variants_of = (variant_finds, variant_fails, variant_sticks, variant_at)

-- ---- errors

pub variant_fault : (trees left : List TokenTree) (at : ℕ) → Sticks variant trees left
    → at ≡ length trees - length left
    → FaultAt IsVariant trees at
variant_fault = rule_fault variant starts_variant

pub variant_span : (trees left : List TokenTree) (at : ℕ) (span : Option Extent) → Sticks variant trees left
    → at ≡ length trees - length left → span ≡ first_extent left
    → span ≡ extent_at trees at
variant_span trees left at span s counted first = remains_span trees left at span s.remains counted first

pub variant_expects : (trees left : List TokenTree) (at : ℕ) (set : Expected) → Sticks variant trees left
    → at ≡ length trees - length left → ExpectsWhole variant trees set
    → Expects IsVariant trees at set
variant_expects = stuck_expects variant starts_variant
