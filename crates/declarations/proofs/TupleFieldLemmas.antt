-- Fields without a name: what their rule reads is a visibility and a type.
use Rattle.std.proofs.Common.{◌≡◌, refl, sym, ◌∙◌, ap, subst, ℕ, ◌-◌, Bool, true, false, ◌&&◌, ◌||◌, List, []}
use Rattle.std.proofs.Common.{◌∷◌, ◌++◌, Option, None, length}
use Rattle.grammars.specs.Deterministic.{IsStart}
use Rattle.grammars.specs.Find.{find}
use Rattle.grammars.specs.First.{heads, may_begin}
use Rattle.grammars.specs.Grammar.{Either, Mark, Nothing, Sign, Then}
use Rattle.grammars.specs.Machine.{step}
use Rattle.grammars.proofs.FindLemmas.{scan_step}
use Rattle.pm_span.specs.Extent.{Extent}
use Rattle.pm_stream.specs.declared.stream.TokenTree.{TokenTree}
use Rattle.declarations.specs.Expected.{Expects}
use Rattle.declarations.specs.Explore.{ExpectsWhole}
use Rattle.declarations.specs.Fault.{extent_at, first_extent}
use Rattle.declarations.specs.Field.{HasTypeParts, IsFieldAt, ReadsFront}
use Rattle.declarations.specs.Forms.{IsTupleField}
use Rattle.declarations.specs.Found.{bare, finds}
use Rattle.declarations.specs.Reader.{Finds, Sticks, classes_in}
use Rattle.declarations.specs.Reading.{FaultAt}
use Rattle.item_tables.specs.Classes.{is}
use Rattle.item_tables.specs.declared.class.SignClass.{SignClass}
use Rattle.item_tables.specs.declared.class.SignClass.TheVariants as signs
use Rattle.item_tables.specs.declared.class.Keyword.TheVariants as keywords
use Rattle.declarations.specs.declared.expected.Expected.{Expected}
use Rattle.declarations.specs.declared.field.Field.{Field}
use Rattle.declarations.specs.rules.Names.{G, OfType, Outside, Visible, key, one}
use Rattle.declarations.specs.rules.Parts.{attributes, public_type, restriction, tuple_field, tuple_field_rest}
use Rattle.declarations.specs.rules.Parts.{visibility, visible}
use Rattle.declarations.specs.rules.Rules.{follows, rules}
use Rattle.declarations.specs.rules.Types.{named_operand, operand_but, type}
use Rattle.declarations.proofs.ClassLemmas.{same_class}
use Rattle.declarations.proofs.FieldLemmas.{front_of, front_whole, starts_type, type_alone}
use Rattle.declarations.proofs.FoundLemmas.{bind, finds_first, finds_lacks, finds_marked, finds_other, finds_sign}
use Rattle.declarations.proofs.FoundLemmas.{finds_skips, finds_then, past_found, stuck_found}
use Rattle.declarations.proofs.ReaderLemmas.{remains_span, then_fails, then_finds, then_sticks}
use Rattle.declarations.proofs.RuleFormLemmas.{found_reads}
use Rattle.declarations.proofs.TreeLemmas.{or_nothing}
use Rattle.declarations.proofs.StartLemmas as begin
use Rattle.declarations.proofs.RuleFaultLemmas.{rule_fault}
use Rattle.declarations.proofs.RuleExpectsLemmas.{stuck_expects}

-- ---- the rule as a visibility and a type

-- a sign, and what comes after it
one_then : (passes : SignClass → Bool) (g : G) (c : SignClass) (cs : List SignClass) → passes c ≡ true
    → finds (Then (Sign passes) g) (c ∷ cs) ≡ finds g cs
one_then passes g c cs h =
    finds_then (Sign passes) g (c ∷ cs) ∙ ap (λ x. bind x (finds g)) (finds_sign passes c cs h)

-- a type whose first sign is no restriction
abbrev other_type : G
other_type = Either (named_operand Outside) (operand_but (is signs.Restriction) true Outside)

other_step : (c : SignClass) → is signs.Restriction c ≡ false
    → step rules (other_type ∷ []) c ≡ step rules (type ∷ []) c
other_step c h = rw h refl

other_finds : (c : SignClass) (cs : List SignClass) → is signs.Restriction c ≡ false
    → finds other_type (c ∷ cs) ≡ finds type (c ∷ cs)
unfolding find
other_finds c cs h =
    ap bare (scan_step rules (other_type ∷ []) c cs (step rules (type ∷ []) c) (other_step c h)
    ∙ sym (scan_step rules (type ∷ []) c cs (step rules (type ∷ []) c) refl))

-- a type after its label
abbrev of_type : G
of_type = Then (Mark OfType) type

abbrev restricted : G
restricted = Then (one signs.Restriction) of_type

-- after `pub`
public_finds : (cs : List SignClass) → finds public_type cs ≡ bind (finds restriction cs) (finds type)
public_finds [] =
    finds_lacks public_type [] refl refl
    ∙ sym (ap (λ x. bind x (finds type)) (finds_skips restriction [] refl refl) ∙ finds_lacks type [] refl refl)
public_finds (c ∷ cs) = go (is signs.Restriction c) refl
  where
    go : (b : Bool) → is signs.Restriction c ≡ b
        → finds public_type (c ∷ cs) ≡ bind (finds restriction (c ∷ cs)) (finds type)
    go true h =
        subst (λ d. finds public_type (d ∷ cs) ≡ bind (finds restriction (d ∷ cs)) (finds type))
        (sym (same_class signs.Restriction c h))
        (finds_first restricted (Then (Mark OfType) other_type) (signs.Restriction ∷ cs) refl
        ∙ (one_then (is signs.Restriction) of_type signs.Restriction cs refl
        ∙ (finds_marked OfType type cs
        ∙ sym (ap (λ x. bind x (finds type))
        (finds_first (one signs.Restriction) Nothing (signs.Restriction ∷ cs) refl
        ∙ finds_sign (is signs.Restriction) signs.Restriction cs refl)))))
    go false h =
        finds_other restricted (Then (Mark OfType) other_type) (c ∷ cs)
        (or_nothing (is signs.Restriction c) (may_begin of_type c) ∙ h) refl
        ∙ (finds_marked OfType other_type (c ∷ cs)
        ∙ (other_finds c cs h
        ∙ sym (ap (λ x. bind x (finds type)) (finds_skips restriction (c ∷ cs) (ap (λ b. b || false) h) refl))))

abbrev public : SignClass
public = signs.Keyword keywords.Pub

-- the choices of the rule
abbrev with_pub : G
with_pub = Then (Mark Visible) (Then (key keywords.Pub) public_type)

abbrev with_group : G
with_group = Then (Mark Visible) (Then (one signs.Visibility) of_type)

abbrev marked_visible : G
marked_visible = Then (Mark Visible) visible

abbrev pub_visible : G
pub_visible = Then (key keywords.Pub) restriction

-- a visibility and a type
abbrev front_type : G
front_type = Then visibility type

with_pub_finds : (cs : List SignClass) → finds tuple_field_rest (public ∷ cs) ≡ finds front_type (public ∷ cs)
with_pub_finds cs =
    finds_first with_pub (Either with_group of_type) (public ∷ cs) refl
    ∙ (finds_marked Visible (Then (key keywords.Pub) public_type) (public ∷ cs)
    ∙ (one_then (is public) public_type public cs refl
    ∙ (public_finds cs
    ∙ sym (finds_then visibility type (public ∷ cs)
    ∙ ap (λ x. bind x (finds type))
    (finds_first marked_visible Nothing (public ∷ cs) refl
    ∙ (finds_marked Visible visible (public ∷ cs)
    ∙ (finds_first pub_visible (one signs.Visibility) (public ∷ cs) refl
    ∙ one_then (is public) restriction public cs refl)))))))

with_group_finds : (cs : List SignClass)
    → finds tuple_field_rest (signs.Visibility ∷ cs) ≡ finds front_type (signs.Visibility ∷ cs)
with_group_finds cs =
    finds_other with_pub (Either with_group of_type) (signs.Visibility ∷ cs) refl refl
    ∙ (finds_first with_group of_type (signs.Visibility ∷ cs) refl
    ∙ (finds_marked Visible (Then (one signs.Visibility) of_type) (signs.Visibility ∷ cs)
    ∙ (one_then (is signs.Visibility) of_type signs.Visibility cs refl
    ∙ (finds_marked OfType type cs
    ∙ sym (finds_then visibility type (signs.Visibility ∷ cs)
    ∙ ap (λ x. bind x (finds type))
    (finds_first marked_visible Nothing (signs.Visibility ∷ cs) refl
    ∙ (finds_marked Visible visible (signs.Visibility ∷ cs)
    ∙ (finds_other pub_visible (one signs.Visibility) (signs.Visibility ∷ cs) refl refl
    ∙ finds_sign (is signs.Visibility) signs.Visibility cs refl))))))))

plain_finds : (c : SignClass) (cs : List SignClass) → is public c ≡ false → is signs.Visibility c ≡ false
    → finds tuple_field_rest (c ∷ cs) ≡ finds front_type (c ∷ cs)
plain_finds c cs h j =
    finds_other with_pub (Either with_group of_type) (c ∷ cs)
    (or_nothing (is public c) (may_begin public_type c) ∙ h) refl
    ∙ (finds_other with_group of_type (c ∷ cs)
    (or_nothing (is signs.Visibility c) (may_begin of_type c) ∙ j) refl
    ∙ (finds_marked OfType type (c ∷ cs)
    ∙ sym (finds_then visibility type (c ∷ cs)
    ∙ ap (λ x. bind x (finds type)) (finds_skips visibility (c ∷ cs) not_visible refl))))
  where
    go : (x y z : Bool) → x ≡ false → z ≡ false → (((x || false && y) || z) || false) ≡ false
    go x y z e f = rw (e, f) refl

    not_visible : heads visibility (c ∷ cs) ≡ false
    not_visible = go (is public c) (may_begin restriction c) (is signs.Visibility c) h j

pub rest_same : (cs : List SignClass) → finds tuple_field_rest cs ≡ finds front_type cs
rest_same [] = finds_lacks tuple_field_rest [] refl refl ∙ sym (finds_lacks front_type [] refl refl)
rest_same (c ∷ cs) = go (is public c) refl (is signs.Visibility c) refl
  where
    go : (x : Bool) → is public c ≡ x → (y : Bool) → is signs.Visibility c ≡ y
        → finds tuple_field_rest (c ∷ cs) ≡ finds front_type (c ∷ cs)
    go true h y j =
        subst (λ d. finds tuple_field_rest (d ∷ cs) ≡ finds front_type (d ∷ cs)) (sym (same_class public c h))
        (with_pub_finds cs)
    go false h true j =
        subst (λ d. finds tuple_field_rest (d ∷ cs) ≡ finds front_type (d ∷ cs))
        (sym (same_class signs.Visibility c j)) (with_group_finds cs)
    go false h false j = plain_finds c cs h j

-- ---- in trees

rest_finds : (trees mid rest : List TokenTree) → Finds visibility trees mid → Finds type mid rest
    → Finds tuple_field_rest trees rest
rest_finds trees mid rest f g =
    let both = then_finds visibility type trees mid rest f g in
    let p = past_found tuple_field_rest (classes_in trees) (classes_in rest)
    (rest_same (classes_in trees) ∙ ap bare both.found) in
    record { events = p.0; found = p.1; remains = both.remains }

rest_fails : (trees mid left : List TokenTree) → Finds visibility trees mid → Sticks type mid left
    → Sticks tuple_field_rest trees left
rest_fails trees mid left f s =
    let both = then_fails visibility type trees mid left f s in
    record {
      stuck = stuck_found tuple_field_rest (classes_in trees) (classes_in left)
          (rest_same (classes_in trees) ∙ ap bare both.stuck);
      remains = both.remains;
    }

pub starts_tuple_field : IsStart rules follows (tuple_field ∷ [])
starts_tuple_field = begin.tuple_field_starts

pub tuple_finds : (trees a v mid rest : List TokenTree) → ReadsFront trees a v mid → Finds type mid rest
    → Finds tuple_field trees rest
tuple_finds trees a v mid rest f g =
    then_finds attributes tuple_field_rest trees f.from_visibility rest f.attributes_found
    (rest_finds f.from_visibility mid rest f.visibility_found g)

pub tuple_fails : (trees a v mid left : List TokenTree) → ReadsFront trees a v mid → Sticks type mid left
    → Sticks tuple_field trees left
tuple_fails trees a v mid left f s =
    then_fails attributes tuple_field_rest trees f.from_visibility left f.attributes_found
    (rest_fails f.from_visibility mid left f.visibility_found s)

pub tuple_sticks : (trees left : List TokenTree) → Sticks attributes trees left → Sticks tuple_field trees left
tuple_sticks trees left s = then_sticks attributes tuple_field_rest trees left s

pub tuple_at : (trees mid rest : List TokenTree) (found : Field)
    → ReadsFront trees found.attributes.now found.visibility.now mid → Finds type mid rest
    → mid ≡ found.field_type.now ++ rest → found.name ≡ None
    → IsFieldAt IsTupleField HasTypeParts trees found rest
tuple_at trees mid rest found f g whole none =
    let a = found.attributes.now in
    let v = found.visibility.now in
    let ty = found.field_type.now in
    record {
      part = a ++ (v ++ ty);
      reads = found_reads tuple_field starts_tuple_field trees (a ++ (v ++ ty)) rest
          (tuple_finds trees a v mid rest f g) (front_whole trees a v mid rest f ty whole);
      parts = record {
        front = front_of trees a v mid rest f ty g.remains whole;
        none = none;
        type_read = type_alone mid ty rest (found_reads type starts_type mid ty rest g whole);
      };
    }

pub ruleset tuple_fields_of = (tuple_finds, tuple_fails, tuple_sticks, tuple_at)

-- ---- errors

pub tuple_fault : (trees left : List TokenTree) (at : ℕ) → Sticks tuple_field trees left
    → at ≡ length trees - length left
    → FaultAt IsTupleField trees at
tuple_fault = rule_fault tuple_field starts_tuple_field

pub tuple_span : (trees left : List TokenTree) (at : ℕ) (span : Option Extent) → Sticks tuple_field trees left
    → at ≡ length trees - length left → span ≡ first_extent left
    → span ≡ extent_at trees at
tuple_span trees left at span s counted first = remains_span trees left at span s.remains counted first

pub tuple_expects : (trees left : List TokenTree) (at : ℕ) (set : Expected) → Sticks tuple_field trees left
    → at ≡ length trees - length left → ExpectsWhole tuple_field trees set
    → Expects IsTupleField trees at set
tuple_expects = stuck_expects tuple_field starts_tuple_field

pub ruleset tuple_faults = (tuple_fault, tuple_span, tuple_expects)
