-- The generic arguments of paths.
use Rattle.std.proofs.Common.{◌≡◌, refl, sym, ◌∙◌, ap, subst, ℕ, ◌-◌, ◌<◌, Bool, true, false, ◌&&◌, ◌||◌, List, []}
use Rattle.std.proofs.Common.{◌∷◌, ◌++◌, Option, length, arith}
use Rattle.std.proofs.lemmas.Bool.{both_ways}
use Rattle.std.specs.Prelude.{MatchResult, Result, Ok, Err}
use Rattle.std.specs.Borrow.{Bor}
use Rattle.grammars.specs.Deterministic.{IsStart}
use Rattle.grammars.specs.Find.{find}
use Rattle.grammars.specs.First.{heads, may_begin}
use Rattle.grammars.specs.Grammar.{Either, Mark, Nothing, Then}
use Rattle.grammars.specs.Machine.{step}
use Rattle.grammars.proofs.FindLemmas.{scan_step}
use Rattle.grammars.proofs.WordLemmas.{find_lacks}
use Rattle.pm_span.specs.Extent.{Extent}
use Rattle.pm_stream.specs.declared.stream.TokenTree.{TokenTree}
use Rattle.declarations.specs.Entry.{IsOnlyRest}
use Rattle.declarations.specs.Fault.{extent_at, first_extent}
use Rattle.declarations.specs.Range.{in_range}
use Rattle.declarations.specs.GenericArgument.{HasAfter, HasArgument, HasConstraint, IsArgumentAt, ReadsArgument}
use Rattle.declarations.specs.Reader.{Finds, ReadsRule, Sticks, classes_in}
use Rattle.declarations.specs.Reading.{FaultAt, Reads}
use Rattle.declarations.specs.Tables.{StopsAt}
use Rattle.declarations.specs.Signs.{BeginsWith, trees_of}
use Rattle.item_tables.specs.declared.class.SignClass.{SignClass}
use Rattle.item_tables.specs.declared.class.SignClass.TheVariants as signs
use Rattle.declarations.specs.declared.generic_argument.ArgumentKind.{ArgumentKind}
use Rattle.declarations.specs.declared.generic_argument.ArgumentKind.TheVariants as kinds
use Rattle.declarations.specs.declared.generic_argument.GenericArgument.{GenericArgument}
use Rattle.item_tables.specs.declared.types.TypeState.TheVariants as types
use Rattle.item_tables.specs.Classes.{is, is_word}
use Rattle.declarations.specs.rules.Names.{Bounds, G, Named, OfType, Outside, Rest, Value, one}
use Rattle.declarations.specs.rules.Paths as rule
use Rattle.declarations.specs.rules.Pieces.{ByRule}
use Rattle.declarations.specs.rules.Rules.{follows, rules}
use Rattle.declarations.specs.rules.Types.{bounds, other_operand, type}
use Rattle.declarations.proofs.ClassLemmas.{same_class}
use Rattle.declarations.proofs.ReaderLemmas.{classes_sign, first_finds, first_sticks, heads_none, heads_sign}
use Rattle.declarations.proofs.ReaderLemmas.{mark_finds, mark_sticks, other_finds, other_sticks, perhaps_stays}
use Rattle.declarations.proofs.ReaderLemmas.{remains_span, remains_within, sign_finds, then_fails, then_finds}
use Rattle.declarations.proofs.ReaderLemmas.{then_sticks}
use Rattle.declarations.proofs.RuleFormLemmas.{found_reads, only_reading, rule_fewer, stuck_fault}
use Rattle.declarations.proofs.RuleLemmas.{starts}
use Rattle.declarations.proofs.TableReaderLemmas.{table_reads}
use Rattle.declarations.proofs.StartLemmas as begin

-- ---- where a reading begins

pub starts_argument : IsStart rules follows (rule.generic_argument ∷ [])
starts_argument = starts rule.generic_argument refl refl

starts_lifetime : IsStart rules follows (one signs.Lifetime ∷ [])
starts_lifetime = starts (one signs.Lifetime) refl refl

starts_constant : IsStart rules follows (rule.constant ∷ [])
starts_constant = starts rule.constant refl refl

starts_binding_value : IsStart rules follows (rule.binding_value ∷ [])
starts_binding_value = starts rule.binding_value refl refl

starts_type : IsStart rules follows (type ∷ [])
starts_type = begin.type_starts

starts_bounds : IsStart rules follows (bounds ∷ [])
starts_bounds = begin.bounds_starts

pub bounds_read : (trees : List TokenTree) (result : Result (Bor (List TokenTree)) (Bor (List TokenTree)))
    → MatchResult result
    (λ rest. StopsAt (in_range types.Bound 0) true trees rest.now)
    (λ left. StopsAt (in_range types.Bound 0) false trees left.now)
    → ReadsRule bounds trees result
bounds_read = table_reads (in_range types.Bound 0) bounds refl

-- ---- rules that find the same

same_finds : (g h : G) (trees rest : List TokenTree) → find rules g (classes_in trees) ≡ find rules h (classes_in trees)
    → Finds h trees rest
    → Finds g trees rest
same_finds g h trees rest e f = record { events = f.events; found = e ∙ f.found; remains = f.remains }

same_sticks : (g h : G) (trees left : List TokenTree)
    → find rules g (classes_in trees) ≡ find rules h (classes_in trees) → Sticks h trees left
    → Sticks g trees left
same_sticks g h trees left e f = record { stuck = e ∙ f.stuck; remains = f.remains }

-- a sign that passes the test of a class has this class
begins_as : (trees rest : List TokenTree) (x class : SignClass) → BeginsWith trees class rest → is x class ≡ true
    → BeginsWith trees x rest
begins_as trees rest x class b h = subst (λ c. BeginsWith trees c rest) (same_class x class h) b

or_nothing : (x y : Bool) → (x || false && y) ≡ x
or_nothing true y = refl
or_nothing false y = refl

-- ---- what follows a type that begins with a word

-- `=` and a constant or a type, or `:` and bounds
abbrev equals_or_colon : G
equals_or_colon = Either rule.assignment rule.colon_bounds

module _ (trees from_end : List TokenTree) (class : SignClass) (b : BeginsWith trees class from_end) where
  module _ (h : is signs.Equals class ≡ true) where
    at_equals : BeginsWith trees signs.Equals from_end
    at_equals = begins_as trees from_end signs.Equals class b h

    equals_heads : (g : G) → may_begin g signs.Equals ≡ true → heads g (classes_in trees) ≡ true
    equals_heads g e = heads_sign g trees from_end signs.Equals at_equals ∙ e

    pub binding_finds : (rest : List TokenTree) → Finds rule.binding_value from_end rest
        → Finds rule.constraint trees rest
    binding_finds rest f =
        first_finds equals_or_colon Nothing trees rest (equals_heads equals_or_colon refl)
        (first_finds rule.assignment rule.colon_bounds trees rest (equals_heads rule.assignment refl)
        (mark_finds Rest _ trees rest
        (then_finds (one signs.Equals) _ trees from_end rest
        (sign_finds (is signs.Equals) trees from_end signs.Equals at_equals refl)
        (mark_finds Value rule.binding_value from_end rest f))))

    pub binding_sticks : (left : List TokenTree) → Sticks rule.binding_value from_end left
        → Sticks rule.constraint trees left
    binding_sticks left f =
        first_sticks equals_or_colon Nothing trees left (equals_heads equals_or_colon refl)
        (first_sticks rule.assignment rule.colon_bounds trees left (equals_heads rule.assignment refl)
        (mark_sticks Rest _ trees left
        (then_fails (one signs.Equals) _ trees from_end left
        (sign_finds (is signs.Equals) trees from_end signs.Equals at_equals refl)
        (mark_sticks Value rule.binding_value from_end left f))))

    pub binding_has : (bound rest : List TokenTree) → Finds rule.binding_value from_end rest → from_end ≡ bound ++ rest
        → HasAfter signs.Equals rule.binding_value trees bound rest
    binding_has bound rest f whole = record {
      from_end = from_end;
      marked = at_equals;
      end_read = found_reads rule.binding_value starts_binding_value from_end bound rest f whole;
    }

  module _ (h : is signs.Colon class ≡ true) where
    at_colon : BeginsWith trees signs.Colon from_end
    at_colon = begins_as trees from_end signs.Colon class b h

    colon_heads : (g : G) (v : Bool) → may_begin g signs.Colon ≡ v → heads g (classes_in trees) ≡ v
    colon_heads g v e = heads_sign g trees from_end signs.Colon at_colon ∙ e

    pub bounds_find : (rest : List TokenTree) → Finds bounds from_end rest → Finds rule.constraint trees rest
    bounds_find rest f =
        first_finds equals_or_colon Nothing trees rest (colon_heads equals_or_colon true refl)
        (other_finds rule.assignment rule.colon_bounds trees rest (colon_heads rule.assignment false refl) refl
        (mark_finds Rest _ trees rest
        (then_finds (one signs.Colon) _ trees from_end rest
        (sign_finds (is signs.Colon) trees from_end signs.Colon at_colon refl)
        (mark_finds Bounds bounds from_end rest f))))

    pub bounds_stick : (left : List TokenTree) → Sticks bounds from_end left → Sticks rule.constraint trees left
    bounds_stick left f =
        first_sticks equals_or_colon Nothing trees left (colon_heads equals_or_colon true refl)
        (other_sticks rule.assignment rule.colon_bounds trees left (colon_heads rule.assignment false refl) refl
        (mark_sticks Rest _ trees left
        (then_fails (one signs.Colon) _ trees from_end left
        (sign_finds (is signs.Colon) trees from_end signs.Colon at_colon refl)
        (mark_sticks Bounds bounds from_end left f))))

    pub bounds_has : (given rest : List TokenTree) → Finds bounds from_end rest → from_end ≡ given ++ rest
        → HasAfter signs.Colon bounds trees given rest
    bounds_has given rest f whole = record {
      from_end = from_end;
      marked = at_colon;
      end_read = found_reads bounds starts_bounds from_end given rest f whole;
    }

  pub unmarked : is signs.Equals class ≡ false → is signs.Colon class ≡ false → Finds rule.constraint trees trees
  unmarked h j =
      perhaps_stays equals_or_colon trees
      (heads_sign equals_or_colon trees from_end class b ∙ go (is signs.Equals class) (is signs.Colon class) h j)
    where
      go : (x y : Bool) → x ≡ false → y ≡ false → ((x || false) || (y || false)) ≡ false
      go x y e f = rw (e, f) refl

pub unmarked_end : (trees : List TokenTree) → trees ≡ [] → Finds rule.constraint trees trees
unmarked_end trees e = perhaps_stays equals_or_colon trees (heads_none equals_or_colon trees e)

pub ruleset constraints = (
  binding_finds,
  binding_sticks,
  binding_has,
  bounds_find,
  bounds_stick,
  bounds_has,
  unmarked,
  unmarked_end,
)

-- ---- arguments that begin with a word

-- a type that begins with a word begins as the rule of such types does
word_step : (c : SignClass) → is_word c ≡ true → step rules (rule.word_type ∷ []) c ≡ step rules (type ∷ []) c
word_step c h = rw h refl

word_find : (cs : List SignClass) → heads rule.word_type cs ≡ true → find rules rule.word_type cs ≡ find rules type cs
unfolding find
word_find [] h = absurd (both_ways _ refl h)
word_find (c ∷ cs) h =
    scan_step rules (rule.word_type ∷ []) c cs (step rules (type ∷ []) c) (word_step c h)
    ∙ sym (scan_step rules (type ∷ []) c cs (step rules (type ∷ []) c) refl)

module _ (trees : List TokenTree) (h : heads rule.word_type (classes_in trees) ≡ true) where
  pub word_finds : (mid rest : List TokenTree) → Finds type trees mid → Finds rule.constraint mid rest
      → Finds rule.word_argument trees rest
  word_finds mid rest f k =
      then_finds rule.word_type rule.constraint trees mid rest
      (same_finds rule.word_type type trees mid (word_find (classes_in trees) h) f) k

  pub word_fails : (mid left : List TokenTree) → Finds type trees mid → Sticks rule.constraint mid left
      → Sticks rule.word_argument trees left
  word_fails mid left f k =
      then_fails rule.word_type rule.constraint trees mid left
      (same_finds rule.word_type type trees mid (word_find (classes_in trees) h) f) k

  pub word_sticks : (left : List TokenTree) → Sticks type trees left → Sticks rule.word_argument trees left
  word_sticks left f =
      then_sticks rule.word_type rule.constraint trees left
      (same_sticks rule.word_type type trees left (word_find (classes_in trees) h) f)

pub word_has : (trees part mid rest : List TokenTree) (kind : ArgumentKind) → Finds type trees mid
    → trees ≡ part ++ mid → HasConstraint kind mid rest
    → HasArgument kind trees part rest
word_has trees part mid rest kinds.Type f whole e =
    subst (λ r. Reads (ByRule type) trees part r) e (found_reads type starts_type trees part mid f whole)
word_has trees part mid rest (kinds.Binding bound) f whole h =
    record { from_mark = mid; part_read = found_reads type starts_type trees part mid f whole; after = h }
word_has trees part mid rest (kinds.Constraint given) f whole h =
    record { from_mark = mid; part_read = found_reads type starts_type trees part mid f whole; after = h }
word_has trees part mid rest kinds.Lifetime f whole h = absurd h
word_has trees part mid rest kinds.Const f whole h = absurd h

-- ---- other arguments

pub type_part : (trees part rest : List TokenTree) → Finds type trees rest → trees ≡ part ++ rest
    → Reads (ByRule type) trees part rest
type_part trees part rest f whole = found_reads type starts_type trees part rest f whole

pub lifetime_part : (trees part rest : List TokenTree) → Finds (one signs.Lifetime) trees rest
    → trees ≡ part ++ rest
    → Reads (ByRule (one signs.Lifetime)) trees part rest
lifetime_part trees part rest f whole = found_reads (one signs.Lifetime) starts_lifetime trees part rest f whole

pub constant_part : (trees part rest : List TokenTree) → Finds rule.constant trees rest → trees ≡ part ++ rest
    → Reads (ByRule rule.constant) trees part rest
constant_part trees part rest f whole = found_reads rule.constant starts_constant trees part rest f whole

-- ---- any argument

-- what one rule reads of an argument, another rule reads too
lift : (g h : G) (trees : List TokenTree)
    (result : Result (GenericArgument × Bor (List TokenTree)) (Bor (List TokenTree)))
    → ((rest : List TokenTree) → Finds h trees rest → Finds g trees rest)
    → ((left : List TokenTree) → Sticks h trees left → Sticks g trees left) → ReadsArgument h trees result
    → ReadsArgument g trees result
lift g h trees (Ok found) finds sticks r = (finds found.1.now r.0, r.1)
lift g h trees (Err left) finds sticks r = sticks left.now r

abbrev a_lifetime : G
a_lifetime = Then (Mark Named) (one signs.Lifetime)

abbrev a_constant : G
a_constant = Then (Mark Value) rule.constant

-- a type, perhaps with a constraint
abbrev word_or_type : G
word_or_type = Either rule.word_argument (other_operand Outside)

-- where no word and no lifetime is, a type begins as in an argument
typed_step : (c : SignClass) → is_word c ≡ false → is signs.Lifetime c ≡ false
    → step rules (word_or_type ∷ []) c ≡ step rules (type ∷ []) c
typed_step c h j = rw (h, j) refl

typed_find : (c : SignClass) (cs : List SignClass) → is_word c ≡ false → is signs.Lifetime c ≡ false
    → find rules word_or_type (c ∷ cs) ≡ find rules type (c ∷ cs)
unfolding find
typed_find c cs h j =
    scan_step rules (word_or_type ∷ []) c cs (step rules (type ∷ []) c) (typed_step c h j)
    ∙ sym (scan_step rules (type ∷ []) c cs (step rules (type ∷ []) c) refl)

module _ (trees after : List TokenTree) (class : SignClass) (b : BeginsWith trees class after)
    (result : Result (GenericArgument × Bor (List TokenTree)) (Bor (List TokenTree))) where
  pub lifetime_kind : is signs.Lifetime class ≡ true → ReadsArgument (one signs.Lifetime) trees result
      → ReadsArgument rule.generic_argument trees result
  lifetime_kind h =
      let begins : heads a_lifetime (classes_in trees) ≡ true = heads_sign a_lifetime trees after class b ∙ h in
      lift rule.generic_argument (one signs.Lifetime) trees result
      (λ rest f.
      first_finds a_lifetime (Either a_constant rule.type_argument) trees rest begins
      (mark_finds Named (one signs.Lifetime) trees rest f))
      (λ left f.
      first_sticks a_lifetime (Either a_constant rule.type_argument) trees left begins
      (mark_sticks Named (one signs.Lifetime) trees left f))

  module _ (no_lifetime : is signs.Lifetime class ≡ false) where
    none : heads a_lifetime (classes_in trees) ≡ false
    none = heads_sign a_lifetime trees after class b ∙ no_lifetime

    pub constant_kind : may_begin rule.constant class ≡ true → ReadsArgument rule.constant trees result
        → ReadsArgument rule.generic_argument trees result
    constant_kind h =
        let begins : heads a_constant (classes_in trees) ≡ true = heads_sign a_constant trees after class b ∙ h in
        lift rule.generic_argument rule.constant trees result
        (λ rest f.
        other_finds a_lifetime (Either a_constant rule.type_argument) trees rest none refl
        (first_finds a_constant rule.type_argument trees rest begins
        (mark_finds Value rule.constant trees rest f)))
        (λ left f.
        other_sticks a_lifetime (Either a_constant rule.type_argument) trees left none refl
        (first_sticks a_constant rule.type_argument trees left begins
        (mark_sticks Value rule.constant trees left f)))

    module _ (no_constant : may_begin rule.constant class ≡ false) where
      not_constant : heads a_constant (classes_in trees) ≡ false
      not_constant = heads_sign a_constant trees after class b ∙ no_constant

      typed_kind : ReadsArgument word_or_type trees result → ReadsArgument rule.generic_argument trees result
      typed_kind =
          lift rule.generic_argument word_or_type trees result
          (λ rest f.
          other_finds a_lifetime (Either a_constant rule.type_argument) trees rest none refl
          (other_finds a_constant rule.type_argument trees rest not_constant refl
          (mark_finds OfType word_or_type trees rest f)))
          (λ left f.
          other_sticks a_lifetime (Either a_constant rule.type_argument) trees left none refl
          (other_sticks a_constant rule.type_argument trees left not_constant refl
          (mark_sticks OfType word_or_type trees left f)))

      pub word_kind : is_word class ≡ true → ReadsArgument rule.word_argument trees result
          → ReadsArgument rule.generic_argument trees result
      word_kind h r =
          let begins : heads rule.word_argument (classes_in trees) ≡ true =
          heads_sign rule.word_argument trees after class b
          ∙ (or_nothing (is_word class) (may_begin rule.constraint class) ∙ h) in
          typed_kind
          (lift word_or_type rule.word_argument trees result
          (λ rest f. first_finds rule.word_argument (other_operand Outside) trees rest begins f)
          (λ left f. first_sticks rule.word_argument (other_operand Outside) trees left begins f) r)

      pub plain_kind : is_word class ≡ false → ReadsArgument type trees result
          → ReadsArgument rule.generic_argument trees result
      plain_kind h r =
          let same : find rules word_or_type (classes_in trees) ≡ find rules type (classes_in trees) =
          ap (find rules word_or_type) (classes_sign trees after class b)
          ∙ (typed_find class (classes_in after) h no_lifetime
          ∙ ap (find rules type) (sym (classes_sign trees after class b))) in
          typed_kind
          (lift word_or_type type trees result (λ rest f. same_finds word_or_type type trees rest same f)
          (λ left f. same_sticks word_or_type type trees left same f) r)

pub no_kind : (trees : List TokenTree)
    (result : Result (GenericArgument × Bor (List TokenTree)) (Bor (List TokenTree))) → trees ≡ []
    → ReadsArgument type trees result
    → ReadsArgument rule.generic_argument trees result
no_kind trees result e =
    let same : find rules rule.generic_argument (classes_in trees) ≡ find rules type (classes_in trees) =
    find_lacks rules rule.generic_argument (classes_in trees) (heads_none rule.generic_argument trees e) refl
    ∙ sym (find_lacks rules type (classes_in trees) (heads_none type trees e) refl) in
    lift rule.generic_argument type trees result
    (λ rest f. same_finds rule.generic_argument type trees rest same f)
    (λ left f. same_sticks rule.generic_argument type trees left same f)

pub begins_word : (trees rest : List TokenTree) (class : SignClass) (b : Bool) → BeginsWith trees class rest
    → b ≡ is_word class → b ≡ true
    → heads rule.word_type (classes_in trees) ≡ true
begins_word trees rest class b at e h = heads_sign rule.word_type trees rest class at ∙ (sym e ∙ h)

pub ruleset kinds_of = (lifetime_kind, constant_kind, word_kind, plain_kind, no_kind, begins_word)

-- ---- the contracts

argument_part : (trees rest : List TokenTree) → Finds rule.generic_argument trees rest
    → (part : List TokenTree) × Reads (ByRule rule.generic_argument) trees part rest
argument_part trees rest f = (
  trees_of f.remains.front,
  found_reads rule.generic_argument starts_argument trees (trees_of f.remains.front) rest f f.remains.whole,
)

pub argument_at : (trees rest : List TokenTree) (found : GenericArgument) → Finds rule.generic_argument trees rest
    → HasArgument found.kind trees found.trees.now rest
    → IsArgumentAt trees found rest
argument_at trees rest found f parts =
    let at = argument_part trees rest f in record { part = at.0; reads = at.1; parts = parts }

pub argument_only : (trees rest : List TokenTree) → Finds rule.generic_argument trees rest
    → IsOnlyRest rule.generic_argument trees rest
argument_only trees rest f part2 rest2 reads =
    let at = argument_part trees rest f in
    (only_reading rule.generic_argument starts_argument trees at.0 rest at.1 part2 rest2 reads).1

pub argument_fewer : (trees rest : List TokenTree) → Finds rule.generic_argument trees rest
    → length rest < length trees
argument_fewer trees rest f =
    let at = argument_part trees rest f in
    rule_fewer rule.generic_argument starts_argument trees at.0 rest refl at.1

pub argument_fault : (trees left : List TokenTree) (at : ℕ) → Sticks rule.generic_argument trees left
    → at ≡ length trees - length left
    → FaultAt (ByRule rule.generic_argument) trees at
argument_fault trees left at f counted =
    let within = remains_within trees left f.remains in
    stuck_fault rule.generic_argument starts_argument trees left at f (omega arith)

pub argument_span : (trees left : List TokenTree) (at : ℕ) (span : Option Extent)
    → Sticks rule.generic_argument trees left
    → at ≡ length trees - length left → span ≡ first_extent left
    → span ≡ extent_at trees at
argument_span trees left at span f counted first = remains_span trees left at span f.remains counted first

pub ruleset contracts = (argument_at, argument_only, argument_fewer, argument_fault, argument_span)
