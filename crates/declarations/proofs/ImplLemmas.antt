-- The parts of an `impl` in trees.
use Rattle.std.proofs.Common.{◌≡◌, refl, sym, ◌∙◌, ap, subst, ℕ, ◌-◌, Bool, true, false, ◌&&◌, ◌||◌, List, [], ◌∷◌}
use Rattle.std.proofs.Common.{◌++◌, Option, None, inl, inr, length, arith}
use Rattle.std.proofs.lemmas.Bool.{both_ways}
use Rattle.std.specs.Prelude.{MatchResult, Result, Ok, Err}
use Rattle.std.specs.Borrow.{Bor}
use Rattle.grammars.specs.Deterministic.{IsStart}
use Rattle.grammars.specs.First.{heads, may_begin}
use Rattle.grammars.specs.Grammar.{Mark, Then, perhaps}
use Rattle.pm_span.specs.Extent.{Extent}
use Rattle.pm_token.specs.declared.delimiters.Delimiter.TheVariants as delimiters
use Rattle.pm_stream.specs.declared.stream.Group.{Group as Grouped}
use Rattle.pm_stream.specs.declared.stream.TokenTree.{TokenTree}
use Rattle.pm_stream.specs.declared.stream.TokenTree.TheVariants.{Group}
use Rattle.declarations.specs.Fault.{extent_at, first_extent}
use Rattle.declarations.specs.Found.{TurnsTo, bare, finds}
use Rattle.declarations.specs.Impl.{HasBraces, HasFront, HasGenerics, HasHeader, HasImplParts, HasTarget, HasTrait}
use Rattle.declarations.specs.Impl.{HasTypes, IsImpl, begins_generics, begins_parameter, ends_parameter}
use Rattle.declarations.specs.Impl.{for_type, goes_on_parameter, has_generics, may_const, may_for, target_types}
use Rattle.declarations.specs.Param.{HasNo}
use Rattle.declarations.specs.Reader.{Finds, ReadsRule, Sticks, classes_in}
use Rattle.declarations.specs.Reading.{FaultAt, Reads}
use Rattle.declarations.specs.Signs.{BeginsWith, group_class}
use Rattle.declarations.specs.Whole.{IsWhole}
use Rattle.item_tables.specs.declared.class.SignClass.{SignClass}
use Rattle.item_tables.specs.declared.class.SignClass.TheVariants as signs
use Rattle.item_tables.specs.declared.class.Keyword.TheVariants as keywords
use Rattle.item_tables.specs.declared.class.Word.TheVariants as words
use Rattle.declarations.specs.declared.implementation.Impl.{Impl}
use Rattle.declarations.specs.declared.implementation.Target.{Target as Targeted}
use Rattle.declarations.specs.rules.Bodies.{where_and_body, braces}
use Rattle.item_tables.specs.Classes.{is, is_word, keyword, opens}
use Rattle.declarations.specs.rules.ImplItems as rule
use Rattle.declarations.specs.rules.Impls.{const_target, impl_front, target}
use Rattle.declarations.specs.rules.Names.{Body, Front, G, Impl as ImplName, key, one}
use Rattle.declarations.specs.rules.Parts.{attributes, generics, visibility, where_clause}
use Rattle.declarations.specs.rules.Pieces.{ByRule}
use Rattle.declarations.specs.rules.Rules.{follows, rules}
use Rattle.declarations.specs.rules.Types.{type}
use Rattle.declarations.proofs.ClassLemmas.{same_class}
use Rattle.declarations.proofs.FoundLemmas.{bind, finds_marked, finds_then, finds_to, past_found, stuck_found}
use Rattle.declarations.proofs.FunctionPartLemmas.{begins_group, no_braces}
use Rattle.declarations.proofs.ImplFormLemmas.{or_nothing}
use Rattle.declarations.proofs.ImplHeaderLemmas.{front_in, front_out, target_may, target_negative, target_never}
use Rattle.declarations.proofs.ImplHeaderLemmas.{target_positive}
use Rattle.declarations.proofs.ReaderLemmas.{classes_sign, first_finds, first_sticks, heads_none, heads_sign}
use Rattle.declarations.proofs.ReaderLemmas.{lacks, mark_finds, perhaps_stays, remains_on, remains_self, remains_sign}
use Rattle.declarations.proofs.ReaderLemmas.{remains_span, remains_within, sign_finds, then_fails, then_finds}
use Rattle.declarations.proofs.ReaderLemmas.{then_sticks}
use Rattle.declarations.proofs.RuleFormLemmas.{found_reads}
use Rattle.declarations.proofs.RuleLemmas.{starts}
use Rattle.declarations.proofs.RuleWholeLemmas.{left_whole, stuck_whole, whole_read}
use Rattle.declarations.proofs.StartLemmas as begin

-- ---- where a reading begins

pub starts_item : IsStart rules follows (rule.impl_item ∷ [])
starts_item = starts rule.impl_item refl refl

starts_attributes : IsStart rules follows (attributes ∷ [])
starts_attributes = begin.attributes_starts

starts_visibility : IsStart rules follows (visibility ∷ [])
starts_visibility = begin.visibility_starts

starts_qualifiers : IsStart rules follows (rule.impl_qualifiers ∷ [])
starts_qualifiers = starts rule.impl_qualifiers refl refl

starts_generics : IsStart rules follows (generics ∷ [])
starts_generics = begin.generics_starts

starts_const : IsStart rules follows (may_const ∷ [])
starts_const = starts may_const refl refl

starts_not : IsStart rules follows (one signs.Exclamation ∷ [])
starts_not = starts (one signs.Exclamation) refl refl

starts_type : IsStart rules follows (type ∷ [])
starts_type = begin.type_starts

starts_where : IsStart rules follows (where_clause ∷ [])
starts_where = begin.where_clause_starts

-- ---- rules that go on as other rules, without labels

turns_as : (g h k : G) (trees mid : List TokenTree) → TurnsTo g trees h mid
    → finds h (classes_in mid) ≡ finds k (classes_in mid)
    → TurnsTo g trees k mid
turns_as g h k trees mid t e = record { same = t.same ∙ e; remains = t.remains }

turns_self : (g h : G) (trees : List TokenTree) → finds g (classes_in trees) ≡ finds h (classes_in trees)
    → TurnsTo g trees h trees
turns_self g h trees e = record { same = e; remains = remains_self trees }

turns_on : (g a b : G) (trees mid next : List TokenTree) → TurnsTo g trees (Then a b) mid → Finds a mid next
    → TurnsTo g trees b next
turns_on g a b trees mid next t f = record {
  same = t.same ∙ (finds_then a b (classes_in mid) ∙ ap (λ x. bind (bare x) (finds b)) f.found);
  remains = remains_on trees mid next t.remains f.remains;
}

turns_stick : (g a b : G) (trees mid left : List TokenTree) → TurnsTo g trees (Then a b) mid → Sticks a mid left
    → Sticks g trees left
turns_stick g a b trees mid left t f = record {
  stuck = stuck_found g (classes_in trees) (classes_in left)
      (t.same ∙ (finds_then a b (classes_in mid) ∙ ap (λ x. bind (bare x) (finds b)) f.stuck));
  remains = remains_on trees mid left t.remains f.remains;
}

turns_finds : (g h : G) (trees mid rest : List TokenTree) → TurnsTo g trees h mid → Finds h mid rest
    → Finds g trees rest
turns_finds g h trees mid rest t f =
    let p = past_found g (classes_in trees) (classes_in rest) (t.same ∙ ap bare f.found) in
    record { events = p.0; found = p.1; remains = remains_on trees mid rest t.remains f.remains }

turns_sticks : (g h : G) (trees mid left : List TokenTree) → TurnsTo g trees h mid → Sticks h mid left
    → Sticks g trees left
turns_sticks g h trees mid left t f = record {
  stuck = stuck_found g (classes_in trees) (classes_in left) (t.same ∙ ap bare f.stuck);
  remains = remains_on trees mid left t.remains f.remains;
}

turns_turn : (g h k : G) (trees mid next : List TokenTree) → TurnsTo g trees h mid → TurnsTo h mid k next
    → TurnsTo g trees k next
turns_turn g h k trees mid next t u =
    record { same = t.same ∙ u.same; remains = remains_on trees mid next t.remains u.remains }

-- ---- tests of the next signs

no_classes : (trees : List TokenTree) → trees ≡ [] → classes_in trees ≡ []
unfolding classes_in
no_classes trees e = rw e refl

pub goes_sign : (trees rest : List TokenTree) (class : SignClass) (b : Bool) → BeginsWith trees class rest
    → b ≡ ends_parameter class
    → b ≡ goes_on_parameter (classes_in trees)
goes_sign trees rest class b at e = e ∙ sym (ap goes_on_parameter (classes_sign trees rest class at))

pub goes_none : (trees : List TokenTree) → trees ≡ [] → false ≡ goes_on_parameter (classes_in trees)
goes_none trees e = sym (ap goes_on_parameter (no_classes trees e))

pub begins_alone : (trees rest : List TokenTree) (class : SignClass) (b : Bool) → BeginsWith trees class rest
    → b ≡ begins_parameter class → b ≡ true
    → true ≡ begins_generics (classes_in trees)
begins_alone trees rest class b at e h =
    sym (ap begins_generics (classes_sign trees rest class at)
    ∙ ap (λ x. x || is_word class && goes_on_parameter (classes_in rest)) (sym e ∙ h))

pub begins_word : (trees rest : List TokenTree) (class : SignClass) (b w g : Bool) → BeginsWith trees class rest
    → b ≡ begins_parameter class → b ≡ false → w ≡ is_word class → w ≡ true
    → g ≡ goes_on_parameter (classes_in rest)
    → g ≡ begins_generics (classes_in trees)
begins_word trees rest class b w g at e h is i goes =
    goes
    ∙ sym (ap begins_generics (classes_sign trees rest class at)
    ∙ (ap (λ x. x || is_word class && goes_on_parameter (classes_in rest)) (sym e ∙ h)
    ∙ ap (λ x. x && goes_on_parameter (classes_in rest)) (sym is ∙ i)))

pub begins_other : (trees rest : List TokenTree) (class : SignClass) (b w : Bool) → BeginsWith trees class rest
    → b ≡ begins_parameter class → b ≡ false → w ≡ is_word class → w ≡ false
    → false ≡ begins_generics (classes_in trees)
begins_other trees rest class b w at e h is i =
    sym (ap begins_generics (classes_sign trees rest class at)
    ∙ (ap (λ x. x || is_word class && goes_on_parameter (classes_in rest)) (sym e ∙ h)
    ∙ ap (λ x. x && goes_on_parameter (classes_in rest)) (sym is ∙ i)))

pub begins_none : (trees : List TokenTree) → trees ≡ [] → false ≡ begins_generics (classes_in trees)
begins_none trees e = sym (ap begins_generics (no_classes trees e))

pub has_open : (trees rest : List TokenTree) (class : SignClass) (o g : Bool) → BeginsWith trees class rest
    → o ≡ opens class → o ≡ true → g ≡ begins_generics (classes_in rest)
    → g ≡ has_generics (classes_in trees)
has_open trees rest class o g at e h begins =
    begins
    ∙ sym (ap has_generics (classes_sign trees rest class at)
    ∙ ap (λ x. x && begins_generics (classes_in rest)) (sym e ∙ h))

pub has_other : (trees rest : List TokenTree) (class : SignClass) (o : Bool) → BeginsWith trees class rest
    → o ≡ opens class → o ≡ false
    → false ≡ has_generics (classes_in trees)
has_other trees rest class o at e h =
    sym (ap has_generics (classes_sign trees rest class at)
    ∙ ap (λ x. x && begins_generics (classes_in rest)) (sym e ∙ h))

pub has_none : (trees : List TokenTree) → trees ≡ [] → false ≡ has_generics (classes_in trees)
has_none trees e = sym (ap has_generics (no_classes trees e))

pub ruleset tests = (
  goes_sign,
  goes_none,
  begins_alone,
  begins_word,
  begins_other,
  begins_none,
  has_open,
  has_other,
  has_none,
)

-- ---- up to `impl`

pub qualifiers_find : (trees mid rest : List TokenTree) → Finds (perhaps (one (signs.Word words.Default))) trees mid
    → Finds (perhaps (key keywords.Unsafe)) mid rest
    → Finds rule.impl_qualifiers trees rest
qualifiers_find trees mid rest default unsafe = then_finds _ _ trees mid rest default unsafe

pub keyword_is : (trees rest : List TokenTree) (class : SignClass) (b : Bool) → BeginsWith trees class rest
    → b ≡ is (signs.Keyword keywords.Impl) class → b ≡ true
    → BeginsWith trees (signs.Keyword keywords.Impl) rest
keyword_is trees rest class b at e h =
    subst (λ c. BeginsWith trees c rest) (same_class (signs.Keyword keywords.Impl) class (sym e ∙ h)) at

pub keyword_not : (trees rest : List TokenTree) (class : SignClass) (b : Bool) → BeginsWith trees class rest
    → b ≡ is (signs.Keyword keywords.Impl) class → b ≡ false
    → Sticks rule.impl_keyword trees trees
keyword_not trees rest class b at e h =
    lacks rule.impl_keyword trees (heads_sign rule.impl_keyword trees rest class at ∙ (sym e ∙ h)) refl

pub keyword_none : (trees : List TokenTree) → trees ≡ [] → Sticks rule.impl_keyword trees trees
keyword_none trees e = lacks rule.impl_keyword trees (heads_none rule.impl_keyword trees e) refl

pub ruleset keyword_rules = (keyword_is, keyword_not, keyword_none)

-- from a part on
abbrev from_qualifiers : G
from_qualifiers = Then rule.impl_qualifiers rule.impl_keyword

abbrev from_visibility : G
from_visibility = Then visibility (Then (Mark Front) from_qualifiers)

-- past the attributes, past the visibility and past the qualifiers
to_visibility : (trees next : List TokenTree) → Finds attributes trees next
    → TurnsTo rule.impl_item trees from_visibility next
to_visibility trees next f =
    turns_on rule.impl_item attributes from_visibility trees trees next (turns_self _ _ trees refl) f

to_qualifiers : (trees v next : List TokenTree) → Finds attributes trees v → Finds visibility v next
    → TurnsTo rule.impl_item trees from_qualifiers next
to_qualifiers trees v next a f =
    turns_as rule.impl_item (Then (Mark Front) from_qualifiers) from_qualifiers trees next
    (turns_on rule.impl_item visibility (Then (Mark Front) from_qualifiers) trees v next (to_visibility trees v a) f)
    (finds_marked Front from_qualifiers (classes_in next))

to_keyword : (trees v q next : List TokenTree) → Finds attributes trees v → Finds visibility v q
    → Finds rule.impl_qualifiers q next
    → TurnsTo rule.impl_item trees rule.impl_keyword next
to_keyword trees v q next a f g =
    turns_on rule.impl_item rule.impl_qualifiers rule.impl_keyword trees q next (to_qualifiers trees v q a f) g

pub front_turns : (trees v q i rest : List TokenTree) → Finds attributes trees v → Finds visibility v q
    → Finds rule.impl_qualifiers q i → BeginsWith i (signs.Keyword keywords.Impl) rest
    → TurnsTo rule.impl_item trees impl_front rest
front_turns trees v q i rest a f g at =
    turns_turn rule.impl_item rule.impl_keyword impl_front trees i rest (to_keyword trees v q i a f g)
    (record {
      same = ap (finds rule.impl_keyword) (classes_sign i rest (signs.Keyword keywords.Impl) at)
          ∙ finds_to (keyword keywords.Impl) ImplName (signs.Keyword keywords.Impl) (classes_in rest) refl;
      remains = remains_sign i rest (signs.Keyword keywords.Impl) at;
    })

pub front_has : (trees v q i rest attributed visible qualified : List TokenTree) → Finds attributes trees v
    → Finds visibility v q → Finds rule.impl_qualifiers q i → BeginsWith i (signs.Keyword keywords.Impl) rest
    → trees ≡ attributed ++ v → v ≡ visible ++ q → q ≡ qualified ++ i
    → HasFront trees attributed visible qualified rest
front_has trees v q i rest attributed visible qualified a f g at one two three = record {
  from_visibility = v;
  from_qualifiers = q;
  from_impl = i;
  attributes = found_reads attributes starts_attributes trees attributed v a one;
  visibility = found_reads visibility starts_visibility v visible q f two;
  qualifiers = found_reads rule.impl_qualifiers starts_qualifiers q qualified i g three;
  keyword = at;
}

pub attributes_stick : (trees left : List TokenTree) → Sticks attributes trees left
    → Sticks rule.impl_item trees left
attributes_stick trees left f = then_sticks attributes from_visibility trees left f

pub keyword_sticks : (trees v q i left : List TokenTree) → Finds attributes trees v → Finds visibility v q
    → Finds rule.impl_qualifiers q i → Sticks rule.impl_keyword i left
    → Sticks rule.impl_item trees left
keyword_sticks trees v q i left a f g s =
    turns_sticks rule.impl_item rule.impl_keyword trees i left (to_keyword trees v q i a f g) s

pub ruleset fronts = (front_turns, front_has, attributes_stick, keyword_sticks)

-- ---- generic parameters

module _ (trees : List TokenTree) (b : Bool) (is : b ≡ has_generics (classes_in trees)) where
  pub generics_turn : (rest : List TokenTree) → b ≡ true → Finds generics trees rest
      → TurnsTo impl_front trees (target true) rest
  generics_turn rest h f =
      turns_on impl_front generics (target true) trees trees rest
      (turns_self impl_front (Then generics (target true)) trees (front_in (classes_in trees) (sym is ∙ h))) f

  pub generics_has : (part rest : List TokenTree) → b ≡ true → Finds generics trees rest → trees ≡ part ++ rest
      → HasGenerics trees part rest
  generics_has part rest h f whole =
      inl (sym is ∙ h, found_reads generics starts_generics trees part rest f whole)

  pub generics_stick : (left : List TokenTree) → b ≡ true → Sticks generics trees left
      → Sticks impl_front trees left
  generics_stick left h f =
      turns_stick impl_front generics (target true) trees trees left
      (turns_self impl_front (Then generics (target true)) trees (front_in (classes_in trees) (sym is ∙ h))) f

  pub no_parameters : b ≡ false → TurnsTo impl_front trees (target true) trees
  no_parameters h = turns_self impl_front (target true) trees (front_out (classes_in trees) (sym is ∙ h))

  pub no_parameters_has : (part : List TokenTree) → b ≡ false → part ≡ [] → HasGenerics trees part trees
  no_parameters_has part h none = inr (sym is ∙ h, none, refl)

pub ruleset parameters = (generics_turn, generics_has, generics_stick, no_parameters, no_parameters_has)

-- ---- between `impl` and the where clause

to_const : (trees c t : List TokenTree) → TurnsTo impl_front trees (target true) c → Finds may_const c t
    → TurnsTo impl_front trees const_target t
to_const trees c t g f =
    turns_on impl_front may_const const_target trees c t
    (turns_as impl_front (target true) (Then may_const const_target) trees c g (target_may (classes_in c))) f

pub header_turns : (trees c t rest : List TokenTree) → TurnsTo impl_front trees (target true) c
    → Finds may_const c t → TurnsTo const_target t where_and_body rest
    → TurnsTo impl_front trees where_and_body rest
header_turns trees c t rest g f h =
    turns_turn impl_front const_target where_and_body trees t rest (to_const trees c t g f) h

pub header_has : (trees c t rest parameters constness negation self_type : List TokenTree)
    (name : Option (Bor (List TokenTree))) → HasGenerics trees parameters c → Finds may_const c t
    → c ≡ constness ++ t → HasTarget t negation name self_type rest
    → HasHeader trees parameters constness negation name self_type rest
header_has trees c t rest parameters constness negation self_type name g f whole h = record {
  from_const = c;
  from_target = t;
  generics = g;
  constant = found_reads may_const starts_const c constness t f whole;
  target = h;
}

pub header_sticks : (trees c t left : List TokenTree) → TurnsTo impl_front trees (target true) c
    → Finds may_const c t → Sticks const_target t left
    → Sticks impl_front trees left
header_sticks trees c t left g f s =
    turns_sticks impl_front const_target trees t left (to_const trees c t g f) s

pub ruleset headers = (header_turns, header_has, header_sticks)

-- ---- the trait and the type

pub for_is : (trees rest : List TokenTree) (class : SignClass) (b : Bool) → BeginsWith trees class rest
    → b ≡ is (signs.Keyword keywords.For) class → b ≡ true
    → BeginsWith trees (signs.Keyword keywords.For) rest
for_is trees rest class b at e h =
    subst (λ c. BeginsWith trees c rest) (same_class (signs.Keyword keywords.For) class (sym e ∙ h)) at

pub for_not : (trees rest : List TokenTree) (class : SignClass) (b : Bool) → BeginsWith trees class rest
    → b ≡ is (signs.Keyword keywords.For) class → b ≡ false
    → heads for_type (classes_in trees) ≡ false
for_not trees rest class b at e h =
    heads_sign for_type trees rest class at ∙ (or_nothing _ (may_begin type class) ∙ (sym e ∙ h))

pub for_none : (trees : List TokenTree) → trees ≡ [] → heads for_type (classes_in trees) ≡ false
for_none trees e = heads_none for_type trees e

abbrev for_class : SignClass
for_class = signs.Keyword keywords.For

for_heads : (trees rest : List TokenTree) → BeginsWith trees for_class rest
    → heads for_type (classes_in trees) ≡ true
for_heads trees rest at = heads_sign for_type trees rest for_class at

for_finds : (trees rest : List TokenTree) → BeginsWith trees for_class rest → Finds (key keywords.For) trees rest
for_finds trees rest at = sign_finds (is for_class) trees rest for_class at refl

pub trait_finds : (trees f t rest : List TokenTree) → Finds type trees f → BeginsWith f for_class t
    → Finds type t rest
    → Finds target_types trees rest
trait_finds trees f t rest name at self_type =
    then_finds type may_for trees f rest name
    (first_finds for_type _ f rest (for_heads f t at)
    (then_finds (key keywords.For) type f t rest (for_finds f t at) self_type))

pub trait_has : (trees f t rest name self_type : List TokenTree) → Finds type trees f → BeginsWith f for_class t
    → Finds type t rest → trees ≡ name ++ f → t ≡ self_type ++ rest
    → HasTrait trees name self_type rest
trait_has trees f t rest name self_type a at b one two = record {
  from_for = f;
  from_type = t;
  trait_read = found_reads type starts_type trees name f a one;
  for_read = at;
  type_read = found_reads type starts_type t self_type rest b two;
}

pub trait_sticks : (trees f t left : List TokenTree) → Finds type trees f → BeginsWith f for_class t
    → Sticks type t left
    → Sticks target_types trees left
trait_sticks trees f t left name at s =
    then_fails type may_for trees f left name
    (first_sticks for_type _ f left (for_heads f t at)
    (then_fails (key keywords.For) type f t left (for_finds f t at) s))

pub type_finds : (trees rest : List TokenTree) → Finds type trees rest
    → heads for_type (classes_in rest) ≡ false
    → Finds target_types trees rest
type_finds trees rest f h =
    then_finds type may_for trees rest rest f (perhaps_stays for_type rest h)

pub type_has : (trees rest self_type : List TokenTree) → Finds type trees rest → trees ≡ self_type ++ rest
    → Reads (ByRule type) trees self_type rest
type_has trees rest self_type f whole = found_reads type starts_type trees self_type rest f whole

pub type_sticks : (trees left : List TokenTree) → Sticks type trees left → Sticks target_types trees left
type_sticks trees left s = then_sticks type may_for trees left s

pub ruleset types = (trait_finds, trait_has, trait_sticks, type_finds, type_has, type_sticks)

-- what `types_of` returns
abbrev ReadsTypes : List TokenTree → List TokenTree → Result (Targeted × Bor (List TokenTree)) (Bor (List TokenTree))
    → Type 0
ReadsTypes trees negation result =
    MatchResult result
    (λ found. Finds target_types trees found.1.now
    × HasTypes found.0.trait_path trees found.0.self_type.now found.1.now
    × (found.0.negation.now ≡ negation))
    (λ left. Sticks target_types trees left.now)

-- what `target_of` returns
abbrev ReadsTarget : List TokenTree → Result (Targeted × Bor (List TokenTree)) (Bor (List TokenTree)) → Type 0
ReadsTarget trees result =
    MatchResult result
    (λ found. TurnsTo const_target trees where_and_body found.1.now
    × HasTarget trees found.0.negation.now found.0.trait_path found.0.self_type.now found.1.now)
    (λ left. Sticks const_target trees left.now)

abbrev with_end : G
with_end = Then target_types where_and_body

-- trees that begin with another sign do not begin with `!`
no_other : (trees rest : List TokenTree) (class : SignClass) (b : Bool) → BeginsWith trees class rest
    → b ≡ is signs.Exclamation class → b ≡ false
    → HasNo signs.Exclamation trees
no_other trees rest class b at e h = λ other there.
    both_ways _ (sym e ∙ h)
    (sym (heads_sign (one signs.Exclamation) trees rest class at)
    ∙ heads_sign (one signs.Exclamation) trees other signs.Exclamation there)

pub positive_reads : (trees rest : List TokenTree) (class : SignClass) (b : Bool) (negation : List TokenTree)
    (result : Result (Targeted × Bor (List TokenTree)) (Bor (List TokenTree))) → BeginsWith trees class rest
    → b ≡ is signs.Exclamation class → b ≡ false → negation ≡ [] → ReadsTypes trees negation result
    → ReadsTarget trees result
positive_reads trees rest class b negation result at e h none r = go result r
  where
    turns : TurnsTo const_target trees with_end trees
    turns =
        turns_self const_target with_end trees
        (ap (finds const_target) (classes_sign trees rest class at)
        ∙ (target_positive class (classes_in rest) (sym e ∙ h)
        ∙ sym (ap (finds with_end) (classes_sign trees rest class at))))

    go : (result : Result (Targeted × Bor (List TokenTree)) (Bor (List TokenTree))) → ReadsTypes trees negation result
        → ReadsTarget trees result
    go (Ok found) r = (
      turns_on const_target target_types where_and_body trees trees found.1.now turns r.0,
      inl (record { no_not = r.2 ∙ none; types = r.1; positive = no_other trees rest class b at e h }),
    )
    go (Err left) r = turns_stick const_target target_types where_and_body trees trees left.now turns r

pub target_none : (trees : List TokenTree) → trees ≡ [] → Sticks const_target trees trees
target_none trees e = lacks const_target trees (heads_none const_target trees e) refl

pub not_is : (trees rest : List TokenTree) (class : SignClass) (b : Bool) → BeginsWith trees class rest
    → b ≡ is signs.Exclamation class → b ≡ true
    → BeginsWith trees signs.Exclamation rest
not_is trees rest class b at e h =
    subst (λ c. BeginsWith trees c rest) (same_class signs.Exclamation class (sym e ∙ h)) at

pub ruleset targets = (positive_reads, target_none, not_is)

-- ---- after `!`

module _ (trees rest : List TokenTree) (at : BeginsWith trees signs.Exclamation rest) (b : Bool)
    (is_end : b ≡ heads where_and_body (classes_in rest)) where
  not_reads : (sign : List TokenTree) → trees ≡ sign ++ rest → Reads (ByRule (one signs.Exclamation)) trees sign rest
  not_reads sign whole =
      found_reads (one signs.Exclamation) starts_not trees sign rest
      (sign_finds (is signs.Exclamation) trees rest signs.Exclamation at refl) whole

  pub never_turns : b ≡ true → TurnsTo const_target trees where_and_body rest
  never_turns h = record {
    same = ap (finds const_target) (classes_sign trees rest signs.Exclamation at)
        ∙ target_never (classes_in rest) (sym is_end ∙ h);
    remains = remains_sign trees rest signs.Exclamation at;
  }

  pub never_has : (negation sign : List TokenTree) → trees ≡ sign ++ rest → negation ≡ []
      → HasTarget trees negation None sign rest
  never_has negation sign whole none =
      inr (inr (record { no_not = none; no_trait = refl; type_read = not_reads sign whole }))

  pub negative_reads : (sign : List TokenTree)
      (result : Result (Targeted × Bor (List TokenTree)) (Bor (List TokenTree))) → b ≡ false → trees ≡ sign ++ rest
      → ReadsTypes rest sign result
      → ReadsTarget trees result
  negative_reads sign result h whole r = go result r
    where
      turns : TurnsTo const_target trees with_end rest
      turns = record {
        same = ap (finds const_target) (classes_sign trees rest signs.Exclamation at)
            ∙ target_negative (classes_in rest) (sym is_end ∙ h);
        remains = remains_sign trees rest signs.Exclamation at;
      }

      go : (result : Result (Targeted × Bor (List TokenTree)) (Bor (List TokenTree))) → ReadsTypes rest sign result
          → ReadsTarget trees result
      go (Ok found) r = (
        turns_on const_target target_types where_and_body trees rest found.1.now turns r.0,
        inr (inl (record {
          from_types = rest;
          not_read = subst (λ n. Reads (ByRule (one signs.Exclamation)) trees n rest) (sym r.2)
              (not_reads sign whole);
          types = r.1;
        })),
      )
      go (Err left) r = turns_stick const_target target_types where_and_body trees rest left.now turns r

pub ruleset negatives = (never_turns, never_has, negative_reads, remains_sign)

-- ---- after the type

pub braces_find : (trees mid rest : List TokenTree) (g : Grouped) → Finds where_clause trees mid → mid ≡ Group g ∷ rest
    → g.delimiter ≡ delimiters.Brace
    → Finds where_and_body trees rest
braces_find trees mid rest g f whole brace =
    then_finds where_clause braces trees mid rest f
    (mark_finds Body (one signs.Braces) mid rest
    (sign_finds (is signs.Braces) mid rest (group_class g.delimiter g.stream) (begins_group mid rest g whole)
    (ap (λ d. is signs.Braces (group_class d g.stream)) brace)))

pub braces_have : (trees mid rest clause : List TokenTree) (g : Grouped) → Finds where_clause trees mid
    → trees ≡ clause ++ mid → mid ≡ Group g ∷ rest → g.delimiter ≡ delimiters.Brace
    → HasBraces trees clause g rest
braces_have trees mid rest clause g f front whole brace = record {
  from_body = mid;
  clause_read = found_reads where_clause starts_where trees clause mid f front;
  whole = whole;
  braces = brace;
}

pub braces_stick : (trees mid : List TokenTree) → Finds where_clause trees mid
    → ((g : Grouped) (rest : List TokenTree) → mid ≡ Group g ∷ rest → g.delimiter ≡ delimiters.Brace → ⊥)
    → Sticks where_and_body trees mid
braces_stick trees mid f none =
    then_fails where_clause braces trees mid mid f (lacks braces mid (no_braces mid none) refl)

pub where_sticks : (trees left : List TokenTree) → Sticks where_clause trees left → Sticks where_and_body trees left
where_sticks trees left s = then_sticks where_clause braces trees left s

pub header_reads : (trees mid : List TokenTree) (result : Result (Bor (List TokenTree)) (Bor (List TokenTree)))
    → TurnsTo impl_front trees where_and_body mid → ReadsRule where_and_body mid result
    → ReadsRule impl_front trees result
header_reads trees mid (Ok rest) t f = turns_finds impl_front where_and_body trees mid rest.now t f
header_reads trees mid (Err left) t f = turns_sticks impl_front where_and_body trees mid left.now t f

pub ruleset rests = (header_reads)

-- ---- the whole item

pub item_finds : (trees h c rest : List TokenTree) → TurnsTo rule.impl_item trees impl_front h
    → TurnsTo impl_front h where_and_body c → Finds where_and_body c rest
    → Finds rule.impl_item trees rest
item_finds trees h c rest t u f =
    turns_finds rule.impl_item where_and_body trees c rest
    (turns_turn rule.impl_item impl_front where_and_body trees h c t u) f

pub item_has : (trees h c rest : List TokenTree) (item : Impl)
    → HasFront trees item.attributes.now item.visibility.now item.qualifiers.now h
    → HasHeader h item.generics.now item.constness.now item.negation.now item.trait_path item.self_type.now c
    → HasBraces c item.where_clause.now item.body.now rest
    → HasImplParts trees item rest
item_has trees h c rest item front header braces =
    record { from_header = h; from_clause = c; front = front; header = header; end = braces }

pub header_fails : (trees h left : List TokenTree) → TurnsTo rule.impl_item trees impl_front h
    → Sticks impl_front h left
    → Sticks rule.impl_item trees left
header_fails trees h left t s = turns_sticks rule.impl_item impl_front trees h left t s

pub end_fails : (trees h c left : List TokenTree) → TurnsTo rule.impl_item trees impl_front h
    → TurnsTo impl_front h where_and_body c → Sticks where_and_body c left
    → Sticks rule.impl_item trees left
end_fails trees h c left t u s =
    turns_sticks rule.impl_item where_and_body trees c left
    (turns_turn rule.impl_item impl_front where_and_body trees h c t u) s

pub ruleset items = (item_finds, item_has, header_fails, end_fails)

-- ---- what is promised

pub item_all : (trees rest : List TokenTree) (item : Impl) → Finds rule.impl_item trees rest
    → HasImplParts trees item rest → length rest ≡ 0
    → IsImpl trees item
item_all trees [] item f parts none =
    record { all = whole_read rule.impl_item starts_item trees [] f none; parts = parts }
item_all trees (tree ∷ rest) item f parts none = absurd (omega arith)

pub item_left : (trees rest : List TokenTree) (at : ℕ) → Finds rule.impl_item trees rest → (length rest ≡ 0 → ⊥)
    → at ≡ length trees - length rest
    → FaultAt (IsWhole (ByRule rule.impl_item)) trees at
item_left trees rest at f some counted =
    let within = remains_within trees rest f.remains in
    left_whole rule.impl_item starts_item trees rest at f some (omega arith)

pub item_stuck : (trees left : List TokenTree) (at : ℕ) → Sticks rule.impl_item trees left
    → at ≡ length trees - length left
    → FaultAt (IsWhole (ByRule rule.impl_item)) trees at
item_stuck trees left at f counted =
    let within = remains_within trees left f.remains in
    stuck_whole rule.impl_item starts_item trees left at f (omega arith)

pub left_span : (trees rest : List TokenTree) (at : ℕ) (span : Option Extent) → Finds rule.impl_item trees rest
    → at ≡ length trees - length rest → span ≡ first_extent rest
    → span ≡ extent_at trees at
left_span trees rest at span f counted first = remains_span trees rest at span f.remains counted first

pub stuck_span : (trees left : List TokenTree) (at : ℕ) (span : Option Extent) → Sticks rule.impl_item trees left
    → at ≡ length trees - length left → span ≡ first_extent left
    → span ≡ extent_at trees at
stuck_span trees left at span f counted first = remains_span trees left at span f.remains counted first

pub ruleset promises = (item_all, item_left, item_stuck, left_span, stuck_span)
