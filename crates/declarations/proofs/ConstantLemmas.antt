-- Constants and statics, with what comes before their names.
use Rattle.std.proofs.Common.{◌≡◌, refl, sym, ◌∙◌, ap, subst, Bool, true, false, List, [], ◌∷◌, Some}
use Rattle.std.proofs.lemmas.Bool.{both_ways}
use Rattle.std.specs.Prelude.{Result, Ok, Err}
use Rattle.std.specs.Borrow.{Bor}
use Rattle.grammars.specs.Find.{find}
use Rattle.grammars.specs.First.{heads}
use Rattle.grammars.specs.Grammar.{Either, Event, Marked, One, Then, To, perhaps}
use Rattle.grammars.specs.Machine.{step}
use Rattle.grammars.proofs.FindLemmas.{scan_step}
use Rattle.pm_stream.specs.declared.stream.TokenTree.{TokenTree}
use Rattle.declarations.specs.ItemFront.{IsKindAt, ReadsAfter, ReadsConstant, ReadsKind, ReadsNamed}
use Rattle.declarations.specs.ItemRest.{is_new_name}
use Rattle.declarations.specs.Kind.{named_rule}
use Rattle.declarations.specs.Parameter.{LeadsTo}
use Rattle.declarations.specs.Reader.{Finds, Sticks, classes_in}
use Rattle.declarations.specs.Signs.{BeginsWith}
use Rattle.declarations.specs.declared.any_item.ItemKind.{ItemKind}
use Rattle.declarations.specs.declared.any_item.ItemKind.TheVariants as kinds
use Rattle.declarations.specs.declared.item_front.FoundItem.{FoundItem}
use Rattle.item_tables.specs.Classes.{is, keyword}
use Rattle.item_tables.specs.declared.class.SignClass.{SignClass}
use Rattle.item_tables.specs.declared.class.SignClass.TheVariants as signs
use Rattle.item_tables.specs.declared.class.Keyword.TheVariants as keywords
use Rattle.item_tables.specs.declared.class.Word.TheVariants as words
use Rattle.declarations.specs.rules.Bodies.{constant_rest}
use Rattle.declarations.specs.rules.Fronts.{async_front, const_front, function_front, gen_front, new_name, safe_front}
use Rattle.declarations.specs.rules.Names.{G, Label, Named, Static, Trait, key}
use Rattle.declarations.specs.rules.Rules.{rules}
use Rattle.declarations.proofs.ItemFrontLemmas.{after_as, after_kind, begins_as, keyword_kind, kind_after, kind_leads}
use Rattle.declarations.proofs.ItemFrontLemmas.{kind_keyword, kind_other, kind_qualified, leads_first, leads_other}
use Rattle.declarations.proofs.ItemFrontLemmas.{same_trees, sign_qualifies}
use Rattle.declarations.proofs.ParameterLemmas.{leads_finds, leads_sign, leads_sticks}
use Rattle.declarations.proofs.ReaderLemmas.{classes_sign, heads_none, heads_sign, lacks, mark_finds, remains_sign}
use Rattle.declarations.proofs.ReaderLemmas.{sign_finds, then_fails, then_finds}

-- ---- constants

-- a step past a sign, with labels before it
step_leads : (g h : G) (events : List (Event SignClass Label)) (trees rest : List TokenTree) (class : SignClass)
    → BeginsWith trees class rest → step rules (g ∷ []) class ≡ Some (events, h ∷ [])
    → LeadsTo g trees h rest
unfolding find
step_leads g h events trees rest class b e = record {
  events = events;
  found = ap (find rules g) (classes_sign trees rest class b)
      ∙ scan_step rules (g ∷ []) class (classes_in rest) (Some (events, h ∷ [])) e;
  remains = remains_sign trees rest class b;
}

-- the item is a constant, with this sign as its name
is_constant : (before trees mid rest : List TokenTree) (class : SignClass) (kind : ItemKind) (named : List TokenTree)
    → BeginsWith before (signs.Keyword keywords.Const) trees → BeginsWith trees class mid
    → is_new_name class ≡ true → kind ≡ kinds.Constant → named ≡ trees → Finds constant_rest mid rest
    → IsKindAt before kind named rest
is_constant before trees mid rest class kind named at b h k n f =
    subst (λ kind. IsKindAt before kind named rest) (sym k)
    (keyword_kind (key keywords.Const) before trees kinds.Constant named rest
    (sign_finds (is (signs.Keyword keywords.Const)) before trees (signs.Keyword keywords.Const) at refl) refl n
    (mark_finds Named (Then new_name constant_rest) trees rest
    (then_finds new_name constant_rest trees mid rest (sign_finds is_new_name trees mid class b h) f)))

constant_reads : (trees mid : List TokenTree) (class : SignClass) (result : Result FoundItem (Bor (List TokenTree)))
    → LeadsTo const_front trees constant_rest mid → BeginsWith trees class mid → is_new_name class ≡ true
    → ReadsConstant trees mid result
    → ReadsAfter (signs.Keyword keywords.Const) const_front trees result
constant_reads trees mid class (Ok found) l b h f = (
  leads_finds const_front constant_rest trees mid found.rest.now l f.0,
  λ before at.
      is_constant before trees mid found.rest.now class found.kind found.named.now at b h f.1 f.2 f.0,
)
constant_reads trees mid class (Err left) l b h f = leads_sticks const_front constant_rest trees mid left.now l f

-- the word `safe` is a name, or it comes before a function
module _ (trees mid : List TokenTree) (class : SignClass) (b s : Bool)
    (result : Result FoundItem (Bor (List TokenTree))) (at : BeginsWith trees class mid)
    (e : b ≡ is (signs.Word words.Safe) class) (h : b ≡ true) (t : s ≡ heads function_front (classes_in mid)) where
  safe_at : BeginsWith trees (signs.Word words.Safe) mid
  safe_at = begins_as trees mid (signs.Word words.Safe) class b at e h

  safe_leads : LeadsTo const_front trees (Either function_front constant_rest) mid
  safe_leads =
      leads_sign const_front (Either function_front constant_rest) trees mid (signs.Word words.Safe) safe_at refl

  pub safe_function : s ≡ true → ReadsKind function_front mid result
      → ReadsAfter (signs.Keyword keywords.Const) const_front trees result
  safe_function is_next f =
      after_kind (signs.Keyword keywords.Const) const_front trees result refl
      (kind_leads const_front function_front trees mid result
      (leads_first const_front function_front constant_rest trees mid safe_leads (sym t ∙ is_next))
      (sign_qualifies trees mid (signs.Word words.Safe) safe_at refl) f)

  pub safe_constant : s ≡ false → ReadsConstant trees mid result
      → ReadsAfter (signs.Keyword keywords.Const) const_front trees result
  safe_constant none f =
      constant_reads trees mid (signs.Word words.Safe) result
      (leads_other const_front function_front constant_rest trees mid safe_leads (sym t ∙ none) refl) safe_at refl f

-- the word `gen` is a name, or it comes before a function
module _ (trees mid : List TokenTree) (class : SignClass) (b s : Bool)
    (result : Result FoundItem (Bor (List TokenTree))) (at : BeginsWith trees class mid)
    (e : b ≡ is (signs.Word words.Gen) class) (h : b ≡ true) (t : s ≡ heads gen_front (classes_in mid)) where
  gen_at : BeginsWith trees (signs.Word words.Gen) mid
  gen_at = begins_as trees mid (signs.Word words.Gen) class b at e h

  gen_leads : LeadsTo const_front trees (Either gen_front constant_rest) mid
  gen_leads =
      leads_sign const_front (Either gen_front constant_rest) trees mid (signs.Word words.Gen) gen_at refl

  pub gen_function : s ≡ true → ReadsKind gen_front mid result
      → ReadsAfter (signs.Keyword keywords.Const) const_front trees result
  gen_function is_next f =
      after_kind (signs.Keyword keywords.Const) const_front trees result refl
      (kind_leads const_front gen_front trees mid result
      (leads_first const_front gen_front constant_rest trees mid gen_leads (sym t ∙ is_next))
      (sign_qualifies trees mid (signs.Word words.Gen) gen_at refl) f)

  pub gen_constant : s ≡ false → ReadsConstant trees mid result
      → ReadsAfter (signs.Keyword keywords.Const) const_front trees result
  gen_constant none f =
      constant_reads trees mid (signs.Word words.Gen) result
      (leads_other const_front gen_front constant_rest trees mid gen_leads (sym t ∙ none) refl) gen_at refl f

-- any other name is that of a constant
name_step : (c : SignClass) → is_new_name c ≡ true → is (signs.Word words.Safe) c ≡ false
    → is (signs.Word words.Gen) c ≡ false
    → step rules (const_front ∷ []) c ≡ Some (Marked Named ∷ One c ∷ [], constant_rest ∷ [])
name_step (signs.Word words.Safe) h s g = absurd (both_ways _ s refl)
name_step (signs.Word words.Gen) h s g = absurd (both_ways _ g refl)
name_step (signs.Word _) h s g = refl
name_step signs.Underscore h s g = refl
name_step (signs.Keyword keywords.Async) h s g = absurd (both_ways _ refl h)
name_step (signs.Keyword _) h s g = absurd (both_ways _ refl h)
name_step _ h s g = absurd (both_ways _ refl h)

pub plain_constant : (trees mid : List TokenTree) (class : SignClass) (s g : Bool)
    (result : Result FoundItem (Bor (List TokenTree))) → BeginsWith trees class mid → is_new_name class ≡ true
    → s ≡ is (signs.Word words.Safe) class → s ≡ false → g ≡ is (signs.Word words.Gen) class → g ≡ false
    → ReadsConstant trees mid result
    → ReadsAfter (signs.Keyword keywords.Const) const_front trees result
plain_constant trees mid class s g result at h s_is no_safe g_is no_gen f =
    constant_reads trees mid class result
    (step_leads const_front constant_rest (Marked Named ∷ One class ∷ []) trees mid class at
    (name_step class h (sym s_is ∙ no_safe) (sym g_is ∙ no_gen)))
    at h f

pub const_async : (trees mid : List TokenTree) (class : SignClass) (b : Bool)
    (result : Result FoundItem (Bor (List TokenTree))) → BeginsWith trees class mid
    → b ≡ is (signs.Keyword keywords.Async) class → b ≡ true → ReadsKind async_front mid result
    → ReadsAfter (signs.Keyword keywords.Const) const_front trees result
const_async trees mid class b result at e h f =
    after_kind (signs.Keyword keywords.Const) const_front trees result refl
    (kind_qualified const_front async_front (signs.Keyword keywords.Async) trees mid result
    (begins_as trees mid (signs.Keyword keywords.Async) class b at e h) refl refl f)

pub const_unsafe : (trees mid : List TokenTree) (class : SignClass) (b : Bool)
    (result : Result FoundItem (Bor (List TokenTree))) → BeginsWith trees class mid
    → b ≡ is (signs.Keyword keywords.Unsafe) class → b ≡ true → ReadsKind function_front mid result
    → ReadsAfter (signs.Keyword keywords.Const) const_front trees result
const_unsafe trees mid class b result at e h f =
    after_kind (signs.Keyword keywords.Const) const_front trees result refl
    (kind_qualified const_front function_front (signs.Keyword keywords.Unsafe) trees mid result
    (begins_as trees mid (signs.Keyword keywords.Unsafe) class b at e h) refl refl f)

pub const_trait : (trees mid : List TokenTree) (class : SignClass) (b : Bool)
    (result : Result FoundItem (Bor (List TokenTree))) → BeginsWith trees class mid
    → b ≡ is (signs.Keyword keywords.Trait) class → b ≡ true
    → ReadsNamed (key keywords.Trait) (rules Trait) mid result
    → ReadsAfter (signs.Keyword keywords.Const) const_front trees result
const_trait trees mid class b result at e h f =
    after_kind (signs.Keyword keywords.Const) const_front trees result refl
    (kind_keyword const_front (rules Trait) (signs.Keyword keywords.Trait) trees mid result
    (begins_as trees mid (signs.Keyword keywords.Trait) class b at e h) refl refl f)

-- any other sign after `const` begins a function, or nothing
function_step : (c : SignClass) → is (signs.Keyword keywords.Async) c ≡ false
    → is (signs.Keyword keywords.Unsafe) c ≡ false → is (signs.Keyword keywords.Trait) c ≡ false
    → is_new_name c ≡ false
    → step rules (const_front ∷ []) c ≡ step rules (function_front ∷ []) c
function_step (signs.Keyword keywords.Async) a u t n = absurd (both_ways _ a refl)
function_step (signs.Keyword keywords.Unsafe) a u t n = absurd (both_ways _ u refl)
function_step (signs.Keyword keywords.Trait) a u t n = absurd (both_ways _ t refl)
function_step (signs.Keyword _) a u t n = refl
function_step (signs.Word words.Auto) a u t n = absurd (both_ways _ n refl)
function_step (signs.Word _) a u t n = absurd (both_ways _ n refl)
function_step signs.Underscore a u t n = absurd (both_ways _ n refl)
function_step _ a u t n = refl

pub const_function : (trees rest : List TokenTree) (class : SignClass) (a u t n : Bool)
    (result : Result FoundItem (Bor (List TokenTree))) → BeginsWith trees class rest
    → a ≡ is (signs.Keyword keywords.Async) class → a ≡ false → u ≡ is (signs.Keyword keywords.Unsafe) class → u ≡ false
    → t ≡ is (signs.Keyword keywords.Trait) class → t ≡ false → n ≡ is_new_name class → n ≡ false
    → ReadsKind function_front trees result
    → ReadsAfter (signs.Keyword keywords.Const) const_front trees result
const_function trees rest class a u t n result at a_is no_async u_is no_unsafe t_is no_trait n_is no_name f =
    after_as (signs.Keyword keywords.Const) const_front function_front trees result
    (same_trees const_front function_front trees rest class at refl refl
    (function_step class (sym a_is ∙ no_async) (sym u_is ∙ no_unsafe) (sym t_is ∙ no_trait) (sym n_is ∙ no_name)))
    (after_kind (signs.Keyword keywords.Const) function_front trees result refl f)

pub const_none : (trees : List TokenTree) → trees ≡ [] → Sticks const_front trees trees
const_none trees e = lacks const_front trees (heads_none const_front trees e) refl

pub ruleset constants = (
  safe_function,
  safe_constant,
  gen_function,
  gen_constant,
  plain_constant,
  const_async,
  const_unsafe,
  const_trait,
  const_function,
  const_none,
)

-- ---- statics

pub static_item : (trees mid rest : List TokenTree) → Finds (perhaps (key keywords.Mut)) trees mid
    → Finds (named_rule kinds.Static) mid rest
    → Finds (rules Static) trees rest
    × ((before : List TokenTree) → BeginsWith before (signs.Keyword keywords.Static) trees
    → IsKindAt before kinds.Static mid rest)
static_item trees mid rest m f = (
  then_finds (perhaps (key keywords.Mut)) (named_rule kinds.Static) trees mid rest m f,
  λ before at.
      keyword_kind (Then (key keywords.Static) (perhaps (key keywords.Mut))) before mid kinds.Static mid rest
      (then_finds (key keywords.Static) (perhaps (key keywords.Mut)) before trees mid
      (sign_finds (is (signs.Keyword keywords.Static)) before trees (signs.Keyword keywords.Static) at refl) m)
      refl refl f,
)

pub static_sticks : (trees mid left : List TokenTree) → Finds (perhaps (key keywords.Mut)) trees mid
    → Sticks (named_rule kinds.Static) mid left
    → Sticks (rules Static) trees left
static_sticks trees mid left m f =
    then_fails (perhaps (key keywords.Mut)) (named_rule kinds.Static) trees mid left m f

pub safe_static : (trees mid : List TokenTree) (class : SignClass) (b : Bool)
    (result : Result FoundItem (Bor (List TokenTree))) → BeginsWith trees class mid
    → b ≡ is (signs.Keyword keywords.Static) class → b ≡ true
    → ReadsAfter (signs.Keyword keywords.Static) (rules Static) mid result
    → ReadsKind safe_front trees result
safe_static trees mid class b result at e h f =
    kind_after safe_front (rules Static) (signs.Keyword keywords.Static) trees mid result
    (begins_as trees mid (signs.Keyword keywords.Static) class b at e h) refl f

pub safe_fn : (trees rest : List TokenTree) (class : SignClass) (b : Bool)
    (result : Result FoundItem (Bor (List TokenTree))) → BeginsWith trees class rest
    → b ≡ is (signs.Keyword keywords.Static) class → b ≡ false → ReadsKind function_front trees result
    → ReadsKind safe_front trees result
safe_fn trees rest class b result at e h f =
    kind_other (To (keyword keywords.Static) Static) function_front trees result
    (heads_sign (To (keyword keywords.Static) Static) trees rest class at ∙ (sym e ∙ h)) refl f

pub safe_none : (trees : List TokenTree) → trees ≡ [] → Sticks safe_front trees trees
safe_none trees e = lacks safe_front trees (heads_none safe_front trees e) refl

pub ruleset statics = (static_item, static_sticks, safe_static, safe_fn, safe_none)
