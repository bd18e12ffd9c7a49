-- Items of any kind after a visibility, read by rules.
use Rattle.std.proofs.Common.{◌≡◌, refl, sym, ◌∙◌, ap, subst, Bool, true, false, List, [], ◌∷◌}
use Rattle.std.proofs.lemmas.Bool.{both_ways}
use Rattle.std.specs.Prelude.{Result}
use Rattle.std.specs.Borrow.{Bor}
use Rattle.grammars.specs.Find.{Found as Spotted, Past, Stuck, and_then, find, front}
use Rattle.grammars.specs.First.{heads, may_begin}
use Rattle.grammars.specs.Grammar.{Either, Nothing, Then, To, perhaps}
use Rattle.grammars.specs.Machine.{step}
use Rattle.grammars.proofs.WordLemmas.{find_first, find_other, find_skips, find_then}
use Rattle.pm_stream.specs.declared.stream.TokenTree.{TokenTree}
use Rattle.declarations.specs.ItemFront.{ReadsAfter, ReadsKind, ReadsNamed}
use Rattle.declarations.specs.ItemRest.{fn_item}
use Rattle.declarations.specs.Kind.{AreQualifiers, keyword_rule, named_rule}
use Rattle.declarations.specs.Parameter.{LeadsTo}
use Rattle.declarations.specs.Reader.{Finds, Sticks, classes_in}
use Rattle.declarations.specs.Signs.{BeginsWith}
use Rattle.declarations.specs.declared.any_item.ItemKind.TheVariants as kinds
use Rattle.declarations.specs.declared.item_front.FoundItem.{FoundItem}
use Rattle.item_tables.specs.Classes.{is, keyword}
use Rattle.item_tables.specs.declared.class.SignClass.{SignClass}
use Rattle.item_tables.specs.declared.class.SignClass.TheVariants as signs
use Rattle.item_tables.specs.declared.class.Keyword.{Keyword}
use Rattle.item_tables.specs.declared.class.Keyword.TheVariants as keywords
use Rattle.item_tables.specs.declared.class.Word.TheVariants as words
use Rattle.declarations.specs.rules.Bodies.{braces}
use Rattle.declarations.specs.rules.Fronts.{async_front, auto_front, const_front, default_front, default_unsafe}
use Rattle.declarations.specs.rules.Fronts.{extern_front, extern_rest, function_front, gen_front}
use Rattle.declarations.specs.rules.Fronts.{unsafe_extern, unsafe_front}
use Rattle.declarations.specs.rules.Names.{G, Impl, Label, Static, Trait, key, one}
use Rattle.declarations.specs.rules.Rules.{rules}
use Rattle.declarations.proofs.ItemFrontLemmas.{after_as, after_kind, after_named, begins_as, kind_after, kind_as}
use Rattle.declarations.proofs.ItemFrontLemmas.{kind_keyword, kind_leads, kind_other, kind_qualified, leads_first}
use Rattle.declarations.proofs.ItemFrontLemmas.{leads_other, same_trees}
use Rattle.declarations.proofs.ParameterLemmas.{finds_leads, leads_sign}
use Rattle.declarations.proofs.ReaderLemmas.{heads_none, heads_sign, lacks, sign_finds, then_finds}
use Rattle.declarations.proofs.TreeLemmas.{or_nothing}

-- what functions return
abbrev Found : Type 0
Found = Result FoundItem (Bor (List TokenTree))

-- ---- `extern`

-- a literal that may be left out
abbrev literal : G
literal = one signs.Literal

front_none : (f : Spotted SignClass Label) → f ≡ front [] f
front_none (Past e r) = refl
front_none (Stuck l) = refl

-- both ways to write a literal that may be left out find the same
literal_same : (g : G) (cs : List SignClass)
    → find rules (Either (Then literal g) g) cs ≡ find rules (Then (perhaps literal) g) cs
literal_same g cs = go (heads literal cs) refl
  where
    heads_same : (cs : List SignClass) → heads (Then literal g) cs ≡ heads literal cs
    heads_same [] = refl
    heads_same (c ∷ cs) = or_nothing (is signs.Literal c) false

    may_same : (cs : List SignClass) → heads (perhaps literal) cs ≡ heads literal cs
    may_same [] = refl
    may_same (c ∷ cs) = or_nothing (is signs.Literal c) false

    go : (b : Bool) → heads literal cs ≡ b
        → find rules (Either (Then literal g) g) cs ≡ find rules (Then (perhaps literal) g) cs
    go true h =
        find_first rules (Then literal g) g cs (heads_same cs ∙ h)
        ∙ (find_then rules literal g cs
        ∙ (ap (λ x. and_then x (find rules g)) (sym (find_first rules literal Nothing cs h))
        ∙ sym (find_then rules (perhaps literal) g cs)))
    go false h =
        find_other rules (Then literal g) g cs (heads_same cs ∙ h) refl
        ∙ (front_none (find rules g cs)
        ∙ (ap (λ x. and_then x (find rules g)) (sym (find_skips rules (perhaps literal) cs (may_same cs ∙ h) refl))
        ∙ sym (find_then rules (perhaps literal) g cs)))

extern_leads : (trees mid : List TokenTree) → Finds (perhaps literal) trees mid
    → LeadsTo unsafe_extern trees extern_rest mid
extern_leads trees mid f =
    let l = finds_leads (perhaps literal) extern_rest trees mid f in record {
      events = l.events;
      found = literal_same extern_rest (classes_in trees) ∙ l.found;
      remains = l.remains;
    }

braces_heads : (cs : List SignClass) → heads braces cs ≡ heads (one signs.Braces) cs
braces_heads [] = refl
braces_heads (c ∷ cs) = refl

-- braces or `fn` come after `extern` and its literal
module _ (trees mid : List TokenTree) (b : Bool) (result : Found) (f : Finds (perhaps literal) trees mid)
    (e : b ≡ heads (one signs.Braces) (classes_in mid)) where
  pub block_reads : b ≡ true → ReadsNamed (keyword_rule kinds.ExternBlock) braces mid result
      → ReadsAfter (signs.Keyword keywords.Extern) unsafe_extern trees result
  block_reads h r =
      after_named (signs.Keyword keywords.Extern) unsafe_extern braces (keyword_rule kinds.ExternBlock) trees mid result
      (leads_first unsafe_extern braces fn_item trees mid (extern_leads trees mid f)
      (braces_heads (classes_in mid) ∙ (sym e ∙ h)))
      (λ before at.
      then_finds (key keywords.Extern) (perhaps literal) before trees mid
      (sign_finds (is (signs.Keyword keywords.Extern)) before trees (signs.Keyword keywords.Extern) at refl) f)
      r

  pub block_or_fn : b ≡ false → AreQualifiers trees mid → ReadsKind fn_item mid result
      → ReadsAfter (signs.Keyword keywords.Extern) unsafe_extern trees result
  block_or_fn h q r =
      after_kind (signs.Keyword keywords.Extern) unsafe_extern trees result refl
      (kind_leads unsafe_extern fn_item trees mid result
      (leads_other unsafe_extern braces fn_item trees mid (extern_leads trees mid f)
      (braces_heads (classes_in mid) ∙ (sym e ∙ h)) refl)
      q r)

pub crate_reads : (trees mid : List TokenTree) (class : SignClass) (b : Bool) (result : Found)
    → BeginsWith trees class mid → b ≡ is signs.Crate class → b ≡ true
    → ReadsNamed (keyword_rule kinds.ExternCrate) (named_rule kinds.ExternCrate) mid result
    → ReadsAfter (signs.Keyword keywords.Extern) extern_front trees result
crate_reads trees mid class b result at e h f =
    let here = begins_as trees mid signs.Crate class b at e h in
    after_named (signs.Keyword keywords.Extern) extern_front (named_rule kinds.ExternCrate)
    (keyword_rule kinds.ExternCrate) trees mid result
    (leads_sign extern_front (named_rule kinds.ExternCrate) trees mid signs.Crate here refl)
    (λ before first.
    then_finds (key keywords.Extern) (one signs.Crate) before trees mid
    (sign_finds (is (signs.Keyword keywords.Extern)) before trees (signs.Keyword keywords.Extern) first refl)
    (sign_finds (is signs.Crate) trees mid signs.Crate here refl))
    f

pub crate_or_extern : (trees rest : List TokenTree) (class : SignClass) (b : Bool) (result : Found)
    → BeginsWith trees class rest → b ≡ is signs.Crate class → b ≡ false
    → ReadsAfter (signs.Keyword keywords.Extern) unsafe_extern trees result
    → ReadsAfter (signs.Keyword keywords.Extern) extern_front trees result
crate_or_extern trees rest class b result at e h f =
    let differs : is signs.Crate class ≡ false = sym e ∙ h in
    after_as (signs.Keyword keywords.Extern) extern_front unsafe_extern trees result
    (find_other rules (Then (one signs.Crate) (named_rule kinds.ExternCrate)) unsafe_extern (classes_in trees)
    (heads_sign (Then (one signs.Crate) (named_rule kinds.ExternCrate)) trees rest class at ∙ rw differs refl) refl)
    f

pub extern_none : (trees : List TokenTree) → trees ≡ [] → Sticks extern_front trees trees
extern_none trees e = lacks extern_front trees (heads_none extern_front trees e) refl

pub ruleset externs = (block_reads, block_or_fn, crate_reads, crate_or_extern, extern_none)

-- ---- after a keyword

-- a keyword that begins an item
pub keyword_at : (trees mid : List TokenTree) (k : Keyword) (x : Keyword) → BeginsWith trees (signs.Keyword k) mid
    → k ≡ x
    → BeginsWith trees (signs.Keyword x) mid
keyword_at trees mid k x at e = subst (λ y. BeginsWith trees (signs.Keyword y) mid) e at

-- ---- `unsafe`

pub unsafe_extern_item : (trees mid : List TokenTree) (k : Keyword) (result : Found)
    → BeginsWith trees (signs.Keyword k) mid → k ≡ keywords.Extern
    → ReadsAfter (signs.Keyword keywords.Extern) unsafe_extern mid result
    → ReadsKind unsafe_front trees result
unsafe_extern_item trees mid k result at e f =
    kind_after unsafe_front unsafe_extern (signs.Keyword keywords.Extern) trees mid result
    (keyword_at trees mid k keywords.Extern at e) refl f

pub unsafe_fn : (trees mid : List TokenTree) (k : Keyword) (result : Found) → BeginsWith trees (signs.Keyword k) mid
    → k ≡ keywords.Fn → ReadsNamed (keyword_rule kinds.Function) (named_rule kinds.Function) mid result
    → ReadsKind unsafe_front trees result
unsafe_fn trees mid k result at e f =
    kind_keyword unsafe_front (named_rule kinds.Function) (signs.Keyword keywords.Fn) trees mid result
    (keyword_at trees mid k keywords.Fn at e) refl refl f

pub unsafe_impl : (trees mid : List TokenTree) (k : Keyword) (result : Found) → BeginsWith trees (signs.Keyword k) mid
    → k ≡ keywords.Impl → ReadsNamed (keyword_rule kinds.Impl) (named_rule kinds.Impl) mid result
    → ReadsKind unsafe_front trees result
unsafe_impl trees mid k result at e f =
    kind_keyword unsafe_front (named_rule kinds.Impl) (signs.Keyword keywords.Impl) trees mid result
    (keyword_at trees mid k keywords.Impl at e) refl refl f

pub unsafe_mod : (trees mid : List TokenTree) (k : Keyword) (result : Found) → BeginsWith trees (signs.Keyword k) mid
    → k ≡ keywords.Mod → ReadsNamed (keyword_rule kinds.Module) (named_rule kinds.Module) mid result
    → ReadsKind unsafe_front trees result
unsafe_mod trees mid k result at e f =
    kind_keyword unsafe_front (named_rule kinds.Module) (signs.Keyword keywords.Mod) trees mid result
    (keyword_at trees mid k keywords.Mod at e) refl refl f

pub unsafe_static : (trees mid : List TokenTree) (k : Keyword) (result : Found) → BeginsWith trees (signs.Keyword k) mid
    → k ≡ keywords.Static → ReadsAfter (signs.Keyword keywords.Static) (rules Static) mid result
    → ReadsKind unsafe_front trees result
unsafe_static trees mid k result at e f =
    kind_after unsafe_front (rules Static) (signs.Keyword keywords.Static) trees mid result
    (keyword_at trees mid k keywords.Static at e) refl f

pub unsafe_trait : (trees mid : List TokenTree) (k : Keyword) (result : Found) → BeginsWith trees (signs.Keyword k) mid
    → k ≡ keywords.Trait → ReadsNamed (key keywords.Trait) (rules Trait) mid result
    → ReadsKind unsafe_front trees result
unsafe_trait trees mid k result at e f =
    kind_keyword unsafe_front (rules Trait) (signs.Keyword keywords.Trait) trees mid result
    (keyword_at trees mid k keywords.Trait at e) refl refl f

no_unsafe_keyword : (k : Keyword) → (k ≡ keywords.Extern → ⊥) → (k ≡ keywords.Fn → ⊥) → (k ≡ keywords.Impl → ⊥)
    → (k ≡ keywords.Mod → ⊥) → (k ≡ keywords.Static → ⊥) → (k ≡ keywords.Trait → ⊥)
    → may_begin unsafe_front (signs.Keyword k) ≡ false
no_unsafe_keyword keywords.Extern a b c d e f = absurd (a refl)
no_unsafe_keyword keywords.Fn a b c d e f = absurd (b refl)
no_unsafe_keyword keywords.Impl a b c d e f = absurd (c refl)
no_unsafe_keyword keywords.Mod a b c d e f = absurd (d refl)
no_unsafe_keyword keywords.Static a b c d e f = absurd (e refl)
no_unsafe_keyword keywords.Trait a b c d e f = absurd (f refl)
no_unsafe_keyword _ a b c d e f = refl

pub no_unsafe_item : (trees rest : List TokenTree) (k : Keyword) → BeginsWith trees (signs.Keyword k) rest
    → (k ≡ keywords.Extern → ⊥) → (k ≡ keywords.Fn → ⊥) → (k ≡ keywords.Impl → ⊥) → (k ≡ keywords.Mod → ⊥)
    → (k ≡ keywords.Static → ⊥) → (k ≡ keywords.Trait → ⊥) → Sticks unsafe_front trees trees
no_unsafe_item trees rest k at a b c d e f =
    lacks unsafe_front trees
    (heads_sign unsafe_front trees rest (signs.Keyword k) at ∙ no_unsafe_keyword k a b c d e f) refl

pub unsafe_auto : (trees mid : List TokenTree) (class : SignClass) (b : Bool) (result : Found)
    → BeginsWith trees class mid → b ≡ is (signs.Word words.Auto) class → b ≡ true → ReadsKind auto_front mid result
    → ReadsKind unsafe_front trees result
unsafe_auto trees mid class b result at e h f =
    kind_qualified unsafe_front auto_front (signs.Word words.Auto) trees mid result
    (begins_as trees mid (signs.Word words.Auto) class b at e h) refl refl f

no_unsafe : (c : SignClass) → ((k : Keyword) → c ≡ signs.Keyword k → ⊥) → is (signs.Word words.Auto) c ≡ false
    → may_begin unsafe_front c ≡ false
no_unsafe (signs.Keyword k) n a = absurd (n k refl)
no_unsafe (signs.Word words.Auto) n a = absurd (both_ways _ a refl)
no_unsafe (signs.Word _) n a = refl
no_unsafe _ n a = refl

pub unsafe_not : (trees rest : List TokenTree) (class : SignClass) (b : Bool) → BeginsWith trees class rest
    → ((k : Keyword) → class ≡ signs.Keyword k → ⊥) → b ≡ is (signs.Word words.Auto) class → b ≡ false
    → Sticks unsafe_front trees trees
unsafe_not trees rest class b at n e h =
    lacks unsafe_front trees (heads_sign unsafe_front trees rest class at ∙ no_unsafe class n (sym e ∙ h)) refl

pub unsafe_none : (trees : List TokenTree) → trees ≡ [] → Sticks unsafe_front trees trees
unsafe_none trees e = lacks unsafe_front trees (heads_none unsafe_front trees e) refl

pub ruleset unsafes = (
  unsafe_extern_item,
  unsafe_fn,
  unsafe_impl,
  unsafe_mod,
  unsafe_static,
  unsafe_trait,
  no_unsafe_item,
  unsafe_auto,
  unsafe_not,
  unsafe_none,
)

-- ---- `default`

pub default_unsafe_impl : (trees mid : List TokenTree) (class : SignClass) (b : Bool) (result : Found)
    → BeginsWith trees class mid → b ≡ is (signs.Keyword keywords.Impl) class → b ≡ true
    → ReadsNamed (keyword_rule kinds.Impl) (named_rule kinds.Impl) mid result
    → ReadsKind default_unsafe trees result
default_unsafe_impl trees mid class b result at e h f =
    kind_keyword default_unsafe (named_rule kinds.Impl) (signs.Keyword keywords.Impl) trees mid result
    (begins_as trees mid (signs.Keyword keywords.Impl) class b at e h) refl refl f

pub default_unsafe_fn : (trees rest : List TokenTree) (class : SignClass) (b : Bool) (result : Found)
    → BeginsWith trees class rest → b ≡ is (signs.Keyword keywords.Impl) class → b ≡ false
    → ReadsKind function_front trees result
    → ReadsKind default_unsafe trees result
default_unsafe_fn trees rest class b result at e h f =
    kind_other (To (keyword keywords.Impl) Impl) function_front trees result
    (heads_sign (To (keyword keywords.Impl) Impl) trees rest class at ∙ (sym e ∙ h)) refl f

pub default_unsafe_none : (trees : List TokenTree) → trees ≡ [] → Sticks default_unsafe trees trees
default_unsafe_none trees e = lacks default_unsafe trees (heads_none default_unsafe trees e) refl

pub default_async : (trees mid : List TokenTree) (k : Keyword) (result : Found) → BeginsWith trees (signs.Keyword k) mid
    → k ≡ keywords.Async → ReadsKind async_front mid result
    → ReadsKind default_front trees result
default_async trees mid k result at e f =
    kind_qualified default_front async_front (signs.Keyword keywords.Async) trees mid result
    (keyword_at trees mid k keywords.Async at e) refl refl f

pub default_const : (trees mid : List TokenTree) (k : Keyword) (result : Found) → BeginsWith trees (signs.Keyword k) mid
    → k ≡ keywords.Const → ReadsAfter (signs.Keyword keywords.Const) const_front mid result
    → ReadsKind default_front trees result
default_const trees mid k result at e f =
    kind_after default_front const_front (signs.Keyword keywords.Const) trees mid result
    (keyword_at trees mid k keywords.Const at e) refl f

pub default_impl : (trees mid : List TokenTree) (k : Keyword) (result : Found) → BeginsWith trees (signs.Keyword k) mid
    → k ≡ keywords.Impl → ReadsNamed (keyword_rule kinds.Impl) (named_rule kinds.Impl) mid result
    → ReadsKind default_front trees result
default_impl trees mid k result at e f =
    kind_keyword default_front (named_rule kinds.Impl) (signs.Keyword keywords.Impl) trees mid result
    (keyword_at trees mid k keywords.Impl at e) refl refl f

pub default_type : (trees mid : List TokenTree) (k : Keyword) (result : Found) → BeginsWith trees (signs.Keyword k) mid
    → k ≡ keywords.Type → ReadsNamed (keyword_rule kinds.TypeAlias) (named_rule kinds.TypeAlias) mid result
    → ReadsKind default_front trees result
default_type trees mid k result at e f =
    kind_keyword default_front (named_rule kinds.TypeAlias) (signs.Keyword keywords.Type) trees mid result
    (keyword_at trees mid k keywords.Type at e) refl refl f

pub default_unsafe_item : (trees mid : List TokenTree) (k : Keyword) (result : Found)
    → BeginsWith trees (signs.Keyword k) mid → k ≡ keywords.Unsafe → ReadsKind default_unsafe mid result
    → ReadsKind default_front trees result
default_unsafe_item trees mid k result at e f =
    kind_qualified default_front default_unsafe (signs.Keyword keywords.Unsafe) trees mid result
    (keyword_at trees mid k keywords.Unsafe at e) refl refl f

default_step : (k : Keyword) → (k ≡ keywords.Async → ⊥) → (k ≡ keywords.Const → ⊥) → (k ≡ keywords.Impl → ⊥)
    → (k ≡ keywords.Type → ⊥) → (k ≡ keywords.Unsafe → ⊥)
    → step rules (default_front ∷ []) (signs.Keyword k) ≡ step rules (function_front ∷ []) (signs.Keyword k)
default_step keywords.Async a b c d e = absurd (a refl)
default_step keywords.Const a b c d e = absurd (b refl)
default_step keywords.Impl a b c d e = absurd (c refl)
default_step keywords.Type a b c d e = absurd (d refl)
default_step keywords.Unsafe a b c d e = absurd (e refl)
default_step _ a b c d e = refl

pub default_fn : (trees rest : List TokenTree) (k : Keyword) (result : Found)
    → BeginsWith trees (signs.Keyword k) rest → (k ≡ keywords.Async → ⊥) → (k ≡ keywords.Const → ⊥)
    → (k ≡ keywords.Impl → ⊥) → (k ≡ keywords.Type → ⊥) → (k ≡ keywords.Unsafe → ⊥)
    → ReadsKind function_front trees result → ReadsKind default_front trees result
default_fn trees rest k result at a b c d e r =
    kind_as default_front function_front trees result
    (same_trees default_front function_front trees rest (signs.Keyword k) at refl refl (default_step k a b c d e)) r

pub default_gen : (trees mid : List TokenTree) (class : SignClass) (b : Bool) (result : Found)
    → BeginsWith trees class mid → b ≡ is (signs.Word words.Gen) class → b ≡ true → ReadsKind gen_front mid result
    → ReadsKind default_front trees result
default_gen trees mid class b result at e h f =
    kind_qualified default_front gen_front (signs.Word words.Gen) trees mid result
    (begins_as trees mid (signs.Word words.Gen) class b at e h) refl refl f

pub default_safe : (trees mid : List TokenTree) (class : SignClass) (b : Bool) (result : Found)
    → BeginsWith trees class mid → b ≡ is (signs.Word words.Safe) class → b ≡ true
    → ReadsKind function_front mid result
    → ReadsKind default_front trees result
default_safe trees mid class b result at e h f =
    kind_qualified default_front function_front (signs.Word words.Safe) trees mid result
    (begins_as trees mid (signs.Word words.Safe) class b at e h) refl refl f

no_default : (c : SignClass) → ((k : Keyword) → c ≡ signs.Keyword k → ⊥) → is (signs.Word words.Gen) c ≡ false
    → is (signs.Word words.Safe) c ≡ false
    → may_begin default_front c ≡ false
no_default (signs.Keyword k) n a b = absurd (n k refl)
no_default (signs.Word words.Gen) n a b = absurd (both_ways _ a refl)
no_default (signs.Word words.Safe) n a b = absurd (both_ways _ b refl)
no_default (signs.Word _) n a b = refl
no_default _ n a b = refl

pub default_not : (trees rest : List TokenTree) (class : SignClass) (g s : Bool) → BeginsWith trees class rest
    → ((k : Keyword) → class ≡ signs.Keyword k → ⊥) → g ≡ is (signs.Word words.Gen) class → g ≡ false
    → s ≡ is (signs.Word words.Safe) class → s ≡ false
    → Sticks default_front trees trees
default_not trees rest class g s at n g_is no_gen s_is no_safe =
    lacks default_front trees
    (heads_sign default_front trees rest class at ∙ no_default class n (sym g_is ∙ no_gen) (sym s_is ∙ no_safe)) refl

pub default_none : (trees : List TokenTree) → trees ≡ [] → Sticks default_front trees trees
default_none trees e = lacks default_front trees (heads_none default_front trees e) refl

pub ruleset defaults = (
  default_unsafe_impl,
  default_unsafe_fn,
  default_unsafe_none,
  default_async,
  default_const,
  default_impl,
  default_type,
  default_unsafe_item,
  default_fn,
  default_gen,
  default_safe,
  default_not,
  default_none,
)
