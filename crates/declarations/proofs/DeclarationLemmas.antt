-- Items after a visibility, read by rules.
use Rattle.std.proofs.Common.{◌≡◌, refl, ◌∙◌, subst, false, List, []}
use Rattle.std.specs.Prelude.{Result}
use Rattle.std.specs.Borrow.{Bor}
use Rattle.grammars.specs.First.{may_begin}
use Rattle.pm_stream.specs.declared.stream.TokenTree.{TokenTree}
use Rattle.declarations.specs.ItemFront.{ReadsAfter, ReadsKind, ReadsNamed}
use Rattle.declarations.specs.Kind.{keyword_rule, named_rule}
use Rattle.declarations.specs.Reader.{Sticks}
use Rattle.declarations.specs.Signs.{BeginsWith}
use Rattle.declarations.specs.declared.any_item.ItemKind.TheVariants as kinds
use Rattle.declarations.specs.declared.item_front.FoundItem.{FoundItem}
use Rattle.item_tables.specs.declared.class.SignClass.{SignClass}
use Rattle.item_tables.specs.declared.class.SignClass.TheVariants as signs
use Rattle.item_tables.specs.declared.class.Keyword.{Keyword}
use Rattle.item_tables.specs.declared.class.Keyword.TheVariants as keywords
use Rattle.item_tables.specs.declared.class.Word.{Word}
use Rattle.item_tables.specs.declared.class.Word.TheVariants as words
use Rattle.declarations.specs.rules.Fronts.{async_front, auto_front, const_front, default_front, extern_front}
use Rattle.declarations.specs.rules.Fronts.{gen_front, safe_front, unsafe_front}
use Rattle.declarations.specs.rules.Items.{declaration}
use Rattle.declarations.specs.rules.Names.{Static, Trait, key}
use Rattle.declarations.specs.rules.Rules.{rules}
use Rattle.declarations.proofs.ItemFrontLemmas.{kind_after, kind_keyword, kind_qualified}
use Rattle.declarations.proofs.ItemKindLemmas.{keyword_at}
use Rattle.declarations.proofs.ReaderLemmas.{heads_none, heads_sign, lacks}

-- what functions return
abbrev Found : Type 0
Found = Result FoundItem (Bor (List TokenTree))

-- ---- keywords

pub item_async : (trees mid : List TokenTree) (k : Keyword) (result : Found) → BeginsWith trees (signs.Keyword k) mid
    → k ≡ keywords.Async → ReadsKind async_front mid result
    → ReadsKind declaration trees result
item_async trees mid k result at e f =
    kind_qualified declaration async_front (signs.Keyword keywords.Async) trees mid result
    (keyword_at trees mid k keywords.Async at e) refl refl f

pub item_const : (trees mid : List TokenTree) (k : Keyword) (result : Found) → BeginsWith trees (signs.Keyword k) mid
    → k ≡ keywords.Const → ReadsAfter (signs.Keyword keywords.Const) const_front mid result
    → ReadsKind declaration trees result
item_const trees mid k result at e f =
    kind_after declaration const_front (signs.Keyword keywords.Const) trees mid result
    (keyword_at trees mid k keywords.Const at e) refl f

pub item_enum : (trees mid : List TokenTree) (k : Keyword) (result : Found) → BeginsWith trees (signs.Keyword k) mid
    → k ≡ keywords.Enum → ReadsNamed (keyword_rule kinds.Enum) (named_rule kinds.Enum) mid result
    → ReadsKind declaration trees result
item_enum trees mid k result at e f =
    kind_keyword declaration (named_rule kinds.Enum) (signs.Keyword keywords.Enum) trees mid result
    (keyword_at trees mid k keywords.Enum at e) refl refl f

pub item_extern : (trees mid : List TokenTree) (k : Keyword) (result : Found) → BeginsWith trees (signs.Keyword k) mid
    → k ≡ keywords.Extern → ReadsAfter (signs.Keyword keywords.Extern) extern_front mid result
    → ReadsKind declaration trees result
item_extern trees mid k result at e f =
    kind_after declaration extern_front (signs.Keyword keywords.Extern) trees mid result
    (keyword_at trees mid k keywords.Extern at e) refl f

pub item_fn : (trees mid : List TokenTree) (k : Keyword) (result : Found) → BeginsWith trees (signs.Keyword k) mid
    → k ≡ keywords.Fn → ReadsNamed (keyword_rule kinds.Function) (named_rule kinds.Function) mid result
    → ReadsKind declaration trees result
item_fn trees mid k result at e f =
    kind_keyword declaration (named_rule kinds.Function) (signs.Keyword keywords.Fn) trees mid result
    (keyword_at trees mid k keywords.Fn at e) refl refl f

pub item_impl : (trees mid : List TokenTree) (k : Keyword) (result : Found) → BeginsWith trees (signs.Keyword k) mid
    → k ≡ keywords.Impl → ReadsNamed (keyword_rule kinds.Impl) (named_rule kinds.Impl) mid result
    → ReadsKind declaration trees result
item_impl trees mid k result at e f =
    kind_keyword declaration (named_rule kinds.Impl) (signs.Keyword keywords.Impl) trees mid result
    (keyword_at trees mid k keywords.Impl at e) refl refl f

pub item_macro : (trees mid : List TokenTree) (k : Keyword) (result : Found) → BeginsWith trees (signs.Keyword k) mid
    → k ≡ keywords.Macro → ReadsNamed (keyword_rule kinds.Macro) (named_rule kinds.Macro) mid result
    → ReadsKind declaration trees result
item_macro trees mid k result at e f =
    kind_keyword declaration (named_rule kinds.Macro) (signs.Keyword keywords.Macro) trees mid result
    (keyword_at trees mid k keywords.Macro at e) refl refl f

pub item_mod : (trees mid : List TokenTree) (k : Keyword) (result : Found) → BeginsWith trees (signs.Keyword k) mid
    → k ≡ keywords.Mod → ReadsNamed (keyword_rule kinds.Module) (named_rule kinds.Module) mid result
    → ReadsKind declaration trees result
item_mod trees mid k result at e f =
    kind_keyword declaration (named_rule kinds.Module) (signs.Keyword keywords.Mod) trees mid result
    (keyword_at trees mid k keywords.Mod at e) refl refl f

pub item_static : (trees mid : List TokenTree) (k : Keyword) (result : Found) → BeginsWith trees (signs.Keyword k) mid
    → k ≡ keywords.Static → ReadsAfter (signs.Keyword keywords.Static) (rules Static) mid result
    → ReadsKind declaration trees result
item_static trees mid k result at e f =
    kind_after declaration (rules Static) (signs.Keyword keywords.Static) trees mid result
    (keyword_at trees mid k keywords.Static at e) refl f

pub item_struct : (trees mid : List TokenTree) (k : Keyword) (result : Found) → BeginsWith trees (signs.Keyword k) mid
    → k ≡ keywords.Struct → ReadsNamed (keyword_rule kinds.Struct) (named_rule kinds.Struct) mid result
    → ReadsKind declaration trees result
item_struct trees mid k result at e f =
    kind_keyword declaration (named_rule kinds.Struct) (signs.Keyword keywords.Struct) trees mid result
    (keyword_at trees mid k keywords.Struct at e) refl refl f

pub item_trait : (trees mid : List TokenTree) (k : Keyword) (result : Found) → BeginsWith trees (signs.Keyword k) mid
    → k ≡ keywords.Trait → ReadsNamed (key keywords.Trait) (rules Trait) mid result
    → ReadsKind declaration trees result
item_trait trees mid k result at e f =
    kind_keyword declaration (rules Trait) (signs.Keyword keywords.Trait) trees mid result
    (keyword_at trees mid k keywords.Trait at e) refl refl f

pub item_type : (trees mid : List TokenTree) (k : Keyword) (result : Found) → BeginsWith trees (signs.Keyword k) mid
    → k ≡ keywords.Type → ReadsNamed (keyword_rule kinds.TypeAlias) (named_rule kinds.TypeAlias) mid result
    → ReadsKind declaration trees result
item_type trees mid k result at e f =
    kind_keyword declaration (named_rule kinds.TypeAlias) (signs.Keyword keywords.Type) trees mid result
    (keyword_at trees mid k keywords.Type at e) refl refl f

pub item_unsafe : (trees mid : List TokenTree) (k : Keyword) (result : Found) → BeginsWith trees (signs.Keyword k) mid
    → k ≡ keywords.Unsafe → ReadsKind unsafe_front mid result
    → ReadsKind declaration trees result
item_unsafe trees mid k result at e f =
    kind_qualified declaration unsafe_front (signs.Keyword keywords.Unsafe) trees mid result
    (keyword_at trees mid k keywords.Unsafe at e) refl refl f

pub item_use : (trees mid : List TokenTree) (k : Keyword) (result : Found) → BeginsWith trees (signs.Keyword k) mid
    → k ≡ keywords.Use → ReadsNamed (keyword_rule kinds.Use) (named_rule kinds.Use) mid result
    → ReadsKind declaration trees result
item_use trees mid k result at e f =
    kind_keyword declaration (named_rule kinds.Use) (signs.Keyword keywords.Use) trees mid result
    (keyword_at trees mid k keywords.Use at e) refl refl f

no_item_keyword : (k : Keyword) → (k ≡ keywords.Async → ⊥) → (k ≡ keywords.Const → ⊥) → (k ≡ keywords.Enum → ⊥)
    → (k ≡ keywords.Extern → ⊥) → (k ≡ keywords.Fn → ⊥) → (k ≡ keywords.Impl → ⊥) → (k ≡ keywords.Macro → ⊥)
    → (k ≡ keywords.Mod → ⊥) → (k ≡ keywords.Static → ⊥) → (k ≡ keywords.Struct → ⊥) → (k ≡ keywords.Trait → ⊥)
    → (k ≡ keywords.Type → ⊥) → (k ≡ keywords.Unsafe → ⊥) → (k ≡ keywords.Use → ⊥)
    → may_begin declaration (signs.Keyword k) ≡ false
no_item_keyword keywords.Async a b c d e f g h i j l m n o = absurd (a refl)
no_item_keyword keywords.Const a b c d e f g h i j l m n o = absurd (b refl)
no_item_keyword keywords.Enum a b c d e f g h i j l m n o = absurd (c refl)
no_item_keyword keywords.Extern a b c d e f g h i j l m n o = absurd (d refl)
no_item_keyword keywords.Fn a b c d e f g h i j l m n o = absurd (e refl)
no_item_keyword keywords.Impl a b c d e f g h i j l m n o = absurd (f refl)
no_item_keyword keywords.Macro a b c d e f g h i j l m n o = absurd (g refl)
no_item_keyword keywords.Mod a b c d e f g h i j l m n o = absurd (h refl)
no_item_keyword keywords.Static a b c d e f g h i j l m n o = absurd (i refl)
no_item_keyword keywords.Struct a b c d e f g h i j l m n o = absurd (j refl)
no_item_keyword keywords.Trait a b c d e f g h i j l m n o = absurd (l refl)
no_item_keyword keywords.Type a b c d e f g h i j l m n o = absurd (m refl)
no_item_keyword keywords.Unsafe a b c d e f g h i j l m n o = absurd (n refl)
no_item_keyword keywords.Use a b c d e f g h i j l m n o = absurd (o refl)
no_item_keyword _ a b c d e f g h i j l m n o = refl

pub no_keyword_item : (trees rest : List TokenTree) (k : Keyword) → BeginsWith trees (signs.Keyword k) rest
    → (k ≡ keywords.Async → ⊥) → (k ≡ keywords.Const → ⊥) → (k ≡ keywords.Enum → ⊥) → (k ≡ keywords.Extern → ⊥)
    → (k ≡ keywords.Fn → ⊥) → (k ≡ keywords.Impl → ⊥) → (k ≡ keywords.Macro → ⊥) → (k ≡ keywords.Mod → ⊥)
    → (k ≡ keywords.Static → ⊥) → (k ≡ keywords.Struct → ⊥) → (k ≡ keywords.Trait → ⊥) → (k ≡ keywords.Type → ⊥)
    → (k ≡ keywords.Unsafe → ⊥) → (k ≡ keywords.Use → ⊥) → Sticks declaration trees trees
no_keyword_item trees rest k at a b c d e f g h i j l m n o =
    lacks declaration trees
    (heads_sign declaration trees rest (signs.Keyword k) at ∙ no_item_keyword k a b c d e f g h i j l m n o) refl

pub ruleset keyword_items = (
  item_async,
  item_const,
  item_enum,
  item_extern,
  item_fn,
  item_impl,
  item_macro,
  item_mod,
  item_static,
  item_struct,
  item_trait,
  item_type,
  item_unsafe,
  item_use,
  no_keyword_item,
)

-- ---- words

word_at : (trees mid : List TokenTree) (w x : Word) → BeginsWith trees (signs.Word w) mid → w ≡ x
    → BeginsWith trees (signs.Word x) mid
word_at trees mid w x at e = subst (λ y. BeginsWith trees (signs.Word y) mid) e at

pub word_auto : (trees mid : List TokenTree) (w : Word) (result : Found) → BeginsWith trees (signs.Word w) mid
    → w ≡ words.Auto → ReadsKind auto_front mid result
    → ReadsKind declaration trees result
word_auto trees mid w result at e f =
    kind_qualified declaration auto_front (signs.Word words.Auto) trees mid result (word_at trees mid w words.Auto at e)
    refl refl f

pub word_default : (trees mid : List TokenTree) (w : Word) (result : Found) → BeginsWith trees (signs.Word w) mid
    → w ≡ words.Default → ReadsKind default_front mid result
    → ReadsKind declaration trees result
word_default trees mid w result at e f =
    kind_qualified declaration default_front (signs.Word words.Default) trees mid result
    (word_at trees mid w words.Default at e) refl refl f

pub word_gen : (trees mid : List TokenTree) (w : Word) (result : Found) → BeginsWith trees (signs.Word w) mid
    → w ≡ words.Gen → ReadsKind gen_front mid result
    → ReadsKind declaration trees result
word_gen trees mid w result at e f =
    kind_qualified declaration gen_front (signs.Word words.Gen) trees mid result (word_at trees mid w words.Gen at e)
    refl refl f

pub word_safe : (trees mid : List TokenTree) (w : Word) (result : Found) → BeginsWith trees (signs.Word w) mid
    → w ≡ words.Safe → ReadsKind safe_front mid result
    → ReadsKind declaration trees result
word_safe trees mid w result at e f =
    kind_qualified declaration safe_front (signs.Word words.Safe) trees mid result (word_at trees mid w words.Safe at e)
    refl refl f

pub word_union : (trees mid : List TokenTree) (w : Word) (result : Found) → BeginsWith trees (signs.Word w) mid
    → w ≡ words.Union → ReadsNamed (keyword_rule kinds.Union) (named_rule kinds.Union) mid result
    → ReadsKind declaration trees result
word_union trees mid w result at e f =
    kind_keyword declaration (named_rule kinds.Union) (signs.Word words.Union) trees mid result
    (word_at trees mid w words.Union at e) refl refl f

pub word_plain : (trees rest : List TokenTree) (w : Word) → BeginsWith trees (signs.Word w) rest → w ≡ words.Plain
    → Sticks declaration trees trees
word_plain trees rest w at e =
    lacks declaration trees
    (heads_sign declaration trees rest (signs.Word words.Plain) (word_at trees rest w words.Plain at e)) refl

pub ruleset word_items = (word_auto, word_default, word_gen, word_safe, word_union, word_plain)

-- ---- other signs

no_declaration : (c : SignClass) → ((k : Keyword) → c ≡ signs.Keyword k → ⊥) → ((w : Word) → c ≡ signs.Word w → ⊥)
    → may_begin declaration c ≡ false
no_declaration (signs.Keyword k) n m = absurd (n k refl)
no_declaration (signs.Word w) n m = absurd (m w refl)
no_declaration _ n m = refl

pub declaration_not : (trees rest : List TokenTree) (class : SignClass) → BeginsWith trees class rest
    → ((k : Keyword) → class ≡ signs.Keyword k → ⊥) → ((w : Word) → class ≡ signs.Word w → ⊥)
    → Sticks declaration trees trees
declaration_not trees rest class at n m =
    lacks declaration trees (heads_sign declaration trees rest class at ∙ no_declaration class n m) refl

pub declaration_none : (trees : List TokenTree) → trees ≡ [] → Sticks declaration trees trees
declaration_none trees e = lacks declaration trees (heads_none declaration trees e) refl

pub ruleset declarations = (declaration_not, declaration_none)
