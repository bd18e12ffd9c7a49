-- Items of any kind, from their attributes on.
use Rattle.std.proofs.Common.{◌≡◌, refl, sym, ◌∙◌, ap, ℕ, ◌-◌, Bool, true, false, ◌||◌, List, [], ◌∷◌, ◌++◌, length}
use Rattle.std.proofs.Common.{Option, arith, ◌≤◌}
use Rattle.std.specs.Prelude.{Result, Ok, Err}
use Rattle.std.specs.Borrow.{Bor}
use Rattle.grammars.specs.Deterministic.{IsStart}
use Rattle.grammars.specs.Find.{Past, Stuck}
use Rattle.grammars.specs.First.{heads, may_begin}
use Rattle.grammars.specs.Grammar.{Mark, Nothing, Then}
use Rattle.grammars.specs.Tests.{is_deterministic, is_productive}
use Rattle.grammars.proofs.WordLemmas.{find_lacks}
use Rattle.pm_span.specs.Extent.{Extent}
use Rattle.pm_token.specs.Leaf.{Name as Written}
use Rattle.pm_stream.specs.declared.stream.TokenTree.{TokenTree}
use Rattle.declarations.specs.Expected.{Expects}
use Rattle.declarations.specs.Explore.{ExpectsWhole}
use Rattle.declarations.specs.Fault.{extent_at, first_extent}
use Rattle.declarations.specs.Forms.{IsAnyItem}
use Rattle.declarations.specs.ItemFront.{IsKindAt, ReadsAny, ReadsItem, ReadsKind}
use Rattle.declarations.specs.Kind.{HasKind, ReadsUpTo, keyword_rule, name_at, named_rule}
use Rattle.declarations.specs.Reader.{Finds, Sticks, classes_in}
use Rattle.declarations.specs.Reading.{FaultAt, IsOnly, Reads}
use Rattle.declarations.specs.Signs.{BeginsWith, trees_of}
use Rattle.declarations.specs.Whole.{IsWhole, ReadsAll}
use Rattle.declarations.specs.declared.any_item.ItemKind.{ItemKind}
use Rattle.declarations.specs.declared.any_item.ItemKind.TheVariants as kinds
use Rattle.declarations.specs.declared.expected.Expected.{Expected}
use Rattle.declarations.specs.declared.item_front.FoundItem.{FoundItem}
use Rattle.item_tables.specs.Classes.{any, every, is}
use Rattle.item_tables.specs.declared.class.SignClass.{SignClass}
use Rattle.item_tables.specs.declared.class.SignClass.TheVariants as classes
use Rattle.item_tables.specs.declared.class.Keyword.TheVariants as keywords
use Rattle.declarations.specs.rules.Items.{any_item, any_rest, declaration, private_item}
use Rattle.declarations.specs.rules.Names.{Alias, Enum, Front, Function, G, Impl, Module, Struct, Union, Use, Visible}
use Rattle.declarations.specs.rules.Names.{key, one}
use Rattle.declarations.specs.rules.Parts.{attributes, restriction, visibility, visible}
use Rattle.declarations.specs.rules.Rules.{follows, rules}
use Rattle.declarations.proofs.ReaderLemmas.{first_finds, first_sticks, heads_none, heads_sign, mark_finds, mark_sticks}
use Rattle.declarations.proofs.ReaderLemmas.{other_finds, other_sticks, perhaps_stays, remains_span, remains_within}
use Rattle.declarations.proofs.ReaderLemmas.{sign_finds}
use Rattle.declarations.proofs.ReaderLemmas.{then_fails, then_finds, then_sticks}
use Rattle.declarations.proofs.RuleExpectsLemmas.{left_expects, stuck_expects}
use Rattle.declarations.proofs.RuleLemmas.{rule_starts, starts}
use Rattle.declarations.proofs.TreeLemmas.{or_nothing}
use Rattle.declarations.proofs.StartLemmas as begin
use Rattle.declarations.proofs.RuleWholeLemmas.{whole_read}
use Rattle.declarations.proofs.RuleFaultLemmas.{rule_fault, rule_left, rule_stuck}
use Rattle.declarations.proofs.RuleFormLemmas.{found_only, found_reads}

-- what functions return
abbrev Found : Type 0
Found = Result FoundItem (Bor (List TokenTree))

-- ---- visibilities

-- `pub` and perhaps a restriction
abbrev public_rule : G
public_rule = Then (key keywords.Pub) restriction

public_first : (c : SignClass) → may_begin public_rule c ≡ is (classes.Keyword keywords.Pub) c
public_first c = or_nothing (is (classes.Keyword keywords.Pub) c) false

pub visible_public : (trees mid rest : List TokenTree) (class : SignClass) (b : Bool) → BeginsWith trees class mid
    → b ≡ is (classes.Keyword keywords.Pub) class → b ≡ true → Finds restriction mid rest
    → Finds visible trees rest
visible_public trees mid rest class b at e h f =
    let here : is (classes.Keyword keywords.Pub) class ≡ true = sym e ∙ h in
    first_finds public_rule (one classes.Visibility) trees rest
    (heads_sign public_rule trees mid class at ∙ (public_first class ∙ here))
    (then_finds (key keywords.Pub) restriction trees mid rest
    (sign_finds (is (classes.Keyword keywords.Pub)) trees mid class at here) f)

pub visible_group : (trees rest : List TokenTree) (class : SignClass) (p b : Bool) → BeginsWith trees class rest
    → p ≡ is (classes.Keyword keywords.Pub) class → p ≡ false → b ≡ is classes.Visibility class → b ≡ true
    → Finds visible trees rest
visible_group trees rest class p b at p_is none e h =
    other_finds public_rule (one classes.Visibility) trees rest
    (heads_sign public_rule trees rest class at ∙ (public_first class ∙ (sym p_is ∙ none))) refl
    (sign_finds (is classes.Visibility) trees rest class at (sym e ∙ h))

visible_first : (c : SignClass)
    → may_begin visible c ≡ (is (classes.Keyword keywords.Pub) c || is classes.Visibility c)
visible_first c = ap (λ x. x || is classes.Visibility c) (public_first c)

pub not_visible : (trees rest : List TokenTree) (class : SignClass) (p b : Bool) → BeginsWith trees class rest
    → p ≡ is (classes.Keyword keywords.Pub) class → p ≡ false → b ≡ is classes.Visibility class → b ≡ false
    → heads visible (classes_in trees) ≡ false
not_visible trees rest class p b at p_is no_public b_is no_group =
    heads_sign visible trees rest class at
    ∙ (visible_first class
    ∙ (ap (λ x. x || is classes.Visibility class) (sym p_is ∙ no_public) ∙ (sym b_is ∙ no_group)))

pub visible_none : (trees : List TokenTree) → trees ≡ [] → heads visible (classes_in trees) ≡ false
visible_none trees e = heads_none visible trees e

pub ruleset visibles = (visible_public, visible_group, not_visible, visible_none)

-- ---- after the attributes

-- a visibility and what follows it
abbrev front_declaration : G
front_declaration = Then (Mark Front) declaration

abbrev shown : G
shown = Then (Mark Visible) (Then visible front_declaration)

shown_heads : (cs : List SignClass) → heads shown cs ≡ heads visible cs
shown_heads [] = refl
shown_heads (c ∷ cs) = or_nothing (may_begin visible c) false

marked_heads : (cs : List SignClass) → heads (Then (Mark Visible) visible) cs ≡ heads visible cs
marked_heads [] = refl
marked_heads (c ∷ cs) = refl

visible_heads : (trees rest : List TokenTree) → Finds visible trees rest → heads visible (classes_in trees) ≡ true
visible_heads trees rest f = go (heads visible (classes_in trees)) refl
  where
    go : (b : Bool) → heads visible (classes_in trees) ≡ b → b ≡ true
    go true h = refl
    go false h =
        let both : Past f.events (classes_in rest) ≡ Stuck (classes_in trees) =
        sym f.found ∙ find_lacks rules visible (classes_in trees) h refl in
        absurd cc

pub shown_item : (trees mid : List TokenTree) (result : Found) → Finds visible trees mid
    → ReadsKind declaration mid result
    → ReadsItem any_rest trees result
shown_item trees mid (Ok found) v f =
    let begins = visible_heads trees mid v in (
      first_finds shown (Then (Mark Front) private_item) trees found.rest.now (shown_heads (classes_in trees) ∙ begins)
          (mark_finds Visible (Then visible front_declaration) trees found.rest.now
          (then_finds visible front_declaration trees mid found.rest.now v
          (mark_finds Front declaration mid found.rest.now f.0))),
      (
        mid,
        first_finds (Then (Mark Visible) visible) Nothing trees mid (marked_heads (classes_in trees) ∙ begins)
            (mark_finds Visible visible trees mid v),
        f.1,
      ),
    )
shown_item trees mid (Err left) v f =
    first_sticks shown (Then (Mark Front) private_item) trees left.now
    (shown_heads (classes_in trees) ∙ visible_heads trees mid v)
    (mark_sticks Visible (Then visible front_declaration) trees left.now
    (then_fails visible front_declaration trees mid left.now v (mark_sticks Front declaration mid left.now f)))

pub private_shown : (trees : List TokenTree) (result : Found) → heads visible (classes_in trees) ≡ false
    → ReadsKind private_item trees result
    → ReadsItem any_rest trees result
private_shown trees (Ok found) none f = (
  other_finds shown (Then (Mark Front) private_item) trees found.rest.now (shown_heads (classes_in trees) ∙ none) refl
      (mark_finds Front private_item trees found.rest.now f.0),
  (trees, perhaps_stays (Then (Mark Visible) visible) trees (marked_heads (classes_in trees) ∙ none), f.1),
)
private_shown trees (Err left) none f =
    other_sticks shown (Then (Mark Front) private_item) trees left.now (shown_heads (classes_in trees) ∙ none) refl
    (mark_sticks Front private_item trees left.now f)

pub ruleset any_rests = (shown_item, private_shown)

-- ---- the kind and the name

keyword_deterministic : (kind : ItemKind) → is_deterministic every follows (keyword_rule kind) (λ c. false) ≡ true
keyword_deterministic kinds.Constant = refl
keyword_deterministic _ = refl

keyword_productive : (kind : ItemKind) → is_productive any (keyword_rule kind) ≡ true
keyword_productive kinds.Constant = refl
keyword_productive _ = refl

pub keyword_start : (kind : ItemKind) → IsStart rules follows (keyword_rule kind ∷ [])
keyword_start kind = starts (keyword_rule kind) (keyword_deterministic kind) (keyword_productive kind)

pub named_start : (kind : ItemKind) → IsStart rules follows (named_rule kind ∷ [])
named_start kinds.Enum = rule_starts Enum
named_start kinds.Function = rule_starts Function
named_start kinds.Impl = rule_starts Impl
named_start kinds.Module = rule_starts Module
named_start kinds.Struct = rule_starts Struct
named_start kinds.TypeAlias = rule_starts Alias
named_start kinds.Union = rule_starts Union
named_start kinds.Use = rule_starts Use
named_start kind = starts (named_rule kind) refl refl

up_to : (g : G) → IsStart rules follows (g ∷ []) → (trees rest : List TokenTree) → Finds g trees rest
    → ReadsUpTo g trees rest
up_to g start trees rest f =
    (trees_of f.remains.front, found_reads g start trees (trees_of f.remains.front) rest f f.remains.whole)

has_kind : (trees from_visibility from_qualifiers : List TokenTree) (kind : ItemKind) (named rest : List TokenTree)
    → Finds attributes trees from_visibility → Finds visibility from_visibility from_qualifiers
    → IsKindAt from_qualifiers kind named rest
    → HasKind trees rest kind (name_at kind named)
has_kind trees from_visibility from_qualifiers kind named rest a v i = record {
  from_visibility = from_visibility;
  from_qualifiers = from_qualifiers;
  from_keyword = i.from_keyword;
  from_name = named;
  attributes = up_to attributes begin.attributes_starts trees from_visibility a;
  visibility = up_to visibility begin.visibility_starts from_visibility from_qualifiers v;
  qualifiers = i.qualifiers;
  keyword = up_to (keyword_rule kind) (keyword_start kind) i.from_keyword named i.keyword;
  item = up_to (named_rule kind) (named_start kind) named rest i.item;
  is_name = refl;
}

pub any_reads : (trees mid : List TokenTree) (result : Found) → Finds attributes trees mid
    → ReadsItem any_rest mid result
    → ReadsAny trees result
any_reads trees mid (Ok found) a f = (
  then_finds attributes any_rest trees mid found.rest.now a f.0,
  has_kind trees mid f.1.0 found.kind found.named.now found.rest.now a f.1.1 f.1.2,
)
any_reads trees mid (Err left) a f = then_fails attributes any_rest trees mid left.now a f

pub any_attributes : (trees left : List TokenTree) → Sticks attributes trees left → Sticks any_item trees left
any_attributes trees left f = then_sticks attributes any_rest trees left f

pub ruleset any_items_read = (any_reads, any_attributes)

-- ---- what is promised

starts_any : IsStart rules follows (any_item ∷ [])
starts_any = begin.any_item_starts

pub item_reads : (trees part rest : List TokenTree) → Finds any_item trees rest → trees ≡ part ++ rest
    → Reads IsAnyItem trees part rest
item_reads = found_reads any_item starts_any

pub item_only : (trees part rest : List TokenTree) → Finds any_item trees rest → trees ≡ part ++ rest
    → IsOnly IsAnyItem trees part rest
item_only = found_only any_item starts_any

pub item_fault : (trees left : List TokenTree) (at : ℕ) → Sticks any_item trees left
    → at ≡ length trees - length left
    → FaultAt IsAnyItem trees at
item_fault = rule_fault any_item starts_any

pub item_expects : (trees left : List TokenTree) (at : ℕ) (set : Expected) → Sticks any_item trees left
    → at ≡ length trees - length left → ExpectsWhole any_item trees set
    → Expects IsAnyItem trees at set
item_expects = stuck_expects any_item starts_any

-- the tree of an error
pub stuck_span : (trees left : List TokenTree) (at : ℕ) (span : Option Extent) → Sticks any_item trees left
    → at ≡ length trees - length left → span ≡ first_extent left
    → span ≡ extent_at trees at
stuck_span trees left at span f counted first = remains_span trees left at span f.remains counted first

pub left_span : (trees rest : List TokenTree) (at : ℕ) (span : Option Extent) → Finds any_item trees rest
    → at ≡ length trees - length rest → span ≡ first_extent rest
    → span ≡ extent_at trees at
left_span trees rest at span f counted first = remains_span trees rest at span f.remains counted first

pub item_within : (trees left : List TokenTree) → Sticks any_item trees left → length left ≤ length trees
item_within trees left f = remains_within trees left f.remains

pub rest_within : (trees rest : List TokenTree) → Finds any_item trees rest → length rest ≤ length trees
rest_within trees rest f = remains_within trees rest f.remains

pub ruleset promises = (item_reads, item_only, item_fault, item_expects, stuck_span, item_within)

-- ---- all of the trees

pub item_all : (trees rest : List TokenTree) → Finds any_item trees rest → length rest ≡ 0 → ReadsAll IsAnyItem trees
item_all = whole_read any_item starts_any

pub item_left : (trees rest : List TokenTree) (at : ℕ) → Finds any_item trees rest → (length rest ≡ 0 → ⊥)
    → at ≡ length trees - length rest
    → FaultAt (IsWhole IsAnyItem) trees at
item_left = rule_left any_item starts_any

pub item_stuck : (trees left : List TokenTree) (at : ℕ) → Sticks any_item trees left
    → at ≡ length trees - length left
    → FaultAt (IsWhole IsAnyItem) trees at
item_stuck = rule_stuck any_item starts_any

pub left_over : (trees rest : List TokenTree) (at : ℕ) (set : Expected) → Finds any_item trees rest
    → (length rest ≡ 0 → ⊥) → at ≡ length trees - length rest → ExpectsWhole any_item trees set
    → Expects IsAnyItem trees at set
left_over = left_expects any_item starts_any

-- no trees are left
pub all_kind : (trees rest : List TokenTree) (kind : ItemKind) (name : Option Written) → HasKind trees rest kind name
    → length rest ≡ 0
    → HasKind trees [] kind name
all_kind trees [] kind name h none = h
all_kind trees (tree ∷ rest) kind name h none = absurd (omega arith)

pub ruleset wholes = (
  item_all,
  item_left,
  item_stuck,
  left_over,
  item_expects,
  stuck_span,
  left_span,
  item_within,
  rest_within,
  all_kind,
)
