-- What items have before their names, read by rules.
use Rattle.std.proofs.Common.{◌≡◌, refl, sym, ◌∙◌, ap, subst, Bool, true, false, ◌&&◌, List, [], ◌∷◌, ◌++◌}
use Rattle.std.proofs.Common.{append_assoc, append-nil, Some, None, if◌then◌else◌}
use Rattle.std.proofs.lemmas.Bool.{and_parts, both_ways}
use Rattle.std.specs.Prelude.{Result, Ok, Err}
use Rattle.std.specs.Borrow.{Bor}
use Rattle.grammars.specs.Find.{Found, Past, Stuck, find, front, scan}
use Rattle.grammars.specs.First.{heads}
use Rattle.grammars.specs.Grammar.{Either, Event, One, Then, To, perhaps}
use Rattle.grammars.specs.Machine.{Transition, closing, is_nullable, step}
use Rattle.grammars.proofs.FindLemmas.{scan_step}
use Rattle.grammars.proofs.WordLemmas.{find_first, find_other, find_to}
use Rattle.pm_stream.specs.declared.stream.TokenTree.{TokenTree}
use Rattle.declarations.specs.ItemFront.{IsKindAt, ReadsAfter, ReadsKind, ReadsNamed}
use Rattle.declarations.specs.ItemRest.{fn_item}
use Rattle.declarations.specs.Kind.{AreQualifiers, is_qualifier, keyword_rule, named_rule}
use Rattle.declarations.specs.Parameter.{LeadsTo}
use Rattle.declarations.specs.Reader.{Finds, Sticks, classes_in}
use Rattle.declarations.specs.Signs.{BeginsWith, classes_of, signs, trees_of}
use Rattle.declarations.specs.declared.any_item.ItemKind.{ItemKind}
use Rattle.declarations.specs.declared.any_item.ItemKind.TheVariants as kinds
use Rattle.declarations.specs.declared.item_front.FoundItem.{FoundItem}
use Rattle.item_tables.specs.Classes.{all_of, is}
use Rattle.item_tables.specs.declared.class.SignClass.{SignClass}
use Rattle.item_tables.specs.declared.class.SignClass.TheVariants as signs_are
use Rattle.item_tables.specs.declared.class.Keyword.TheVariants as keywords
use Rattle.item_tables.specs.declared.class.Word.TheVariants as words
use Rattle.declarations.specs.rules.Fronts.{async_front, function_front, gen_front, is_safe}
use Rattle.declarations.specs.rules.Names.{G, Label, Name, Qualified, key, one}
use Rattle.declarations.specs.rules.Rules.{rules}
use Rattle.declarations.proofs.ClassLemmas.{same_class}
use Rattle.declarations.proofs.FunctionPartLemmas.{may_end, may_find, may_stay}
use Rattle.declarations.proofs.ParameterLemmas.{finds_leads, leads_finds, leads_sign, leads_sticks}
use Rattle.declarations.proofs.ReaderLemmas.{classes_sign, heads_none, heads_sign, lacks, other_finds}
use Rattle.declarations.proofs.ReaderLemmas.{other_sticks, remains_sign, sign_finds}
use Rattle.declarations.proofs.ReadingLemmas.{classes-append, trees-append}

-- ---- qualifiers

both_true : (a b : Bool) → a ≡ true → b ≡ true → (a && b) ≡ true
both_true true b h j = j
both_true false b h j = h

all_append : (p : SignClass → Bool) (a b : List SignClass) → all_of p a ≡ true → all_of p b ≡ true
    → all_of p (a ++ b) ≡ true
all_append p [] b h j = j
all_append p (c ∷ a) b h j =
    let parts = and_parts (p c) (all_of p a) h in
    both_true (p c) (all_of p (a ++ b)) parts.0 (all_append p a b parts.1 j)

pub no_qualifiers : (trees : List TokenTree) → AreQualifiers trees trees
no_qualifiers trees = record { remains = record { front = []; read = refl; whole = refl }; are = refl }

pub qualifies_on : (trees mid rest : List TokenTree) → AreQualifiers trees mid → AreQualifiers mid rest
    → AreQualifiers trees rest
qualifies_on trees mid rest q r =
    let a = q.remains in
    let b = r.remains in
    record {
      remains = record {
        front = a.front ++ b.front;
        read = a.read ∙ ap (λ ss. a.front ++ ss) b.read ∙ sym (append_assoc a.front b.front (signs rest));
        whole = a.whole ∙ ap (λ ts. trees_of a.front ++ ts) b.whole
            ∙ sym (append_assoc (trees_of a.front) (trees_of b.front) rest)
            ∙ ap (λ ts. ts ++ rest) (sym (trees-append a.front b.front));
      };
      are = ap (all_of is_qualifier) (classes-append a.front b.front)
          ∙ all_append is_qualifier (classes_of a.front) (classes_of b.front) q.are r.are;
    }

pub sign_qualifies : (trees rest : List TokenTree) (class : SignClass) → BeginsWith trees class rest
    → is_qualifier class ≡ true
    → AreQualifiers trees rest
sign_qualifies trees rest class b h = record {
  remains = record {
    front = record { class = class; trees = b.front } ∷ [];
    read = b.read;
    whole = b.whole ∙ ap (λ ts. ts ++ rest) (sym (append-nil b.front));
  };
  are = both_true (is_qualifier class) true h refl;
}

-- ---- kinds

pub qualified_kind : (trees mid : List TokenTree) (kind : ItemKind) (named rest : List TokenTree)
    → AreQualifiers trees mid → IsKindAt mid kind named rest
    → IsKindAt trees kind named rest
qualified_kind trees mid kind named rest q i = record {
  from_keyword = i.from_keyword;
  qualifiers = qualifies_on trees mid i.from_keyword q i.qualifiers;
  keyword = i.keyword;
  item = i.item;
}

-- the keyword is next, and after it what the kind has there
pub keyword_kind : (keyword_is : G) (trees mid : List TokenTree) (kind : ItemKind) (named rest : List TokenTree)
    → Finds keyword_is trees mid → keyword_rule kind ≡ keyword_is → named ≡ mid → Finds (named_rule kind) mid rest
    → IsKindAt trees kind named rest
keyword_kind keyword_is trees mid kind named rest k e n f = record {
  from_keyword = trees;
  qualifiers = no_qualifiers trees;
  keyword = subst (λ m. Finds (keyword_rule kind) trees m) (sym n) (subst (λ g. Finds g trees mid) (sym e) k);
  item = subst (λ m. Finds (named_rule kind) m rest) (sym n) f;
}

-- ---- results

pub begins_as : (trees rest : List TokenTree) (x class : SignClass) (b : Bool) → BeginsWith trees class rest
    → b ≡ is x class → b ≡ true
    → BeginsWith trees x rest
begins_as trees rest x class b at e h = subst (λ c. BeginsWith trees c rest) (same_class x class (sym e ∙ h)) at

pub finds_as : (g h : G) (trees rest : List TokenTree)
    → find rules g (classes_in trees) ≡ find rules h (classes_in trees) → Finds h trees rest
    → Finds g trees rest
finds_as g h trees rest e f = record { events = f.events; found = e ∙ f.found; remains = f.remains }

pub sticks_as : (g h : G) (trees left : List TokenTree)
    → find rules g (classes_in trees) ≡ find rules h (classes_in trees) → Sticks h trees left
    → Sticks g trees left
sticks_as g h trees left e f = record { stuck = e ∙ f.stuck; remains = f.remains }

pub kind_as : (g h : G) (trees : List TokenTree) (result : Result FoundItem (Bor (List TokenTree)))
    → find rules g (classes_in trees) ≡ find rules h (classes_in trees) → ReadsKind h trees result
    → ReadsKind g trees result
kind_as g h trees (Ok found) e f = (finds_as g h trees found.rest.now e f.0, f.1)
kind_as g h trees (Err left) e f = sticks_as g h trees left.now e f

pub kind_other : (a b : G) (trees : List TokenTree) (result : Result FoundItem (Bor (List TokenTree)))
    → heads a (classes_in trees) ≡ false → is_nullable a ≡ false → ReadsKind b trees result
    → ReadsKind (Either a b) trees result
kind_other a b trees (Ok found) d e f = (other_finds a b trees found.rest.now d e f.0, f.1)
kind_other a b trees (Err left) d e f = other_sticks a b trees left.now d e f

-- qualifiers come first
pub kind_leads : (g h : G) (trees mid : List TokenTree) (result : Result FoundItem (Bor (List TokenTree)))
    → LeadsTo g trees h mid → AreQualifiers trees mid → ReadsKind h mid result
    → ReadsKind g trees result
kind_leads g h trees mid (Ok found) l q f = (
  leads_finds g h trees mid found.rest.now l f.0,
  qualified_kind trees mid found.kind found.named.now found.rest.now q f.1,
)
kind_leads g h trees mid (Err left) l q f = leads_sticks g h trees mid left.now l f

-- one qualifier comes first
pub kind_qualified : (g h : G) (x : SignClass) (trees mid : List TokenTree)
    (result : Result FoundItem (Bor (List TokenTree))) → BeginsWith trees x mid
    → step rules (g ∷ []) x ≡ Some (One x ∷ [], h ∷ []) → is_qualifier x ≡ true → ReadsKind h mid result
    → ReadsKind g trees result
kind_qualified g h x trees mid result b e q f =
    kind_leads g h trees mid result (leads_sign g h trees mid x b e) (sign_qualifies trees mid x b q) f

-- the keyword comes first
pub kind_keyword : (g h : G) (x : SignClass) (trees mid : List TokenTree)
    (result : Result FoundItem (Bor (List TokenTree))) → BeginsWith trees x mid → is x x ≡ true
    → step rules (g ∷ []) x ≡ Some (One x ∷ [], h ∷ []) → ReadsNamed (one x) h mid result
    → ReadsKind g trees result
kind_keyword g h x trees mid (Ok found) b i e f = (
  leads_finds g h trees mid found.rest.now (leads_sign g h trees mid x b e) f.0,
  keyword_kind (one x) trees mid found.kind found.named.now found.rest.now (sign_finds (is x) trees mid x b i) f.1
      f.2 f.3,
)
kind_keyword g h x trees mid (Err left) b i e f = leads_sticks g h trees mid left.now (leads_sign g h trees mid x b e) f

-- a sign comes first, and the kind depends on it
pub kind_after : (g h : G) (x : SignClass) (trees mid : List TokenTree)
    (result : Result FoundItem (Bor (List TokenTree))) → BeginsWith trees x mid
    → step rules (g ∷ []) x ≡ Some (One x ∷ [], h ∷ []) → ReadsAfter x h mid result
    → ReadsKind g trees result
kind_after g h x trees mid (Ok found) b e f =
    (leads_finds g h trees mid found.rest.now (leads_sign g h trees mid x b e) f.0, f.1 trees b)
kind_after g h x trees mid (Err left) b e f = leads_sticks g h trees mid left.now (leads_sign g h trees mid x b e) f

pub after_kind : (x : SignClass) (g : G) (trees : List TokenTree) (result : Result FoundItem (Bor (List TokenTree)))
    → is_qualifier x ≡ true → ReadsKind g trees result
    → ReadsAfter x g trees result
after_kind x g trees (Ok found) q f = (
  f.0,
  λ before b.
      qualified_kind before trees found.kind found.named.now found.rest.now (sign_qualifies before trees x b q) f.1,
)
after_kind x g trees (Err left) q f = f

pub after_as : (x : SignClass) (g h : G) (trees : List TokenTree) (result : Result FoundItem (Bor (List TokenTree)))
    → find rules g (classes_in trees) ≡ find rules h (classes_in trees) → ReadsAfter x h trees result
    → ReadsAfter x g trees result
after_as x g h trees (Ok found) e f = (finds_as g h trees found.rest.now e f.0, f.1)
after_as x g h trees (Err left) e f = sticks_as g h trees left.now e f

pub after_named : (x : SignClass) (g h keyword_is : G) (trees mid : List TokenTree)
    (result : Result FoundItem (Bor (List TokenTree))) → LeadsTo g trees h mid
    → ((before : List TokenTree) → BeginsWith before x trees → Finds keyword_is before mid)
    → ReadsNamed keyword_is h mid result
    → ReadsAfter x g trees result
after_named x g h keyword_is trees mid (Ok found) l k f = (
  leads_finds g h trees mid found.rest.now l f.0,
  λ before b.
      keyword_kind keyword_is before mid found.kind found.named.now found.rest.now (k before b) f.1 f.2 f.3,
)
after_named x g h keyword_is trees mid (Err left) l k f = leads_sticks g h trees mid left.now l f

-- ---- rules that find the same

-- two rules that must read a sign find the same if they have the same steps
pub same_find : (g h : G) (c : SignClass) (cs : List SignClass) → is_nullable g ≡ false → is_nullable h ≡ false
    → step rules (g ∷ []) c ≡ step rules (h ∷ []) c
    → find rules g (c ∷ cs) ≡ find rules h (c ∷ cs)
unfolding find
same_find g h c cs a b e =
    scan_step rules (g ∷ []) c cs (step rules (h ∷ []) c) e
    ∙ (go (is_nullable g) (is_nullable h) (closing (g ∷ [])) (closing (h ∷ [])) (step rules (h ∷ []) c) a b
    ∙ sym (scan_step rules (h ∷ []) c cs (step rules (h ∷ []) c) refl))
  where
    go : (a b : Bool) (u v : List (Event SignClass Label)) (s : Transition SignClass Name Label) → a ≡ false
        → b ≡ false
        → elim s as (λ x. Found SignClass Label) [
          | None ↦ if a && true then Past u (c ∷ cs) else Stuck (c ∷ cs)
          | Some taken ↦ front taken.0 (scan rules taken.1 cs)
        ] ≡ elim s as (λ x. Found SignClass Label) [
          | None ↦ if b && true then Past v (c ∷ cs) else Stuck (c ∷ cs)
          | Some taken ↦ front taken.0 (scan rules taken.1 cs)
        ]
    go a b u v None h j = rw (h, j) refl
    go a b u v (Some taken) h j = refl

pub same_trees : (g h : G) (trees rest : List TokenTree) (class : SignClass) → BeginsWith trees class rest
    → is_nullable g ≡ false → is_nullable h ≡ false → step rules (g ∷ []) class ≡ step rules (h ∷ []) class
    → find rules g (classes_in trees) ≡ find rules h (classes_in trees)
same_trees g h trees rest class b x y e =
    ap (find rules g) (classes_sign trees rest class b)
    ∙ (same_find g h class (classes_in rest) x y e ∙ sym (ap (find rules h) (classes_sign trees rest class b)))

pub leads_first : (g a b : G) (trees mid : List TokenTree) → LeadsTo g trees (Either a b) mid
    → heads a (classes_in mid) ≡ true
    → LeadsTo g trees a mid
leads_first g a b trees mid l h = record {
  events = l.events;
  found = l.found ∙ ap (front l.events) (find_first rules a b (classes_in mid) h);
  remains = l.remains;
}

pub leads_other : (g a b : G) (trees mid : List TokenTree) → LeadsTo g trees (Either a b) mid
    → heads a (classes_in mid) ≡ false → is_nullable a ≡ false
    → LeadsTo g trees b mid
leads_other g a b trees mid l h e = record {
  events = l.events;
  found = l.found ∙ ap (front l.events) (find_other rules a b (classes_in mid) h e);
  remains = l.remains;
}

pub first_leads : (a b h : G) (trees mid : List TokenTree) → heads a (classes_in trees) ≡ true → LeadsTo a trees h mid
    → LeadsTo (Either a b) trees h mid
first_leads a b h trees mid e l = record {
  events = l.events;
  found = find_first rules a b (classes_in trees) e ∙ l.found;
  remains = l.remains;
}

pub to_leads : (passes : SignClass → Bool) (n : Name) (trees mid : List TokenTree) (class : SignClass)
    → BeginsWith trees class mid → passes class ≡ true
    → LeadsTo (To passes n) trees (rules n) mid
to_leads passes n trees mid class b h = record {
  events = One class ∷ [];
  found = ap (find rules (To passes n)) (classes_sign trees mid class b)
      ∙ find_to rules passes n class (classes_in mid) h;
  remains = remains_sign trees mid class b;
}

-- ---- functions

pub fn_reads : (trees mid : List TokenTree) (class : SignClass) (b : Bool)
    (result : Result FoundItem (Bor (List TokenTree))) → BeginsWith trees class mid
    → b ≡ is (signs_are.Keyword keywords.Fn) class → b ≡ true
    → ReadsNamed (key keywords.Fn) (named_rule kinds.Function) mid result
    → ReadsKind fn_item trees result
fn_reads trees mid class b result at e h f =
    kind_keyword fn_item (named_rule kinds.Function) (signs_are.Keyword keywords.Fn) trees mid result
    (begins_as trees mid (signs_are.Keyword keywords.Fn) class b at e h) refl refl f

pub fn_not : (trees rest : List TokenTree) (class : SignClass) (b : Bool) → BeginsWith trees class rest
    → b ≡ is (signs_are.Keyword keywords.Fn) class → b ≡ false
    → Sticks fn_item trees trees
fn_not trees rest class b at e h = lacks fn_item trees (heads_sign fn_item trees rest class at ∙ (sym e ∙ h)) refl

pub fn_none : (trees : List TokenTree) → trees ≡ [] → Sticks fn_item trees trees
fn_none trees e = lacks fn_item trees (heads_none fn_item trees e) refl

pub literal_qualifies : (trees rest : List TokenTree) (class : SignClass) (b : Bool) → BeginsWith trees class rest
    → b ≡ is signs_are.Literal class → b ≡ true
    → AreQualifiers trees rest
literal_qualifies trees rest class b at e h =
    sign_qualifies trees rest signs_are.Literal (begins_as trees rest signs_are.Literal class b at e h) refl

pub ruleset literals = (may_find, may_stay, may_end, literal_qualifies, no_qualifiers)

pub abi_reads : (trees mid : List TokenTree) (result : Result FoundItem (Bor (List TokenTree)))
    → Finds (perhaps (one signs_are.Literal)) trees mid → AreQualifiers trees mid → ReadsKind fn_item mid result
    → ReadsKind (Then (perhaps (one signs_are.Literal)) fn_item) trees result
abi_reads trees mid result l q f =
    kind_leads (Then (perhaps (one signs_are.Literal)) fn_item) fn_item trees mid result
    (finds_leads (perhaps (one signs_are.Literal)) fn_item trees mid l) q f

pub front_extern : (trees mid : List TokenTree) (class : SignClass) (b : Bool)
    (result : Result FoundItem (Bor (List TokenTree))) → BeginsWith trees class mid
    → b ≡ is (signs_are.Keyword keywords.Extern) class → b ≡ true
    → ReadsKind (Then (perhaps (one signs_are.Literal)) fn_item) mid result
    → ReadsKind function_front trees result
front_extern trees mid class b result at e h f =
    kind_qualified function_front (Then (perhaps (one signs_are.Literal)) fn_item)
    (signs_are.Keyword keywords.Extern) trees mid result
    (begins_as trees mid (signs_are.Keyword keywords.Extern) class b at e h) refl refl f

-- not an `extern` and what follows it
extern_heads : (trees rest : List TokenTree) (class : SignClass) (g : G) → BeginsWith trees class rest
    → is (signs_are.Keyword keywords.Extern) class ≡ false
    → heads (Then (key keywords.Extern) g) (classes_in trees) ≡ false
extern_heads trees rest class g at h = heads_sign (Then (key keywords.Extern) g) trees rest class at ∙ rw h refl

pub front_plain : (trees rest : List TokenTree) (class : SignClass) (b : Bool)
    (result : Result FoundItem (Bor (List TokenTree))) → BeginsWith trees class rest
    → b ≡ is (signs_are.Keyword keywords.Extern) class → b ≡ false → ReadsKind fn_item trees result
    → ReadsKind function_front trees result
front_plain trees rest class b result at e h f =
    kind_other (Then (key keywords.Extern) (Then (perhaps (one signs_are.Literal)) fn_item)) fn_item trees result
    (extern_heads trees rest class (Then (perhaps (one signs_are.Literal)) fn_item) at (sym e ∙ h)) refl f

pub front_none : (trees : List TokenTree) → trees ≡ [] → Sticks function_front trees trees
front_none trees e = lacks function_front trees (heads_none function_front trees e) refl

-- `unsafe` and `safe` are qualifiers
safe_qualifies : (c : SignClass) → is_safe c ≡ true → is_qualifier c ≡ true
safe_qualifies (signs_are.Keyword keywords.Unsafe) h = refl
safe_qualifies (signs_are.Word words.Safe) h = refl
safe_qualifies (signs_are.Keyword _) h = absurd (both_ways _ refl h)
safe_qualifies (signs_are.Word _) h = absurd (both_ways _ refl h)
safe_qualifies _ h = absurd (both_ways _ refl h)

pub gen_safe : (trees mid : List TokenTree) (class : SignClass) (b : Bool)
    (result : Result FoundItem (Bor (List TokenTree))) → BeginsWith trees class mid → b ≡ is_safe class → b ≡ true
    → ReadsKind function_front mid result
    → ReadsKind gen_front trees result
gen_safe trees mid class b result at e h f =
    let passes = sym e ∙ h in
    kind_leads gen_front function_front trees mid result
    (first_leads (To is_safe Qualified) function_front function_front trees mid
    (heads_sign (To is_safe Qualified) trees mid class at ∙ passes)
    (to_leads is_safe Qualified trees mid class at passes))
    (sign_qualifies trees mid class at (safe_qualifies class passes)) f

pub gen_plain : (trees rest : List TokenTree) (class : SignClass) (b : Bool)
    (result : Result FoundItem (Bor (List TokenTree))) → BeginsWith trees class rest → b ≡ is_safe class → b ≡ false
    → ReadsKind function_front trees result
    → ReadsKind gen_front trees result
gen_plain trees rest class b result at e h f =
    kind_other (To is_safe Qualified) function_front trees result
    (heads_sign (To is_safe Qualified) trees rest class at ∙ (sym e ∙ h)) refl f

pub gen_none : (trees : List TokenTree) → trees ≡ [] → Sticks gen_front trees trees
gen_none trees e = lacks gen_front trees (heads_none gen_front trees e) refl

pub async_gen : (trees mid : List TokenTree) (class : SignClass) (b : Bool)
    (result : Result FoundItem (Bor (List TokenTree))) → BeginsWith trees class mid
    → b ≡ is (signs_are.Word words.Gen) class → b ≡ true → ReadsKind gen_front mid result
    → ReadsKind async_front trees result
async_gen trees mid class b result at e h f =
    kind_qualified async_front gen_front (signs_are.Word words.Gen) trees mid result
    (begins_as trees mid (signs_are.Word words.Gen) class b at e h) refl refl f

pub async_plain : (trees rest : List TokenTree) (class : SignClass) (b : Bool)
    (result : Result FoundItem (Bor (List TokenTree))) → BeginsWith trees class rest
    → b ≡ is (signs_are.Word words.Gen) class → b ≡ false → ReadsKind gen_front trees result
    → ReadsKind async_front trees result
async_plain trees rest class b result at e h f =
    let differs : is (signs_are.Word words.Gen) class ≡ false = sym e ∙ h in
    kind_other (Then (one (signs_are.Word words.Gen)) gen_front) gen_front trees result
    (heads_sign (Then (one (signs_are.Word words.Gen)) gen_front) trees rest class at ∙ rw differs refl) refl f

pub async_none : (trees : List TokenTree) → trees ≡ [] → Sticks async_front trees trees
async_none trees e = lacks async_front trees (heads_none async_front trees e) refl

pub ruleset functions = (
  fn_reads,
  fn_not,
  fn_none,
  abi_reads,
  front_extern,
  front_plain,
  front_none,
  gen_safe,
  gen_plain,
  gen_none,
  async_gen,
  async_plain,
  async_none,
)
