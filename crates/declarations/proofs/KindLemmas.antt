-- An item has one kind and one name: the signs after its visibility tell both.
use Rattle.std.proofs.Common.{◌≡◌, refl, sym, ◌∙◌, ap, ap₂, subst, Bool, true, false, ◌&&◌, ◌||◌, List, [], ◌∷◌, ◌++◌}
use Rattle.std.proofs.Common.{Option, Some, None, ◌⊎◌, inl, inr, if◌then◌else◌}
use Rattle.std.proofs.lemmas.Bool.{and_parts, both_ways, or_right}
use Rattle.std.proofs.lemmas.List.{append_cancel_left, append_cancel_right}
use Rattle.std.specs.Prelude.{not}
use Rattle.grammars.specs.Deterministic.{IsStart}
use Rattle.grammars.specs.Find.{Found, Past, Stuck, find}
use Rattle.grammars.specs.First.{heads, may_begin}
use Rattle.grammars.specs.Grammar.{Event, Many, Mark, Nothing, Sign, Then, perhaps}
use Rattle.grammars.specs.Machine.{is_nullable}
use Rattle.pm_token.specs.Leaf.{Name}
use Rattle.pm_stream.specs.declared.stream.TokenTree.{TokenTree}
use Rattle.declarations.specs.Found.{bare, finds}
use Rattle.declarations.specs.ItemRest.{further_segment, is_crate_name, is_new_name, trait_alias_rest, trait_body}
use Rattle.declarations.specs.Kind.{HasKind, ReadsUpTo, is_qualifier, keyword_rule, name_at, named_rule}
use Rattle.declarations.specs.Reader.{Remains, classes_in}
use Rattle.declarations.specs.Reading.{Reads}
use Rattle.declarations.specs.Signs.{classes_of, signs, trees_of}
use Rattle.declarations.specs.declared.any_item.ItemKind.{ItemKind}
use Rattle.declarations.specs.declared.any_item.ItemKind.TheVariants as kinds
use Rattle.declarations.specs.rules.Bodies as rule
use Rattle.declarations.specs.rules.Fronts.{crate_name, is_segment, new_name}
use Rattle.declarations.specs.rules.Names.{Body, G, Label, Named, key, one, word}
use Rattle.declarations.specs.rules.Parts.{attributes, generics, visibility}
use Rattle.declarations.specs.rules.Pieces.{ByRule}
use Rattle.declarations.specs.rules.Rules.{follows, rules}
use Rattle.item_tables.specs.Classes.{all_of, every, is, is_word, one_of}
use Rattle.item_tables.specs.declared.class.Keyword.{Keyword}
use Rattle.item_tables.specs.declared.class.Keyword.TheVariants as keywords
use Rattle.item_tables.specs.declared.class.SignClass.{SignClass}
use Rattle.item_tables.specs.declared.class.SignClass.TheVariants as classes
use Rattle.item_tables.specs.declared.class.Word.{Word}
use Rattle.item_tables.specs.declared.class.Word.TheVariants as words
use Rattle.declarations.proofs.AnyItemLemmas.{keyword_start, named_start}
use Rattle.declarations.proofs.ClassLemmas.{every_holds, same_class}
use Rattle.declarations.proofs.FoundLemmas.{bind, finds_first, finds_lacks, finds_marked, finds_more, finds_skips}
use Rattle.declarations.proofs.FoundLemmas.{finds_sign, finds_then}
use Rattle.declarations.proofs.ReaderLemmas.{heads_either, heads_nothing, remains_on}
use Rattle.declarations.proofs.ReadingLemmas.{classes-append, same_front}
use Rattle.declarations.proofs.RuleFormLemmas.{only_reading, piece_found}
use Rattle.declarations.proofs.TreeLemmas.{or_nothing}
use Rattle.declarations.proofs.StartLemmas as begin

-- ---- tests of classes

implied : (p q : SignClass → Bool) → every (λ c. not (p c) || q c) ≡ true → (c : SignClass) → p c ≡ true → q c ≡ true
implied p q h c is = go (p c) (q c) is (every_holds (λ c. not (p c) || q c) h c)
  where
    go : (a b : Bool) → a ≡ true → (not a || b) ≡ true → b ≡ true
    go true b is h = h
    go false b is h = absurd cc

apart : (p q : SignClass → Bool) → every (λ c. not (p c) || not (q c)) ≡ true → (c : SignClass) → p c ≡ true
    → q c ≡ false
apart p q h c is = go (p c) (q c) is (every_holds (λ c. not (p c) || not (q c)) h c)
  where
    go : (a b : Bool) → a ≡ true → (not a || not b) ≡ true → b ≡ false
    go true true is h = absurd cc
    go true false is h = refl
    go false b is h = absurd cc

-- ---- what is found, taken apart

abbrev Finds : G → List SignClass → List SignClass → Type 0
Finds g cs rest = finds g cs ≡ Past [] rest

bare_past : (f : Found SignClass Label) (events : List (Event SignClass Label)) (mid : List SignClass)
    → bare f ≡ Past events mid
    → bare f ≡ Past [] mid
bare_past (Past other rest) events mid e =
    let same : rest ≡ mid = cc in
    ap (Past []) same
bare_past (Stuck left) events mid e = absurd cc

bind_parts : (a : G) (cs rest : List SignClass) (next : List SignClass → Found SignClass Label)
    → bind (finds a cs) next ≡ Past [] rest
    → (mid : List SignClass) × Finds a cs mid × (next mid ≡ Past [] rest)
bind_parts a cs rest next h = go (finds a cs) refl h
  where
    go : (f : Found SignClass Label) → finds a cs ≡ f → bind f next ≡ Past [] rest
        → (mid : List SignClass) × Finds a cs mid × (next mid ≡ Past [] rest)
    go (Past events mid) e j = (mid, bare_past (find rules a cs) events mid e, j)
    go (Stuck left) e j = absurd cc

then_parts : (a b : G) (cs rest : List SignClass) → Finds (Then a b) cs rest
    → (mid : List SignClass) × Finds a cs mid × Finds b mid rest
then_parts a b cs rest h = bind_parts a cs rest (finds b) (sym (finds_then a b cs) ∙ h)

-- a rule that reads at least one sign begins with the first
head_of : (g : G) (cs rest : List SignClass) → is_nullable g ≡ false → Finds g cs rest
    → (c : SignClass) × (more : List SignClass) × (cs ≡ c ∷ more) × (may_begin g c ≡ true)
head_of g [] rest e h =
    let both : Stuck [] ≡ Past [] rest = sym (finds_lacks g [] refl e) ∙ h in
    absurd cc
head_of g (c ∷ more) rest e h = go (may_begin g c) refl
  where
    go : (b : Bool) → may_begin g c ≡ b
        → (d : SignClass) × (after : List SignClass) × (c ∷ more ≡ d ∷ after) × (may_begin g d ≡ true)
    go true j = (c, more, refl, j)
    go false j =
        let both : Stuck (c ∷ more) ≡ Past [] rest = sym (finds_lacks g (c ∷ more) j e) ∙ h in
        absurd cc

sign_part : (passes : SignClass → Bool) (cs rest : List SignClass) → Finds (Sign passes) cs rest
    → (c : SignClass) × (passes c ≡ true) × (cs ≡ c ∷ rest)
sign_part passes cs rest h =
    let first = head_of (Sign passes) cs rest refl h in
    let all : Past [] first.1 ≡ Past [] rest =
    sym (finds_sign passes first.0 first.1 first.3) ∙ (ap (finds (Sign passes)) (sym first.2) ∙ h) in
    let same : first.1 ≡ rest = cc in
    (first.0, first.3, first.2 ∙ ap (λ more. first.0 ∷ more) same)

one_part : (x : SignClass) (cs rest : List SignClass) → Finds (one x) cs rest → cs ≡ x ∷ rest
one_part x cs rest h =
    let found = sign_part (is x) cs rest h in
    found.2 ∙ ap (λ c. c ∷ rest) (same_class x found.0 found.1)

-- a label and then a rule
marked_part : (l : Label) (g : G) (cs rest : List SignClass) → Finds (Then (Mark l) g) cs rest → Finds g cs rest
marked_part l g cs rest h = sym (finds_marked l g cs) ∙ h

-- the rule or nothing
may_parts : (g : G) (cs rest : List SignClass) → Finds (perhaps g) cs rest
    → ((heads g cs ≡ true) × Finds g cs rest) ⊎ ((heads g cs ≡ false) × (rest ≡ cs))
may_parts g cs rest h = go (heads g cs) refl
  where
    skipped : heads g cs ≡ false → heads (perhaps g) cs ≡ false
    skipped j = heads_either g Nothing cs ∙ rw (j, heads_nothing cs) refl

    go : (b : Bool) → heads g cs ≡ b
        → ((heads g cs ≡ true) × Finds g cs rest) ⊎ ((heads g cs ≡ false) × (rest ≡ cs))
    go true j = inl (j, sym (finds_first g Nothing cs j) ∙ h)
    go false j =
        let both : Past [] cs ≡ Past [] rest =
        sym (finds_skips (perhaps g) cs (skipped j) (or_right (is_nullable g) true refl)) ∙ h in
        let same : rest ≡ cs = cc in
        inr (j, same)

-- ---- what the signs tell

-- whether a macro call goes on here, after a segment of its path
abbrev call_sign : SignClass → Bool
call_sign = one_of (classes.Exclamation ∷ classes.PathSeparator ∷ [])

abbrev goes_call : List SignClass → Bool
goes_call [] = false
goes_call (c ∷ cs) = call_sign c

-- the signs after the first `!`
abbrev after_mark : List SignClass → List SignClass
after_mark [] = []
after_mark (c ∷ cs) = if is classes.Exclamation c then cs else after_mark cs

-- whether the sign can come after the name of a constant
abbrev after_name : SignClass → Bool
after_name = one_of (classes.Colon ∷ classes.Less ∷ classes.LessJoint ∷ [])

-- whether these signs come after the `const` of a constant
abbrev names_constant : List SignClass → Bool
names_constant (c ∷ (d ∷ cs)) = is_new_name c && after_name d
names_constant _ = false

-- whether these signs come after the `extern` of an external crate
abbrev names_crate : List SignClass → Bool
names_crate (c ∷ (d ∷ cs)) = is classes.Crate c && is_crate_name d
names_crate _ = false

abbrev heads_braces : List SignClass → Bool
heads_braces [] = false
heads_braces (c ∷ cs) = is classes.Braces c

-- whether these signs come after the `extern` of a block
abbrev opens_block : List SignClass → Bool
opens_block [] = false
opens_block (c ∷ cs) = is classes.Braces c || is classes.Literal c && heads_braces cs

-- the signs after the first, if it passes the test
abbrev after : (SignClass → Bool) → List SignClass → List SignClass
after p [] = []
after p (c ∷ cs) = if p c then cs else c ∷ cs

-- a kind, and the signs from the name on
abbrev KindAndRest : Type 0
KindAndRest = Option (ItemKind × List SignClass)

abbrev tell_word : Word → List SignClass → KindAndRest → KindAndRest
tell_word words.Union cs later =
    if goes_call cs then Some (kinds.MacroCall, after_mark cs) else Some (kinds.Union, cs)
tell_word _ cs later = if goes_call cs then Some (kinds.MacroCall, after_mark cs) else later

abbrev tell_keyword : Keyword → List SignClass → KindAndRest → KindAndRest
tell_keyword keywords.Const cs later = if names_constant cs then Some (kinds.Constant, cs) else later
tell_keyword keywords.Extern cs later =
    if names_crate cs then Some (kinds.ExternCrate, after (is classes.Crate) cs)
    else (if opens_block cs then Some (kinds.ExternBlock, after (is classes.Literal) cs) else later)
tell_keyword keywords.Enum cs later = Some (kinds.Enum, cs)
tell_keyword keywords.Fn cs later = Some (kinds.Function, cs)
tell_keyword keywords.Impl cs later = Some (kinds.Impl, cs)
tell_keyword keywords.Macro cs later = Some (kinds.Macro, cs)
tell_keyword keywords.Mod cs later = Some (kinds.Module, cs)
tell_keyword keywords.Static cs later = Some (kinds.Static, after (is (classes.Keyword keywords.Mut)) cs)
tell_keyword keywords.Struct cs later = Some (kinds.Struct, cs)
tell_keyword keywords.Trait cs later = Some (kinds.Trait, cs)
tell_keyword keywords.Type cs later = Some (kinds.TypeAlias, cs)
tell_keyword keywords.Use cs later = Some (kinds.Use, cs)
tell_keyword _ cs later = later

-- the kind of the item that the signs after a visibility begin with, and the signs from its name on. A trait alias is
-- a trait here
abbrev tell : List SignClass → KindAndRest
tell [] = None
tell (classes.Word w ∷ cs) = tell_word w cs (tell cs)
tell (classes.Keyword k ∷ cs) = tell_keyword k cs (tell cs)
tell (classes.Literal ∷ cs) = tell cs
tell (classes.Invisible ∷ cs) = Some (kinds.Group, classes.Invisible ∷ cs)
tell (c ∷ cs) = Some (kinds.MacroCall, after_mark cs)

-- ---- before what signs a qualifier can come

abbrev is_bad : SignClass → Bool
is_bad = one_of (classes.Exclamation ∷ classes.Braces ∷ classes.Colon ∷ classes.Less ∷ classes.LessJoint ∷ [])

abbrev calm_after : SignClass → List SignClass → Bool
calm_after c [] = true
calm_after c (d ∷ cs) =
    not (is_new_name c && after_name d)
    && (not (is classes.Crate c && is_crate_name d) && not (is classes.Literal c && is classes.Braces d))

-- whether a qualifier before these signs leaves the kind of the item
abbrev is_calm : List SignClass → Bool
is_calm [] = true
is_calm (c ∷ cs) = not (is_bad c) && calm_after c cs

not_true : (b : Bool) → not b ≡ true → b ≡ false
not_true true h = absurd (both_ways _ refl h)
not_true false h = refl

no_left : (x y : Bool) → x ≡ false → (x && y) ≡ false
no_left true y h = absurd (both_ways _ h refl)
no_left false y h = refl

no_right : (x y : Bool) → y ≡ false → (x && y) ≡ false
no_right true y h = h
no_right false y h = refl

both_true : (x y : Bool) → x ≡ true → y ≡ true → (x && y) ≡ true
both_true true y h j = j
both_true false y h j = absurd (both_ways _ refl h)

calm_pair : (c d : SignClass) (cs : List SignClass) → is_bad c ≡ false → (is_new_name c && after_name d) ≡ false
    → (is classes.Crate c && is_crate_name d) ≡ false → (is classes.Literal c && is classes.Braces d) ≡ false
    → is_calm (c ∷ (d ∷ cs)) ≡ true
calm_pair c d cs bad name crate literal = rw (bad, name, crate, literal) refl

calm_head : (c : SignClass) (cs : List SignClass) → is_calm (c ∷ cs) ≡ true → is_bad c ≡ false
calm_head c cs h = not_true (is_bad c) (and_parts (not (is_bad c)) (calm_after c cs) h).0

record Calm (c d : SignClass) : Type 0 where
  constant : (is_new_name c && after_name d) ≡ false
  crate : (is classes.Crate c && is_crate_name d) ≡ false
  block : (is classes.Literal c && is classes.Braces d) ≡ false

calm_both : (c d : SignClass) (cs : List SignClass) → is_calm (c ∷ (d ∷ cs)) ≡ true → Calm c d
calm_both c d cs h =
    let name = not (is_new_name c && after_name d) in
    let crate = not (is classes.Crate c && is_crate_name d) in
    let block = not (is classes.Literal c && is classes.Braces d) in
    let all = (and_parts (not (is_bad c)) (name && (crate && block)) h).1 in
    let rest = and_parts name (crate && block) all in
    let last = and_parts crate block rest.1 in
    record {
      constant = not_true _ rest.0;
      crate = not_true _ last.0;
      block = not_true _ last.1;
    }

-- ---- qualifiers

no_constant : (l : List SignClass) → is_calm l ≡ true → names_constant l ≡ false
no_constant [] h = refl
no_constant (c ∷ []) h = refl
no_constant (c ∷ (d ∷ cs)) h = (calm_both c d cs h).constant

no_crate : (l : List SignClass) → is_calm l ≡ true → names_crate l ≡ false
no_crate [] h = refl
no_crate (c ∷ []) h = refl
no_crate (c ∷ (d ∷ cs)) h = (calm_both c d cs h).crate

no_braces : (c : SignClass) → is_bad c ≡ false → is classes.Braces c ≡ false
no_braces c h = go (is classes.Braces c) refl
  where
    go : (b : Bool) → is classes.Braces c ≡ b → b ≡ false
    go true e = absurd (both_ways _ h (implied (is classes.Braces) is_bad refl c e))
    go false e = refl

no_block : (l : List SignClass) → is_calm l ≡ true → opens_block l ≡ false
no_block [] h = refl
no_block (c ∷ []) h = rw (no_braces c (calm_head c [] h), no_right (is classes.Literal c) false refl) refl
no_block (c ∷ (d ∷ cs)) h =
    rw (no_braces c (calm_head c (d ∷ cs) h), (calm_both c d cs h).block) refl

-- before a word, a path that begins with `::` is a call as it is without the word
word_stays : (l : List SignClass) → is_calm l ≡ true
    → (if goes_call l then Some (kinds.MacroCall, after_mark l) else tell l) ≡ tell l
word_stays [] h = refl
word_stays (classes.Exclamation ∷ cs) h = absurd (both_ways _ refl h)
word_stays (classes.PathSeparator ∷ cs) h = refl
word_stays (classes.Word words.Auto ∷ cs) h = refl
word_stays (classes.Word _ ∷ cs) h = refl
word_stays (classes.Keyword keywords.Async ∷ cs) h = refl
word_stays (classes.Keyword _ ∷ cs) h = refl
word_stays (_ ∷ cs) h = refl

stays : (q : SignClass) (l : List SignClass) → is_qualifier q ≡ true → is_calm l ≡ true → tell (q ∷ l) ≡ tell l
stays (classes.Word words.Union) l h c = absurd (both_ways _ refl h)
stays (classes.Word words.Plain) l h c = absurd (both_ways _ refl h)
stays (classes.Word words.Auto) l h c = word_stays l c
stays (classes.Word words.Default) l h c = word_stays l c
stays (classes.Word words.Gen) l h c = word_stays l c
stays (classes.Word words.Safe) l h c = word_stays l c
stays (classes.Keyword keywords.Async) l h c = refl
stays (classes.Keyword keywords.Unsafe) l h c = refl
stays (classes.Keyword keywords.Const) l h c = rw (no_constant l c) refl
stays (classes.Keyword keywords.Extern) l h c = rw (no_crate l c, no_block l c) refl
stays (classes.Keyword _) l h c = absurd (both_ways _ refl h)
stays classes.Literal l h c = refl
stays _ l h c = absurd (both_ways _ refl h)

calm_on : (q : SignClass) (l : List SignClass) → is_qualifier q ≡ true → is_calm l ≡ true → is_calm (q ∷ l) ≡ true
calm_on q [] h c = rw (apart is_qualifier is_bad refl q h) refl
calm_on q (d ∷ cs) h c =
    let fine = calm_head d cs c in
    calm_pair q d cs (apart is_qualifier is_bad refl q h)
    (no_right (is_new_name q) (after_name d) (go (after_name d) refl fine))
    (no_left (is classes.Crate q) (is_crate_name d) (apart is_qualifier (is classes.Crate) refl q h))
    (no_right (is classes.Literal q) (is classes.Braces d) (no_braces d fine))
  where
    go : (b : Bool) → after_name d ≡ b → is_bad d ≡ false → b ≡ false
    go true e fine = absurd (both_ways _ fine (implied after_name is_bad refl d e))
    go false e fine = refl

qualified : (qs ks : List SignClass) → all_of is_qualifier qs ≡ true → is_calm ks ≡ true
    → (is_calm (qs ++ ks) ≡ true) × (tell (qs ++ ks) ≡ tell ks)
qualified [] ks h c = (c, refl)
qualified (q ∷ qs) ks h c =
    let parts = and_parts (is_qualifier q) (all_of is_qualifier qs) h in
    let more = qualified qs ks parts.1 c in
    (calm_on q (qs ++ ks) parts.0 more.0, stays q (qs ++ ks) parts.0 more.0 ∙ more.1)

-- ---- keywords

-- the kind, with a trait alias as a trait
abbrev merged : ItemKind → ItemKind
merged kinds.TraitAlias = kinds.Trait
merged kind = kind

record Opens (kind : ItemKind) (ks ns : List SignClass) : Type 0 where
  calm : is_calm ks ≡ true
  tells : tell ks ≡ Some (merged kind, ns)

calm_keyword : (k : Keyword) (cs : List SignClass) → is_calm (classes.Keyword k ∷ cs) ≡ true
calm_keyword keywords.Async [] = refl
calm_keyword keywords.Async (d ∷ cs) = refl
calm_keyword _ [] = refl
calm_keyword _ (d ∷ cs) = refl

opens_keyword : (k : Keyword) (kind : ItemKind) (ks ns : List SignClass) → Finds (key k) ks ns
    → tell_keyword k ns (tell ns) ≡ Some (merged kind, ns)
    → Opens kind ks ns
opens_keyword k kind ks ns h e =
    let is = one_part (classes.Keyword k) ks ns h in
    record {
      calm = ap is_calm is ∙ calm_keyword k ns;
      tells = ap tell is ∙ e;
    }

opens_constant : (ks ns rest : List SignClass) → Finds (keyword_rule kinds.Constant) ks ns
    → Finds (named_rule kinds.Constant) ns rest
    → Opens kinds.Constant ks ns
opens_constant ks ns rest h j =
    let named = then_parts new_name rule.constant_rest ns rest (marked_part Named _ ns rest j) in
    let name = sign_part is_new_name ns named.0 named.1 in
    let next = head_of rule.constant_rest named.0 rest refl named.2 in
    let shape : ns ≡ name.0 ∷ (next.0 ∷ next.1) = name.2 ∙ ap (λ cs. name.0 ∷ cs) next.2 in
    let both : names_constant ns ≡ true =
    ap names_constant shape
    ∙ both_true (is_new_name name.0) (after_name next.0) name.1
    (implied (may_begin rule.constant_rest) after_name refl next.0 next.3) in
    opens_keyword keywords.Const kinds.Constant ks ns h (rw both refl)

opens_static : (ks ns : List SignClass) → Finds (keyword_rule kinds.Static) ks ns → Opens kinds.Static ks ns
opens_static ks ns h =
    let parts = then_parts (key keywords.Static) (perhaps (key keywords.Mut)) ks ns h in
    let is = one_part (classes.Keyword keywords.Static) ks parts.0 parts.1 in
    record {
      calm = ap is_calm is ∙ calm_keyword keywords.Static parts.0;
      tells = ap tell is ∙ ap (λ cs. Some (kinds.Static, cs))
          (go parts.0 (may_parts (key keywords.Mut) parts.0 ns parts.2));
    }
  where
    go : (cs : List SignClass)
        → ((heads (key keywords.Mut) cs ≡ true) × Finds (key keywords.Mut) cs ns)
        ⊎ ((heads (key keywords.Mut) cs ≡ false) × (ns ≡ cs))
        → after (is (classes.Keyword keywords.Mut)) cs ≡ ns
    go cs (inl found) = rw (one_part (classes.Keyword keywords.Mut) cs ns found.1) refl
    go [] (inr none) = sym none.1
    go (c ∷ cs) (inr none) = rw none.0 (sym none.1)

opens_crate : (ks ns rest : List SignClass) → Finds (keyword_rule kinds.ExternCrate) ks ns
    → Finds (named_rule kinds.ExternCrate) ns rest
    → Opens kinds.ExternCrate ks ns
opens_crate ks ns rest h j =
    let parts = then_parts (key keywords.Extern) (one classes.Crate) ks ns h in
    let is_extern = one_part (classes.Keyword keywords.Extern) ks parts.0 parts.1 in
    let is_crate = one_part classes.Crate parts.0 ns parts.2 in
    let named = then_parts crate_name _ ns rest (marked_part Named _ ns rest j) in
    let name = sign_part is_crate_name ns named.0 named.1 in
    let is : ks ≡ classes.Keyword keywords.Extern ∷ (classes.Crate ∷ ns) =
    is_extern ∙ ap (λ cs. classes.Keyword keywords.Extern ∷ cs) is_crate in
    let crate : names_crate (classes.Crate ∷ ns) ≡ true =
    ap (λ cs. names_crate (classes.Crate ∷ cs)) name.2 ∙ name.1 in
    record {
      calm = ap is_calm is ∙ calm_keyword keywords.Extern (classes.Crate ∷ ns);
      tells = ap tell is ∙ rw crate refl;
    }

not_crate : (c : SignClass) (cs : List SignClass) → is classes.Crate c ≡ false → names_crate (c ∷ cs) ≡ false
not_crate c [] h = refl
not_crate c (d ∷ cs) h = no_left (is classes.Crate c) (is_crate_name d) h

opens_block_in : (ks ns rest : List SignClass) → Finds (keyword_rule kinds.ExternBlock) ks ns
    → Finds (named_rule kinds.ExternBlock) ns rest
    → Opens kinds.ExternBlock ks ns
opens_block_in ks ns rest h j =
    let parts = then_parts (key keywords.Extern) (perhaps (one classes.Literal)) ks ns h in
    let is = one_part (classes.Keyword keywords.Extern) ks parts.0 parts.1 in
    let body = one_part classes.Braces ns rest (marked_part Body _ ns rest j) in
    record {
      calm = ap is_calm is ∙ calm_keyword keywords.Extern parts.0;
      tells = ap tell is ∙ go parts.0 (may_parts (one classes.Literal) parts.0 ns parts.2) body;
    }
  where
    go : (cs : List SignClass)
        → ((heads (one classes.Literal) cs ≡ true) × Finds (one classes.Literal) cs ns)
        ⊎ ((heads (one classes.Literal) cs ≡ false) × (ns ≡ cs))
        → ns ≡ classes.Braces ∷ rest
        → tell_keyword keywords.Extern cs (tell cs) ≡ Some (kinds.ExternBlock, ns)
    go cs (inl found) body = rw (one_part classes.Literal cs ns found.1, body) refl
    go cs (inr none) body =
        rw (sym none.1, body, not_crate classes.Braces rest refl) refl

opens_group : (ks ns rest : List SignClass) → Finds (keyword_rule kinds.Group) ks ns
    → Finds (named_rule kinds.Group) ns rest
    → Opens kinds.Group ks ns
opens_group ks ns rest h j =
    let both : Past [] ks ≡ Past [] ns = sym (finds_skips Nothing ks (heads_nothing ks) refl) ∙ h in
    let same : ks ≡ ns = cc in
    let is = one_part classes.Invisible ns rest j in
    record {
      calm = ap is_calm (same ∙ is) ∙ go rest;
      tells = ap tell (same ∙ is) ∙ ap (λ cs. Some (kinds.Group, cs)) (sym is);
    }
  where
    go : (cs : List SignClass) → is_calm (classes.Invisible ∷ cs) ≡ true
    go [] = refl
    go (d ∷ cs) = refl

opens_union : (ks ns rest : List SignClass) → Finds (keyword_rule kinds.Union) ks ns
    → Finds (named_rule kinds.Union) ns rest
    → Opens kinds.Union ks ns
opens_union ks ns rest h j =
    let is = one_part (classes.Word words.Union) ks ns h in
    let parts = then_parts rule.name _ ns rest j in
    let name = sign_part is_word ns parts.0 (marked_part Named word ns parts.0 parts.1) in
    let shape : ks ≡ classes.Word words.Union ∷ (name.0 ∷ parts.0) =
    is ∙ ap (λ cs. classes.Word words.Union ∷ cs) name.2 in
    let call : goes_call ns ≡ false = ap goes_call name.2 ∙ apart is_word call_sign refl name.0 name.1 in
    record {
      calm = ap is_calm shape
          ∙ calm_pair (classes.Word words.Union) name.0 parts.0 refl (apart is_word after_name refl name.0 name.1) refl
          refl;
      tells = ap tell is ∙ rw call refl;
    }

-- ---- macro calls

-- what comes after a segment of the path of a macro call
record Calls (cs ns : List SignClass) : Type 0 where
  goes : goes_call cs ≡ true
  after : after_mark cs ≡ ns

calls_mark : (cs ns : List SignClass) → cs ≡ classes.Exclamation ∷ ns → Calls cs ns
calls_mark cs ns e = record { goes = ap goes_call e; after = ap after_mark e }

separates : (c : SignClass) → may_begin further_segment c ≡ is classes.PathSeparator c
separates c = or_nothing (is classes.PathSeparator c) (is_segment c)

-- no segment is read, and so `!` is next
calls_now : (cs mid ns : List SignClass) → heads (Many further_segment) cs ≡ false
    → Finds (Many further_segment) cs mid → mid ≡ classes.Exclamation ∷ ns
    → Calls cs ns
calls_now cs mid ns none h e =
    let both : Past [] cs ≡ Past [] mid = sym (finds_skips (Many further_segment) cs none refl) ∙ h in
    let same : cs ≡ mid = cc in
    calls_mark cs ns (same ∙ e)

calls : (cs mid ns : List SignClass) → Finds (Many further_segment) cs mid → mid ≡ classes.Exclamation ∷ ns
    → Calls cs ns
calls [] mid ns h e = calls_now [] mid ns refl h e
calls (c ∷ []) mid ns h e = go (is classes.PathSeparator c) refl
  where
    go : (b : Bool) → is classes.PathSeparator c ≡ b → Calls (c ∷ []) ns
    go false j = calls_now (c ∷ []) mid ns (separates c ∙ j) h e
    go true j =
        let one_more = sym (finds_more further_segment (c ∷ []) (separates c ∙ j)) ∙ h in
        let first = bind_parts further_segment (c ∷ []) mid (finds (Many further_segment)) one_more in
        let parts = then_parts (one classes.PathSeparator) (Sign is_segment) (c ∷ []) first.0 first.1 in
        let mark = one_part classes.PathSeparator (c ∷ []) parts.0 parts.1 in
        let none : [] ≡ parts.0 = cc in
        let segment = sign_part is_segment parts.0 first.0 parts.2 in
        let both : [] ≡ segment.0 ∷ first.0 = none ∙ segment.2 in
        absurd cc
calls (c ∷ (d ∷ cs)) mid ns h e = go (is classes.PathSeparator c) refl (calls cs mid ns)
  where
    go : (b : Bool) → is classes.PathSeparator c ≡ b
        → (Finds (Many further_segment) cs mid → mid ≡ classes.Exclamation ∷ ns → Calls cs ns)
        → Calls (c ∷ (d ∷ cs)) ns
    go false j later = calls_now (c ∷ (d ∷ cs)) mid ns (separates c ∙ j) h e
    go true j later =
        let one_more = sym (finds_more further_segment (c ∷ (d ∷ cs)) (separates c ∙ j)) ∙ h in
        let first = bind_parts further_segment (c ∷ (d ∷ cs)) mid (finds (Many further_segment)) one_more in
        let parts = then_parts (one classes.PathSeparator) (Sign is_segment) (c ∷ (d ∷ cs)) first.0 first.1 in
        let mark = one_part classes.PathSeparator (c ∷ (d ∷ cs)) parts.0 parts.1 in
        let rest : d ∷ cs ≡ parts.0 = cc in
        let segment = sign_part is_segment parts.0 first.0 parts.2 in
        let both : d ∷ cs ≡ segment.0 ∷ first.0 = rest ∙ segment.2 in
        let same : d ≡ segment.0 = cc in
        let more : cs ≡ first.0 = cc in
        let found = later (subst (λ xs. Finds (Many further_segment) xs mid) (sym more) first.2) e in
        let passes : is_segment d ≡ true = ap is_segment same ∙ segment.1 in
        record {
          goes = ap call_sign (same_class classes.PathSeparator c j);
          after = rw (
            apart (is classes.PathSeparator) (is classes.Exclamation) refl c j,
            apart is_segment (is classes.Exclamation) refl d passes,
          ) found.after;
        }

-- a segment of a path, and what comes after it
segment_calm : (s : SignClass) (cs : List SignClass) → is_segment s ≡ true → goes_call cs ≡ true
    → is_calm (s ∷ cs) ≡ true
segment_calm s [] path goes = absurd (both_ways _ refl goes)
segment_calm s (d ∷ cs) path goes =
    calm_pair s d cs (apart is_segment is_bad refl s path)
    (no_right (is_new_name s) (after_name d) (apart call_sign after_name refl d goes))
    (no_right (is classes.Crate s) (is_crate_name d) (apart call_sign is_crate_name refl d goes))
    (no_left (is classes.Literal s) (is classes.Braces d) (apart is_segment (is classes.Literal) refl s path))

segment_tells : (s : SignClass) (cs : List SignClass) → is_segment s ≡ true → goes_call cs ≡ true
    → tell (s ∷ cs) ≡ Some (kinds.MacroCall, after_mark cs)
segment_tells (classes.Word words.Union) cs path goes = rw goes refl
segment_tells (classes.Word words.Auto) cs path goes = rw goes refl
segment_tells (classes.Word _) cs path goes = rw goes refl
segment_tells classes.SelfValue cs path goes = refl
segment_tells classes.Super cs path goes = refl
segment_tells classes.Crate cs path goes = refl
segment_tells (classes.Keyword keywords.Async) cs path goes = absurd (both_ways _ refl path)
segment_tells (classes.Keyword _) cs path goes = absurd (both_ways _ refl path)
segment_tells _ cs path goes = absurd (both_ways _ refl path)

opens_segment : (cs ns : List SignClass)
    → Finds (Then (Sign is_segment) (Then (Many further_segment) (one classes.Exclamation))) cs ns
    → (s : SignClass) × (after_segment : List SignClass) × (is_segment s ≡ true) × (cs ≡ s ∷ after_segment)
    × Calls after_segment ns
opens_segment cs ns h =
    let parts = then_parts (Sign is_segment) (Then (Many further_segment) (one classes.Exclamation)) cs ns h in
    let first = sign_part is_segment cs parts.0 parts.1 in
    let more = then_parts (Many further_segment) (one classes.Exclamation) parts.0 ns parts.2 in
    let mark = one_part classes.Exclamation more.0 ns more.2 in
    (first.0, parts.0, first.1, first.2, calls parts.0 more.0 ns more.1 mark)

opens_call : (ks ns : List SignClass) → Finds (keyword_rule kinds.MacroCall) ks ns → Opens kinds.MacroCall ks ns
opens_call ks ns h =
    let path = Then (Sign is_segment) (Then (Many further_segment) (one classes.Exclamation)) in
    let parts = then_parts (perhaps (one classes.PathSeparator)) path ks ns h in
    let found = opens_segment parts.0 ns parts.2 in
    go (may_parts (one classes.PathSeparator) ks parts.0 parts.1) found.0 found.1 found.2 found.3 found.4
  where
    go : {from : List SignClass}
        → ((heads (one classes.PathSeparator) ks ≡ true) × Finds (one classes.PathSeparator) ks from)
        ⊎ ((heads (one classes.PathSeparator) ks ≡ false) × (from ≡ ks))
        → (s : SignClass) (after_segment : List SignClass) → is_segment s ≡ true → from ≡ s ∷ after_segment
        → Calls after_segment ns
        → Opens kinds.MacroCall ks ns
    go {from = from} (inl separated) s after_segment path shape found =
        let mark : ks ≡ classes.PathSeparator ∷ (s ∷ after_segment) =
        one_part classes.PathSeparator ks from separated.1 ∙ ap (λ cs. classes.PathSeparator ∷ cs) shape in
        record {
          calm = ap is_calm mark;
          tells = ap tell mark
              ∙ rw (apart is_segment (is classes.Exclamation) refl s path)
              (ap (λ cs. Some (kinds.MacroCall, cs)) found.after);
        }
    go (inr none) s after_segment path shape found =
        let whole : ks ≡ s ∷ after_segment = sym none.1 ∙ shape in
        record {
          calm = ap is_calm whole ∙ segment_calm s after_segment path found.goes;
          tells = ap tell whole ∙ segment_tells s after_segment path found.goes
              ∙ ap (λ cs. Some (kinds.MacroCall, cs)) found.after;
        }

-- ---- every kind

opens : (kind : ItemKind) (ks ns rest : List SignClass) → Finds (keyword_rule kind) ks ns
    → Finds (named_rule kind) ns rest
    → Opens kind ks ns
opens kinds.Constant ks ns rest h j = opens_constant ks ns rest h j
opens kinds.Enum ks ns rest h j = opens_keyword keywords.Enum kinds.Enum ks ns h refl
opens kinds.ExternBlock ks ns rest h j = opens_block_in ks ns rest h j
opens kinds.ExternCrate ks ns rest h j = opens_crate ks ns rest h j
opens kinds.Function ks ns rest h j = opens_keyword keywords.Fn kinds.Function ks ns h refl
opens kinds.Group ks ns rest h j = opens_group ks ns rest h j
opens kinds.Impl ks ns rest h j = opens_keyword keywords.Impl kinds.Impl ks ns h refl
opens kinds.Macro ks ns rest h j = opens_keyword keywords.Macro kinds.Macro ks ns h refl
opens kinds.MacroCall ks ns rest h j = opens_call ks ns h
opens kinds.Module ks ns rest h j = opens_keyword keywords.Mod kinds.Module ks ns h refl
opens kinds.Static ks ns rest h j = opens_static ks ns h
opens kinds.Struct ks ns rest h j = opens_keyword keywords.Struct kinds.Struct ks ns h refl
opens kinds.Trait ks ns rest h j = opens_keyword keywords.Trait kinds.Trait ks ns h refl
opens kinds.TraitAlias ks ns rest h j = opens_keyword keywords.Trait kinds.TraitAlias ks ns h refl
opens kinds.TypeAlias ks ns rest h j = opens_keyword keywords.Type kinds.TypeAlias ks ns h refl
opens kinds.Union ks ns rest h j = opens_union ks ns rest h j
opens kinds.Use ks ns rest h j = opens_keyword keywords.Use kinds.Use ks ns h refl

-- ---- traits and trait aliases

abbrev past : List SignClass → Found SignClass Label
past rest = Past [] rest

past_same : (xs ys : List SignClass) → past xs ≡ past ys → xs ≡ ys
past_same xs ys e = cc

-- what follows the name and the generic parameters is not both
not_both : (cs rest : List SignClass) → Finds (named_rule kinds.Trait) cs rest
    → Finds (named_rule kinds.TraitAlias) cs rest
    → ⊥
not_both cs rest h j =
    let a = then_parts rule.name (Then generics trait_body) cs rest h in
    let b = then_parts rule.name (Then generics trait_alias_rest) cs rest j in
    let names : a.0 ≡ b.0 = past_same a.0 b.0 (sym a.1 ∙ b.1) in
    let c = then_parts generics trait_body a.0 rest a.2 in
    let d = then_parts generics trait_alias_rest a.0 rest
    (subst (λ xs. Finds (Then generics trait_alias_rest) xs rest) (sym names) b.2) in
    let parameters : c.0 ≡ d.0 = past_same c.0 d.0 (sym c.1 ∙ d.1) in
    let body = head_of trait_body c.0 rest refl c.2 in
    let alias = head_of trait_alias_rest d.0 rest refl d.2 in
    let heads_are : body.0 ∷ body.1 ≡ alias.0 ∷ alias.1 = sym body.2 ∙ (parameters ∙ alias.2) in
    let same : alias.0 ≡ body.0 = cc in
    both_ways _ (apart (may_begin trait_body) (may_begin trait_alias_rest) refl body.0 body.3)
    (subst (λ x. may_begin trait_alias_rest x ≡ true) same alias.3)

merged_is : (kind : ItemKind) → (merged kind ≡ kind) ⊎ (kind ≡ kinds.TraitAlias)
merged_is kinds.TraitAlias = inr refl
merged_is kinds.Constant = inl refl
merged_is _ = inl refl

same_kind : (cs rest : List SignClass) (kind kind2 : ItemKind) → merged kind ≡ merged kind2
    → Finds (named_rule kind) cs rest → Finds (named_rule kind2) cs rest
    → kind2 ≡ kind
same_kind cs rest kind kind2 e h j = go (merged_is kind) (merged_is kind2)
  where
    go : (merged kind ≡ kind) ⊎ (kind ≡ kinds.TraitAlias) → (merged kind2 ≡ kind2) ⊎ (kind2 ≡ kinds.TraitAlias)
        → kind2 ≡ kind
    go (inl a) (inl b) = sym b ∙ (sym e ∙ a)
    go (inr a) (inr b) = b ∙ sym a
    go (inl a) (inr b) =
        let is : kind ≡ kinds.Trait = sym a ∙ (e ∙ ap merged b) in
        absurd (not_both cs rest (subst (λ k. Finds (named_rule k) cs rest) is h)
        (subst (λ k. Finds (named_rule k) cs rest) b j))
    go (inr a) (inl b) =
        let is : kind2 ≡ kinds.Trait = sym b ∙ (sym e ∙ ap merged a) in
        absurd (not_both cs rest (subst (λ k. Finds (named_rule k) cs rest) is j)
        (subst (λ k. Finds (named_rule k) cs rest) a h))

-- ---- trees

remaining : (trees rest : List TokenTree) (r : Remains rest trees)
    → classes_in trees ≡ classes_of r.front ++ classes_in rest
unfolding classes_in
remaining trees rest r = ap classes_of r.read ∙ classes-append r.front (signs rest)

-- trees that are left over, and whose signs have the same classes, are the same
remains_same : (trees a b : List TokenTree) → Remains a trees → Remains b trees → classes_in a ≡ classes_in b → b ≡ a
remains_same trees a b r s e =
    let classes_are : classes_of r.front ++ classes_in b ≡ classes_of s.front ++ classes_in b =
    ap (λ cs. classes_of r.front ++ cs) (sym e) ∙ (sym (remaining trees a r) ∙ remaining trees b s) in
    let same = append_cancel_right (classes_of r.front) (classes_of s.front) (classes_in b) classes_are in
    let fronts : r.front ≡ s.front = same_front r.front s.front (signs a) (signs b) (sym r.read ∙ s.read) same in
    append_cancel_left (trees_of r.front) b a
    (ap (λ ss. trees_of ss ++ b) fronts ∙ (sym s.whole ∙ r.whole))

up_to_remains : (g : G) (trees rest : List TokenTree) → ReadsUpTo g trees rest → Remains rest trees
up_to_remains g trees rest (part, reads) =
    record { front = reads.piece; read = reads.read; whole = reads.whole ∙ ap (λ ts. ts ++ rest) reads.taken }

up_to_finds : (g : G) → IsStart rules follows (g ∷ []) → (trees rest : List TokenTree) → ReadsUpTo g trees rest
    → Finds g (classes_in trees) (classes_in rest)
unfolding classes_in
up_to_finds g start trees rest (part, reads) =
    let found = piece_found g start (classes_in trees) (classes_of reads.piece) (classes_in rest)
    (ap classes_of reads.read ∙ classes-append reads.piece (signs rest)) reads.stands in
    ap bare found.1

-- ---- one kind and one name

tells_kind : (trees rest : List TokenTree) (kind : ItemKind) (name : Option Name) (h : HasKind trees rest kind name)
    → tell (classes_in h.from_qualifiers) ≡ Some (merged kind, classes_in h.from_name)
tells_kind trees rest kind name h =
    let q = h.qualifiers in
    let keyword = up_to_finds (keyword_rule kind) (keyword_start kind) h.from_keyword h.from_name h.keyword in
    let item = up_to_finds (named_rule kind) (named_start kind) h.from_name rest h.item in
    let found = opens kind (classes_in h.from_keyword) (classes_in h.from_name) (classes_in rest) keyword item in
    ap tell (remaining h.from_qualifiers h.from_keyword q.remains)
    ∙ ((qualified (classes_of q.remains.front) (classes_in h.from_keyword) q.are found.calm).1 ∙ found.tells)

name_remains : (trees rest : List TokenTree) (kind : ItemKind) (name : Option Name) (h : HasKind trees rest kind name)
    → Remains h.from_name h.from_qualifiers
name_remains trees rest kind name h =
    remains_on h.from_qualifiers h.from_keyword h.from_name h.qualifiers.remains
    (up_to_remains (keyword_rule kind) h.from_keyword h.from_name h.keyword)

qualifiers_same : (trees rest : List TokenTree) (kind kind2 : ItemKind) (name name2 : Option Name)
    (h : HasKind trees rest kind name) (j : HasKind trees rest kind2 name2)
    → j.from_qualifiers ≡ h.from_qualifiers
qualifiers_same trees rest kind kind2 name name2 h j =
    let shown : j.from_visibility ≡ h.from_visibility =
    (only_reading attributes begin.attributes_starts trees h.attributes.0 h.from_visibility h.attributes.1
    j.attributes.0 j.from_visibility j.attributes.1).1 in
    (only_reading visibility begin.visibility_starts h.from_visibility h.visibility.0 h.from_qualifiers
    h.visibility.1 j.visibility.0 j.from_qualifiers
    (subst (λ ts. Reads (ByRule visibility) ts j.visibility.0 j.from_qualifiers) shown j.visibility.1)).1

abbrev as_pair : ItemKind → List SignClass → KindAndRest
as_pair kind ns = Some (kind, ns)

merged_parts : (kind kind2 : ItemKind) (a b : List SignClass) → as_pair kind a ≡ as_pair kind2 b
    → (kind ≡ kind2) × (a ≡ b)
merged_parts kind kind2 a b e =
    let pair : ItemKind × List SignClass = (kind, a) in
    let pair2 : ItemKind × List SignClass = (kind2, b) in
    let same : pair ≡ pair2 = cc in
    (ap (λ p. p.0) same, ap (λ p. p.1) same)

pub one_kind : (trees rest : List TokenTree) (kind kind2 : ItemKind) (name name2 : Option Name)
    → HasKind trees rest kind name → HasKind trees rest kind2 name2
    → (kind2 ≡ kind) × (name2 ≡ name)
one_kind trees rest kind kind2 name name2 h j =
    let from : j.from_qualifiers ≡ h.from_qualifiers = qualifiers_same trees rest kind kind2 name name2 h j in
    let parts = merged_parts (merged kind) (merged kind2) (classes_in h.from_name) (classes_in j.from_name)
    (sym (tells_kind trees rest kind name h)
    ∙ (ap (λ ts. tell (classes_in ts)) (sym from) ∙ tells_kind trees rest kind2 name2 j)) in
    let named : j.from_name ≡ h.from_name =
    remains_same h.from_qualifiers h.from_name j.from_name (name_remains trees rest kind name h)
    (subst (λ ts. Remains j.from_name ts) from (name_remains trees rest kind2 name2 j)) parts.1 in
    let item = up_to_finds (named_rule kind) (named_start kind) h.from_name rest h.item in
    let item2 = up_to_finds (named_rule kind2) (named_start kind2) j.from_name rest j.item in
    let same : kind2 ≡ kind =
    same_kind (classes_in h.from_name) (classes_in rest) kind kind2 parts.0 item
    (subst (λ cs. Finds (named_rule kind2) cs (classes_in rest)) (sym parts.1) item2) in
    (same, j.is_name ∙ (ap₂ name_at same named ∙ sym h.is_name))
