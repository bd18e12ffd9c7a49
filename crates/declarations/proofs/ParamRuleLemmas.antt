-- The parameters and the predicates that functions read are those of the rules.
use Rattle.std.proofs.Common.{◌≡◌, refl, sym, ◌∙◌, ap, subst, ◌-◌, ◌==◌, Bool, true, false, ◌&&◌, ◌||◌, List, [], ◌∷◌}
use Rattle.std.proofs.Common.{◌++◌, Some, None, append-nil, eq-eqb, if◌then◌else◌, inl, length, arith}
use Rattle.std.specs.Prelude.{Ok, Err}
use Rattle.grammars.specs.Deterministic.{IsStart}
use Rattle.grammars.specs.Find.{Past, front}
use Rattle.grammars.specs.First.{heads, may_begin}
use Rattle.grammars.specs.Grammar.{Either, Mark, Nothing, Sign, Then, perhaps}
use Rattle.grammars.specs.Machine.{is_nullable}
use Rattle.grammars.proofs.WordLemmas.{find_first, find_other, find_skips}
use Rattle.pm_token.specs.Leaf.{Mark as Punctuation, is_joint}
use Rattle.pm_stream.specs.declared.stream.TokenTree.{TokenTree}
use Rattle.pm_stream.specs.declared.stream.TokenTree.TheVariants.{Group, Ident, Punct, Literal}
use Rattle.declarations.specs.Explore.{ExpectsComma, ExpectsWhole}
use Rattle.declarations.specs.Fault.{first_extent}
use Rattle.declarations.specs.Forms.{AreAttributes, AreBounds, IsType}
use Rattle.declarations.specs.List.{IsListFault, IsPastComma}
use Rattle.declarations.specs.Param.{EndsElement, Fails, FoundPart, HasNo, IsWord, Leads, ReadsElement, ReadsPart}
use Rattle.declarations.specs.Param.{after_bounds, after_name, comma, is_constant, last}
use Rattle.declarations.specs.Parameter.{LeadsTo}
use Rattle.declarations.specs.Reader.{Finds, Sticks, classes_in}
use Rattle.declarations.specs.Reading.{Reads}
use Rattle.declarations.specs.Signs.{BeginsWith, joint_class, loose_class, mark_class, pair_class, trees_of}
use Rattle.item_tables.specs.declared.class.SignClass.{SignClass}
use Rattle.item_tables.specs.declared.class.SignClass.TheVariants as signs
use Rattle.item_tables.specs.declared.class.Keyword.TheVariants as keywords
use Rattle.item_tables.specs.declared.class.Word.{Word}
use Rattle.item_tables.specs.declared.class.Word.TheVariants as words
use Rattle.declarations.specs.declared.fault.Fault.{Fault}
use Rattle.declarations.specs.declared.generics.ParamKind.{ParamKind}
use Rattle.declarations.specs.declared.generics.ParamKind.TheVariants as kinds
use Rattle.item_tables.specs.Classes.{code, is, is_block, is_word}
use Rattle.declarations.specs.rules.Names.{Bounded, Bounds, Default, G, Label, Named, Parameter, Rest, key, one, seq}
use Rattle.declarations.specs.rules.Names.{word}
use Rattle.declarations.specs.rules.Parts as rule
use Rattle.declarations.specs.rules.Paths.{colon_bounds}
use Rattle.declarations.specs.rules.Pieces.{ByRule}
use Rattle.declarations.specs.rules.Rules.{follows, rules}
use Rattle.declarations.specs.rules.Types.{bounds, type}
use Rattle.declarations.proofs.ClassLemmas.{same_class}
use Rattle.declarations.proofs.CommaLemmas.{lacks_comma}
use Rattle.declarations.proofs.ParamLemmas.{same_class as begin_same}
use Rattle.declarations.proofs.ParameterLemmas.{finds_leads, leads_finds, leads_on, leads_sticks}
use Rattle.declarations.proofs.ReaderLemmas.{first_finds, first_sticks, heads_none, heads_nothing, heads_sign, lacks}
use Rattle.declarations.proofs.ReaderLemmas.{mark_finds, mark_finds_here, mark_sticks, other_finds, other_sticks}
use Rattle.declarations.proofs.ReaderLemmas.{perhaps_stays, remains_span, remains_within, sign_ends, sign_finds}
use Rattle.declarations.proofs.ReaderLemmas.{sign_sticks, stays, then_fails, then_finds, then_sticks}
use Rattle.declarations.proofs.RuleExpectsLemmas.{stuck_expects}
use Rattle.declarations.proofs.RuleFormLemmas.{found_reads, none_sticks, stuck_fault}
use Rattle.declarations.proofs.RuleLemmas.{starts}
use Rattle.declarations.proofs.SignLemmas.{begins_one}
use Rattle.declarations.proofs.StartLemmas as begin

-- ---- types, bounds and attributes

part_fails : (g : G) → IsStart rules follows (g ∷ []) → (trees left : List TokenTree) → Sticks g trees left
    → Fails (Reads (ByRule g)) trees left
part_fails g start trees left s = record {
  back = (trees_of s.remains.front, s.remains.whole);
  nothing = λ part rest r. none_sticks g start trees part rest left s r;
}

starts_type : IsStart rules follows (type ∷ [])
starts_type = begin.type_starts

starts_bounds : IsStart rules follows (bounds ∷ [])
starts_bounds = begin.bounds_starts

starts_attributes : IsStart rules follows (rule.attributes ∷ [])
starts_attributes = begin.attributes_starts

pub type_is_read : (trees part rest : List TokenTree) → Finds type trees rest → trees ≡ part ++ rest
    → Reads IsType trees part rest
type_is_read = found_reads type starts_type

pub type_fails : (trees left : List TokenTree) → Sticks type trees left → Fails (Reads IsType) trees left
type_fails = part_fails type starts_type

pub ruleset type_parts = (type_is_read, type_fails)

pub bounds_are_read : (trees part rest : List TokenTree) → Finds bounds trees rest → trees ≡ part ++ rest
    → Reads AreBounds trees part rest
bounds_are_read = found_reads bounds starts_bounds

pub bounds_fail : (trees left : List TokenTree) → Sticks bounds trees left → Fails (Reads AreBounds) trees left
bounds_fail = part_fails bounds starts_bounds

pub ruleset bound_parts = (bounds_are_read, bounds_fail)

pub attributes_are_read : (trees part rest : List TokenTree) → Finds rule.attributes trees rest → trees ≡ part ++ rest
    → Reads AreAttributes trees part rest
attributes_are_read = found_reads rule.attributes starts_attributes

pub attributes_fail : (trees left : List TokenTree) → Sticks rule.attributes trees left
    → Fails (Reads AreAttributes) trees left
attributes_fail = part_fails rule.attributes starts_attributes

pub ruleset attribute_parts = (attributes_are_read, attributes_fail)

-- ---- a sign, and what must come after it

-- a sign, and what this rule reads after it, with labels before them
abbrev led : SignClass → Label → G → G
led mark label g = seq (Mark Rest ∷ one mark ∷ Mark label ∷ g ∷ [])

module _ (mark : SignClass) (label : Label) (g : G) (trees : List TokenTree) where
  module _ (left : List TokenTree) (b : BeginsWith trees mark left) (h : is mark mark ≡ true) where
    led_finds : (rest : List TokenTree) → Finds g left rest → Finds (led mark label g) trees rest
    led_finds rest f =
        mark_finds Rest (Then (one mark) (Then (Mark label) g)) trees rest
        (then_finds (one mark) (Then (Mark label) g) trees left rest (sign_finds (is mark) trees left mark b h)
        (mark_finds label g left rest f))

    led_sticks : (fault : List TokenTree) → Sticks g left fault → Sticks (led mark label g) trees fault
    led_sticks fault f =
        mark_sticks Rest (Then (one mark) (Then (Mark label) g)) trees fault
        (then_fails (one mark) (Then (Mark label) g) trees left fault (sign_finds (is mark) trees left mark b h)
        (mark_sticks label g left fault f))

    pub led_reads : (r : FoundPart) → ReadsPart g left r → ReadsPart (led mark label g) trees r
    led_reads (Ok found) f = led_finds found.1.now f
    led_reads (Err fault) f = led_sticks fault.now f

  pub led_none : heads (one mark) (classes_in trees) ≡ false → Sticks (led mark label g) trees trees
  led_none h =
      mark_sticks Rest (Then (one mark) (Then (Mark label) g)) trees trees
      (then_sticks (one mark) (Then (Mark label) g) trees trees (lacks (one mark) trees h refl))

pub colon_reads : (trees left : List TokenTree) (r : FoundPart) → BeginsWith trees signs.Colon left
    → ReadsPart bounds left r
    → ReadsPart colon_bounds trees r
colon_reads trees left r b f = led_reads signs.Colon Bounds bounds trees left b refl r f

pub no_colon : (trees : List TokenTree) → heads (one signs.Colon) (classes_in trees) ≡ false
    → Sticks colon_bounds trees trees
no_colon trees h = led_none signs.Colon Bounds bounds trees h

-- ---- predicates

abbrev after_label : G
after_label = Then type colon_bounds

pub predicate_finds : (trees mid rest : List TokenTree) → Finds type trees mid → Finds colon_bounds mid rest
    → Finds rule.predicate trees rest
predicate_finds trees mid rest f h =
    mark_finds Bounded after_label trees rest (then_finds type colon_bounds trees mid rest f h)

pub predicate_sticks : (trees left : List TokenTree) → Sticks type trees left → Sticks rule.predicate trees left
predicate_sticks trees left f = mark_sticks Bounded after_label trees left (then_sticks type colon_bounds trees left f)

pub predicate_fails : (trees mid left : List TokenTree) → Finds type trees mid → Sticks colon_bounds mid left
    → Sticks rule.predicate trees left
predicate_fails trees mid left f h =
    mark_sticks Bounded after_label trees left (then_fails type colon_bounds trees mid left f h)

-- ---- the end of an element

no_pair : (m : Punctuation) (second : TokenTree) → m.mark ≡ 44 → pair_class (Punct m) second ≡ None
no_pair m (Punct q) e = go (is_joint m.spacing)
  where
    go : (b : Bool) → (if b then joint_class m.mark q.mark else loose_class m.mark q.mark) ≡ None
    go true = ap (λ c. joint_class c q.mark) e
    go false = ap (λ c. loose_class c q.mark) e
no_pair m (Ident i) e = ap (λ c. if c == 39 then Some signs.Lifetime else None) e
no_pair m (Group g) e = refl
no_pair m (Literal l) e = refl

comma_begins : (m : Punctuation) (rest : List TokenTree) → m.mark ≡ 44 → BeginsWith (Punct m ∷ rest) signs.Comma rest
comma_begins m [] e = record {
  front = Punct m ∷ [];
  whole = refl;
  fewer = omega arith;
  read = ap (λ c. record { class = mark_class c (is_joint m.spacing); trees = Punct m ∷ [] } ∷ []) e;
}
comma_begins m (second ∷ rest) e =
    subst (λ c. BeginsWith (Punct m ∷ second ∷ rest) c (second ∷ rest)) (ap (λ c. mark_class c (is_joint m.spacing)) e)
    (begins_one (Punct m ∷ second ∷ rest) (second ∷ rest) (Punct m) second rest refl refl (no_pair m second e))

-- where no element ends, there is no comma and not the end
pub no_past_comma : (trees : List TokenTree) → ((rest : List TokenTree) → EndsElement trees rest → ⊥)
    → (left : List TokenTree) → IsPastComma trees left → ⊥
no_past_comma [] none left past = none [] (last refl refl)
no_past_comma (Punct m ∷ rest) none left past = none rest (comma (comma_begins m rest past.0))
no_past_comma (Group g ∷ rest) none left past = past
no_past_comma (Ident i ∷ rest) none left past = past
no_past_comma (Literal l ∷ rest) none left past = past

-- ---- the errors of elements

module _ (g : G) (start : IsStart rules follows (g ∷ [])) (trees left : List TokenTree) (fault : Fault)
    (at : fault.at ≡ length trees - length left) (span : fault.span ≡ first_extent left) where
  pub element_lacks : Sticks g trees left → ExpectsWhole g trees fault.expected → IsListFault (ByRule g) trees fault
  element_lacks s e =
      let within = remains_within trees left s.remains in
      record {
        place = inl (record {
          place = stuck_fault g start trees left fault.at s (omega arith);
          expected = stuck_expects g start trees left fault.at fault.expected s at e;
        });
        span = remains_span trees left fault.at fault.span s.remains at span;
      }

  pub comma_lacks : Finds g trees left → ((rest : List TokenTree) → EndsElement left rest → ⊥)
      → ExpectsComma g trees fault.expected → IsListFault (ByRule g) trees fault
  comma_lacks f none e =
      lacks_comma g start trees (trees_of f.remains.front) left fault
      (found_reads g start trees (trees_of f.remains.front) left f f.remains.whole) (no_past_comma left none) at span e

pub element_reads : (g : G) → IsStart rules follows (g ∷ []) → (trees from_end rest : List TokenTree)
    → Finds g trees from_end → EndsElement from_end rest → ReadsElement g trees rest
element_reads g start trees from_end rest f ends = record {
  part = trees_of f.remains.front;
  from_end = from_end;
  reads = found_reads g start trees (trees_of f.remains.front) from_end f f.remains.whole;
  ends = ends;
}

pub starts_predicate : IsStart rules follows (rule.predicate ∷ [])
starts_predicate = starts rule.predicate refl refl

-- ---- what may be left out

or_nothing : (x y : Bool) → (x || false && y) ≡ x
or_nothing true y = refl
or_nothing false y = refl

heads_led : (class : SignClass) (label : Label) (g : G) (cs : List SignClass)
    → heads (led class label g) cs ≡ heads (one class) cs
heads_led class label g [] = refl
heads_led class label g (c ∷ cs) = or_nothing (is class c) (may_begin (Then (Mark label) g) c)

module _ (mark : SignClass) (label : Label) (g : G) (trees : List TokenTree) where
  may_led : (left : List TokenTree) → BeginsWith trees mark left → is mark mark ≡ true → (r : FoundPart)
      → ReadsPart g left r
      → ReadsPart (perhaps (led mark label g)) trees r
  may_led left b h r f = go r (led_reads mark label g trees left b h r f)
    where
      begun : heads (led mark label g) (classes_in trees) ≡ true
      begun = heads_led mark label g (classes_in trees) ∙ (heads_sign (one mark) trees left mark b ∙ h)

      go : (r : FoundPart) → ReadsPart (led mark label g) trees r → ReadsPart (perhaps (led mark label g)) trees r
      go (Ok found) f = first_finds (led mark label g) Nothing trees found.1.now begun f
      go (Err fault) f = first_sticks (led mark label g) Nothing trees fault.now begun f

  not_led : heads (one mark) (classes_in trees) ≡ false → Finds (perhaps (led mark label g)) trees trees
  not_led h = perhaps_stays (led mark label g) trees (heads_led mark label g (classes_in trees) ∙ h)

pub with_bounds_reads : (trees left : List TokenTree) (r : FoundPart) → BeginsWith trees signs.Colon left
    → ReadsPart bounds left r
    → ReadsPart rule.with_bounds trees r
with_bounds_reads trees left r b f = may_led signs.Colon Bounds bounds trees left b refl r f

pub without_bounds : (trees : List TokenTree) → heads (one signs.Colon) (classes_in trees) ≡ false
    → Finds rule.with_bounds trees trees
without_bounds trees h = not_led signs.Colon Bounds bounds trees h

pub with_type_reads : (trees left : List TokenTree) (r : FoundPart) → BeginsWith trees signs.Equals left
    → ReadsPart type left r
    → ReadsPart (perhaps rule.default_type) trees r
with_type_reads trees left r b f = may_led signs.Equals Default type trees left b refl r f

pub without_type : (trees : List TokenTree) → heads (one signs.Equals) (classes_in trees) ≡ false
    → Finds (perhaps rule.default_type) trees trees
without_type trees h = not_led signs.Equals Default type trees h

pub with_constant_reads : (trees left : List TokenTree) (r : FoundPart) → BeginsWith trees signs.Equals left
    → ReadsPart rule.constant_default left r
    → ReadsPart rule.with_constant trees r
with_constant_reads trees left r b f = may_led signs.Equals Default rule.constant_default trees left b refl r f

pub without_constant : (trees : List TokenTree) → heads (one signs.Equals) (classes_in trees) ≡ false
    → Finds rule.with_constant trees trees
without_constant trees h = not_led signs.Equals Default rule.constant_default trees h

-- ---- defaults of constants

abbrev negative : G
negative = Then (one signs.Minus) (one signs.Literal)

abbrev a_block : G
a_block = Sign is_block

abbrev block_or_type : G
block_or_type = Either a_block (Either (one signs.Truth) type)

abbrev literal_or_type : G
literal_or_type = Either (one signs.Literal) block_or_type

-- a sign that is the whole default
pub constant_finds : (trees rest : List TokenTree) (class : SignClass) → BeginsWith trees class rest
    → is_constant class ≡ true
    → Finds rule.constant_default trees rest
constant_finds trees rest signs.Literal b h =
    other_finds negative literal_or_type trees rest (heads_sign negative trees rest signs.Literal b) refl
    (first_finds (one signs.Literal) block_or_type trees rest
    (heads_sign (one signs.Literal) trees rest signs.Literal b)
    (sign_finds (is signs.Literal) trees rest signs.Literal b refl))
constant_finds trees rest signs.Braces b h =
    other_finds negative literal_or_type trees rest (heads_sign negative trees rest signs.Braces b) refl
    (other_finds (one signs.Literal) block_or_type trees rest (heads_sign (one signs.Literal) trees rest signs.Braces b)
    refl
    (first_finds a_block (Either (one signs.Truth) type) trees rest
    (heads_sign a_block trees rest signs.Braces b) (sign_finds is_block trees rest signs.Braces b refl)))
constant_finds trees rest signs.Block b h =
    other_finds negative literal_or_type trees rest (heads_sign negative trees rest signs.Block b) refl
    (other_finds (one signs.Literal) block_or_type trees rest (heads_sign (one signs.Literal) trees rest signs.Block b)
    refl
    (first_finds a_block (Either (one signs.Truth) type) trees rest
    (heads_sign a_block trees rest signs.Block b) (sign_finds is_block trees rest signs.Block b refl)))
constant_finds trees rest signs.Truth b h =
    other_finds negative literal_or_type trees rest (heads_sign negative trees rest signs.Truth b) refl
    (other_finds (one signs.Literal) block_or_type trees rest (heads_sign (one signs.Literal) trees rest signs.Truth b)
    refl
    (other_finds a_block (Either (one signs.Truth) type) trees rest
    (heads_sign a_block trees rest signs.Truth b) refl
    (first_finds (one signs.Truth) type trees rest (heads_sign (one signs.Truth) trees rest signs.Truth b)
    (sign_finds (is signs.Truth) trees rest signs.Truth b refl))))
constant_finds trees rest class b h = cc

pub negative_finds : (trees after rest : List TokenTree) → BeginsWith trees signs.Minus after
    → BeginsWith after signs.Literal rest
    → Finds rule.constant_default trees rest
negative_finds trees after rest b l =
    first_finds negative literal_or_type trees rest (heads_sign negative trees after signs.Minus b)
    (then_finds (one signs.Minus) (one signs.Literal) trees after rest
    (sign_finds (is signs.Minus) trees after signs.Minus b refl)
    (sign_finds (is signs.Literal) after rest signs.Literal l refl))

pub negative_sticks : (trees after : List TokenTree) → BeginsWith trees signs.Minus after
    → heads (one signs.Literal) (classes_in after) ≡ false
    → Sticks rule.constant_default trees after
negative_sticks trees after b h =
    first_sticks negative literal_or_type trees after (heads_sign negative trees after signs.Minus b)
    (then_fails (one signs.Minus) (one signs.Literal) trees after after
    (sign_finds (is signs.Minus) trees after signs.Minus b refl) (lacks (one signs.Literal) after h refl))

-- the trees have none of the signs with which a default begins, unless it is a type
pub record IsOther (trees : List TokenTree) : Type 0 where
  pub no_minus : heads negative (classes_in trees) ≡ false
  pub no_literal : heads (one signs.Literal) (classes_in trees) ≡ false
  pub no_block : heads a_block (classes_in trees) ≡ false
  pub no_truth : heads (one signs.Truth) (classes_in trees) ≡ false

pub other_reads : (trees : List TokenTree) (r : FoundPart) → IsOther trees → ReadsPart type trees r
    → ReadsPart rule.constant_default trees r
other_reads trees (Ok found) o f =
    other_finds negative literal_or_type trees found.1.now o.no_minus refl
    (other_finds (one signs.Literal) block_or_type trees found.1.now o.no_literal refl
    (other_finds a_block (Either (one signs.Truth) type) trees found.1.now o.no_block refl
    (other_finds (one signs.Truth) type trees found.1.now o.no_truth refl f)))
other_reads trees (Err fault) o f =
    other_sticks negative literal_or_type trees fault.now o.no_minus refl
    (other_sticks (one signs.Literal) block_or_type trees fault.now o.no_literal refl
    (other_sticks a_block (Either (one signs.Truth) type) trees fault.now o.no_block refl
    (other_sticks (one signs.Truth) type trees fault.now o.no_truth refl f)))

pub none_other : (trees : List TokenTree) → trees ≡ [] → IsOther trees
none_other trees e = record {
  no_minus = heads_none negative trees e;
  no_literal = heads_none (one signs.Literal) trees e;
  no_block = heads_none a_block trees e;
  no_truth = heads_none (one signs.Truth) trees e;
}

-- a class that passes the test of another class is the other class, so it fails if it is none of these
not_class : (x c : SignClass) → (c ≡ x → ⊥) → is x c ≡ false
not_class x c none = go (is x c) refl
  where
    go : (b : Bool) → is x c ≡ b → is x c ≡ false
    go false e = e
    go true e = absurd (none (same_class x c e))

other_class : (p : SignClass → Bool) (x c : SignClass) → p x ≡ true → p c ≡ false → c ≡ x → ⊥
other_class p x c h n e =
    let clash : true ≡ false = sym h ∙ (ap p (sym e) ∙ n) in
    cc

no_block : (class : SignClass) → is_constant class ≡ false → is_block class ≡ false
no_block signs.Braces h = cc
no_block signs.Block h = cc
no_block class h = refl

pub sign_other : (trees rest : List TokenTree) (class : SignClass) → BeginsWith trees class rest
    → is_constant class ≡ false → (class ≡ signs.Minus → ⊥)
    → IsOther trees
sign_other trees rest class b h none =
    let not : (x : SignClass) → is_constant x ≡ true → is x class ≡ false =
    λ x e. not_class x class (other_class is_constant x class e h) in
    record {
      no_minus = heads_sign negative trees rest class b
          ∙ (or_nothing (is signs.Minus class) (is signs.Literal class) ∙ not_class signs.Minus class none);
      no_literal = heads_sign (one signs.Literal) trees rest class b ∙ not signs.Literal refl;
      no_block = heads_sign a_block trees rest class b
          ∙ no_block class h;
      no_truth = heads_sign (one signs.Truth) trees rest class b ∙ not signs.Truth refl;
    }

-- ---- the name of a parameter

-- the rule leads to another one in the first of two rules
first_leads : (a b h : G) (trees mid : List TokenTree) → heads a (classes_in trees) ≡ true → LeadsTo a trees h mid
    → LeadsTo (Either a b) trees h mid
first_leads a b h trees mid e l = record {
  events = l.events;
  found = find_first rules a b (classes_in trees) e ∙ l.found;
  remains = l.remains;
}

other_leads : (a b h : G) (trees mid : List TokenTree) → heads a (classes_in trees) ≡ false → is_nullable a ≡ false
    → LeadsTo b trees h mid
    → LeadsTo (Either a b) trees h mid
other_leads a b h trees mid d e l = record {
  events = l.events;
  found = find_other rules a b (classes_in trees) d e ∙ l.found;
  remains = l.remains;
}

mark_leads : (l : Label) (b h : G) (trees mid : List TokenTree) → LeadsTo b trees h mid
    → LeadsTo (Then (Mark l) b) trees h mid
mark_leads l b h trees mid f =
    leads_on (Then (Mark l) b) b h trees trees mid (finds_leads (Mark l) b trees trees (mark_finds_here l trees)) f

abbrev a_lifetime : G
a_lifetime = seq (Mark Named ∷ one signs.Lifetime ∷ rule.with_bounds ∷ [])

abbrev a_type : G
a_type = seq (Mark Named ∷ word ∷ rule.with_bounds ∷ perhaps rule.default_type ∷ [])

abbrev a_constant : G
a_constant = seq (Mark Rest ∷ key keywords.Const ∷ rule.constant_rest ∷ [])

abbrev type_or_constant : G
type_or_constant = Either a_type a_constant

word_no_lifetime : (w : Word) → may_begin a_lifetime (signs.Word w) ≡ false
word_no_lifetime words.Auto = refl
word_no_lifetime _ = refl

word_begins : (w : Word) → may_begin a_type (signs.Word w) ≡ true
word_begins words.Auto = refl
word_begins _ = refl

word_is : (w : Word) → is_word (signs.Word w) ≡ true
word_is words.Auto = refl
word_is _ = refl

pub lifetime_leads : (trees rest : List TokenTree) → BeginsWith trees signs.Lifetime rest
    → LeadsTo rule.parameter_rest trees (after_name kinds.Lifetime) rest
lifetime_leads trees rest b =
    first_leads a_lifetime type_or_constant rule.with_bounds trees rest
    (heads_sign a_lifetime trees rest signs.Lifetime b)
    (mark_leads Named (Then (one signs.Lifetime) rule.with_bounds) rule.with_bounds trees rest
    (finds_leads (one signs.Lifetime) rule.with_bounds trees rest
    (sign_finds (is signs.Lifetime) trees rest signs.Lifetime b refl)))

pub word_leads : (trees rest : List TokenTree) (w : Word) → BeginsWith trees (signs.Word w) rest
    → LeadsTo rule.parameter_rest trees (after_name kinds.Type) rest
word_leads trees rest w b =
    let more : G = after_name kinds.Type in
    other_leads a_lifetime type_or_constant more trees rest
    (heads_sign a_lifetime trees rest (signs.Word w) b ∙ word_no_lifetime w) refl
    (first_leads a_type a_constant more trees rest (heads_sign a_type trees rest (signs.Word w) b ∙ word_begins w)
    (mark_leads Named (Then word more) more trees rest
    (finds_leads word more trees rest (sign_finds is_word trees rest (signs.Word w) b (word_is w)))))

module _ (trees mid : List TokenTree) (b : BeginsWith trees (signs.Keyword keywords.Const) mid) where
  pub const_leads : (rest : List TokenTree) (w : Word) → BeginsWith mid (signs.Word w) rest
      → LeadsTo rule.parameter_rest trees (after_name kinds.Const) rest
  const_leads rest w d =
      let more : G = after_name kinds.Const in
      other_leads a_lifetime type_or_constant more trees rest
      (heads_sign a_lifetime trees mid (signs.Keyword keywords.Const) b) refl
      (other_leads a_type a_constant more trees rest
      (heads_sign a_type trees mid (signs.Keyword keywords.Const) b) refl
      (mark_leads Rest (Then (key keywords.Const) rule.constant_rest) more trees rest
      (leads_on (Then (key keywords.Const) rule.constant_rest) rule.constant_rest more trees mid rest
      (finds_leads (key keywords.Const) rule.constant_rest trees mid
      (sign_finds (is (signs.Keyword keywords.Const)) trees mid (signs.Keyword keywords.Const) b refl))
      (mark_leads Named (Then word more) more mid rest
      (finds_leads word more mid rest (sign_finds is_word mid rest (signs.Word w) d (word_is w)))))))

  pub const_sticks : (left : List TokenTree) → Sticks word mid left → Sticks rule.parameter_rest trees left
  const_sticks left s =
      let more : G = after_name kinds.Const in
      other_sticks a_lifetime type_or_constant trees left
      (heads_sign a_lifetime trees mid (signs.Keyword keywords.Const) b) refl
      (other_sticks a_type a_constant trees left
      (heads_sign a_type trees mid (signs.Keyword keywords.Const) b) refl
      (mark_sticks Rest (Then (key keywords.Const) rule.constant_rest) trees left
      (then_fails (key keywords.Const) rule.constant_rest trees mid left
      (sign_finds (is (signs.Keyword keywords.Const)) trees mid (signs.Keyword keywords.Const) b refl)
      (mark_sticks Named (Then word more) mid left (then_sticks word more mid left s)))))

pub no_parameter : (trees : List TokenTree) → trees ≡ [] → Sticks rule.parameter_rest trees trees
no_parameter trees e = lacks rule.parameter_rest trees (heads_none rule.parameter_rest trees e) refl

is_some_word : (c : SignClass) → is_word c ≡ true → (w : Word) × (c ≡ signs.Word w)
is_some_word (signs.Word w) h = (w, refl)
is_some_word c h = cc

no_word : (c : SignClass) → ((w : Word) → c ≡ signs.Word w → ⊥) → is_word c ≡ false
no_word c none = go (is_word c) refl
  where
    go : (b : Bool) → is_word c ≡ b → is_word c ≡ false
    go false e = e
    go true e = let some = is_some_word c e in absurd (none some.0 some.1)

pub other_parameter : (trees rest : List TokenTree) (class : SignClass) → BeginsWith trees class rest
    → (class ≡ signs.Lifetime → ⊥) → ((w : Word) → class ≡ signs.Word w → ⊥)
    → (class ≡ signs.Keyword keywords.Const → ⊥)
    → Sticks rule.parameter_rest trees trees
other_parameter trees rest class b no_lifetime none no_const =
    lacks rule.parameter_rest trees
    (heads_sign rule.parameter_rest trees rest class b
    ∙ go (is signs.Lifetime class) (is_word class) (is (signs.Keyword keywords.Const) class)
    (not_class signs.Lifetime class no_lifetime) (no_word class none)
    (not_class (signs.Keyword keywords.Const) class no_const)) refl
  where
    go : (x y z : Bool) → x ≡ false → y ≡ false → z ≡ false
        → ((x || false && may_begin rule.with_bounds class)
        || ((y || false && (may_begin rule.with_bounds class || may_begin (perhaps rule.default_type) class))
        || (z || false && may_begin rule.constant_rest class)))
        ≡ false
    go x y z e f g = rw (e, f, g) refl

pub no_word_here : (trees rest : List TokenTree) (class : SignClass) → BeginsWith trees class rest
    → ((w : Word) → class ≡ signs.Word w → ⊥)
    → Sticks word trees trees
no_word_here trees rest class b none = sign_sticks is_word trees rest class b (no_word class none)

pub word_here : (trees rest : List TokenTree) (w : Word) → BeginsWith trees (signs.Word w) rest → Finds word trees rest
word_here trees rest w b = sign_finds is_word trees rest (signs.Word w) b (word_is w)

pub word_fails : (trees rest : List TokenTree) (class : SignClass) → BeginsWith trees class rest
    → ((w : Word) → class ≡ signs.Word w → ⊥)
    → Fails IsWord trees trees
word_fails trees rest class b none = record {
  back = ([], refl);
  nothing = λ name after has.
      none has.word (sym (begin_same trees class (signs.Word has.word) rest after b has.sign.begins));
}

pub word_none : (trees : List TokenTree) → trees ≡ [] → Sticks word trees trees
word_none trees e = sign_ends is_word trees e

-- ---- the bounds of a parameter

-- what is found leads to nothing more
leads_end : (g : G) (trees rest : List TokenTree) → Finds g trees rest → LeadsTo g trees Nothing rest
leads_end g trees rest f = record {
  events = f.events;
  found = f.found
      ∙ (ap (λ e. Past e (classes_in rest)) (sym (append-nil f.events))
      ∙ ap (front f.events) (sym (find_skips rules Nothing (classes_in rest) (heads_nothing (classes_in rest)) refl)));
  remains = f.remains;
}

pub lifetime_bounds : (trees : List TokenTree) (r : FoundPart) → ReadsPart rule.with_bounds trees r
    → Leads (after_name kinds.Lifetime) (after_bounds kinds.Lifetime) trees r
lifetime_bounds trees (Ok found) f = leads_end rule.with_bounds trees found.1.now f
lifetime_bounds trees (Err left) f = f

pub type_bounds : (trees : List TokenTree) (r : FoundPart) → ReadsPart rule.with_bounds trees r
    → Leads (after_name kinds.Type) (after_bounds kinds.Type) trees r
type_bounds trees (Ok found) f = finds_leads rule.with_bounds (perhaps rule.default_type) trees found.1.now f
type_bounds trees (Err left) f = then_sticks rule.with_bounds (perhaps rule.default_type) trees left.now f

abbrev typed : G
typed = Then type rule.with_constant

pub const_bounds : (trees mid : List TokenTree) (r : FoundPart) → BeginsWith trees signs.Colon mid
    → ReadsPart type mid r
    → Leads (after_name kinds.Const) (after_bounds kinds.Const) trees r
const_bounds trees mid (Ok found) b f =
    mark_leads Rest (Then (one signs.Colon) (Then (Mark Bounds) typed)) rule.with_constant trees found.1.now
    (leads_on (Then (one signs.Colon) (Then (Mark Bounds) typed)) (Then (Mark Bounds) typed) rule.with_constant trees
    mid found.1.now
    (finds_leads (one signs.Colon) (Then (Mark Bounds) typed) trees mid
    (sign_finds (is signs.Colon) trees mid signs.Colon b refl))
    (mark_leads Bounds typed rule.with_constant mid found.1.now
    (finds_leads type rule.with_constant mid found.1.now f)))
const_bounds trees mid (Err left) b f =
    mark_sticks Rest (Then (one signs.Colon) (Then (Mark Bounds) typed)) trees left.now
    (then_fails (one signs.Colon) (Then (Mark Bounds) typed) trees mid left.now
    (sign_finds (is signs.Colon) trees mid signs.Colon b refl)
    (mark_sticks Bounds typed mid left.now (then_sticks type rule.with_constant mid left.now f)))

pub const_no_bounds : (trees : List TokenTree) → heads (one signs.Colon) (classes_in trees) ≡ false
    → Sticks (after_name kinds.Const) trees trees
const_no_bounds trees h =
    mark_sticks Rest (Then (one signs.Colon) (Then (Mark Bounds) typed)) trees trees
    (then_sticks (one signs.Colon) (Then (Mark Bounds) typed) trees trees (lacks (one signs.Colon) trees h refl))

pub no_default : (trees : List TokenTree) → Finds (after_bounds kinds.Lifetime) trees trees
no_default trees = stays Nothing trees (heads_nothing (classes_in trees)) refl

-- ---- parameters

abbrev with_attributes : G
with_attributes = Then rule.attributes rule.parameter_rest

pub attributes_stick : (trees left : List TokenTree) → Sticks rule.attributes trees left
    → Sticks rule.parameter trees left
attributes_stick trees left s =
    mark_sticks Parameter with_attributes trees left
    (then_sticks rule.attributes rule.parameter_rest trees left s)

module _ (trees from_name : List TokenTree) (f : Finds rule.attributes trees from_name) where
  pub name_sticks : (left : List TokenTree) → Sticks rule.parameter_rest from_name left
      → Sticks rule.parameter trees left
  name_sticks left s =
      mark_sticks Parameter with_attributes trees left
      (then_fails rule.attributes rule.parameter_rest trees from_name left f s)

  module _ (kind : ParamKind) (from_bounds : List TokenTree)
      (n : LeadsTo rule.parameter_rest from_name (after_name kind) from_bounds) where
    pub bounds_stick : (left : List TokenTree) → Sticks (after_name kind) from_bounds left
        → Sticks rule.parameter trees left
    bounds_stick left s =
        name_sticks left (leads_sticks rule.parameter_rest (after_name kind) from_name from_bounds left n s)

    module _ (from_default : List TokenTree)
        (b : LeadsTo (after_name kind) from_bounds (after_bounds kind) from_default) where
      pub default_sticks : (left : List TokenTree) → Sticks (after_bounds kind) from_default left
          → Sticks rule.parameter trees left
      default_sticks left s =
          bounds_stick left (leads_sticks (after_name kind) (after_bounds kind) from_bounds from_default left b s)

      pub parameter_finds : (rest : List TokenTree) → Finds (after_bounds kind) from_default rest
          → Finds rule.parameter trees rest
      parameter_finds rest d =
          mark_finds Parameter with_attributes trees rest
          (then_finds rule.attributes rule.parameter_rest trees from_name rest f
          (leads_finds rule.parameter_rest (after_name kind) from_name from_bounds rest n
          (leads_finds (after_name kind) (after_bounds kind) from_bounds from_default rest b d)))

pub starts_parameter : IsStart rules follows (rule.parameter ∷ [])
starts_parameter = starts rule.parameter refl refl

-- ---- one sign

-- trees that begin with another sign do not begin with this one
pub other_sign : (trees rest : List TokenTree) (class found : SignClass) → BeginsWith trees found rest
    → is class found ≡ false
    → HasNo class trees
other_sign trees rest class found b h = λ rest2 b2.
    let same : class ≡ found = begin_same trees found class rest rest2 b b2 in
    let itself : is class class ≡ true = eq-eqb (code class) (code class) refl in
    let clash : true ≡ false = sym itself ∙ (ap (is class) same ∙ h) in
    cc
