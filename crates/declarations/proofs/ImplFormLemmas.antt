-- What the rule of an `impl` reads after the keyword, part by part.
use Rattle.std.proofs.Common.{◌≡◌, refl, sym, ◌∙◌, ap, subst, Bool, true, false, ◌&&◌, ◌||◌, List, [], ◌∷◌}
use Rattle.std.proofs.lemmas.Bool.{both_ways, or_left}
use Rattle.grammars.specs.Find.{Found, Past, Stuck, find}
use Rattle.grammars.specs.First.{heads, may_begin}
use Rattle.grammars.specs.Grammar.{Either, Mark, Nothing, Sign, Then, To, further, perhaps}
use Rattle.grammars.specs.Machine.{is_nullable, step}
use Rattle.grammars.proofs.FindLemmas.{scan_step}
use Rattle.declarations.specs.Impl.{begins_generics, begins_parameter, ends_parameter, goes_on_parameter, may_for}
use Rattle.declarations.specs.Found.{bare, finds}
use Rattle.item_tables.specs.declared.class.SignClass.{SignClass}
use Rattle.item_tables.specs.declared.class.SignClass.TheVariants as signs
use Rattle.item_tables.specs.declared.class.Keyword.TheVariants as keywords
use Rattle.item_tables.specs.declared.class.Word.{Word}
use Rattle.item_tables.specs.declared.class.Word.TheVariants as words
use Rattle.item_tables.specs.declared.types.TypeState.TheVariants as types
use Rattle.declarations.specs.rules.Bodies.{where_and_body}
use Rattle.item_tables.specs.Classes.{is, is_word, keyword, opens}
use Rattle.declarations.specs.rules.Impls.{angle_target, const_target, impl_angle, impl_front, impl_word}
use Rattle.declarations.specs.rules.Impls.{more_parameters, negative, target, target_but}
use Rattle.declarations.specs.rules.Names.{Bounds, G, Generics, Inside, Label, Named}
use Rattle.declarations.specs.rules.Names.{Parameter, Range, Rest, Target, comma, key, one, word}
use Rattle.declarations.specs.rules.Parts.{attribute, attributes, closed_parameters, constant_rest, default_type}
use Rattle.declarations.specs.rules.Parts.{generics, parameter, parameter_rest, parameters, with_bounds}
use Rattle.declarations.specs.rules.Rules.{rules}
use Rattle.declarations.specs.rules.Types.{all_operand, bounds, named_operand, operand, operand_but}
use Rattle.declarations.specs.rules.Types.{plain_continuation, range}
use Rattle.declarations.specs.rules.Types.{type}
use Rattle.declarations.proofs.FoundLemmas.{bind, bind_bind, finds_element, finds_first, finds_lacks}
use Rattle.declarations.proofs.FoundLemmas.{finds_marked, finds_more, finds_other, finds_sign, finds_skips}
use Rattle.declarations.proofs.FoundLemmas.{finds_then}
use Rattle.declarations.proofs.FoundLemmas.{finds_to}
use Rattle.declarations.proofs.ImplTypeLemmas.{splits}

pub or_nothing : (x y : Bool) → (x || false && y) ≡ x
or_nothing true y = refl
or_nothing false y = refl

-- what is found after the same front is the same, if what comes after it is
bind_same : (x : Found SignClass Label) (f g : List SignClass → Found SignClass Label)
    → ((r : List SignClass) → f r ≡ g r)
    → bind x f ≡ bind x g
bind_same (Past e r) f g h = h r
bind_same (Stuck l) f g h = refl

-- a sign, and what comes after it
finds_one : (passes : SignClass → Bool) (g : G) (c : SignClass) (cs : List SignClass) → passes c ≡ true
    → finds (Then (Sign passes) g) (c ∷ cs) ≡ finds g cs
finds_one passes g c cs h =
    finds_then (Sign passes) g (c ∷ cs) ∙ ap (λ x. bind x (finds g)) (finds_sign passes c cs h)

-- a part that is not there, and what comes after it
pub finds_past : (a b : G) (cs : List SignClass) → heads a cs ≡ false → is_nullable a ≡ true
    → finds (Then a b) cs ≡ finds b cs
finds_past a b cs h e = finds_then a b cs ∙ ap (λ x. bind x (finds b)) (finds_skips a cs h e)

-- three parts can be read as two
pub finds_three : (a b d : G) (cs : List SignClass)
    → finds (Then a (Then b d)) cs ≡ bind (finds (Then a b) cs) (finds d)
finds_three a b d cs =
    finds_then a (Then b d) cs
    ∙ (bind_same (finds a cs) (finds (Then b d)) (λ r. bind (finds b r) (finds d)) (λ r. finds_then b d r)
    ∙ (sym (bind_bind (finds a cs) (finds b) (finds d))
    ∙ ap (λ x. bind x (finds d)) (sym (finds_then a b cs))))

-- ---- a type or two, a where clause and a body

-- a type, perhaps `for` and another type, a where clause and a body
abbrev pub impl_type : G
impl_type = Then (range types.Wanted Target) where_and_body

-- the same, with the types by their own rule
abbrev pub split_typed : G
split_typed = Then type (Then may_for where_and_body)

pub typed_same : (cs : List SignClass) → finds impl_type cs ≡ finds split_typed cs
typed_same cs =
    finds_then (range types.Wanted Target) where_and_body cs
    ∙ (ap (λ x. bind x (finds where_and_body)) (splits types.Wanted cs)
    ∙ (ap (λ x. bind x (finds where_and_body)) (sym (finds_then type may_for cs))
    ∙ sym (finds_three type may_for where_and_body cs)))

-- ---- what comes after the generic parameters

-- a type whose first sign is not `!`
abbrev but_not : Bool → G
but_not angles = Either (named_operand Target) (operand_but (is signs.Exclamation) angles Target)

but_step : (c : SignClass) → is signs.Exclamation c ≡ false
    → step rules (but_not true ∷ []) c ≡ step rules (range types.Wanted Target ∷ []) c
but_step c h = rw h refl

plain_step : (c : SignClass) → is signs.Exclamation c ≡ false → opens c ≡ false
    → step rules (but_not false ∷ []) c ≡ step rules (range types.Wanted Target ∷ []) c
plain_step c h j = go (keyword keywords.For c) refl
  where
    go : (b : Bool) → keyword keywords.For c ≡ b
        → step rules (but_not false ∷ []) c ≡ step rules (range types.Wanted Target ∷ []) c
    go true e = rw (h, j, e) refl
    go false e = rw (h, j, e) refl

but_types : (c : SignClass) (cs : List SignClass) → is signs.Exclamation c ≡ false
    → finds (target_but true) (c ∷ cs) ≡ finds impl_type (c ∷ cs)
unfolding find
but_types c cs h =
    finds_then (but_not true) where_and_body (c ∷ cs)
    ∙ (ap (λ x. bind (bare x) (finds where_and_body))
    (scan_step rules (but_not true ∷ []) c cs (step rules (range types.Wanted Target ∷ []) c) (but_step c h)
    ∙ sym (scan_step rules (range types.Wanted Target ∷ []) c cs (step rules (range types.Wanted Target ∷ []) c) refl))
    ∙ sym (finds_then (range types.Wanted Target) where_and_body (c ∷ cs)))

plain_types : (c : SignClass) (cs : List SignClass) → is signs.Exclamation c ≡ false → opens c ≡ false
    → finds (target_but false) (c ∷ cs) ≡ finds impl_type (c ∷ cs)
unfolding find
plain_types c cs h j =
    finds_then (but_not false) where_and_body (c ∷ cs)
    ∙ (ap (λ x. bind (bare x) (finds where_and_body))
    (scan_step rules (but_not false ∷ []) c cs (step rules (range types.Wanted Target ∷ []) c) (plain_step c h j)
    ∙ sym (scan_step rules (range types.Wanted Target ∷ []) c cs (step rules (range types.Wanted Target ∷ []) c) refl))
    ∙ sym (finds_then (range types.Wanted Target) where_and_body (c ∷ cs)))

-- `const` and what follows it, and `!` and what follows it
abbrev with_const : G
with_const = Then (key keywords.Const) const_target

abbrev with_not : G
with_not = Then (one signs.Exclamation) negative

no_const : (c : SignClass) → is (signs.Keyword keywords.Const) c ≡ false → may_begin with_const c ≡ false
no_const c h = or_nothing (is (signs.Keyword keywords.Const) c) (may_begin const_target c) ∙ h

no_not : (c : SignClass) → is signs.Exclamation c ≡ false → may_begin with_not c ≡ false
no_not c h = or_nothing (is signs.Exclamation c) (may_begin negative c) ∙ h

module _ (angles : Bool) where
  pub target_const : (cs : List SignClass)
      → finds (target angles) (signs.Keyword keywords.Const ∷ cs) ≡ finds const_target cs
  target_const cs =
      finds_first with_const (Either with_not (target_but angles)) (signs.Keyword keywords.Const ∷ cs) refl
      ∙ finds_one (is (signs.Keyword keywords.Const)) const_target (signs.Keyword keywords.Const) cs refl

  pub target_not : (cs : List SignClass) → finds (target angles) (signs.Exclamation ∷ cs) ≡ finds negative cs
  target_not cs =
      finds_other with_const (Either with_not (target_but angles)) (signs.Exclamation ∷ cs) refl refl
      ∙ (finds_first with_not (target_but angles) (signs.Exclamation ∷ cs) refl
      ∙ finds_one (is signs.Exclamation) negative signs.Exclamation cs refl)

  target_rest : (c : SignClass) (cs : List SignClass) → is (signs.Keyword keywords.Const) c ≡ false
      → is signs.Exclamation c ≡ false
      → finds (target angles) (c ∷ cs) ≡ finds (target_but angles) (c ∷ cs)
  target_rest c cs h j =
      finds_other with_const (Either with_not (target_but angles)) (c ∷ cs) (no_const c h) refl
      ∙ finds_other with_not (target_but angles) (c ∷ cs) (no_not c j) refl

pub target_typed : (c : SignClass) (cs : List SignClass) → is (signs.Keyword keywords.Const) c ≡ false
    → is signs.Exclamation c ≡ false
    → finds (target true) (c ∷ cs) ≡ finds impl_type (c ∷ cs)
target_typed c cs h j = target_rest true c cs h j ∙ but_types c cs j

pub target_plain : (c : SignClass) (cs : List SignClass) → is (signs.Keyword keywords.Const) c ≡ false
    → is signs.Exclamation c ≡ false → opens c ≡ false
    → finds (target false) (c ∷ cs) ≡ finds impl_type (c ∷ cs)
target_plain c cs h j o = target_rest false c cs h j ∙ plain_types c cs j o

pub target_none : finds (target true) [] ≡ finds impl_type []
target_none = finds_lacks (target true) [] refl refl ∙ sym (finds_lacks impl_type [] refl refl)

pub const_not : (cs : List SignClass) → finds const_target (signs.Exclamation ∷ cs) ≡ finds negative cs
const_not cs =
    finds_first with_not (target_but true) (signs.Exclamation ∷ cs) refl
    ∙ finds_one (is signs.Exclamation) negative signs.Exclamation cs refl

pub const_typed : (c : SignClass) (cs : List SignClass) → is signs.Exclamation c ≡ false
    → finds const_target (c ∷ cs) ≡ finds impl_type (c ∷ cs)
const_typed c cs h = finds_other with_not (target_but true) (c ∷ cs) (no_not c h) refl ∙ but_types c cs h

pub const_none : finds const_target [] ≡ finds impl_type []
const_none = finds_lacks const_target [] refl refl ∙ sym (finds_lacks impl_type [] refl refl)

pub negative_typed : (cs : List SignClass) → heads (range types.Wanted Target) cs ≡ true
    → finds negative cs ≡ finds impl_type cs
negative_typed cs h =
    finds_then (perhaps (range types.Wanted Target)) where_and_body cs
    ∙ (ap (λ x. bind x (finds where_and_body)) (finds_first (range types.Wanted Target) Nothing cs h)
    ∙ sym (finds_then (range types.Wanted Target) where_and_body cs))

pub negative_alone : (cs : List SignClass) → heads (range types.Wanted Target) cs ≡ false
    → finds negative cs ≡ finds where_and_body cs
negative_alone cs h = finds_past (perhaps (range types.Wanted Target)) where_and_body cs (none cs h) refl
  where
    none : (cs : List SignClass) → heads (range types.Wanted Target) cs ≡ false
        → heads (perhaps (range types.Wanted Target)) cs ≡ false
    none [] h = refl
    none (c ∷ cs) h = rw h refl

-- ---- a `<` after `impl`

-- `<` and what follows it
abbrev with_angle : G
with_angle = Then (Sign opens) impl_angle

angle_first : (c : SignClass) → may_begin with_angle c ≡ opens c
angle_first c = or_nothing (opens c) (may_begin impl_angle c)

pub front_angle : (c : SignClass) (cs : List SignClass) → opens c ≡ true
    → finds impl_front (c ∷ cs) ≡ finds impl_angle cs
front_angle c cs h =
    finds_first with_angle (target false) (c ∷ cs) (angle_first c ∙ h) ∙ finds_one opens impl_angle c cs h

pub front_plain : (c : SignClass) (cs : List SignClass) → opens c ≡ false
    → finds impl_front (c ∷ cs) ≡ finds (target false) (c ∷ cs)
front_plain c cs h = finds_other with_angle (target false) (c ∷ cs) (angle_first c ∙ h) refl

pub front_none : finds impl_front [] ≡ finds impl_type []
front_none = finds_lacks impl_front [] refl refl ∙ sym (finds_lacks impl_type [] refl refl)

-- ---- generic parameters

-- what comes after generic parameters
abbrev rest : List SignClass → Found SignClass Label
rest = finds (target true)

-- the end of generic parameters
abbrev end_mark : G
end_mark = Then (Mark Rest) (one signs.Greater)

more_same : (cs : List SignClass)
    → finds more_parameters cs ≡ bind (bind (finds (further parameter comma) cs) (finds end_mark)) rest
more_same cs =
    finds_then (further parameter comma) _ cs
    ∙ (bind_same (finds (further parameter comma) cs) _ (λ r. bind (finds end_mark r) rest)
    (λ r. finds_three (Mark Rest) (one signs.Greater) (target true) r)
    ∙ sym (bind_bind (finds (further parameter comma) cs) (finds end_mark) rest))

-- generic parameters that are not empty, and what comes after them
closed_some : (cs : List SignClass) → heads parameter cs ≡ true
    → bind (finds closed_parameters cs) rest ≡ bind (finds parameter cs) (finds more_parameters)
closed_some cs h =
    ap (λ x. bind x rest) (finds_then parameters end_mark cs
    ∙ ap (λ x. bind x (finds end_mark)) (finds_element parameter comma cs h))
    ∙ (ap (λ x. bind x rest)
    (bind_bind (finds parameter cs) (finds (further parameter comma)) (finds end_mark))
    ∙ (bind_bind (finds parameter cs) (λ r. bind (finds (further parameter comma) r) (finds end_mark)) rest
    ∙ bind_same (finds parameter cs) (λ r. bind (bind (finds (further parameter comma) r) (finds end_mark)) rest)
    (finds more_parameters) (λ r. sym (more_same r))))

-- a parameter that begins without attributes
parameter_plain : (cs : List SignClass) → heads attributes cs ≡ false → finds parameter cs ≡ finds parameter_rest cs
parameter_plain cs h =
    finds_marked Parameter (Then attributes parameter_rest) cs ∙ finds_past attributes parameter_rest cs h refl

-- a parameter with attributes
parameter_hash : (cs : List SignClass)
    → finds parameter (signs.Hash ∷ cs)
    ≡ bind (bind (finds (one signs.Brackets) cs) (finds attributes)) (finds parameter_rest)
parameter_hash cs =
    finds_marked Parameter (Then attributes parameter_rest) (signs.Hash ∷ cs)
    ∙ (finds_then attributes parameter_rest (signs.Hash ∷ cs)
    ∙ ap (λ x. bind x (finds parameter_rest)) (finds_more attribute (signs.Hash ∷ cs) refl
    ∙ ap (λ x. bind x (finds attributes)) (finds_marked _ _ (signs.Hash ∷ cs)
    ∙ finds_one (is signs.Hash) (one signs.Brackets) signs.Hash cs refl)))

-- the alternatives after `<`
abbrev by_hash : G
by_hash = Then (one signs.Hash) (Then (one signs.Brackets)
    (Then attributes (Then parameter_rest more_parameters)))

abbrev by_lifetime : G
by_lifetime = Then (one signs.Lifetime) (Then with_bounds more_parameters)

abbrev by_const : G
by_const = Then (key keywords.Const) (Then constant_rest more_parameters)

abbrev by_word : G
by_word = Then word impl_word

abbrev by_other : G
by_other = Then (all_operand Inside) angle_target

abbrev by_end : G
by_end = Then (one signs.Greater) (target true)

angle_hash : (cs : List SignClass)
    → finds impl_angle (signs.Hash ∷ cs) ≡ bind (finds parameter (signs.Hash ∷ cs)) (finds more_parameters)
angle_hash cs =
    finds_other by_end _ (signs.Hash ∷ cs) refl refl
    ∙ (finds_first by_hash _ (signs.Hash ∷ cs) refl
    ∙ (finds_one (is signs.Hash) _ signs.Hash cs refl
    ∙ (finds_then (one signs.Brackets) _ cs
    ∙ (bind_same (finds (one signs.Brackets) cs) _
    (λ r. bind (bind (finds attributes r) (finds parameter_rest)) (finds more_parameters))
    (λ r. finds_three attributes parameter_rest more_parameters r
    ∙ ap (λ x. bind x (finds more_parameters)) (finds_then attributes parameter_rest r))
    ∙ (sym (bind_bind (finds (one signs.Brackets) cs) (λ r. bind (finds attributes r) (finds parameter_rest))
    (finds more_parameters))
    ∙ (ap (λ x. bind x (finds more_parameters))
    (sym (bind_bind (finds (one signs.Brackets) cs) (finds attributes) (finds parameter_rest)))
    ∙ ap (λ x. bind x (finds more_parameters)) (sym (parameter_hash cs))))))))

angle_lifetime : (cs : List SignClass)
    → finds impl_angle (signs.Lifetime ∷ cs) ≡ bind (finds parameter (signs.Lifetime ∷ cs)) (finds more_parameters)
angle_lifetime cs =
    finds_other by_end _ (signs.Lifetime ∷ cs) refl refl
    ∙ (finds_other by_hash _ (signs.Lifetime ∷ cs) refl refl
    ∙ (finds_first by_lifetime _ (signs.Lifetime ∷ cs) refl
    ∙ (finds_one (is signs.Lifetime) _ signs.Lifetime cs refl
    ∙ (finds_then with_bounds more_parameters cs
    ∙ sym (ap (λ x. bind x (finds more_parameters)) (parameter_plain (signs.Lifetime ∷ cs) refl
    ∙ (finds_first (Then (Mark Named) (Then (one signs.Lifetime) with_bounds)) _ (signs.Lifetime ∷ cs) refl
    ∙ (finds_marked Named _ (signs.Lifetime ∷ cs)
    ∙ finds_one (is signs.Lifetime) with_bounds signs.Lifetime cs refl))))))))

angle_const : (cs : List SignClass)
    → finds impl_angle (signs.Keyword keywords.Const ∷ cs)
    ≡ bind (finds parameter (signs.Keyword keywords.Const ∷ cs)) (finds more_parameters)
angle_const cs =
    let c = signs.Keyword keywords.Const in
    finds_other by_end _ (c ∷ cs) refl refl
    ∙ (finds_other by_hash _ (c ∷ cs) refl refl
    ∙ (finds_other by_lifetime _ (c ∷ cs) refl refl
    ∙ (finds_first by_const _ (c ∷ cs) refl
    ∙ (finds_one (is c) _ c cs refl
    ∙ (finds_then constant_rest more_parameters cs
    ∙ sym (ap (λ x. bind x (finds more_parameters)) (parameter_plain (c ∷ cs) refl
    ∙ (finds_other (Then (Mark Named) (Then (one signs.Lifetime) with_bounds)) _ (c ∷ cs) refl refl
    ∙ (finds_other (Then (Mark Named) (Then word (Then with_bounds (perhaps default_type)))) _ (c ∷ cs) refl refl
    ∙ (finds_marked Rest _ (c ∷ cs) ∙ finds_one (is c) constant_rest c cs refl))))))))))

-- what a word and the bounds and the default after it are
abbrev word_parts : G
word_parts = Then with_bounds (perhaps default_type)

abbrev by_bounds : G
by_bounds = Then (one signs.Colon) (Then (Mark Bounds) (Then bounds (Then (perhaps default_type) more_parameters)))

abbrev by_default : G
by_default = Then default_type more_parameters

-- after a word, where a parameter goes on or ends
word_colon : (cs : List SignClass)
    → finds impl_word (signs.Colon ∷ cs) ≡ bind (finds word_parts (signs.Colon ∷ cs)) (finds more_parameters)
word_colon cs =
    let c = signs.Colon in
    finds_first by_bounds _ (c ∷ cs) refl
    ∙ (finds_one (is c) _ c cs refl
    ∙ (finds_marked Bounds _ cs
    ∙ (finds_three bounds (perhaps default_type) more_parameters cs
    ∙ sym (ap (λ x. bind x (finds more_parameters)) (finds_then with_bounds (perhaps default_type) (c ∷ cs)
    ∙ (ap (λ x. bind x (finds (perhaps default_type)))
    (finds_first (Then (Mark Rest) (Then (one c) (Then (Mark Bounds) bounds))) Nothing (c ∷ cs) refl
    ∙ (finds_marked Rest _ (c ∷ cs) ∙ (finds_one (is c) _ c cs refl ∙ finds_marked Bounds bounds cs)))
    ∙ sym (finds_then bounds (perhaps default_type) cs)))))))

word_equals : (cs : List SignClass)
    → finds impl_word (signs.Equals ∷ cs) ≡ bind (finds word_parts (signs.Equals ∷ cs)) (finds more_parameters)
word_equals cs =
    let c = signs.Equals in
    finds_other by_bounds _ (c ∷ cs) refl refl
    ∙ (finds_first by_default _ (c ∷ cs) refl
    ∙ (finds_then default_type more_parameters (c ∷ cs)
    ∙ sym (ap (λ x. bind x (finds more_parameters)) (finds_past with_bounds (perhaps default_type) (c ∷ cs) refl refl
    ∙ finds_first default_type Nothing (c ∷ cs) refl))))

word_end : (c : SignClass) (cs : List SignClass) → heads by_bounds (c ∷ cs) ≡ false → heads by_default (c ∷ cs) ≡ false
    → heads more_parameters (c ∷ cs) ≡ true → heads with_bounds (c ∷ cs) ≡ false
    → heads (perhaps default_type) (c ∷ cs) ≡ false
    → finds impl_word (c ∷ cs) ≡ bind (finds word_parts (c ∷ cs)) (finds more_parameters)
word_end c cs h i j k l =
    finds_other by_bounds _ (c ∷ cs) h refl
    ∙ (finds_other by_default _ (c ∷ cs) i refl
    ∙ (finds_first more_parameters _ (c ∷ cs) j
    ∙ sym (ap (λ x. bind x (finds more_parameters)) (finds_past with_bounds (perhaps default_type) (c ∷ cs) k refl
    ∙ finds_skips (perhaps default_type) (c ∷ cs) l refl))))

word_more : (c : SignClass) (cs : List SignClass) → ends_parameter c ≡ true
    → finds impl_word (c ∷ cs) ≡ bind (finds word_parts (c ∷ cs)) (finds more_parameters)
word_more signs.Colon cs h = word_colon cs
word_more signs.Equals cs h = word_equals cs
word_more signs.Comma cs h = word_end signs.Comma cs refl refl refl refl refl
word_more signs.Greater cs h = word_end signs.Greater cs refl refl refl refl refl
word_more (signs.Word words.Auto) cs h = absurd (both_ways _ refl h)
word_more (signs.Word _) cs h = absurd (both_ways _ refl h)
word_more (signs.Keyword keywords.Async) cs h = absurd (both_ways _ refl h)
word_more (signs.Keyword _) cs h = absurd (both_ways _ refl h)
word_more _ cs h = absurd (both_ways _ refl h)

-- a word, which no other alternative after `<` begins with
record IsWordHere (c : SignClass) : Type 0 where
  no_end : may_begin by_end c ≡ false
  no_hash : may_begin by_hash c ≡ false
  no_lifetime : may_begin by_lifetime c ≡ false
  no_const : may_begin by_const c ≡ false
  no_attributes : may_begin attributes c ≡ false
  no_name : may_begin (Then (Mark Named) (Then (one signs.Lifetime) with_bounds)) c ≡ false
  is_there : is_word c ≡ true

is_word_here : (w : Word) → IsWordHere (signs.Word w)
is_word_here words.Auto = record {
  no_end = refl;
  no_hash = refl;
  no_lifetime = refl;
  no_const = refl;
  no_attributes = refl;
  no_name = refl;
  is_there = refl;
}
is_word_here words.Default = record {
  no_end = refl;
  no_hash = refl;
  no_lifetime = refl;
  no_const = refl;
  no_attributes = refl;
  no_name = refl;
  is_there = refl;
}
is_word_here words.Gen = record {
  no_end = refl;
  no_hash = refl;
  no_lifetime = refl;
  no_const = refl;
  no_attributes = refl;
  no_name = refl;
  is_there = refl;
}
is_word_here words.Safe = record {
  no_end = refl;
  no_hash = refl;
  no_lifetime = refl;
  no_const = refl;
  no_attributes = refl;
  no_name = refl;
  is_there = refl;
}
is_word_here words.Union = record {
  no_end = refl;
  no_hash = refl;
  no_lifetime = refl;
  no_const = refl;
  no_attributes = refl;
  no_name = refl;
  is_there = refl;
}
is_word_here words.Plain = record {
  no_end = refl;
  no_hash = refl;
  no_lifetime = refl;
  no_const = refl;
  no_attributes = refl;
  no_name = refl;
  is_there = refl;
}

angle_word : (c : SignClass) (cs : List SignClass) → IsWordHere c → finds impl_angle (c ∷ cs) ≡ finds impl_word cs
angle_word c cs w =
    finds_other by_end _ (c ∷ cs) w.no_end refl
    ∙ (finds_other by_hash _ (c ∷ cs) w.no_hash refl
    ∙ (finds_other by_lifetime _ (c ∷ cs) w.no_lifetime refl
    ∙ (finds_other by_const _ (c ∷ cs) w.no_const refl
    ∙ (finds_first by_word _ (c ∷ cs) (or_nothing (is_word c) false ∙ w.is_there)
    ∙ finds_one is_word impl_word c cs w.is_there))))

parameter_word : (c : SignClass) (cs : List SignClass) → IsWordHere c → finds parameter (c ∷ cs) ≡ finds word_parts cs
parameter_word c cs w =
    parameter_plain (c ∷ cs) w.no_attributes
    ∙ (finds_other (Then (Mark Named) (Then (one signs.Lifetime) with_bounds)) _ (c ∷ cs) w.no_name refl
    ∙ (finds_first (Then (Mark Named) (Then word word_parts)) _ (c ∷ cs) (or_nothing (is_word c) false ∙ w.is_there)
    ∙ (finds_marked Named _ (c ∷ cs) ∙ finds_one is_word word_parts c cs w.is_there)))

word_heads : (c : SignClass) (cs : List SignClass) → IsWordHere c → heads parameter (c ∷ cs) ≡ true
word_heads c cs w = rw (w.no_attributes, w.no_name) (or_left _ _ (or_nothing (is_word c) false ∙ w.is_there))

-- no parameters
closed_none : (cs : List SignClass) → bind (finds closed_parameters (signs.Greater ∷ cs)) rest ≡ rest cs
closed_none cs =
    ap (λ x. bind x rest)
    (finds_past parameters end_mark (signs.Greater ∷ cs) refl refl
    ∙ (finds_marked Rest (one signs.Greater) (signs.Greater ∷ cs)
    ∙ finds_sign (is signs.Greater) signs.Greater cs refl))

no_parameter : (w : Word) → begins_parameter (signs.Word w) ≡ false
no_parameter words.Auto = refl
no_parameter words.Default = refl
no_parameter words.Gen = refl
no_parameter words.Safe = refl
no_parameter words.Union = refl
no_parameter words.Plain = refl

word_goes_on : (w : Word) (cs : List SignClass) → begins_generics (signs.Word w ∷ cs) ≡ true
    → goes_on_parameter cs ≡ true
word_goes_on w cs h = sym (ap (λ b. b || goes_on_parameter cs) (no_parameter w)) ∙ h

-- where generic parameters begin after `<`, they are read
angle_generics : (cs : List SignClass) → begins_generics cs ≡ true
    → finds impl_angle cs ≡ bind (finds closed_parameters cs) rest
angle_generics [] h = absurd (both_ways _ refl h)
angle_generics (signs.Greater ∷ cs) h =
    finds_first by_end _ (signs.Greater ∷ cs) refl
    ∙ (finds_one (is signs.Greater) (target true) signs.Greater cs refl ∙ sym (closed_none cs))
angle_generics (signs.Hash ∷ cs) h = angle_hash cs ∙ sym (closed_some (signs.Hash ∷ cs) refl)
angle_generics (signs.Lifetime ∷ cs) h = angle_lifetime cs ∙ sym (closed_some (signs.Lifetime ∷ cs) refl)
angle_generics (signs.Keyword keywords.Const ∷ cs) h =
    angle_const cs ∙ sym (closed_some (signs.Keyword keywords.Const ∷ cs) refl)
angle_generics (signs.Word w ∷ []) h = absurd (both_ways _ refl (word_goes_on w [] h))
angle_generics (signs.Word w ∷ (c ∷ cs)) h =
    let at = is_word_here w in
    angle_word (signs.Word w) (c ∷ cs) at
    ∙ (word_more c cs (word_goes_on w (c ∷ cs) h)
    ∙ (ap (λ x. bind x (finds more_parameters)) (sym (parameter_word (signs.Word w) (c ∷ cs) at))
    ∙ sym (closed_some (signs.Word w ∷ (c ∷ cs)) (word_heads (signs.Word w) (c ∷ cs) at))))
angle_generics (signs.Keyword keywords.Async ∷ cs) h = absurd (both_ways _ refl h)
angle_generics (signs.Keyword _ ∷ cs) h = absurd (both_ways _ refl h)
angle_generics (_ ∷ cs) h = absurd (both_ways _ refl h)

-- generic parameters from their `<` on
abbrev less_alone : G
less_alone = Then (one signs.Less) closed_parameters

abbrev less_joint : G
less_joint = Then (one signs.LessJoint) closed_parameters

generics_open : (c : SignClass) (cs : List SignClass) → opens c ≡ true
    → finds generics (c ∷ cs) ≡ finds closed_parameters cs
generics_open signs.Less cs h =
    finds_first (Then (Mark Generics) (Either less_alone less_joint)) Nothing (signs.Less ∷ cs) refl
    ∙ (finds_marked Generics (Either less_alone less_joint) (signs.Less ∷ cs)
    ∙ (finds_first less_alone less_joint (signs.Less ∷ cs) refl
    ∙ finds_one (is signs.Less) closed_parameters signs.Less cs refl))
generics_open signs.LessJoint cs h =
    finds_first (Then (Mark Generics) (Either less_alone less_joint)) Nothing (signs.LessJoint ∷ cs) refl
    ∙ (finds_marked Generics (Either less_alone less_joint) (signs.LessJoint ∷ cs)
    ∙ (finds_other less_alone less_joint (signs.LessJoint ∷ cs) refl refl
    ∙ finds_one (is signs.LessJoint) closed_parameters signs.LessJoint cs refl))
generics_open (signs.Word words.Auto) cs h = absurd (both_ways _ refl h)
generics_open (signs.Word _) cs h = absurd (both_ways _ refl h)
generics_open (signs.Keyword keywords.Async) cs h = absurd (both_ways _ refl h)
generics_open (signs.Keyword _) cs h = absurd (both_ways _ refl h)
generics_open _ cs h = absurd (both_ways _ refl h)

pub front_generics : (c : SignClass) (cs : List SignClass) → opens c ≡ true → begins_generics cs ≡ true
    → finds impl_front (c ∷ cs) ≡ finds (Then generics (target true)) (c ∷ cs)
front_generics c cs o h =
    front_angle c cs o
    ∙ (angle_generics cs h
    ∙ (ap (λ x. bind x rest) (sym (generics_open c cs o)) ∙ sym (finds_then generics (target true) (c ∷ cs))))

-- ---- a type in angle brackets

-- the end of a type in angle brackets, and the rest of the type
abbrev closing : G
closing = To (is signs.Greater) (Range types.Whole Target)

-- `<` and the arguments after it
abbrev opening : G
opening = To opens (Range types.Argument Inside)

-- the types that are named by a word within `<` and `as`
abbrev by_type : G
by_type = Then (Either (To (is signs.As) (Range types.Wanted Inside)) (plain_continuation Inside)) angle_target

typed_open : (c : SignClass) (cs : List SignClass) → opens c ≡ true
    → finds impl_type (c ∷ cs) ≡ bind (finds (range types.Argument Inside) cs) (finds angle_target)
unfolding find
typed_open c cs h =
    finds_then (range types.Wanted Target) where_and_body (c ∷ cs)
    ∙ (ap (λ x. bind x (finds where_and_body)) (open_find c cs h
    ∙ (finds_then opening closing (c ∷ cs)
    ∙ ap (λ x. bind x (finds closing)) (finds_to opens (Range types.Argument Inside) c cs h)))
    ∙ (bind_bind (finds (range types.Argument Inside) cs) (finds closing) (finds where_and_body)
    ∙ bind_same (finds (range types.Argument Inside) cs) (λ r. bind (finds closing r) (finds where_and_body))
    (finds angle_target) (λ r. sym (finds_then closing where_and_body r))))
  where
    open_step : (c : SignClass) → opens c ≡ true
        → step rules (range types.Wanted Target ∷ []) c ≡ step rules (Then opening closing ∷ []) c
    open_step signs.Less h = refl
    open_step signs.LessJoint h = refl
    open_step (signs.Word words.Auto) h = absurd (both_ways _ refl h)
    open_step (signs.Word _) h = absurd (both_ways _ refl h)
    open_step (signs.Keyword keywords.Async) h = absurd (both_ways _ refl h)
    open_step (signs.Keyword _) h = absurd (both_ways _ refl h)
    open_step _ h = absurd (both_ways _ refl h)

    open_find : (c : SignClass) (cs : List SignClass) → opens c ≡ true
        → finds (range types.Wanted Target) (c ∷ cs) ≡ finds (Then opening closing) (c ∷ cs)
    open_find c cs h =
        ap bare
        (scan_step rules (range types.Wanted Target ∷ []) c cs (step rules (Then opening closing ∷ []) c)
        (open_step c h)
        ∙ sym (scan_step rules (Then opening closing ∷ []) c cs (step rules (Then opening closing ∷ []) c) refl))

-- where no argument can begin, only `>` could come
no_argument : (cs : List SignClass) → heads (range types.Argument Inside) cs ≡ false
    → bind (finds (range types.Argument Inside) cs) (finds angle_target) ≡ finds angle_target cs
no_argument cs h = ap (λ x. bind x (finds angle_target)) (finds_skips (range types.Argument Inside) cs h refl)

-- four tests of which none holds
record NoneOf (x y z w : Bool) : Type 0 where
  one_no : x ≡ false
  two_no : y ≡ false
  three_no : z ≡ false
  four_no : w ≡ false

none_of : (x y z w : Bool) → (x || (y || (z || (w || false)))) ≡ false → NoneOf x y z w
none_of false false false false h = record { one_no = refl; two_no = refl; three_no = refl; four_no = refl }
none_of true y z w h = absurd (both_ways _ h refl)
none_of false true z w h = absurd (both_ways _ h refl)
none_of false false true w h = absurd (both_ways _ h refl)
none_of false false false true h = absurd (both_ways _ h refl)

-- a sign with which neither an argument nor `>` begins
not_closed : (c : SignClass) (cs : List SignClass) → is signs.Greater c ≡ false
    → finds angle_target (c ∷ cs) ≡ Stuck (c ∷ cs)
not_closed c cs h = finds_lacks angle_target (c ∷ cs) (or_nothing (is signs.Greater c) false ∙ h) refl

-- what a word within `<` goes on with
abbrev word_rest : G
word_rest = range types.Whole Inside

abbrev plain : G
plain = plain_continuation Inside

abbrev by_as : G
by_as = To (is signs.As) (Range types.Wanted Inside)

module _ (c : SignClass) (cs : List SignClass)
    (no : NoneOf (is signs.Colon c) (is signs.Equals c) (is signs.Comma c) (is signs.Greater c)) where
  to_type : finds impl_word (c ∷ cs) ≡ finds by_type (c ∷ cs)
  to_type =
      finds_other by_bounds _ (c ∷ cs) (or_nothing (is signs.Colon c) false ∙ no.one_no) refl
      ∙ (finds_other by_default _ (c ∷ cs) (rw no.two_no refl) refl
      ∙ finds_other more_parameters by_type (c ∷ cs) (rw (no.three_no, no.four_no) refl) refl)

  continued : (finds (Either by_as plain) (c ∷ cs) ≡ finds word_rest (c ∷ cs))
      → finds impl_word (c ∷ cs) ≡ bind (finds word_rest (c ∷ cs)) (finds angle_target)
  continued same =
      to_type ∙ (finds_then (Either by_as plain) angle_target (c ∷ cs) ∙ ap (λ x. bind x (finds angle_target)) same)

  word_types : finds impl_word (c ∷ cs) ≡ bind (finds word_rest (c ∷ cs)) (finds angle_target)
  word_types = go (is signs.As c) refl (may_begin plain c) refl
    where
      go : (x : Bool) → is signs.As c ≡ x → (y : Bool) → may_begin plain c ≡ y
          → finds impl_word (c ∷ cs) ≡ bind (finds word_rest (c ∷ cs)) (finds angle_target)
      go true h y i =
          continued
          (finds_first by_as plain (c ∷ cs) h
          ∙ sym (finds_first (Either by_as _) Nothing (c ∷ cs) (or_left _ _ h) ∙ finds_first by_as _ (c ∷ cs) h))
      go false h true i =
          continued
          (finds_other by_as plain (c ∷ cs) h refl
          ∙ sym (finds_first _ Nothing (c ∷ cs) (rw (h, no.one_no, no.two_no, no.three_no) i)
          ∙ (finds_other by_as _ (c ∷ cs) h refl
          ∙ (finds_other (To (is signs.Equals) (Range types.Wanted Inside)) _ (c ∷ cs) no.two_no refl
          ∙ (finds_other (To (is signs.Comma) (Range types.Argument Inside)) _ (c ∷ cs) no.three_no refl
          ∙ finds_other (To (is signs.Colon) (Range types.Bound Inside)) plain (c ∷ cs) no.one_no refl)))))
      go false h false i =
          to_type
          ∙ (finds_lacks by_type (c ∷ cs) (rw (h, i) refl) refl
          ∙ (sym (not_closed c cs no.four_no)
          ∙ sym (ap (λ x. bind x (finds angle_target))
          (finds_skips word_rest (c ∷ cs) (rw (h, no.one_no, no.two_no, no.three_no, i) refl) refl))))

word_last : finds impl_word [] ≡ bind (finds word_rest []) (finds angle_target)
word_last =
    finds_lacks impl_word [] refl refl
    ∙ (sym (finds_lacks angle_target [] refl refl)
    ∙ sym (ap (λ x. bind x (finds angle_target)) (finds_skips word_rest [] refl refl)))

word_stays : (cs : List SignClass) → goes_on_parameter cs ≡ false
    → finds impl_word cs ≡ bind (finds word_rest cs) (finds angle_target)
word_stays [] h = word_last
word_stays (c ∷ cs) h =
    word_types c cs (none_of (is signs.Colon c) (is signs.Equals c) (is signs.Comma c) (is signs.Greater c) h)

-- an argument that begins with a word
word_argument : (c : SignClass) (cs : List SignClass) → is_word c ≡ true
    → finds (range types.Argument Inside) (c ∷ cs) ≡ finds word_rest cs
word_argument c cs h =
    finds_first (operand Inside) Nothing (c ∷ cs) (or_left _ _ (or_left _ _ h))
    ∙ (finds_first (named_operand Inside) (all_operand Inside) (c ∷ cs) (or_left _ _ h)
    ∙ (finds_first (To is_word (Range types.Whole Inside)) _ (c ∷ cs) h
    ∙ finds_to is_word (Range types.Whole Inside) c cs h))

-- an argument that begins with no word and no lifetime
module _ (c : SignClass) (cs : List SignClass) (no_word : is_word c ≡ false)
    (no : NoneOf (is signs.Greater c) (is signs.Hash c) (is signs.Lifetime c) (is (signs.Keyword keywords.Const) c))
  where
    to_other : finds impl_angle (c ∷ cs) ≡ finds by_other (c ∷ cs)
    to_other =
        finds_other by_end _ (c ∷ cs) (or_nothing (is signs.Greater c) false ∙ no.one_no) refl
        ∙ (finds_other by_hash _ (c ∷ cs) (or_nothing (is signs.Hash c) false ∙ no.two_no) refl
        ∙ (finds_other by_lifetime _ (c ∷ cs) (or_nothing (is signs.Lifetime c) false ∙ no.three_no) refl
        ∙ (finds_other by_const _ (c ∷ cs) (or_nothing (is (signs.Keyword keywords.Const) c) false ∙ no.four_no) refl
        ∙ finds_other by_word by_other (c ∷ cs) (or_nothing (is_word c) false ∙ no_word) refl)))

    other_types : finds impl_angle (c ∷ cs)
        ≡ bind (finds (range types.Argument Inside) (c ∷ cs)) (finds angle_target)
    other_types = go (may_begin (all_operand Inside) c) refl
      where
        go : (x : Bool) → may_begin (all_operand Inside) c ≡ x → finds impl_angle (c ∷ cs)
            ≡ bind (finds (range types.Argument Inside) (c ∷ cs)) (finds angle_target)
        go true h =
            to_other
            ∙ (finds_then (all_operand Inside) angle_target (c ∷ cs)
            ∙ ap (λ x. bind x (finds angle_target))
            (sym (finds_first (operand Inside) Nothing (c ∷ cs) (rw (no_word, no.three_no) h)
            ∙ finds_other (named_operand Inside) (all_operand Inside) (c ∷ cs) (rw (no_word, no.three_no) refl) refl)))
        go false h =
            to_other
            ∙ (finds_lacks by_other (c ∷ cs) (or_nothing (may_begin (all_operand Inside) c) false ∙ h) refl
            ∙ (sym (not_closed c cs no.one_no)
            ∙ sym (no_argument (c ∷ cs) (rw (no_word, no.three_no, h) refl))))

word_class : (c : SignClass) → is_word c ≡ true → (w : Word) × (c ≡ signs.Word w)
word_class (signs.Word w) h = (w, refl)
word_class (signs.Keyword keywords.Async) h = absurd (both_ways _ refl h)
word_class (signs.Keyword _) h = absurd (both_ways _ refl h)
word_class _ h = absurd (both_ways _ refl h)

-- where no generic parameters begin after `<`, a type does
angle_types : (cs : List SignClass) → begins_generics cs ≡ false
    → finds impl_angle cs ≡ bind (finds (range types.Argument Inside) cs) (finds angle_target)
angle_types [] h =
    finds_lacks impl_angle [] refl refl
    ∙ (sym (finds_lacks angle_target [] refl refl) ∙ sym (no_argument [] refl))
angle_types (c ∷ cs) h = go (is_word c) refl (begins_parameter c) refl
  where
    go : (x : Bool) → is_word c ≡ x → (y : Bool) → begins_parameter c ≡ y → finds impl_angle (c ∷ cs)
        ≡ bind (finds (range types.Argument Inside) (c ∷ cs)) (finds angle_target)
    go x i true j = absurd (both_ways _ h (or_left _ _ j))
    go false i false j =
        other_types c cs i
        (none_of (is signs.Greater c) (is signs.Hash c) (is signs.Lifetime c) (is (signs.Keyword keywords.Const) c) j)
    go true i false j =
        let w = word_class c i in
        let stays : goes_on_parameter cs ≡ false = sym (rw (i, j) refl) ∙ h in
        angle_word c cs (subst IsWordHere (sym w.1) (is_word_here w.0))
        ∙ (word_stays cs stays ∙ ap (λ x. bind x (finds angle_target)) (sym (word_argument c cs i)))

pub front_typed : (c : SignClass) (cs : List SignClass) → opens c ≡ true → begins_generics cs ≡ false
    → finds impl_front (c ∷ cs) ≡ finds impl_type (c ∷ cs)
front_typed c cs o h = front_angle c cs o ∙ (angle_types cs h ∙ sym (typed_open c cs o))
