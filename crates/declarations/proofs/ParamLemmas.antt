-- The parts of parameters and predicates: at most one can be read, and when none can.
use Rattle.std.proofs.Common.{◌≡◌, refl, sym, ◌∙◌, ap, subst, ℕ, ◌≤◌, ◌<◌, true, false, List, [], ◌∷◌}
use Rattle.std.proofs.Common.{Result, Ok, Err, MatchResult}
use Rattle.std.proofs.Common.{◌++◌, append_assoc, arith, length}
use Rattle.std.proofs.lemmas.List.{append_cancel_left, append_cancel_right, length-append}
use Rattle.pm_stream.specs.declared.stream.TokenTree.{TokenTree}
use Rattle.declarations.specs.Forms.{AreAttributes, AreBounds, IsType}
use Rattle.declarations.specs.Param.{EndsElement, Fails, HasBounds, HasDefault, HasName, HasNo, HasParam, HasPredicate}
use Rattle.declarations.specs.Param.{HasSign, IsBack}
use Rattle.declarations.specs.Param.{is_constant, IsParamAt, IsPredicateAt, IsWord, MayHave, MustHave, ParamTrees}
use Rattle.declarations.specs.Param.{PredicateTrees, ReadsConstant, stands, left_out, comma, last, one_sign}
use Rattle.declarations.specs.Param.{negative, of_type}
use Rattle.declarations.specs.Reading.{Reads, FaultAt}
use Rattle.declarations.specs.Signs.{BeginsWith, Sign, signs, trees_of}
use Rattle.item_tables.specs.declared.class.SignClass.{SignClass}
use Rattle.item_tables.specs.declared.class.SignClass.TheVariants as classes
use Rattle.item_tables.specs.declared.class.Keyword.TheVariants as keywords
use Rattle.declarations.specs.declared.generics.ParamKind.{ParamKind}
use Rattle.declarations.specs.declared.generics.ParamKind.TheVariants as kinds
use Rattle.declarations.proofs.StartLemmas as begin
use Rattle.declarations.proofs.RuleFormLemmas.{none_sticks, only_reading}
use Rattle.declarations.proofs.ReaderLemmas.{heads_sign, lacks}
use Rattle.declarations.specs.rules.Types.{bounds, type}
use Rattle.declarations.specs.rules.Rules.{follows, rules}
use Rattle.declarations.specs.rules.Pieces.{ByRule}
use Rattle.declarations.specs.rules.Names.{G}
use Rattle.grammars.specs.First.{may_begin}
use Rattle.grammars.specs.Deterministic.{IsStart}
use Rattle.declarations.specs.rules.Parts as rule

-- ---- at most one part can be read

-- by this form at most one part and rest can be read from the same trees
abbrev pub IsOne : (List TokenTree → List TokenTree → List TokenTree → Type 0) → Type 0
IsOne form =
    (trees part rest part2 rest2 : List TokenTree) → form trees part rest → form trees part2 rest2
    → (part2 ≡ part) × (rest2 ≡ rest)

pub one_reading : (g : G) → IsStart rules follows (g ∷ []) → IsOne (Reads (ByRule g))
one_reading g start trees part rest part2 rest2 here there =
    only_reading g start trees part rest here part2 rest2 there

one_type : IsOne (Reads IsType)
one_type = one_reading type begin.type_starts

one_list_of_bounds : IsOne (Reads AreBounds)
one_list_of_bounds = one_reading bounds begin.bounds_starts

pub same_class : (trees : List TokenTree) (class class2 : SignClass) (rest rest2 : List TokenTree)
    → BeginsWith trees class rest → BeginsWith trees class2 rest2 → class2 ≡ class
same_class trees class class2 rest rest2 here there =
    let one : Sign = record { class = class; trees = here.front } in
    let two : Sign = record { class = class2; trees = there.front } in
    let both : two ∷ signs rest2 ≡ one ∷ signs rest = sym there.read ∙ here.read in
    let same : two ≡ one = cc in
    ap (λ s. s.class) same

pub same_rest : (trees : List TokenTree) (class class2 : SignClass) (rest rest2 : List TokenTree)
    → BeginsWith trees class rest → BeginsWith trees class2 rest2 → rest2 ≡ rest
same_rest trees class class2 rest rest2 here there =
    let one : Sign = record { class = class; trees = here.front } in
    let two : Sign = record { class = class2; trees = there.front } in
    let both : two ∷ signs rest2 ≡ one ∷ signs rest = sym there.read ∙ here.read in
    let same : two ≡ one = cc in
    let fronts : there.front ≡ here.front = ap (λ s. s.trees) same in
    append_cancel_left here.front rest2 rest
    (ap (λ f. f ++ rest2) (sym fronts) ∙ sym there.whole ∙ here.whole)

same_part : (trees part rest part2 rest2 : List TokenTree) → trees ≡ part ++ rest → trees ≡ part2 ++ rest2
    → rest2 ≡ rest → part2 ≡ part
same_part trees part rest part2 rest2 here there same =
    append_cancel_right part2 part rest (ap (λ r. part2 ++ r) (sym same) ∙ sym there ∙ here)

pub one_named : (class : SignClass) → IsOne (HasSign class)
one_named class trees part rest part2 rest2 here there =
    let rests = same_rest trees class class rest rest2 here.begins there.begins in
    (same_part trees part rest part2 rest2 here.whole there.whole rests, rests)

pub one_word : IsOne IsWord
one_word trees part rest part2 rest2 here there =
    let rests = same_rest trees (classes.Word here.word) (classes.Word there.word) rest rest2 here.sign.begins
    there.sign.begins in
    (same_part trees part rest part2 rest2 here.sign.whole there.sign.whole rests, rests)

pub one_must : (led : SignClass) (form : List TokenTree → List TokenTree → List TokenTree → Type 0) → IsOne form
    → IsOne (MustHave led form)
one_must led form one trees part rest part2 rest2 here there =
    let lefts = same_rest trees led led here.left there.left here.begins there.begins in
    one here.left part rest part2 rest2 here.reads (subst (λ left. form left part2 rest2) lefts there.reads)

pub one_may : (led : SignClass) (form : List TokenTree → List TokenTree → List TokenTree → Type 0) → IsOne form
    → IsOne (MayHave led form)
one_may led form one trees part rest part2 rest2 (stands left begins reads) (stands left2 begins2 reads2) =
    let lefts = same_rest trees led led left left2 begins begins2 in
    one left part rest part2 rest2 reads (subst (λ l. form l part2 rest2) lefts reads2)
one_may led form one trees part rest part2 rest2 (stands left begins reads) (left_out none empty all) =
    absurd (none left begins)
one_may led form one trees part rest part2 rest2 (left_out none empty all) (stands left begins reads) =
    absurd (none left begins)
one_may led form one trees part rest part2 rest2 (left_out none empty all) (left_out none2 empty2 all2) =
    (empty2 ∙ sym empty, all2 ∙ sym all)

-- trees that begin with a sign are not empty
begins_tree : (trees : List TokenTree) (class : SignClass) (rest : List TokenTree) → BeginsWith trees class rest
    → trees ≡ [] → ⊥
begins_tree trees class rest begins none =
    let count : length trees ≡ 0 = ap length none in
    let fewer : length rest < length trees = begins.fewer in
    omega arith

pub no_sign : (class : SignClass) (trees : List TokenTree) → trees ≡ [] → HasNo class trees
no_sign class trees none rest begins = begins_tree trees class rest begins none

pub one_end : (trees rest rest2 : List TokenTree) → EndsElement trees rest → EndsElement trees rest2 → rest2 ≡ rest
one_end trees rest rest2 (comma begins) (comma begins2) =
    same_rest trees classes.Comma classes.Comma rest rest2 begins begins2
one_end trees rest rest2 (comma begins) (last none left) = absurd (begins_tree trees classes.Comma rest begins none)
one_end trees rest rest2 (last none left) (comma begins) = absurd (begins_tree trees classes.Comma rest2 begins none)
one_end trees rest rest2 (last none left) (last none2 left2) = left2 ∙ sym left

-- ---- defaults of constants

-- no type begins with this sign
abbrev BeginsNone : SignClass → Type 0
BeginsNone classes.Literal = Unit {0}
BeginsNone classes.Braces = Unit {0}
BeginsNone classes.Block = Unit {0}
BeginsNone classes.Truth = Unit {0}
BeginsNone classes.Minus = Unit {0}
BeginsNone _ = ⊥

no_begin : (class : SignClass) → BeginsNone class → may_begin type class ≡ false
no_begin classes.Literal none = refl
no_begin classes.Braces none = refl
no_begin classes.Block none = refl
no_begin classes.Truth none = refl
no_begin classes.Minus none = refl
no_begin class none = absurd none

constant_begins : (class : SignClass) → is_constant class ≡ true → BeginsNone class
constant_begins classes.Literal is = tt
constant_begins classes.Braces is = tt
constant_begins classes.Block is = tt
constant_begins classes.Truth is = tt
constant_begins class is = cc

no_type : (trees part rest left : List TokenTree) (class : SignClass) → BeginsNone class
    → BeginsWith trees class left → Reads IsType trees part rest → ⊥
no_type trees part rest left class none begins reads =
    let stuck = lacks type trees (heads_sign type trees left class begins ∙ no_begin class none) refl in
    none_sticks type begin.type_starts trees part rest trees stuck reads

minus_alone : (class : SignClass) → is_constant class ≡ true → classes.Minus ≡ class → ⊥
minus_alone class is same =
    let wrong : is_constant classes.Minus ≡ true = ap is_constant same ∙ is in
    cc

pub one_constant : IsOne ReadsConstant
one_constant trees part rest part2 rest2 (one_sign class is sign) (one_sign class2 is2 sign2) =
    let rests = same_rest trees class class2 rest rest2 sign.begins sign2.begins in
    (same_part trees part rest part2 rest2 sign.whole sign2.whole rests, rests)
one_constant trees part rest part2 rest2 (one_sign class is sign) (negative left begins number whole) =
    absurd (minus_alone class is (same_class trees class classes.Minus rest left sign.begins begins))
one_constant trees part rest part2 rest2 (one_sign class is sign) (of_type reads) =
    absurd (no_type trees part2 rest2 rest class (constant_begins class is) sign.begins reads)
one_constant trees part rest part2 rest2 (negative left begins number whole) (one_sign class is sign) =
    absurd (minus_alone class is (same_class trees class classes.Minus rest2 left sign.begins begins))
one_constant trees part rest part2 rest2 (negative left begins number whole) (negative left2 begins2 number2 whole2) =
    let lefts = same_rest trees classes.Minus classes.Minus left left2 begins begins2 in
    let rests = same_rest left classes.Literal classes.Literal rest rest2 number
    (subst (λ l. BeginsWith l classes.Literal rest2) lefts number2) in
    (same_part trees part rest part2 rest2 whole whole2 rests, rests)
one_constant trees part rest part2 rest2 (negative left begins number whole) (of_type reads) =
    absurd (no_type trees part2 rest2 left classes.Minus tt begins reads)
one_constant trees part rest part2 rest2 (of_type reads) (one_sign class is sign) =
    absurd (no_type trees part rest rest2 class (constant_begins class is) sign.begins reads)
one_constant trees part rest part2 rest2 (of_type reads) (negative left begins number whole) =
    absurd (no_type trees part rest left classes.Minus tt begins reads)
one_constant trees part rest part2 rest2 (of_type reads) (of_type reads2) =
    one_type trees part rest part2 rest2 reads reads2

-- ---- parameters and predicates

pub one_bounds : (kind : ParamKind) → IsOne (HasBounds kind)
one_bounds kinds.Lifetime = one_may classes.Colon (Reads AreBounds) one_list_of_bounds
one_bounds kinds.Type = one_may classes.Colon (Reads AreBounds) one_list_of_bounds
one_bounds kinds.Const = one_must classes.Colon (Reads IsType) one_type

pub one_default : (kind : ParamKind) → IsOne (HasDefault kind)
one_default kinds.Lifetime trees part rest part2 rest2 here there = (there.0 ∙ sym here.0, there.1 ∙ sym here.1)
one_default kinds.Type trees part rest part2 rest2 here there =
    one_may classes.Equals (Reads IsType) one_type trees part rest part2 rest2 here there
one_default kinds.Const trees part rest part2 rest2 here there =
    one_may classes.Equals ReadsConstant one_constant trees part rest part2 rest2 here there

pub one_name : (kind kind2 : ParamKind) (trees name rest name2 rest2 : List TokenTree)
    → HasName kind trees name rest → HasName kind2 trees name2 rest2
    → (kind2 ≡ kind) × (name2 ≡ name) × (rest2 ≡ rest)
one_name kinds.Lifetime kinds.Lifetime trees name rest name2 rest2 here there =
    let one = one_named classes.Lifetime trees name rest name2 rest2 here there in
    (refl, one.0, one.1)
one_name kinds.Lifetime kinds.Type trees name rest name2 rest2 here there =
    let wrong : classes.Word there.word ≡ classes.Lifetime =
    same_class trees classes.Lifetime (classes.Word there.word) rest rest2 here.begins there.sign.begins in
    cc
one_name kinds.Lifetime kinds.Const trees name rest name2 rest2 here there =
    let wrong : classes.Keyword keywords.Const ≡ classes.Lifetime =
    same_class trees classes.Lifetime (classes.Keyword keywords.Const) rest there.left here.begins there.begins in
    cc
one_name kinds.Type kinds.Lifetime trees name rest name2 rest2 here there =
    let wrong : classes.Lifetime ≡ classes.Word here.word =
    same_class trees (classes.Word here.word) classes.Lifetime rest rest2 here.sign.begins there.begins in
    cc
one_name kinds.Type kinds.Type trees name rest name2 rest2 here there =
    let one = one_word trees name rest name2 rest2 here there in
    (refl, one.0, one.1)
one_name kinds.Type kinds.Const trees name rest name2 rest2 here there =
    let wrong : classes.Keyword keywords.Const ≡ classes.Word here.word =
    same_class trees (classes.Word here.word) (classes.Keyword keywords.Const) rest there.left here.sign.begins
    there.begins in
    cc
one_name kinds.Const kinds.Lifetime trees name rest name2 rest2 here there =
    let wrong : classes.Lifetime ≡ classes.Keyword keywords.Const =
    same_class trees (classes.Keyword keywords.Const) classes.Lifetime here.left rest2 here.begins there.begins in
    cc
one_name kinds.Const kinds.Type trees name rest name2 rest2 here there =
    let wrong : classes.Word there.word ≡ classes.Keyword keywords.Const =
    same_class trees (classes.Keyword keywords.Const) (classes.Word there.word) here.left rest2 here.begins
    there.sign.begins in
    cc
one_name kinds.Const kinds.Const trees name rest name2 rest2 here there =
    let one = one_must (classes.Keyword keywords.Const) IsWord one_word trees name rest name2 rest2 here there in
    (refl, one.0, one.1)

-- the attributes that are read so far are those of any parameter here
pub from_name_same : (trees attributes from_name : List TokenTree) → Reads AreAttributes trees attributes from_name
    → (param : ParamTrees) (rest : List TokenTree) → (is : IsParamAt trees param rest)
    → (param.attributes ≡ attributes) × (is.from_name ≡ from_name)
from_name_same trees attributes from_name reads param rest is =
    one_reading rule.attributes begin.attributes_starts trees attributes from_name param.attributes is.from_name reads
    is.attributes

-- the attributes, the kind and the name of a parameter are read
pub record Named (trees attributes : List TokenTree) (kind : ParamKind) (name from_bounds : List TokenTree)
    : Type 0 where
  pub from_name : List TokenTree
  pub attributes_read : Reads AreAttributes trees attributes from_name
  pub name_read : HasName kind from_name name from_bounds

pub from_bounds_same : (trees attributes : List TokenTree) (kind : ParamKind) (name from_bounds : List TokenTree)
    → Named trees attributes kind name from_bounds → (param : ParamTrees) (rest : List TokenTree)
    → (is : IsParamAt trees param rest)
    → (param.attributes ≡ attributes) × (param.kind ≡ kind) × (param.name ≡ name) × (is.from_bounds ≡ from_bounds)
from_bounds_same trees attributes kind name from_bounds so_far param rest is =
    let first = from_name_same trees attributes so_far.from_name so_far.attributes_read param rest is in
    let second = one_name kind param.kind so_far.from_name name from_bounds param.name is.from_bounds so_far.name_read
    (subst (λ t. HasName param.kind t param.name is.from_bounds) first.1 is.name) in
    (first.0, second.0, second.1, second.2)

-- a parameter is read up to its default
pub record Bounded (trees attributes : List TokenTree) (kind : ParamKind) (name bounds from_default : List TokenTree)
    : Type 0 where
  pub from_bounds : List TokenTree
  pub named : Named trees attributes kind name from_bounds
  pub bounds_read : HasBounds kind from_bounds bounds from_default

pub record SameBounded (attributes : List TokenTree) (kind : ParamKind) (name bounds from_default : List TokenTree)
    (param : ParamTrees) (from_default2 : List TokenTree) : Type 0 where
  pub attributes_same : param.attributes ≡ attributes
  pub kind_same : param.kind ≡ kind
  pub name_same : param.name ≡ name
  pub bounds_same : param.bounds ≡ bounds
  pub left_same : from_default2 ≡ from_default

pub from_default_same : (trees attributes : List TokenTree) (kind : ParamKind)
    (name bounds from_default : List TokenTree) → Bounded trees attributes kind name bounds from_default
    → (param : ParamTrees) (rest : List TokenTree) → (is : IsParamAt trees param rest)
    → SameBounded attributes kind name bounds from_default param is.from_default
from_default_same trees attributes kind name bounds from_default so_far param rest is =
    let first = from_bounds_same trees attributes kind name so_far.from_bounds so_far.named param rest is in
    let here : HasBounds kind so_far.from_bounds param.bounds is.from_default =
    subst (λ t. HasBounds kind t param.bounds is.from_default) first.3
    (subst (λ k. HasBounds k is.from_bounds param.bounds is.from_default) first.1 is.bounds) in
    let second = one_bounds kind so_far.from_bounds bounds from_default param.bounds is.from_default
    so_far.bounds_read here in
    record {
      attributes_same = first.0;
      kind_same = first.1;
      name_same = first.2;
      bounds_same = second.0;
      left_same = second.1;
    }

-- a parameter is read up to its end
pub record Defaulted (trees : List TokenTree) (param : ParamTrees) (from_end : List TokenTree) : Type 0 where
  pub from_default : List TokenTree
  pub bounded : Bounded trees param.attributes param.kind param.name param.bounds from_default
  pub default_read : HasDefault param.kind from_default param.default from_end

abbrev make_param : List TokenTree → ParamKind → List TokenTree → List TokenTree → List TokenTree → ParamTrees
make_param attributes kind name bounds default = record {
  attributes = attributes;
  kind = kind;
  name = name;
  bounds = bounds;
  default = default;
}

pub from_end_same : (trees : List TokenTree) (param : ParamTrees) (from_end : List TokenTree)
    → Defaulted trees param from_end → (param2 : ParamTrees) (rest : List TokenTree)
    → (is : IsParamAt trees param2 rest) → (param2 ≡ param) × (is.from_end ≡ from_end)
from_end_same trees param from_end so_far param2 rest is =
    let first = from_default_same trees param.attributes param.kind param.name param.bounds so_far.from_default
    so_far.bounded param2 rest is in
    let here : HasDefault param.kind so_far.from_default param2.default is.from_end =
    subst (λ t. HasDefault param.kind t param2.default is.from_end) first.left_same
    (subst (λ k. HasDefault k is.from_default param2.default is.from_end) first.kind_same is.default) in
    let second = one_default param.kind so_far.from_default param.default from_end param2.default is.from_end
    so_far.default_read here in (
      ap (λ x. make_param x param2.kind param2.name param2.bounds param2.default) first.attributes_same
          ∙ ap (λ x. make_param param.attributes x param2.name param2.bounds param2.default) first.kind_same
          ∙ ap (λ x. make_param param.attributes param.kind x param2.bounds param2.default) first.name_same
          ∙ ap (λ x. make_param param.attributes param.kind param.name x param2.default) first.bounds_same
          ∙ ap (λ x. make_param param.attributes param.kind param.name param.bounds x) second.0,
      second.1,
    )

pub param_at : (trees : List TokenTree) (param : ParamTrees) (from_end rest : List TokenTree)
    → Defaulted trees param from_end → EndsElement from_end rest → IsParamAt trees param rest
param_at trees param from_end rest so_far ends = record {
  from_name = so_far.bounded.named.from_name;
  from_bounds = so_far.bounded.from_bounds;
  from_default = so_far.from_default;
  from_end = from_end;
  attributes = so_far.bounded.named.attributes_read;
  name = so_far.bounded.named.name_read;
  bounds = so_far.bounded.bounds_read;
  default = so_far.default_read;
  ends = ends;
}

pub param_defaulted : (trees : List TokenTree) (param : ParamTrees) (rest : List TokenTree)
    → HasParam trees param rest → Defaulted trees param rest
param_defaulted trees param rest has = record {
  from_default = has.from_default;
  bounded = record {
    from_bounds = has.from_bounds;
    named = record { from_name = has.from_name; attributes_read = has.attributes; name_read = has.name };
    bounds_read = has.bounds;
  };
  default_read = has.default;
}

pub predicate_at : (trees : List TokenTree) (predicate : PredicateTrees) (from_end rest : List TokenTree)
    → HasPredicate trees predicate from_end → EndsElement from_end rest → IsPredicateAt trees predicate rest
predicate_at trees predicate from_end rest has ends = record {
  from_colon = has.from_colon;
  from_end = from_end;
  bounded = has.bounded;
  bounds = has.bounds;
  ends = ends;
}

pub default_splits : (trees : List TokenTree) (param : ParamTrees) (rest : List TokenTree)
    → (is : IsParamAt trees param rest) → Defaulted trees param is.from_end
default_splits trees param rest is = record {
  from_default = is.from_default;
  bounded = record {
    from_bounds = is.from_bounds;
    named = record { from_name = is.from_name; attributes_read = is.attributes; name_read = is.name };
    bounds_read = is.bounds;
  };
  default_read = is.default;
}

pub one_param : (trees : List TokenTree) (param : ParamTrees) (rest : List TokenTree) → IsParamAt trees param rest
    → (param2 : ParamTrees) (rest2 : List TokenTree) → IsParamAt trees param2 rest2
    → (param2 ≡ param) × (rest2 ≡ rest)
one_param trees param rest is param2 rest2 is2 =
    let same = from_end_same trees param is.from_end (default_splits trees param rest is) param2 rest2 is2 in
    (same.0, one_end is.from_end rest rest2 is.ends (subst (λ t. EndsElement t rest2) same.1 is2.ends))

pub one_predicate : (trees : List TokenTree) (predicate : PredicateTrees) (rest : List TokenTree)
    → IsPredicateAt trees predicate rest → (predicate2 : PredicateTrees) (rest2 : List TokenTree)
    → IsPredicateAt trees predicate2 rest2 → (predicate2 ≡ predicate) × (rest2 ≡ rest)
one_predicate trees predicate rest is predicate2 rest2 is2 =
    let first = one_type trees predicate.bounded is.from_colon predicate2.bounded is2.from_colon is.bounded
    is2.bounded in
    let second = one_must classes.Colon (Reads AreBounds) one_list_of_bounds is.from_colon predicate.bounds is.from_end
    predicate2.bounds is2.from_end is.bounds
    (subst (λ t. MustHave classes.Colon (Reads AreBounds) t predicate2.bounds is2.from_end) first.1 is2.bounds) in
    let third = one_end is.from_end rest rest2 is.ends (subst (λ t. EndsElement t rest2) second.1 is2.ends) in
    let made_of : List TokenTree → List TokenTree → PredicateTrees =
    λ bounded bounds. record { bounded = bounded; bounds = bounds } in
    (ap (λ x. made_of x predicate2.bounds) first.0 ∙ ap (λ x. made_of predicate.bounded x) second.0, third)

-- ---- where an error is

pub back_here : (trees : List TokenTree) → IsBack trees trees
back_here trees = ([], refl)

pub back_more : (trees middle left : List TokenTree) → IsBack middle trees → IsBack left middle → IsBack left trees
back_more trees middle left outer inner = (
  outer.0 ++ inner.0,
  outer.1 ∙ ap (λ t. outer.0 ++ t) inner.1 ∙ sym (append_assoc outer.0 inner.0 left),
)

pub back_sign : (trees : List TokenTree) (class : SignClass) (rest : List TokenTree) → BeginsWith trees class rest
    → IsBack rest trees
back_sign trees class rest begins = (begins.front, begins.whole)

pub back_reads : (form : List SignClass → List SignClass → Type 0) (trees part rest : List TokenTree)
    → Reads form trees part rest
    → IsBack rest trees
back_reads form trees part rest reads = (part, reads.whole)

back_may : (led : SignClass) (form : List TokenTree → List TokenTree → List TokenTree → Type 0)
    → ((trees part rest : List TokenTree) → form trees part rest → IsBack rest trees)
    → (trees part rest : List TokenTree) → MayHave led form trees part rest → IsBack rest trees
back_may led form backs trees part rest (stands left begins reads) =
    back_more trees left rest (back_sign trees led left begins) (backs left part rest reads)
back_may led form backs trees part rest (left_out none empty all) = ([], sym all)

back_must : (led : SignClass) (form : List TokenTree → List TokenTree → List TokenTree → Type 0)
    → ((trees part rest : List TokenTree) → form trees part rest → IsBack rest trees)
    → (trees part rest : List TokenTree) → MustHave led form trees part rest → IsBack rest trees
back_must led form backs trees part rest has =
    back_more trees has.left rest (back_sign trees led has.left has.begins) (backs has.left part rest has.reads)

back_constant : (trees part rest : List TokenTree) → ReadsConstant trees part rest → IsBack rest trees
back_constant trees part rest (one_sign class is sign) = (part, sign.whole)
back_constant trees part rest (negative left begins number whole) = (part, whole)
back_constant trees part rest (of_type reads) = (part, reads.whole)

pub back_bounds : (kind : ParamKind) (trees part rest : List TokenTree) → HasBounds kind trees part rest
    → IsBack rest trees
back_bounds kinds.Lifetime = back_may classes.Colon (Reads AreBounds) (back_reads _)
back_bounds kinds.Type = back_may classes.Colon (Reads AreBounds) (back_reads _)
back_bounds kinds.Const = back_must classes.Colon (Reads IsType) (back_reads _)

pub back_default : (kind : ParamKind) (trees part rest : List TokenTree) → HasDefault kind trees part rest
    → IsBack rest trees
back_default kinds.Lifetime trees part rest has = ([], sym has.1)
back_default kinds.Type trees part rest has =
    back_may classes.Equals (Reads IsType) (back_reads _) trees part rest has
back_default kinds.Const trees part rest has =
    back_may classes.Equals ReadsConstant back_constant trees part rest has

pub back_fewer : (trees left : List TokenTree) → IsBack left trees → length left ≤ length trees
back_fewer trees left back =
    let sum = ap length back.1 ∙ length-append back.0 left in
    omega arith

pub fault_within : (form : List SignClass → List SignClass → Type 0) (trees : List TokenTree) (at : ℕ)
    → FaultAt form trees at → at ≤ length trees
fault_within form trees at fault =
    let sum = ap length fault.whole ∙ length-append (trees_of fault.front) fault.left in
    let counted : at ≡ length (trees_of fault.front) = fault.counted in
    omega arith

-- ---- parts that may be left out, and the ends of elements

may_none : (led : SignClass) (form : List TokenTree → List TokenTree → List TokenTree → Type 0)
    (trees left fault part rest : List TokenTree) → BeginsWith trees led left → Fails form left fault
    → MayHave led form trees part rest → ⊥
may_none led form trees left fault part rest begins fails (stands left2 begins2 reads) =
    fails.nothing part rest (subst (λ t. form t part rest) (same_rest trees led led left left2 begins begins2) reads)
may_none led form trees left fault part rest begins fails (left_out none empty all) = none left begins

-- if the mark is there and the form fails after it, then the whole fails there
may_fails : (led : SignClass) (form : List TokenTree → List TokenTree → List TokenTree → Type 0)
    (trees left fault : List TokenTree) → BeginsWith trees led left → Fails form left fault
    → Fails (MayHave led form) trees fault
may_fails led form trees left fault begins fails = record {
  back = back_more trees left fault (back_sign trees led left begins) fails.back;
  nothing = λ part rest has. may_none led form trees left fault part rest begins fails has;
}

must_fails : (led : SignClass) (form : List TokenTree → List TokenTree → List TokenTree → Type 0)
    (trees left fault : List TokenTree) → BeginsWith trees led left → Fails form left fault
    → Fails (MustHave led form) trees fault
must_fails led form trees left fault begins fails = record {
  back = back_more trees left fault (back_sign trees led left begins) fails.back;
  nothing = λ part rest has.
      fails.nothing part rest
      (subst (λ t. form t part rest) (same_rest trees led led left has.left begins has.begins) has.reads);
}

pub must_none : (led : SignClass) (form : List TokenTree → List TokenTree → List TokenTree → Type 0)
    (trees : List TokenTree) → HasNo led trees → Fails (MustHave led form) trees trees
must_none led form trees none = record {
  back = back_here trees;
  nothing = λ part rest has. none has.left has.begins;
}

-- a result of the form after its mark is a result of the mark and the form
pub may_found : {T E : Type 0} → (r : Result T E) (part rest : T → List TokenTree) (fault : E → List TokenTree)
    (led : SignClass) (form : List TokenTree → List TokenTree → List TokenTree → Type 0) (trees left : List TokenTree)
    → BeginsWith trees led left → MatchResult r (λ f. form left (part f) (rest f)) (λ e. Fails form left (fault e))
    → MatchResult r (λ f. MayHave led form trees (part f) (rest f)) (λ e. Fails (MayHave led form) trees (fault e))
may_found (Ok f) part rest fault led form trees left begins reads = stands left begins reads
may_found (Err e) part rest fault led form trees left begins fails =
    may_fails led form trees left (fault e) begins fails

pub must_found : {T E : Type 0} → (r : Result T E) (part rest : T → List TokenTree) (fault : E → List TokenTree)
    (led : SignClass) (form : List TokenTree → List TokenTree → List TokenTree → Type 0) (trees left : List TokenTree)
    → BeginsWith trees led left → MatchResult r (λ f. form left (part f) (rest f)) (λ e. Fails form left (fault e))
    → MatchResult r (λ f. MustHave led form trees (part f) (rest f)) (λ e. Fails (MustHave led form) trees (fault e))
must_found (Ok f) part rest fault led form trees left begins reads =
    record { left = left; begins = begins; reads = reads }
must_found (Err e) part rest fault led form trees left begins fails =
    must_fails led form trees left (fault e) begins fails

-- if no constant begins here, then the default of a constant is a type
no_constant : (trees left part rest after : List TokenTree) (class : SignClass) → BeginsWith trees class after
    → is_constant class ≡ false → (class ≡ classes.Minus → ⊥) → Fails (Reads IsType) trees left
    → ReadsConstant trees part rest → ⊥
no_constant trees left part rest after class begins other minus fails (one_sign class2 is sign) =
    let same : class2 ≡ class = same_class trees class class2 after rest begins sign.begins in
    let wrong : true ≡ false = sym is ∙ ap is_constant same ∙ other in
    cc
no_constant trees left part rest after class begins other minus fails (negative next begins2 number whole) =
    minus (sym (same_class trees class classes.Minus after next begins begins2))
no_constant trees left part rest after class begins other minus fails (of_type reads) =
    fails.nothing part rest reads

pub type_found : {T E : Type 0} → (r : Result T E) (part rest : T → List TokenTree) (fault : E → List TokenTree)
    (trees after : List TokenTree) (class : SignClass) → BeginsWith trees class after → is_constant class ≡ false
    → (class ≡ classes.Minus → ⊥)
    → MatchResult r (λ f. Reads IsType trees (part f) (rest f)) (λ e. Fails (Reads IsType) trees (fault e))
    → MatchResult r (λ f. ReadsConstant trees (part f) (rest f)) (λ e. Fails ReadsConstant trees (fault e))
type_found (Ok f) part rest fault trees after class begins other minus reads = of_type reads
type_found (Err e) part rest fault trees after class begins other minus fails = record {
  back = fails.back;
  nothing = λ p r reads. no_constant trees (fault e) p r after class begins other minus fails reads;
}

-- nothing is read after a `-` that no literal follows
minus_none : (trees after part rest : List TokenTree) → BeginsWith trees classes.Minus after
    → HasNo classes.Literal after → ReadsConstant trees part rest → ⊥
minus_none trees after part rest begins none (one_sign class is sign) =
    minus_alone class is (same_class trees class classes.Minus rest after sign.begins begins)
minus_none trees after part rest begins none (negative next begins2 number whole) =
    let lefts = same_rest trees classes.Minus classes.Minus after next begins begins2 in
    none rest (subst (λ t. BeginsWith t classes.Literal rest) lefts number)
minus_none trees after part rest begins none (of_type reads) =
    no_type trees part rest after classes.Minus tt begins reads

pub minus_fails : (trees after : List TokenTree) → BeginsWith trees classes.Minus after
    → HasNo classes.Literal after → Fails ReadsConstant trees after
minus_fails trees after begins none = record {
  back = back_sign trees classes.Minus after begins;
  nothing = λ part rest reads. minus_none trees after part rest begins none reads;
}

-- ---- when a parameter cannot be read

pub name_fails : (trees attributes from_name left : List TokenTree) → Reads AreAttributes trees attributes from_name
    → ((kind : ParamKind) → Fails (HasName kind) from_name left) → (param : ParamTrees) (rest : List TokenTree)
    → IsParamAt trees param rest → ⊥
name_fails trees attributes from_name left reads fails param rest is =
    let same = from_name_same trees attributes from_name reads param rest is in
    let wrong = fails param.kind in
    wrong.nothing param.name is.from_bounds (subst (λ t. HasName param.kind t param.name is.from_bounds) same.1 is.name)

pub bounds_fail : (trees attributes : List TokenTree) (kind : ParamKind) (name from_bounds left : List TokenTree)
    → Named trees attributes kind name from_bounds → Fails (HasBounds kind) from_bounds left
    → (param : ParamTrees) (rest : List TokenTree) → IsParamAt trees param rest → ⊥
bounds_fail trees attributes kind name from_bounds left so_far fails param rest is =
    let same = from_bounds_same trees attributes kind name from_bounds so_far param rest is in
    fails.nothing param.bounds is.from_default
    (subst (λ t. HasBounds kind t param.bounds is.from_default) same.3
    (subst (λ k. HasBounds k is.from_bounds param.bounds is.from_default) same.1 is.bounds))

pub default_fails : (trees attributes : List TokenTree) (kind : ParamKind)
    (name bounds from_default left : List TokenTree) → Bounded trees attributes kind name bounds from_default
    → Fails (HasDefault kind) from_default left → (param : ParamTrees) (rest : List TokenTree)
    → IsParamAt trees param rest → ⊥
default_fails trees attributes kind name bounds from_default left so_far fails param rest is =
    let same = from_default_same trees attributes kind name bounds from_default so_far param rest is in
    fails.nothing param.default is.from_end
    (subst (λ t. HasDefault kind t param.default is.from_end) same.left_same
    (subst (λ k. HasDefault k is.from_default param.default is.from_end) same.kind_same is.default))

pub end_fails : (trees : List TokenTree) (found : ParamTrees) (from_end : List TokenTree)
    → Defaulted trees found from_end → ((rest : List TokenTree) → EndsElement from_end rest → ⊥)
    → (param : ParamTrees) (rest : List TokenTree) → IsParamAt trees param rest → ⊥
end_fails trees found from_end so_far fails param rest is =
    let same = from_end_same trees found from_end so_far param rest is in
    fails rest (subst (λ t. EndsElement t rest) same.1 is.ends)

-- a predicate fails where its bounds fail
pub predicate_bounds_fail : (trees bounded from_colon left : List TokenTree) → Reads IsType trees bounded from_colon
    → Fails (MustHave classes.Colon (Reads AreBounds)) from_colon left → (predicate : PredicateTrees)
    (rest : List TokenTree) → IsPredicateAt trees predicate rest → ⊥
predicate_bounds_fail trees bounded from_colon left reads fails predicate rest is =
    let same = one_type trees bounded from_colon predicate.bounded is.from_colon reads is.bounded in
    fails.nothing predicate.bounds is.from_end
    (subst (λ t. MustHave classes.Colon (Reads AreBounds) t predicate.bounds is.from_end) same.1 is.bounds)

pub predicate_end_fails : (trees bounded from_colon bounds from_end : List TokenTree)
    → Reads IsType trees bounded from_colon
    → MustHave classes.Colon (Reads AreBounds) from_colon bounds from_end
    → ((rest : List TokenTree) → EndsElement from_end rest → ⊥) → (predicate : PredicateTrees)
    (rest : List TokenTree) → IsPredicateAt trees predicate rest → ⊥
predicate_end_fails trees bounded from_colon bounds from_end first second fails predicate rest is =
    let same = one_type trees bounded from_colon predicate.bounded is.from_colon first is.bounded in
    let both = one_must classes.Colon (Reads AreBounds) one_list_of_bounds from_colon bounds from_end predicate.bounds
    is.from_end second
    (subst (λ t. MustHave classes.Colon (Reads AreBounds) t predicate.bounds is.from_end) same.1 is.bounds) in
    fails rest (subst (λ t. EndsElement t rest) both.1 is.ends)

pub no_end : (trees rest : List TokenTree) → HasNo classes.Comma trees → (length trees ≡ 0 → ⊥)
    → EndsElement trees rest → ⊥
no_end trees rest none some (comma begins) = none rest begins
no_end trees rest none some (last empty left) = some (ap length empty)

const_none : (kind : ParamKind) (trees rest left name after : List TokenTree)
    → BeginsWith trees (classes.Keyword keywords.Const) rest → Fails IsWord rest left
    → HasName kind trees name after → ⊥
const_none kinds.Lifetime trees rest left name after begins fails has =
    let wrong : classes.Lifetime ≡ classes.Keyword keywords.Const =
    same_class trees (classes.Keyword keywords.Const) classes.Lifetime rest after begins has.begins in
    cc
const_none kinds.Type trees rest left name after begins fails has =
    let wrong : classes.Word has.word ≡ classes.Keyword keywords.Const =
    same_class trees (classes.Keyword keywords.Const) (classes.Word has.word) rest after begins has.sign.begins in
    cc
const_none kinds.Const trees rest left name after begins fails has =
    let same = same_rest trees (classes.Keyword keywords.Const) (classes.Keyword keywords.Const) rest has.left begins
    has.begins in
    fails.nothing name after (subst (λ t. IsWord t name after) same has.reads)

-- a constant parameter fails where its name fails
pub const_fails : (kind : ParamKind) (trees rest left : List TokenTree)
    → BeginsWith trees (classes.Keyword keywords.Const) rest → Fails IsWord rest left
    → Fails (HasName kind) trees left
const_fails kind trees rest left begins fails = record {
  back = back_more trees rest left (back_sign trees (classes.Keyword keywords.Const) rest begins) fails.back;
  nothing = λ name after has. const_none kind trees rest left name after begins fails has;
}

-- ---- the rest has fewer trees

fewer_name : (kind : ParamKind) (trees name rest : List TokenTree) → HasName kind trees name rest
    → length rest < length trees
fewer_name kinds.Lifetime trees name rest has = has.begins.fewer
fewer_name kinds.Type trees name rest has = has.sign.begins.fewer
fewer_name kinds.Const trees name rest has =
    let one : length has.left < length trees = has.begins.fewer in
    let two : length rest < length has.left = has.reads.sign.begins.fewer in
    omega arith

fewer_end : (trees rest : List TokenTree) → EndsElement trees rest → length rest ≤ length trees
fewer_end trees rest (comma begins) =
    let one : length rest < length trees = begins.fewer in
    omega arith
fewer_end trees rest (last none left) =
    let one : length rest ≡ 0 = ap length left in
    omega arith

pub fewer_param : (trees : List TokenTree) (param : ParamTrees) (rest : List TokenTree)
    → IsParamAt trees param rest → length rest < length trees
fewer_param trees param rest is =
    let one : length is.from_name ≤ length trees =
    back_fewer trees is.from_name (back_reads _ trees param.attributes is.from_name is.attributes) in
    let two : length is.from_bounds < length is.from_name =
    fewer_name param.kind is.from_name param.name is.from_bounds is.name in
    let three : length is.from_default ≤ length is.from_bounds =
    back_fewer is.from_bounds is.from_default
    (back_bounds param.kind is.from_bounds param.bounds is.from_default is.bounds) in
    let four : length is.from_end ≤ length is.from_default =
    back_fewer is.from_default is.from_end
    (back_default param.kind is.from_default param.default is.from_end is.default) in
    let five : length rest ≤ length is.from_end = fewer_end is.from_end rest is.ends in
    omega arith

pub fewer_predicate : (trees : List TokenTree) (predicate : PredicateTrees) (rest : List TokenTree)
    → IsPredicateAt trees predicate rest → length rest < length trees
fewer_predicate trees predicate rest is =
    let one : length is.from_colon ≤ length trees =
    back_fewer trees is.from_colon (back_reads _ trees predicate.bounded is.from_colon is.bounded) in
    let two : length is.bounds.left < length is.from_colon = is.bounds.begins.fewer in
    let three : length is.from_end ≤ length is.bounds.left =
    back_fewer is.bounds.left is.from_end
    (back_reads _ is.bounds.left predicate.bounds is.from_end is.bounds.reads) in
    let four : length rest ≤ length is.from_end = fewer_end is.from_end rest is.ends in
    omega arith
