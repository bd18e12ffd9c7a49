-- The loops that write lists element by element.
use Rattle.std.proofs.Common.{◌≡◌, refl, sym, ◌∙◌, ap, subst, ◌<◌, Bool, true, false, List, [], ◌∷◌, ◌++◌}
use Rattle.std.proofs.Common.{arith, length, map}
use Rattle.declarations.proofs.ParamLemmas.{fewer_param, one_param}
use Rattle.declarations.specs.Param.{IsParamAt, IsPredicateAt, IsWithin, ParamTrees, PredicateTrees}
use Rattle.declarations.specs.declared.generics.ParamKind.TheVariants as kinds
use Rattle.item_headers.specs.Header.{AreParams, ArePredicates, HasParams, param_in, predicate_in}
use Rattle.item_headers.specs.Header.{with_bound, bounded_as, bounds_on_types}
use Rattle.item_headers.specs.Lists.{any_of, lead_of, list_trees, listed_after, mark, pushed_trees}
use Rattle.item_headers.specs.declared.lists.Lead.{Lead}
use Rattle.item_headers.specs.declared.lists.Lead.TheVariants as leads
use Rattle.item_headers.specs.declared.params.Form.{Form}
use Rattle.pm_stream.proofs.BuildingLemmas.{joined_assoc, joined_nil}
use Rattle.pm_stream.specs.declared.stream.TokenTree.{TokenTree}
use Rattle.proc_macro2.specs.Building.{split}
use Rattle.proc_macro2.specs.Forest.{Forest, chain}

-- ---- lists with more elements at the end

any_more : {A : Type 0} → (elements : List A) → any_of true elements ≡ true
any_more [] = refl
any_more (element ∷ elements) = refl

pub any-append : {A : Type 0} → (any : Bool) (elements : List A) (one : A) → any_of any (elements ++ one ∷ []) ≡ true
any-append any [] one = refl
any-append any (element ∷ elements) one = refl

pub any-more : {A : Type 0} → (any : Bool) (front back : List A)
    → any_of any (front ++ back) ≡ any_of (any_of any front) back
any-more any [] back = refl
any-more any (element ∷ front) [] = refl
any-more any (element ∷ front) (other ∷ back) = refl

pub any-map : {A B : Type 0} → (f : A → B) (any : Bool) (elements : List A)
    → any_of any (map f elements) ≡ any_of any elements
any-map f any [] = refl
any-map f any (element ∷ elements) = refl

pub listed-append : (any : Bool) (lead : Lead) (front back : List Forest)
    → listed_after any lead (front ++ back)
    ≡ chain (listed_after any lead front) (listed_after (any_of any front) lead back)
listed-append any lead [] back = refl
listed-append any lead (element ∷ front) back =
    let rest = listed_after true lead front in
    let after = listed_after true lead back in
    let more : listed_after true lead (front ++ back) ≡ chain rest after =
    listed-append true lead front back ∙ ap (λ b. chain rest (listed_after b lead back)) (any_more front) in
    ap (λ r. chain (lead_of any lead) (chain element r)) more
    ∙ sym (joined_assoc (lead_of any lead) (chain element rest) after
    ∙ ap (λ r. chain (lead_of any lead) r) (joined_assoc element rest after))

pub listed-snoc : (any : Bool) (lead : Lead) (front : List Forest) (element : Forest)
    → listed_after any lead (front ++ element ∷ [])
    ≡ chain (listed_after any lead front) (chain (lead_of (any_of any front) lead) element)
listed-snoc any lead front element =
    listed-append any lead front (element ∷ [])
    ∙ ap (λ r. chain (listed_after any lead front) (chain (lead_of (any_of any front) lead) r)) (joined_nil element)

pub map-snoc : {A B : Type 0} → (f : A → B) (front : List A) (element : A)
    → map f (front ++ element ∷ []) ≡ map f front ++ f element ∷ []
map-snoc f [] element = refl
map-snoc f (first ∷ front) element = ap (λ r. f first ∷ r) (map-snoc f front element)

-- one more element after those that were added
pub put_more : (any : Bool) (lead : Lead) (old now lead_done new : Forest) (front : List Forest) (element : Forest)
    → now ≡ chain old (listed_after any lead front) → lead_done ≡ chain now (lead_of (any_of any front) lead)
    → new ≡ chain lead_done element → new ≡ chain old (listed_after any lead (front ++ element ∷ []))
put_more any lead old now lead_done new front element is led is_new =
    let before = listed_after any lead front in
    let lead_here = lead_of (any_of any front) lead in
    is_new ∙ ap (λ f. chain f element) led ∙ joined_assoc now lead_here element
    ∙ ap (λ f. chain f (chain lead_here element)) is ∙ joined_assoc old before (chain lead_here element)
    ∙ ap (chain old) (sym (listed-snoc any lead front element))

-- ---- parameters and predicates one after the other

pub params-snoc : (trees : List TokenTree) (params : List ParamTrees) (left : List TokenTree) (param : ParamTrees)
    (rest : List TokenTree) → AreParams trees params left → IsParamAt left param rest
    → AreParams trees (params ++ param ∷ []) rest
params-snoc trees [] left param rest read is = (rest, subst (λ t. IsParamAt t param rest) (sym read) is, refl)
params-snoc trees (first ∷ params) left param rest read is =
    (read.0, read.1, params-snoc read.0 params left param rest read.2 is)

pub predicates-snoc : (trees : List TokenTree) (predicates : List PredicateTrees) (left : List TokenTree)
    (predicate : PredicateTrees) (rest : List TokenTree) → ArePredicates trees predicates left
    → IsPredicateAt left predicate rest → ArePredicates trees (predicates ++ predicate ∷ []) rest
predicates-snoc trees [] left predicate rest read is =
    (rest, subst (λ t. IsPredicateAt t predicate rest) (sym read) is, refl)
predicates-snoc trees (first ∷ predicates) left predicate rest read is =
    (read.0, read.1, predicates-snoc read.0 predicates left predicate rest read.2 is)

-- ---- the states of the loops

-- the parameters of the trees up to those that are left were added
pub record PutParams (lead : Lead) (form : Form) (inside left : List TokenTree) (old now : Forest) (any : Bool)
    : Type 0 where
  pub done : List ParamTrees
  pub read : AreParams inside done left
  pub is : now ≡ chain old (list_trees lead (map (param_in form) done))
  pub counted : any ≡ any_of false done

pub no_params : (lead : Lead) (form : Form) (inside : List TokenTree) (old : Forest)
    → PutParams lead form inside inside old old false
no_params lead form inside old = record { done = []; read = refl; is = sym (joined_nil old); counted = refl }

pub param_more : (lead : Lead) (form : Form) (inside left rest : List TokenTree) (old now led new : Forest) (any : Bool)
    (param : ParamTrees) → PutParams lead form inside left old now any → IsParamAt left param rest
    → led ≡ chain now (lead_of any lead) → new ≡ chain led (param_in form param)
    → PutParams lead form inside rest old new true
param_more lead form inside left rest old now led new any param put_so_far is led_is new_is =
    let written = map (param_in form) put_so_far.done in
    let counted : any_of false written ≡ any =
    any-map (param_in form) false put_so_far.done ∙ sym put_so_far.counted in
    record {
      done = put_so_far.done ++ param ∷ [];
      read = params-snoc inside put_so_far.done left param rest put_so_far.read is;
      is =
          put_more false lead old now led new written (param_in form param) put_so_far.is
          (led_is ∙ ap (λ b. chain now (lead_of b lead)) (sym counted)) new_is
          ∙ ap (λ fs. chain old (list_trees lead fs)) (sym (map-snoc (param_in form) put_so_far.done param));
      counted = sym (any-append false put_so_far.done param);
    }

pub record PutPredicates (inside left : List TokenTree) (old now : Forest) (any : Bool) : Type 0 where
  pub done : List PredicateTrees
  pub read : ArePredicates inside done left
  pub is : now ≡ chain old (list_trees leads.Where (map predicate_in done))
  pub counted : any ≡ any_of false done

pub no_predicates : (inside : List TokenTree) (old : Forest) → PutPredicates inside inside old old false
no_predicates inside old = record { done = []; read = refl; is = sym (joined_nil old); counted = refl }

pub predicate_more : (inside left rest : List TokenTree) (old now led new : Forest) (any : Bool)
    (predicate : PredicateTrees) → PutPredicates inside left old now any → IsPredicateAt left predicate rest
    → led ≡ chain now (lead_of any leads.Where) → new ≡ chain led (predicate_in predicate)
    → PutPredicates inside rest old new true
predicate_more inside left rest old now led new any predicate put_so_far is led_is new_is =
    let written = map predicate_in put_so_far.done in
    let counted : any_of false written ≡ any =
    any-map predicate_in false put_so_far.done ∙ sym put_so_far.counted in
    record {
      done = put_so_far.done ++ predicate ∷ [];
      read = predicates-snoc inside put_so_far.done left predicate rest put_so_far.read is;
      is =
          put_more false leads.Where old now led new written (predicate_in predicate) put_so_far.is
          (led_is ∙ ap (λ b. chain now (lead_of b leads.Where)) (sym counted)) new_is
          ∙ ap (λ fs. chain old (list_trees leads.Where fs)) (sym (map-snoc predicate_in put_so_far.done predicate));
      counted = sym (any-append false put_so_far.done predicate);
    }

-- ---- bounds on types

bounds-append : (bound : Forest) (front back : List ParamTrees)
    → bounds_on_types bound (front ++ back) ≡ bounds_on_types bound front ++ bounds_on_types bound back
bounds-append bound [] back = refl
bounds-append bound (param ∷ front) back =
    elim param.kind as (λ k. bounded_as bound param k (bounds_on_types bound (front ++ back))
    ≡ bounded_as bound param k (bounds_on_types bound front) ++ bounds_on_types bound back) [
      | kinds.Lifetime ↦ bounds-append bound front back
      | kinds.Type ↦
          ap (λ r. chain (pushed_trees param.name) (chain (mark 58) bound) ∷ r) (bounds-append bound front back)
      | kinds.Const ↦ bounds-append bound front back
    ]

pub record PutBounds (bound : Forest) (any_before : Bool) (inside left : List TokenTree) (old now : Forest)
    (any : Bool) : Type 0 where
  pub done : List ParamTrees
  pub read : AreParams inside done left
  pub is : now ≡ chain old (listed_after any_before leads.Where (bounds_on_types bound done))
  pub counted : any ≡ any_of any_before (bounds_on_types bound done)

pub no_bounds : (bound : Forest) (any : Bool) (inside : List TokenTree) (old : Forest)
    → PutBounds bound any inside inside old old any
no_bounds bound any inside old = record { done = []; read = refl; is = sym (joined_nil old); counted = refl }

pub bound_more : (bound : Forest) (any_before : Bool) (inside left rest : List TokenTree) (old now new : Forest)
    (any any_now : Bool) (param : ParamTrees) → PutBounds bound any_before inside left old now any
    → IsParamAt left param rest → new ≡ chain now (listed_after any leads.Where (with_bound bound param []))
    → any_now ≡ any_of any (with_bound bound param []) → PutBounds bound any_before inside rest old new any_now
bound_more bound any_before inside left rest old now new any any_now param so_far is new_is any_is =
    let before = bounds_on_types bound so_far.done in
    let one = with_bound bound param [] in
    let all : bounds_on_types bound (so_far.done ++ param ∷ []) ≡ before ++ one =
    bounds-append bound so_far.done (param ∷ []) in
    let written = listed_after any_before leads.Where before in
    record {
      done = so_far.done ++ param ∷ [];
      read = params-snoc inside so_far.done left param rest so_far.read is;
      is =
          new_is ∙ ap (λ f. chain f (listed_after any leads.Where one)) so_far.is
          ∙ ap (λ b. chain (chain old written) (listed_after b leads.Where one)) so_far.counted
          ∙ joined_assoc old written (listed_after (any_of any_before before) leads.Where one)
          ∙ ap (chain old) (sym (listed-append any_before leads.Where before one))
          ∙ ap (λ fs. chain old (listed_after any_before leads.Where fs)) (sym all);
      counted =
          any_is ∙ ap (λ b. any_of b one) so_far.counted ∙ sym (any-more any_before before one)
          ∙ ap (λ fs. any_of any_before fs) (sym all);
    }

-- ---- an item has only one list of parameters

same_params : (trees : List TokenTree) (params params2 : List ParamTrees) → AreParams trees params []
    → AreParams trees params2 [] → params2 ≡ params
same_params trees [] [] read read2 = refl
same_params trees [] (param2 ∷ params2) read read2 =
    let fewer : length read2.0 < length trees = fewer_param trees param2 read2.0 read2.1 in
    let none : length trees ≡ 0 = ap length read in
    absurd (omega arith)
same_params trees (param ∷ params) [] read read2 =
    let fewer : length read.0 < length trees = fewer_param trees param read.0 read.1 in
    let none : length trees ≡ 0 = ap length read2 in
    absurd (omega arith)
same_params trees (param ∷ params) (param2 ∷ params2) read read2 =
    let one = one_param trees param read.0 read.1 param2 read2.0 read2.1 in
    let rest = same_params read.0 params params2 read.2 (subst (λ t. AreParams t params2 []) one.1 read2.2) in
    ap (λ p. p ∷ params2) one.0 ∙ ap (λ ps. param ∷ ps) rest

same_last : {A : Type 0} → (front front2 : List A) (end end2 : A) → front ++ end ∷ [] ≡ front2 ++ end2 ∷ []
    → front ≡ front2
same_last [] [] end end2 same = refl
same_last [] (first2 ∷ []) end end2 same = cc
same_last [] (first2 ∷ second2 ∷ front2) end end2 same = cc
same_last (first ∷ []) [] end end2 same = cc
same_last (first ∷ second ∷ front) [] end end2 same = cc
same_last (first ∷ front) (first2 ∷ front2) end end2 same =
    let firsts : first ≡ first2 = cc in
    let rests : front ++ end ∷ [] ≡ front2 ++ end2 ∷ [] = cc in
    let more = same_last front front2 end end2 rests in
    cc

pub same_within : (trees inside inside2 : List TokenTree) → IsWithin trees inside → IsWithin trees inside2
    → inside2 ≡ inside
same_within [] inside inside2 within within2 = within2 ∙ sym within
same_within (first ∷ rest) inside inside2 within within2 =
    same_last inside2 inside within2.0 within.0 (sym within2.1 ∙ within.1)

pub one_params : (generics : List TokenTree) (params params2 : List ParamTrees) → HasParams generics params
    → HasParams generics params2 → params2 ≡ params
one_params generics params params2 has has2 =
    let inside = same_within generics has.inside has2.inside has.within has2.within in
    same_params has.inside params params2 has.all (subst (λ t. AreParams t params2 []) inside has2.all)

-- ---- several parts that are added one after the other

pub joined_two : (old first second now new : Forest) → now ≡ chain old first → new ≡ chain now second
    → new ≡ chain old (chain first second)
joined_two old first second now new now_is new_is =
    new_is ∙ ap (λ f. chain f second) now_is ∙ joined_assoc old first second

-- ---- trees that are added one after the other

no_trees : (trees : List TokenTree) → length trees ≡ 0 → trees ≡ []
no_trees [] none = refl
no_trees (tree ∷ trees) none = absurd (omega arith)

pub put_step : (start now new : Forest) (trees left : List TokenTree) (tree copy : TokenTree) (rest : List TokenTree)
    → left ≡ tree ∷ rest → copy ≡ tree → new ≡ chain now (split copy)
    → chain now (pushed_trees left) ≡ chain start (pushed_trees trees)
    → chain new (pushed_trees rest) ≡ chain start (pushed_trees trees)
put_step start now new trees left tree copy rest whole same is so_far =
    ap (λ f. chain f (pushed_trees rest)) (is ∙ ap (λ t. chain now (split t)) same)
    ∙ joined_assoc now (split tree) (pushed_trees rest) ∙ ap (λ ts. chain now (pushed_trees ts)) (sym whole) ∙ so_far

pub put_done : (start now : Forest) (trees left : List TokenTree) → length left ≡ 0
    → chain now (pushed_trees left) ≡ chain start (pushed_trees trees) → now ≡ chain start (pushed_trees trees)
put_done start now trees left none so_far =
    sym (joined_nil now) ∙ ap (λ ts. chain now (pushed_trees ts)) (sym (no_trees left none)) ∙ so_far
