-- The whole stream that each function writes.
use Rattle.std.proofs.Common.{◌≡◌, refl, sym, ◌∙◌, ap, subst, Bool, true, false, List, [], ◌∷◌, append-nil, map}
use Rattle.std.proofs.Common.{ℕ, suc, ◌==◌, arith, codes, length}
use Rattle.std.proofs.lemmas.Bool.Decides.{nat_tests}
use Rattle.declarations.specs.Param.{IsAfterWhere, IsWithin, ParamTrees, PredicateTrees}
use Rattle.declarations.specs.declared.generics.ParamKind.{ParamKind}
use Rattle.item_headers.proofs.ListLemmas.{PutBounds, PutParams, PutPredicates, any-map, joined_two, listed-append}
use Rattle.item_headers.proofs.ListLemmas.{put_more}
use Rattle.item_headers.specs.Header.{AreParams, ArePredicates, HasParams, HasPredicates, bounds_on_types}
use Rattle.item_headers.specs.Header.{closing_angle}
use Rattle.item_headers.specs.Header.{with_bound, bounded_as, front, generics, header, keyword, param_in, predicate_in}
use Rattle.item_headers.specs.Header.{impl_generics, type_generics, where_with}
use Rattle.item_headers.specs.Lists.{any_of, lead_of, led, list_trees, listed_after, mark, pushed_trees, word}
use Rattle.item_headers.specs.declared.lists.Lead.{Lead}
use Rattle.item_headers.specs.declared.lists.Lead.TheVariants as leads
use Rattle.item_headers.specs.declared.params.Form.{Form}
use Rattle.pm_stream.proofs.BuildingLemmas.{joined_nil}
use Rattle.pm_stream.specs.declared.stream.TokenTree.{TokenTree}
use Rattle.pm_stream.specs.declared.stream.TokenTree.TheVariants.{Ident}
use Rattle.proc_macro2.specs.Forest.{Forest, nil, chain}
use Rattle.proc_macro2.specs.Leaf.{Name}
use Rattle.proc_macro2.specs.Trees.{alone}

-- ---- parts that are added one after the other

pub joined_three : (old a b c q1 q2 q3 : Forest) → q1 ≡ chain old a → q2 ≡ chain q1 b → q3 ≡ chain q2 c
    → q3 ≡ chain old (chain a (chain b c))
joined_three old a b c q1 q2 q3 is1 is2 is3 =
    joined_two old a (chain b c) q1 q3 is1 (joined_two q1 b c q2 q3 is2 is3)

pub joined_four : (old a b c d q1 q2 q3 q4 : Forest) → q1 ≡ chain old a → q2 ≡ chain q1 b → q3 ≡ chain q2 c
    → q4 ≡ chain q3 d → q4 ≡ chain old (chain a (chain b (chain c d)))
joined_four old a b c d q1 q2 q3 q4 is1 is2 is3 is4 =
    joined_two old a (chain b (chain c d)) q1 q4 is1 (joined_three q1 b c d q2 q3 q4 is2 is3 is4)

pub joined_six : (old a b c d e f q1 q2 q3 q4 q5 q6 : Forest) → q1 ≡ chain old a → q2 ≡ chain q1 b
    → q3 ≡ chain q2 c → q4 ≡ chain q3 d → q5 ≡ chain q4 e → q6 ≡ chain q5 f
    → q6 ≡ chain old (chain a (chain b (chain c (chain d (chain e f)))))
joined_six old a b c d e f q1 q2 q3 q4 q5 q6 is1 is2 is3 is4 is5 is6 =
    joined_three old a b (chain c (chain d (chain e f))) q1 q2 q6 is1 is2
    (joined_four q2 c d e f q3 q4 q5 q6 is3 is4 is5 is6)

-- the bound on one parameter, written part by part
pub bound_put : (old lead name colon bound q1 q2 q3 q4 : Forest) → q1 ≡ chain old lead → q2 ≡ chain q1 name
    → q3 ≡ chain q2 colon → q4 ≡ chain q3 bound
    → q4 ≡ chain old (chain lead (chain (chain name (chain colon bound)) nil))
bound_put old lead name colon bound q1 q2 q3 q4 is1 is2 is3 is4 =
    let element = chain name (chain colon bound) in
    joined_two old lead (chain element nil) q1 q4 is1
    (joined_three q1 name colon bound q2 q3 q4 is2 is3 is4 ∙ ap (chain q1) (sym (joined_nil element)))

more_than_none : (trees : List TokenTree) → false ≡ (suc (length trees) == 0)
more_than_none trees = grind (arith, nat_tests)

-- `led` adds nothing if there are no trees
pub led_none : (c : ℕ) (trees : List TokenTree) (old : Forest) → (length trees == 0) ≡ true
    → old ≡ chain old (led c trees)
led_none c [] old none = sym (joined_nil old)
led_none c (tree ∷ trees) old none = let wrong : false ≡ true = more_than_none trees ∙ none in cc

pub led_some : (c : ℕ) (trees : List TokenTree) (old now new : Forest) → (length trees == 0) ≡ false
    → now ≡ chain old (mark c) → new ≡ chain now (pushed_trees trees) → new ≡ chain old (led c trees)
led_some c [] old now new some is1 is2 = let wrong : true ≡ false = some in cc
led_some c (tree ∷ trees) old now new some is1 is2 =
    joined_two old (mark c) (pushed_trees (tree ∷ trees)) now new is1 is2

-- the keyword of a parameter of the given kind
pub keyword_is : (kind was : ParamKind) (old new : Forest) → was ≡ kind → new ≡ chain old (keyword kind)
    → new ≡ chain old (keyword was)
keyword_is kind was old new is put = subst (λ k. new ≡ chain old (keyword k)) (sym is) put

-- the bound on a parameter of the given kind
pub bound_is : (bound : Forest) (param : ParamTrees) (kind : ParamKind) (any more : Bool) (old new : Forest)
    → param.kind ≡ kind
    → (new ≡ chain old (listed_after any leads.Where (bounded_as bound param kind [])))
    × (more ≡ any_of any (bounded_as bound param kind []))
    → (new ≡ chain old (listed_after any leads.Where (with_bound bound param [])))
    × (more ≡ any_of any (with_bound bound param []))
bound_is bound param kind any more old new is put =
    subst (λ k. (new ≡ chain old (listed_after any leads.Where (bounded_as bound param k [])))
    × (more ≡ any_of any (bounded_as bound param k []))) (sym is) put

-- ---- the ends of the loops

pub none_left : (left : List TokenTree) → (length left == 0) ≡ true → left ≡ []
none_left [] none = refl
none_left (tree ∷ left) none = let wrong : false ≡ true = more_than_none left ∙ none in cc

closed_some : (params : List ParamTrees) → any_of false params ≡ true → closing_angle params ≡ mark 62
closed_some [] any = let wrong : false ≡ true = any in cc
closed_some (param ∷ params) any = refl

closed_none : (params : List ParamTrees) → any_of false params ≡ false → closing_angle params ≡ nil
closed_none [] any = refl
closed_none (param ∷ params) any = let wrong : true ≡ false = any in cc

pub params_closed : (lead : Lead) (form : Form) (trees inside left : List TokenTree) (old now new : Forest) (any : Bool)
    → IsWithin trees inside → PutParams lead form inside left old now any → left ≡ [] → any ≡ true
    → new ≡ chain now (mark 62)
    → (params : List ParamTrees) × HasParams trees params × (new ≡ chain old (generics lead form params))
params_closed lead form trees inside left old now new any within so_far none some is =
    let closing : closing_angle so_far.done ≡ mark 62 = closed_some so_far.done (sym so_far.counted ∙ some) in (
      so_far.done,
      record {
        inside = inside;
        within = within;
        all = subst (λ t. AreParams inside so_far.done t) none so_far.read;
      },
      joined_two old (list_trees lead (map (param_in form) so_far.done)) (closing_angle so_far.done) now new so_far.is
          (is ∙ ap (chain now) (sym closing)),
    )

pub params_none : (lead : Lead) (form : Form) (trees inside left : List TokenTree) (old now : Forest) (any : Bool)
    → IsWithin trees inside → PutParams lead form inside left old now any → left ≡ [] → any ≡ false
    → (params : List ParamTrees) × HasParams trees params × (now ≡ chain old (generics lead form params))
params_none lead form trees inside left old now any within so_far none no_one =
    let written = list_trees lead (map (param_in form) so_far.done) in
    let closing : closing_angle so_far.done ≡ nil = closed_none so_far.done (sym so_far.counted ∙ no_one) in (
      so_far.done,
      record {
        inside = inside;
        within = within;
        all = subst (λ t. AreParams inside so_far.done t) none so_far.read;
      },
      joined_two old written (closing_angle so_far.done) now now so_far.is
          (sym (joined_nil now) ∙ ap (chain now) (sym closing)),
    )

pub predicates_done : (clause inside left : List TokenTree) (old now : Forest) (any : Bool)
    → IsAfterWhere clause inside → PutPredicates inside left old now any → left ≡ []
    → (predicates : List PredicateTrees) × HasPredicates clause predicates
    × (now ≡ chain old (list_trees leads.Where (map predicate_in predicates))) × (any ≡ any_of false predicates)
predicates_done clause inside left old now any after so_far none = (
  so_far.done,
  record {
    inside = inside;
    after = after;
    all = subst (λ t. ArePredicates inside so_far.done t) none so_far.read;
  },
  so_far.is,
  so_far.counted,
)

pub bounds_done : (bound : Forest) (any : Bool) (trees inside left : List TokenTree) (old now : Forest) (more : Bool)
    → IsWithin trees inside → PutBounds bound any inside left old now more → left ≡ []
    → (params : List ParamTrees) × HasParams trees params
    × (now ≡ chain old (listed_after any leads.Where (bounds_on_types bound params)))
bounds_done bound any trees inside left old now more within so_far none = (
  so_far.done,
  record {
    inside = inside;
    within = within;
    all = subst (λ t. AreParams inside so_far.done t) none so_far.read;
  },
  so_far.is,
)

-- ---- whole streams

pub from_nothing : (start now stream written : Forest) → start ≡ nil → now ≡ chain start written
    → stream ≡ now → stream ≡ written
from_nothing start now stream written none is finished =
    finished ∙ (is ∙ ap (λ s. chain s written) none)

where_only : (predicates : List PredicateTrees)
    → list_trees leads.Where (map predicate_in predicates) ≡ where_with predicates []
where_only predicates = ap (list_trees leads.Where) (sym (append-nil (map predicate_in predicates)))

pub from_none : (start now written : Forest) → start ≡ nil → now ≡ chain start written → now ≡ written
from_none start now written none is = is ∙ ap (λ s. chain s written) none

-- the header up to the where clause, from copies of the path and the name and from parameters that are read twice
pub front_written : (params again : List ParamTrees) (name copy : Name) (path path2 start q1 q2 q3 q4 q5 q6 : Forest)
    → start ≡ nil → q1 ≡ chain start (word (codes "impl")) → q2 ≡ chain q1 (impl_generics params)
    → q3 ≡ chain q2 path2 → path2 ≡ path → q4 ≡ chain q3 (word (codes "for"))
    → q5 ≡ chain q4 (alone (Ident copy)) → copy ≡ name → q6 ≡ chain q5 (type_generics again) → again ≡ params
    → q6 ≡ front params name path
front_written params again name copy path path2 start q1 q2 q3 q4 q5 q6 none is1 is2 is3 same3 is4 is5 same5 is6
    same6 =
    from_none start q6 (front params name path) none
    (joined_six start (word (codes "impl")) (impl_generics params) path (word (codes "for")) (alone (Ident name))
    (type_generics params) q1 q2 q3 q4 q5 q6 is1 is2 (is3 ∙ ap (λ p. chain q2 p) same3) is4
    (is5 ∙ ap (λ (i : Name). chain q4 (alone (Ident i))) same5)
    (is6 ∙ ap (λ (ps : List ParamTrees). chain q5 (type_generics ps)) same6))

pub where_written : (predicates : List PredicateTrees) (start now stream : Forest) → start ≡ nil
    → now ≡ chain start (list_trees leads.Where (map predicate_in predicates)) → stream ≡ now
    → stream ≡ where_with predicates []
where_written predicates start now stream none is finished =
    from_nothing start now stream (where_with predicates []) none (is ∙ ap (chain start) (where_only predicates))
    finished

predicates_counted : (predicates : List PredicateTrees) (any : Bool) → any ≡ any_of false predicates
    → any ≡ any_of false (map predicate_in predicates)
predicates_counted predicates any is = is ∙ sym (any-map predicate_in false predicates)

pub with_one : (predicates : List PredicateTrees) (predicate start now led new stream : Forest) (any : Bool)
    → start ≡ nil → now ≡ chain start (list_trees leads.Where (map predicate_in predicates))
    → any ≡ any_of false predicates → led ≡ chain now (lead_of any leads.Where) → new ≡ chain led predicate
    → stream ≡ new → stream ≡ where_with predicates (predicate ∷ [])
with_one predicates predicate start now led new stream any none is any_is led_is new_is finished =
    from_nothing start new stream (where_with predicates (predicate ∷ [])) none
    (put_more false leads.Where start now led new (map predicate_in predicates) predicate is
    (led_is ∙ ap (λ b. chain now (lead_of b leads.Where)) (predicates_counted predicates any any_is)) new_is)
    finished

pub with_bounds : (predicates : List PredicateTrees) (more : List Forest) (start now new stream : Forest) (any : Bool)
    → start ≡ nil → now ≡ chain start (list_trees leads.Where (map predicate_in predicates))
    → any ≡ any_of false predicates → new ≡ chain now (listed_after any leads.Where more)
    → stream ≡ new → stream ≡ where_with predicates more
with_bounds predicates more start now new stream any none is any_is new_is finished =
    let written = map predicate_in predicates in
    from_nothing start new stream (where_with predicates more) none
    (joined_two start (list_trees leads.Where written) (listed_after (any_of false written) leads.Where more) now new is
    (new_is ∙ ap (λ b. chain now (listed_after b leads.Where more)) (predicates_counted predicates any any_is))
    ∙ ap (chain start) (sym (listed-append false leads.Where written more)))
    finished

pub header_written : (params : List ParamTrees) (predicates : List PredicateTrees) (name : Name)
    (path now new stream : Forest) → now ≡ front params name path
    → new ≡ chain now (list_trees leads.Where (map predicate_in predicates)) → stream ≡ new
    → stream ≡ header params name path (where_with predicates [])
header_written params predicates name path now new stream is new_is finished =
    finished ∙ (new_is ∙ ap (chain now) (where_only predicates)
    ∙ ap (λ f. chain f (where_with predicates [])) is)

pub header_with : (params : List ParamTrees) (name : Name) (path clause now new stream : Forest)
    → now ≡ front params name path → new ≡ chain now clause → stream ≡ new
    → stream ≡ header params name path clause
header_with params name path clause now new stream is new_is finished =
    finished ∙ (new_is ∙ ap (λ f. chain f clause) is)
