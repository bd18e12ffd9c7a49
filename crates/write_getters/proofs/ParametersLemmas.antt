-- The loop that collects the generic parameters of a struct.
use Rattle.std.proofs.Common.{◌≡◌, ◌<◌, refl, sym, ◌∙◌, ap, subst, List, [], ◌∷◌, ◌++◌, length, map}
use Rattle.std.proofs.Common.{append_assoc, append-nil}
use Rattle.std.proofs.Common.{Result, Ok, Err, OnOk, ◌⊎◌, inl, inr, arith, codes, false}
use Rattle.std.proofs.lemmas.List.{map-append}
use Rattle.std.specs.Str.{chars}
use Rattle.pm_stream.proofs.BuildingLemmas.{joined_assoc, joined_nil}
use Rattle.proc_macro2.specs.Building.{split}
use Rattle.proc_macro2.specs.Extent.{nowhere}
use Rattle.proc_macro2.specs.Leaf.{Mark, Name}
use Rattle.proc_macro2.specs.Forest.{Forest, chain}
use Rattle.proc_macro2.specs.declared.Spacing.TheVariants.{Alone}
use Rattle.proc_macro2.specs.declared.TokenTree.{TokenTree}
use Rattle.proc_macro2.specs.declared.TokenTree.TheVariants.{Ident, Punct}
use Rattle.declarations.specs.Param.{IsParamAt, IsWithin, ParamTrees}
use Rattle.declarations.specs.declared.generics.ParamKind.{ParamKind}
use Rattle.declarations.specs.declared.generics.ParamKind.TheVariants as kinds
use Rattle.write_getters.proofs.CopiesLemmas.{copied_append, copied_one}
use Rattle.write_getters.specs.Copies.{copy_trees}
use Rattle.write_getters.specs.Parameters.{AreParams, AreParamsOf, after_colon, argument, keyword, parameter}

-- the parameters before those that are left in the brackets are collected
pub record Collected (inside left : List TokenTree) (declared arguments : List Forest) : Type 0 where
  pub done : List ParamTrees
  pub goes : (more : List ParamTrees) → AreParams left more → AreParams inside (done ++ more)
  pub declared_are : declared ≡ map parameter done
  pub arguments_are : arguments ≡ map argument done

pub collected_none : (inside : List TokenTree) → Collected inside inside [] []
collected_none inside = record { done = []; goes = λ more h. h; declared_are = refl; arguments_are = refl }

one_more : (f : ParamTrees → Forest) (done : List ParamTrees) (param : ParamTrees) (items : List Forest) (item : Forest)
    → items ≡ map f done → item ≡ f param → items ++ item ∷ [] ≡ map f (done ++ param ∷ [])
one_more f done param items item are is =
    ap (λ ts. ts ++ item ∷ []) are ∙ ap (λ t. map f done ++ t ∷ []) is ∙ sym (map-append f done (param ∷ []))

pub collected_more : (inside left rest : List TokenTree) (declared arguments declared2 arguments2 : List Forest)
    (param : ParamTrees) (one other : Forest) → Collected inside left declared arguments
    → IsParamAt left param rest → one ≡ parameter param → other ≡ argument param
    → declared2 ≡ declared ++ one ∷ [] → arguments2 ≡ arguments ++ other ∷ []
    → Collected inside rest declared2 arguments2
collected_more inside left rest declared arguments declared2 arguments2 param one other before at is_one is_other
    declared_put argument_put = record {
      done = before.done ++ param ∷ [];
      goes = λ more h. subst (λ params. AreParams inside params) (sym (append_assoc before.done (param ∷ []) more))
          (before.goes (param ∷ more) (rest, at, h));
      declared_are = declared_put ∙ one_more parameter before.done param declared one before.declared_are is_one;
      arguments_are = argument_put ∙ one_more argument before.done param arguments other before.arguments_are is_other;
    }

-- once none are left, all parameters are collected
pub collected_all : (generics inside left : List TokenTree) (declared arguments : List Forest)
    → IsWithin generics inside → Collected inside left declared arguments → left ≡ []
    → (all : List ParamTrees) × AreParamsOf generics all × (declared ≡ map parameter all)
    × (arguments ≡ map argument all)
collected_all generics inside left declared arguments within before none = (
  before.done,
  (inside, within, subst (AreParams inside) (append-nil before.done) (before.goes [] none)),
  before.declared_are,
  before.arguments_are,
)

-- ---- one parameter

pub const_chars : chars (codes "const") ≡ codes "const"
unfolding chars
const_chars = refl

pub keyword_put : (old new : Forest) (kind : ParamKind) (word : Name) → kind ≡ kinds.Const
    → word ≡ record { name = codes "const"; raw = false; span = nowhere } → new ≡ chain old (split (Ident word))
    → new ≡ chain old (copy_trees (keyword kind))
keyword_put old new kind word is is_word put =
    subst (λ k. new ≡ chain old (copy_trees (keyword k))) (sym is)
    (put ∙ ap (λ w. chain old (split (Ident w))) is_word
    ∙ ap (chain old) (sym (copied_one (Ident (record { name = codes "const"; raw = false; span = nowhere })))))

pub no_keyword : (old : Forest) (kind : ParamKind) → (kind ≡ kinds.Lifetime) ⊎ (kind ≡ kinds.Type)
    → old ≡ chain old (copy_trees (keyword kind))
no_keyword old kind (inl is) = subst (λ k. old ≡ chain old (copy_trees (keyword k))) (sym is) (sym (joined_nil old))
no_keyword old kind (inr is) = subst (λ k. old ≡ chain old (copy_trees (keyword k))) (sym is) (sym (joined_nil old))

pub no_bounds : (old : Forest) (bounds : List TokenTree) → bounds ≡ []
    → old ≡ chain old (copy_trees (after_colon bounds))
no_bounds old bounds none =
    subst (λ bs. old ≡ chain old (copy_trees (after_colon bs))) (sym none) (sym (joined_nil old))

pub some_bounds : {E : Type 0} (old now new : Forest) (bounds : List TokenTree) (colon : Mark)
    (r : Result (Unit {0}) E) → 0 < length bounds
    → colon ≡ record { mark = 58; spacing = Alone; span = nowhere } → now ≡ chain old (split (Punct colon))
    → OnOk r (new ≡ chain now (copy_trees bounds)) → OnOk r (new ≡ chain old (copy_trees (after_colon bounds)))
some_bounds old now new [] colon r some is put more = absurd (omega arith)
some_bounds old now new (bound ∷ bounds) colon (Err e) some is put more = tt
some_bounds old now new (bound ∷ bounds) colon (Ok u) some is put more =
    more ∙ ap (λ f. chain f (copy_trees (bound ∷ bounds))) (put ∙ ap (λ m. chain old (split (Punct m))) is)
    ∙ joined_assoc old (split (Punct (record { mark = 58; spacing = Alone; span = nowhere })))
    (copy_trees (bound ∷ bounds))

pub parameter_built : (param : ParamTrees) (first second third whole : Forest) → first ≡ copy_trees param.attributes
    → second ≡ chain first (copy_trees (keyword param.kind)) → third ≡ chain second (copy_trees param.name)
    → whole ≡ chain third (copy_trees (after_colon param.bounds)) → whole ≡ parameter param
parameter_built param first second third whole is_first is_second is_third is_whole =
    let attributes = copy_trees param.attributes in
    let word = copy_trees (keyword param.kind) in
    let name = copy_trees param.name in
    let bounds = copy_trees (after_colon param.bounds) in
    is_whole
    ∙ ap (λ f. chain f bounds) (is_third ∙ ap (λ f. chain f name) (is_second ∙ ap (λ f. chain f word) is_first))
    ∙ joined_assoc (chain attributes word) name bounds ∙ joined_assoc attributes word (chain name bounds)
    ∙ sym (copied_append param.attributes (keyword param.kind ++ (param.name ++ after_colon param.bounds))
    ∙ ap (chain attributes) (copied_append (keyword param.kind) (param.name ++ after_colon param.bounds)
    ∙ ap (chain word) (copied_append param.name (after_colon param.bounds))))
