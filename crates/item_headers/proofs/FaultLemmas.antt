-- Trees at which parsing fails are neither parameters nor predicates.
use Rattle.std.proofs.Common.{◌≡◌, sym, ◌∙◌, ap, subst, ◌<◌, ◌==◌, true, false, List, [], ◌∷◌, Result, Ok, Err}
use Rattle.std.proofs.Common.{IfErr, arith, length}
use Rattle.declarations.proofs.ParamLemmas.{fewer_param, fewer_predicate, one_param, one_predicate}
use Rattle.declarations.specs.Param.{IsAfterWhere, IsParamAt, IsPredicateAt, IsWithin, ParamTrees, PredicateTrees}
use Rattle.item_headers.proofs.ListLemmas.{same_within}
use Rattle.item_headers.specs.Fault.{HasNoParams, HasNoPredicates, HasNotBoth, IfFault}
use Rattle.item_headers.specs.Header.{AreParams, ArePredicates}
use Rattle.item_headers.specs.declared.errors.HeaderError.{HeaderError}
use Rattle.item_headers.specs.declared.errors.HeaderError.TheVariants as errors
use Rattle.pm_stream.specs.declared.stream.TokenTree.{TokenTree}
use Rattle.pm_stream.specs.declared.stream.TokenTree.TheVariants.{Group, Ident, Punct, Literal}

-- ---- the meaning of errors

-- a statement that holds is true of every error
pub fault_statement : {T : Type 0} → (result : Result T HeaderError) (P : Type 0) → P
    → IfErr result (λ error. IfFault error P)
fault_statement (Ok found) P holds = tt
fault_statement (Err (errors.Fault fault)) P holds = holds
fault_statement (Err (errors.Keyword error)) P holds = tt
fault_statement (Err (errors.Quote error)) P holds = tt

-- the meaning of an error that another call returned
pub fault_weaker : (error : HeaderError) (P Q : Type 0) → (P → Q) → IfFault error P → IfFault error Q
fault_weaker (errors.Fault fault) P Q from holds = from holds
fault_weaker (errors.Keyword error) P Q from holds = tt
fault_weaker (errors.Quote error) P Q from holds = tt

pub some_left : (left : List TokenTree) → (length left == 0) ≡ false → left ≡ [] → ⊥
some_left [] some none = let wrong : true ≡ false = some in cc
some_left (tree ∷ left) some none = cc

-- ---- parameters

-- if trees are left after some parameters but no parameter begins there, the trees are not all parameters
no_more_params : (inside left : List TokenTree) (done params : List ParamTrees) → AreParams inside done left
    → (left ≡ [] → ⊥) → ((param : ParamTrees) (rest : List TokenTree) → IsParamAt left param rest → ⊥)
    → AreParams inside params [] → ⊥
no_more_params inside left [] [] read some none all = some (sym read ∙ all)
no_more_params inside left [] (param ∷ params) read some none all =
    none param all.0 (subst (λ t. IsParamAt t param all.0) read all.1)
no_more_params inside left (first ∷ done) [] read some none all =
    let fewer : length read.0 < length inside = fewer_param inside first read.0 read.1 in
    let empty : length inside ≡ 0 = ap length all in
    absurd (omega arith)
no_more_params inside left (first ∷ done) (param ∷ params) read some none all =
    let one = one_param inside first read.0 read.1 param all.0 all.1 in
    no_more_params read.0 left done params read.2 some none (subst (λ t. AreParams t params []) one.1 all.2)

pub no_params_within : (trees : List TokenTree) → ((inside : List TokenTree) → IsWithin trees inside → ⊥)
    → HasNoParams trees
no_params_within trees none = λ params has. none has.inside has.within

pub no_params_here : (trees inside left : List TokenTree) (done : List ParamTrees) → IsWithin trees inside
    → AreParams inside done left → (length left == 0) ≡ false
    → ((param : ParamTrees) (rest : List TokenTree) → IsParamAt left param rest → ⊥) → HasNoParams trees
no_params_here trees inside left done within read some none = λ params has.
    no_more_params inside left done params read (some_left left some) none
    (subst (λ t. AreParams t params []) (same_within trees inside has.inside within has.within) has.all)

-- ---- predicates

no_more_predicates : (inside left : List TokenTree) (done predicates : List PredicateTrees)
    → ArePredicates inside done left → (left ≡ [] → ⊥)
    → ((predicate : PredicateTrees) (rest : List TokenTree) → IsPredicateAt left predicate rest → ⊥)
    → ArePredicates inside predicates [] → ⊥
no_more_predicates inside left [] [] read some none all = some (sym read ∙ all)
no_more_predicates inside left [] (predicate ∷ predicates) read some none all =
    none predicate all.0 (subst (λ t. IsPredicateAt t predicate all.0) read all.1)
no_more_predicates inside left (first ∷ done) [] read some none all =
    let fewer : length read.0 < length inside = fewer_predicate inside first read.0 read.1 in
    let empty : length inside ≡ 0 = ap length all in
    absurd (omega arith)
no_more_predicates inside left (first ∷ done) (predicate ∷ predicates) read some none all =
    let one = one_predicate inside first read.0 read.1 predicate all.0 all.1 in
    no_more_predicates read.0 left done predicates read.2 some none
    (subst (λ t. ArePredicates t predicates []) one.1 all.2)

same_after : (clause inside inside2 : List TokenTree) → IsAfterWhere clause inside → IsAfterWhere clause inside2
    → inside2 ≡ inside
same_after [] inside inside2 after after2 = after2 ∙ sym after
same_after (Group group ∷ rest) inside inside2 after after2 = absurd after
same_after (Ident word ∷ rest) inside inside2 after after2 = after2.1 ∙ sym after.1
same_after (Punct mark ∷ rest) inside inside2 after after2 = absurd after
same_after (Literal literal ∷ rest) inside inside2 after after2 = absurd after

pub no_predicates_after : (clause : List TokenTree) → ((inside : List TokenTree) → IsAfterWhere clause inside → ⊥)
    → HasNoPredicates clause
no_predicates_after clause none = λ predicates has. none has.inside has.after

pub no_predicates_here : (clause inside left : List TokenTree) (done : List PredicateTrees)
    → IsAfterWhere clause inside → ArePredicates inside done left → (length left == 0) ≡ false
    → ((predicate : PredicateTrees) (rest : List TokenTree) → IsPredicateAt left predicate rest → ⊥)
    → HasNoPredicates clause
no_predicates_here clause inside left done after read some none = λ predicates has.
    no_more_predicates inside left done predicates read (some_left left some) none
    (subst (λ t. ArePredicates t predicates []) (same_after clause inside has.inside after has.after) has.all)

-- ---- both

pub not_both_params : (error : HeaderError) (generics clause : List TokenTree) → IfFault error (HasNoParams generics)
    → IfFault error (HasNotBoth generics clause)
not_both_params error generics clause fault =
    fault_weaker error _ (HasNotBoth generics clause) (λ none params predicates has has2. none params has) fault

pub not_both_predicates : (error : HeaderError) (generics clause : List TokenTree)
    → IfFault error (HasNoPredicates clause) → IfFault error (HasNotBoth generics clause)
not_both_predicates error generics clause fault =
    fault_weaker error _ (HasNotBoth generics clause) (λ none params predicates has has2. none predicates has2) fault
