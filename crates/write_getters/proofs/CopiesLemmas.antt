-- Copies of trees, one after another.
use Rattle.std.proofs.Common.{◌≡◌, ℕ, ◌+◌, ◌<◌, List, [], ◌∷◌, ◌++◌, length, take, get_or, refl, sym, ap, ap₂, ◌∙◌}
use Rattle.std.proofs.Common.{◌==◌, arith, true, false, Option, Result, Ok, Err, OnOk, MatchResult}
use Rattle.std.proofs.lemmas.Bool.Decides.{nat_tests}
use Rattle.std.proofs.lemmas.List as takes
use Rattle.std.specs.Iterator.{Drains, Yields}
use Rattle.proc_macro2.specs.Building.{PutsIn, trees_of_all, split}
use Rattle.proc_macro2.specs.Forest.{Forest, chain}
use Rattle.proc_macro2.specs.declared.TokenTree.{TokenTree}
use Rattle.pm_stream.proofs.BuildingLemmas.{joined_assoc, joined_nil}
use Rattle.write_getters.specs.Copies.{copy_trees}

-- copying two lists of trees gives both streams, joined
pub copied_append : (trees more : List TokenTree)
    → copy_trees (trees ++ more) ≡ chain (copy_trees trees) (copy_trees more)
copied_append [] more = refl
copied_append (tree ∷ trees) more =
    ap (chain (split tree)) (copied_append trees more)
    ∙ sym (joined_assoc (split tree) (copy_trees trees) (copy_trees more))

pub copied_one : (tree : TokenTree) → copy_trees (tree ∷ []) ≡ split tree
copied_one tree = joined_nil (split tree)

-- one more copy is appended
pub copied_more : (trees : List TokenTree) (n : ℕ) (tree copy : TokenTree) (old now new : Forest) → n < length trees
    → tree ≡ get_or trees n tree → copy ≡ tree
    → now ≡ chain old (copy_trees (take n trees)) → new ≡ chain now (split copy)
    → new ≡ chain old (copy_trees (take (n + 1) trees))
copied_more trees n tree copy old now new within is cloned so_far put =
    put ∙ ap₂ (λ f t. chain f (split t)) so_far (cloned ∙ is)
    ∙ joined_assoc old (copy_trees (take n trees)) (split (get_or trees n tree))
    ∙ ap (λ f. chain old (chain (copy_trees (take n trees)) f)) (sym (copied_one (get_or trees n tree)))
    ∙ ap (chain old) (sym (copied_append (take n trees) (get_or trees n tree ∷ []))
    ∙ ap copy_trees (sym (takes.take_more trees n tree within)))

is_zero : (n : ℕ) → true ≡ (n == 0) → n ≡ 0
is_zero n is = grind (arith, nat_tests)

-- a list of length 0 is empty
pub no_trees : (trees : List TokenTree) → true ≡ (length trees == 0) → trees ≡ []
no_trees [] none = refl
no_trees (tree ∷ trees) none = let count = is_zero (length (tree ∷ trees)) none in absurd (omega arith)

pub some_trees : (trees : List TokenTree) → false ≡ (length trees == 0) → 0 < length trees
some_trees [] some = cc
some_trees (tree ∷ trees) some = omega arith

-- an iterator that gives one tree appends that tree
pub put_one : {S E : Type 0} (Begins : S → Type 0) (steps : S → Option TokenTree → S → Type 0)
    (left : S → List TokenTree) (tree : TokenTree) (old new : Forest) (r : Result (Unit {0}) E)
    → ((it : S) (trees : List TokenTree) → Drains steps it trees → trees ≡ left it)
    → ((it : S) → Begins it → left it ≡ tree ∷ [])
    → ((it : S) × (trees : List TokenTree) × Begins it × PutsIn split old trees new
    × MatchResult r (λ _. Drains steps it trees) (λ _. (now : S) × Yields steps it trees now))
    → OnOk r (new ≡ chain old (split tree))
put_one Begins steps left tree old new (Err e) all one ran = tt
put_one Begins steps left tree old new (Ok u) all one ran =
    ran.3 ∙ ap (λ trees. chain old (trees_of_all split trees)) (all ran.0 ran.1 ran.4 ∙ one ran.0 ran.2)
    ∙ ap (chain old) (copied_one tree)
