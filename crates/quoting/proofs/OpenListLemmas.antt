-- Lemmas about one list of which the first trees are done.
use Rattle.std.proofs.Common.{◌≡◌, ◌≤◌, ℕ, ◌+◌, ◌<◌, Option, Some, None, Result, Ok, Err, IfOk, IfSome, MatchResult}
use Rattle.std.proofs.Common.{List, [], ◌∷◌, ◌++◌, length, take, drop, append-nil, get_or, refl, sym, ap, ap₂, subst}
use Rattle.std.proofs.Common.{◌∙◌, ◌-◌, arith}
use Rattle.std.proofs.Common.{Bool, true, not}
use Rattle.std.specs.Option.{is_some}
use Rattle.std.proofs.lemmas.Bool.{false≢true}
use Rattle.std.proofs.Math.Seq.{take-add, take-length}
use Rattle.std.proofs.lemmas.List as takes
use Rattle.std.proofs.lemmas.List.{drop-append-le, drop-drop, drop_all, length-drop, length-take-le, take-append-drop}
use Rattle.proc_macro2.specs.Forest.{Forest, nil, chain}
use Rattle.proc_macro2.specs.Trees.{alone, before, forest}
use Rattle.proc_macro2.specs.declared.Group.{Group as Grouped}
use Rattle.proc_macro2.specs.declared.TokenTree.{TokenTree}
use Rattle.proc_macro2.specs.declared.TokenTree.TheVariants.{Group, Ident, Punct, Literal}
use Rattle.quoting.specs.Part.{Adds, IsOpen, Part, done_of, first_alone, first_group, others}
use Rattle.quoting.proofs.PartLemmas.{joined_assoc, joined_nil}

-- the model of an `OpenList`
abbrev pub part_of : Forest → Option (Forest × ℕ) → ℕ → List TokenTree → Part
part_of whole changed count trees =
    record { whole = whole; done = done_of changed count trees; count = count; left = drop count trees }

joined-before : (t : TokenTree) (f k : Forest) → chain (before t f) k ≡ before t (chain f k)
joined-before (Group g) f k = refl
joined-before (Ident i) f k = refl
joined-before (Punct p) f k = refl
joined-before (Literal l) f k = refl

-- a list with one more tree at the end
pub forest-push : (ts : List TokenTree) (t : TokenTree) → forest (ts ++ t ∷ []) ≡ chain (forest ts) (alone t)
forest-push [] t = refl
forest-push (u ∷ ts) t = ap (before u) (forest-push ts t) ∙ sym (joined-before u (forest ts) (alone t))

drop_one : (ts : List TokenTree) → drop 1 ts ≡ others ts
drop_one [] = refl
drop_one (t ∷ ts) = refl

drop_more : (n : ℕ) (ts : List TokenTree) → drop (n + 1) ts ≡ others (drop n ts)
drop_more n ts = sym (drop-drop 1 n ts) ∙ drop_one (drop n ts)

pub take_more : (n : ℕ) (ts after : List TokenTree) (t : TokenTree) → drop n ts ≡ t ∷ after
    → take (n + 1) ts ≡ take n ts ++ t ∷ []
take_more n ts after t first = take-add n 1 ts ∙ ap (λ xs. take n ts ++ take 1 xs) first

-- the trees that are done, with one more
done_more : (changed : Option (Forest × ℕ)) (n : ℕ) (trees after : List TokenTree) (t : TokenTree)
    → drop n trees ≡ t ∷ after → n ≤ length trees → IfSome changed (λ c. c.1 ≤ n)
    → done_of changed (n + 1) trees ≡ chain (done_of changed n trees) (alone t)
done_more None n trees after t first within copied =
    ap forest (take_more n trees after t first) ∙ forest-push (take n trees) t
done_more (Some c) n trees after t first within copied =
    ap (λ ts. chain c.0 (forest (drop c.1 ts))) (take_more n trees after t first)
    ∙ (ap (λ ts. chain c.0 (forest ts))
    (drop-append-le c.1 (take n trees) (t ∷ []) (omega (arith, length-take-le n trees within, copied)))
    ∙ (ap (chain c.0) (forest-push (drop c.1 (take n trees)) t)
    ∙ sym (joined_assoc c.0 (forest (drop c.1 (take n trees))) (alone t))))

pub adds_first : (whole : Forest) (changed : Option (Forest × ℕ)) (n : ℕ) (trees ts : List TokenTree)
    → drop n trees ≡ ts → 0 < length ts → n ≤ length trees → IfSome changed (λ c. c.1 ≤ n)
    → Adds (part_of whole changed n trees) (first_alone ts) (part_of whole changed (n + 1) trees)
adds_first whole changed n trees [] is less within copied = absurd (omega (arith, less))
adds_first whole changed n trees (t ∷ after) is less within copied = record {
  whole = refl;
  done = done_more changed n trees after t is within copied;
  count = refl;
  left = drop_more n trees;
}

-- the first tree that is left is kept
pub adds_kept : (whole : Forest) (changed : Option (Forest × ℕ)) (n : ℕ) (trees : List TokenTree) (old : Part)
    → part_of whole changed n trees ≡ old → 0 < length old.left → n ≤ length trees → IfSome changed (λ c. c.1 ≤ n)
    → Adds old (first_alone old.left) (part_of whole changed (n + 1) trees)
adds_kept whole changed n trees old same less within copied =
    subst (λ (part : Part). Adds part (first_alone part.left) (part_of whole changed (n + 1) trees)) same
    (adds_first whole changed n trees (drop n trees) refl
    (subst (λ (part : Part). 0 < length part.left) (sym same) less) within copied)

-- the first tree that is left is replaced by other trees
pub adds_put : (whole : Forest) (changed : Option (Forest × ℕ)) (n : ℕ) (trees : List TokenTree)
    (was now first : Forest) (old : Part)
    → part_of whole changed n trees ≡ old → 0 < length old.left → was ≡ done_of changed n trees → now ≡ chain was first
    → Adds old first (part_of whole (Some (now, n + 1)) (n + 1) trees)
adds_put whole changed n trees was now first old same less copied put = record {
  whole = ap (λ (p : Part). p.whole) same;
  done =
      ap (λ ts. chain now (forest ts))
      (drop_all (n + 1) (take (n + 1) trees) (omega (
        arith,
        length-take-le (n + 1) trees
            (omega (arith, less, length-drop n trees, ap (λ (p : Part). length p.left) same)),
      )))
      ∙ (joined_nil now
      ∙ (put ∙ (ap (λ f. chain f first) copied ∙ ap (λ (p : Part). chain p.done first) same)));
  count = ap (λ (p : Part). p.count + 1) same;
  left = drop_more n trees ∙ ap (λ (p : Part). others p.left) same;
}

-- all trees are done, and none of them was changed
pub none_changed : (whole : Forest) (n : ℕ) (trees : List TokenTree) (old : Part) → part_of whole None n trees ≡ old
    → forest trees ≡ whole → old.left ≡ [] → whole ≡ old.done
none_changed whole n trees old same is none =
    let all : take n trees ≡ trees =
    sym (append-nil (take n trees))
    ∙ (ap (λ xs. take n trees ++ xs) (sym (ap (λ (p : Part). p.left) same ∙ none)) ∙ take-append-drop n trees) in
    sym is ∙ (ap forest (sym all) ∙ ap (λ (p : Part). p.done) same)

pub finish_unchanged : {E : Type 0} (Refused : E → Type 0) (whole : Forest) (n : ℕ) (trees : List TokenTree)
    (old : Part) (r : Result Forest E)
    → part_of whole None n trees ≡ old → forest trees ≡ whole → old.left ≡ []
    → MatchResult r (λ copy. copy ≡ whole) Refused
    → IfOk r (λ copy. copy ≡ old.done)
finish_unchanged Refused whole n trees old (Err e) same is none copied = tt
finish_unchanged Refused whole n trees old (Ok f) same is none copied =
    copied ∙ none_changed whole n trees old same is none

-- no tree was changed
pub is_unchanged : (changed : Option (Forest × ℕ)) (b : Bool) → is_some changed ≡ not b → b ≡ true → changed ≡ None
is_unchanged None b some none = refl
is_unchanged (Some c) b some none = absurd (false≢true (sym (some ∙ ap not none)))

-- a group whose trees did not change is the first tree that is left
pub first_unchanged : (left after : List TokenTree) (t : TokenTree) (g : Grouped) (whole done : Forest)
    → left ≡ t ∷ after → t ≡ Group g → IsOpen left whole → whole ≡ done → first_alone left ≡ first_group left done
first_unchanged left after t g whole done first is opened same =
    let all : left ≡ Group g ∷ after = first ∙ ap (λ u. u ∷ after) is in
    let inside : g.stream ≡ whole = subst (λ ts. IsOpen ts whole) all opened in
    ap first_alone all
    ∙ (ap (λ f. first_group (Group g ∷ after) f) (inside ∙ same) ∙ ap (λ ts. first_group ts done) (sym all))

-- one more copy of a tree
pub copied_more : (trees : List TokenTree) (n : ℕ) (t copy : TokenTree) (was now : Forest) → n < length trees
    → t ≡ get_or trees n t → copy ≡ t → was ≡ forest (take n trees) → now ≡ chain was (alone copy)
    → now ≡ forest (take (n + 1) trees)
copied_more trees n t copy was now within is cloned so_far put =
    put
    ∙ (ap₂ (λ f u. chain f (alone u)) so_far (cloned ∙ is)
    ∙ (sym (forest-push (take n trees) (get_or trees n t)) ∙ ap forest (sym (takes.take_more trees n t within))))

sliced : (n : ℕ) (ts : List TokenTree) → take (length ts - n) (drop n ts) ≡ drop n ts
sliced n ts = ap (λ k. take k (drop n ts)) (sym (length-drop n ts)) ∙ take-length (drop n ts)

-- the changed trees with copies of the trees after them
abbrev pub with_copies : Forest × ℕ → ℕ → List TokenTree → Forest
with_copies from n trees =
    chain from.0 (forest (take (length (take n trees) - from.1) (drop from.1 (take n trees))))

pub copied_some : (changed : Option (Forest × ℕ)) (from : Forest × ℕ) (n : ℕ) (trees : List TokenTree)
    → changed ≡ Some from → with_copies from n trees ≡ done_of changed n trees
copied_some changed from n trees is =
    ap (λ ts. chain from.0 (forest ts)) (sliced from.1 (take n trees)) ∙ ap (λ o. done_of o n trees) (sym is)

pub copied_none : (changed : Option (Forest × ℕ)) (from : Forest × ℕ) (made : Forest) (n : ℕ) (trees : List TokenTree)
    → changed ≡ None → made ≡ nil → from ≡ (made, 0) → with_copies from n trees ≡ done_of changed n trees
copied_none changed from made n trees is empty begun =
    ap (λ x. with_copies x n trees) (begun ∙ ap (λ f. (f, 0)) empty)
    ∙ (ap forest (sliced 0 (take n trees)) ∙ ap (λ o. done_of o n trees) (sym is))
