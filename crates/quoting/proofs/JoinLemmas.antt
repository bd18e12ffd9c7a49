-- The lists that are open while marks are joined.
use Rattle.std.proofs.Common.{◌≡◌, ◌≤◌, ◌<◌, ℕ, ◌+◌, Result, Ok, Err, IfOk, List, [], ◌∷◌, ◌++◌, length, refl, sym, ap}
use Rattle.std.proofs.Common.{ap₂, subst, ◌∙◌, arith, drop, get_or}
use Rattle.std.proofs.Common.{◌-◌, Option, Some, None, IfSome, zero, suc}
use Rattle.std.proofs.lemmas.List.{drop_all, drop_more, length-drop}
use Rattle.std.proofs.Common.{inl, inr, ◌⊎◌}
use Rattle.std.proofs.Math.Nat.{eq-or-lt_of_le}
use Rattle.proc_macro2.specs.Forest.{Forest, nil, chain}
use Rattle.proc_macro2.specs.Trees.{alone, before, forest}
use Rattle.proc_macro2.specs.WellSpaced.{next_token}
use Rattle.proc_macro2.specs.declared.Group.{Group as Grouped}
use Rattle.proc_macro2.specs.declared.TokenTree.{TokenTree}
use Rattle.proc_macro2.specs.declared.TokenTree.TheVariants.{Group, Ident, Punct, Literal as Text}
use Rattle.quoting.specs.Joined.{joined}
use Rattle.quoting.specs.Part.{Adds, Closes, IsOpen, IsShallow, Keeps, KeepsUpTo, Linked, Part, all_after, all_kept}
use Rattle.quoting.specs.Part.{all_visited, first_group, joined_alone, part_kept, part_visited}
use Rattle.quoting.specs.Visited.{join_visited, past_visits, visited_marks}
use Rattle.quoting.specs.declared.join.Visit.{Visit}
use Rattle.quoting.proofs.OpenListLemmas.{adds_first, part_of}
use Rattle.quoting.proofs.PartLemmas.{IsByTrees, IsOnTheWay, adds_result, all_done, close_group, is_open, linked_push}
use Rattle.quoting.proofs.PartLemmas.{step_inside}
use Rattle.quoting.proofs.VisitLemmas.{all_passed, close_visits, enter_visits, join_visits, joined_by_visits}
use Rattle.quoting.proofs.VisitLemmas.{keep_visits, not_visited, part_passed, shallow_passed}

-- ---- trees that are kept

pub by_trees_kept : IsByTrees (λ f. f)
by_trees_kept = record { none = refl; at_group = λ d lo hi inside rest. refl }

before_alone : (t : TokenTree) (rest : Forest) → before t rest ≡ chain (alone t) rest
before_alone (Group g) rest = refl
before_alone (Ident i) rest = refl
before_alone (Punct p) rest = refl
before_alone (Text l) rest = refl

-- trees before an index are kept
pub record KeepsBefore (index : ℕ) (old : Part) (new : Part) : Type 0 where
  pub whole : new.whole ≡ old.whole
  pub kept : part_kept new ≡ part_kept old
  pub visits : (depth : ℕ) (visit : Visit) (visits : List Visit) → visit.index ≡ index
      → part_visited depth new (visit ∷ visits) ≡ part_visited depth old (visit ∷ visits)

pub keeps_none : (index : ℕ) (part : Part) → KeepsBefore index part part
keeps_none index part = record { whole = refl; kept = refl; visits = λ d v vs same. refl }

-- one more tree before the index is kept
pub keeps_before : (index : ℕ) (old here new : Part) (t : TokenTree) (after : List TokenTree)
    → here.left ≡ t ∷ after → here.count < index → Adds here (alone t) new → KeepsBefore index old here
    → KeepsBefore index old new
keeps_before index old here new t after left less adds was = record {
  whole = adds.whole ∙ was.whole;
  kept = adds_result (λ f. f) here new t after (alone t) left (before_alone t (forest after)) adds ∙ was.kept;
  visits =
      λ d v vs same.
      keep_visits d here new t after (v ∷ vs) left adds
      (not_visited d here.count v vs (λ depth place. absurd (omega (arith, less, same, place))))
      ∙ was.visits d v vs same;
}

one_more : (index : ℕ) (old : Part) (whole : Forest) (changed : Option (Forest × ℕ)) (n : ℕ) (trees ts : List TokenTree)
    → drop n trees ≡ ts → 0 < length ts → n < index → n ≤ length trees → IfSome changed (λ c. c.1 ≤ n)
    → KeepsBefore index old (part_of whole changed n trees)
    → KeepsBefore index old (part_of whole changed (n + 1) trees)
one_more index old whole changed n trees [] is some less within copied was = absurd (omega (arith, some))
one_more index old whole changed n trees (t ∷ after) is some less within copied was =
    keeps_before index old (part_of whole changed n trees) (part_of whole changed (n + 1) trees) t after is less
    (adds_first whole changed n trees (t ∷ after) is some within copied) was

still_within : (changed : Option (Forest × ℕ)) (n k : ℕ) → IfSome changed (λ c. c.1 ≤ n)
    → IfSome changed (λ c. c.1 ≤ n + k)
still_within None n k h = tt
still_within (Some c) n k h = omega (arith, h)

keeps_run : (index : ℕ) (whole : Forest) (changed : Option (Forest × ℕ)) (n k : ℕ) (trees : List TokenTree)
    → n + k ≤ length trees → (0 < k → n + k ≤ index) → IfSome changed (λ c. c.1 ≤ n)
    → KeepsBefore index (part_of whole changed n trees) (part_of whole changed (n + k) trees)
keeps_run index whole changed n zero trees within before copied =
    subst (λ m. KeepsBefore index (part_of whole changed n trees) (part_of whole changed m trees)) (omega arith)
    (keeps_none index (part_of whole changed n trees))
keeps_run index whole changed n (suc k) trees within before copied =
    let more : n + suc k ≤ index = before (omega arith) in
    subst (λ m. KeepsBefore index (part_of whole changed n trees) (part_of whole changed m trees)) (omega arith)
    (one_more index (part_of whole changed n trees) whole changed (n + k) trees (drop (n + k) trees) refl
    (omega (arith, within, length-drop (n + k) trees)) (omega (arith, more)) (omega (arith, within))
    (still_within changed n k copied)
    (keeps_run index whole changed n k trees (omega (arith, within)) (λ some. omega (arith, more)) copied))

kept_run : (index : ℕ) (whole : Forest) (changed : Option (Forest × ℕ)) (n m : ℕ) (trees : List TokenTree)
    → n ≤ m → m ≤ length trees → (n < m → m ≤ index) → IfSome changed (λ c. c.1 ≤ n)
    → KeepsBefore index (part_of whole changed n trees) (part_of whole changed m trees)
kept_run index whole changed n m trees more within before copied =
    let same : n + (m - n) ≡ m = omega (arith, more) in
    subst (λ k. KeepsBefore index (part_of whole changed n trees) (part_of whole changed k trees)) same
    (keeps_run index whole changed n (m - n) trees (omega (arith, within, more))
    (λ some. omega (arith, more, before (omega (arith, some)))) copied)

-- the trees before an index, and before the end, are kept
pub keeps_up_to : (index : ℕ) (whole : Forest) (changed : Option (Forest × ℕ)) (n m : ℕ) (trees : List TokenTree)
    (old : Part)
    → part_of whole changed n trees ≡ old → n ≤ m → m ≤ length trees → (n < m → m ≤ index)
    → (m < index → length trees ≤ m) → IfSome changed (λ c. c.1 ≤ n)
    → KeepsUpTo index old (part_of whole changed m trees)
keeps_up_to index whole changed n m trees old same more within before reached copied =
    let run = kept_run index whole changed n m trees more within before copied in
    subst (λ part. KeepsUpTo index part (part_of whole changed m trees)) same (record {
      whole = run.whole;
      kept = run.kept;
      reached = λ less. drop_all m trees (reached less);
      visits = run.visits;
    })

-- all trees are kept
pub keeps_all : (whole : Forest) (changed : Option (Forest × ℕ)) (n : ℕ) (trees : List TokenTree) (old : Part)
    → part_of whole changed n trees ≡ old → n ≤ length trees → IfSome changed (λ c. c.1 ≤ n)
    → Keeps old (part_of whole changed (length trees) trees)
keeps_all whole changed n trees old same within copied =
    let run =
    kept_run (length trees) whole changed n (length trees) trees within (omega arith) (λ less. omega arith) copied in
    subst (λ part. Keeps part (part_of whole changed (length trees) trees)) same
    (record { whole = run.whole; kept = run.kept })

-- ---- the state of the loop

-- the lists are open on the way to the answer, once the visits are made
pub record IsJoining (answer : Forest) (here : Part) (outer : List Part) (visits : List Visit) : Type 0 where
  pub answer_is : (all_visited outer here visits).0 ≡ answer
  pub linked : Linked outer here.whole

pub begin_joining : (here : Part) (outer : List Part) (f : Forest) (vs : List Visit) → here.done ≡ nil
    → here.count ≡ 0 → forest here.left ≡ f → outer ≡ [] → IsJoining (join_visited 0 0 f vs) here outer vs
begin_joining here outer f vs done count left none = record {
  answer_is =
      ap (λ o. (all_visited o here vs).0) none
      ∙ (ap (λ x. chain x (join_visited 0 here.count (forest here.left) vs)) done
      ∙ ap₂ (λ n g. join_visited 0 n g vs) count left);
  linked = subst (λ o. Linked o here.whole) (sym none) tt;
}

-- no visit
abbrev pub no_visit : Visit
no_visit = record { depth = 0; index = 0 }

-- the visits that are left begin with this one
pub next_visit : (answer : Forest) (here : Part) (outer : List Part) (vs : List Visit) (i : ℕ) → i < length vs
    → IsJoining answer here outer (drop i vs) → IsJoining answer here outer (get_or vs i no_visit ∷ drop (i + 1) vs)
next_visit answer here outer vs i less was = subst (IsJoining answer here outer) (drop_more vs i no_visit less) was

-- lists were closed, and trees were kept
pub reach_visit : (answer : Forest) (here closed kept : Part) (outer more : List Part) (v : Visit) (vs : List Visit)
    → Closes outer here v.depth more closed → KeepsUpTo v.index closed kept → IsJoining answer here outer (v ∷ vs)
    → IsJoining answer kept more (v ∷ vs)
reach_visit answer here closed kept outer more v vs closes keeps was = record {
  answer_is =
      ap (λ x. (all_after 0 more x).0) (keeps.visits (length more) v vs refl)
      ∙ (ap (λ (x : Forest × List Visit). x.0) (closes.visits (v ∷ vs) (omega arith)) ∙ was.answer_is);
  linked = subst (Linked more) (sym keeps.whole) closes.linked;
}

pub enter_visit : (answer : Forest) (here new : Part) (outer more : List Part) (t : TokenTree)
    (after : List TokenTree) (g : Grouped) (v : Visit) (vs : List Visit)
    → here.left ≡ t ∷ after → t ≡ Group g → new.whole ≡ g.stream → new.done ≡ nil → new.count ≡ 0
    → forest new.left ≡ g.stream → more ≡ outer ++ here ∷ [] → v.depth ≡ length outer → v.index ≡ here.count
    → IsJoining answer here outer (v ∷ vs) → IsJoining answer new more vs
enter_visit answer here new outer more t after g v vs left is whole done count inside push depth place was = record {
  answer_is =
      ap (λ (x : Forest × List Visit). x.0)
      (enter_visits here new outer more t after g v vs left is done count inside push depth place)
      ∙ was.answer_is;
  linked =
      subst (λ o. Linked o new.whole) (sym push)
      (linked_push outer here new.whole was.linked
      (subst (λ ts. IsOpen ts new.whole) (sym (left ∙ ap (λ u. u ∷ after) is)) (sym whole)));
}

pub join_visit : (answer : Forest) (here new : Part) (outer : List Part) (t : TokenTree) (after : List TokenTree)
    (v : Visit) (vs : List Visit)
    → here.left ≡ t ∷ after → ((g : Grouped) → t ≡ Group g → ⊥)
    → Adds here (joined_alone t (next_token (forest after))) new → v.depth ≡ length outer → v.index ≡ here.count
    → IsJoining answer here outer (v ∷ vs) → IsJoining answer new outer vs
join_visit answer here new outer t after v vs left other adds depth place was = record {
  answer_is =
      ap (λ (x : Forest × List Visit). x.0) (join_visits here new outer t after v vs left other adds depth place)
      ∙ was.answer_is;
  linked = subst (Linked outer) (sym adds.whole) was.linked;
}

-- ---- the end of the visits

abbrev IsFilled : List TokenTree → Type 0
IsFilled [] = ⊥
IsFilled (t ∷ after) = Unit {0}

not_empty : (t : TokenTree) (after : List TokenTree) → t ∷ after ≡ [] → ⊥
not_empty t after e = subst IsFilled e tt

no_tree : (p : Part) (t : TokenTree) (after : List TokenTree) (d j : ℕ) (v : Visit) → p.left ≡ t ∷ after
    → (p.count < v.index → p.left ≡ []) → (v.depth ≡ d → v.index ≡ p.count → p.left ≡ [])
    → v.depth ≡ d → v.index ≡ j → (p.count ≡ j) ⊎ (p.count < j) → ⊥
no_tree p t after d j v is reached missed depth place (inl same) =
    not_empty t after (sym is ∙ missed depth (place ∙ sym same))
no_tree p t after d j v is reached missed depth place (inr less) =
    not_empty t after (sym is ∙ reached (omega (arith, less, place)))

-- the tree of a visit does not come in the list
missed_trees : (d : ℕ) (p : Part) (ts : List TokenTree) (v : Visit) (vs : List Visit) → p.left ≡ ts
    → (p.count < v.index → p.left ≡ []) → (v.depth ≡ d → v.index ≡ p.count → p.left ≡ [])
    → part_visited d p (v ∷ vs) ≡ (part_kept p, v ∷ vs)
missed_trees d p [] v vs is reached missed =
    ap (λ ts. (chain p.done (join_visited d p.count (forest ts) (v ∷ vs)), past_visits d p.count (forest ts) (v ∷ vs)))
    is
    ∙ ap (λ ts. (chain p.done (forest ts), v ∷ vs)) (sym is)
missed_trees d p (t ∷ after) v vs is reached missed =
    part_passed d p (v ∷ vs) (λ j least. not_visited d j v vs (λ depth place.
    no_tree p t after d j v is reached missed depth place (eq-or-lt_of_le least)))

-- no visit is left
pub visits_end : (answer : Forest) (here : Part) (outer : List Part) → IsJoining answer here outer []
    → all_kept outer here ≡ answer
visits_end answer here outer was =
    sym (ap (λ x. (all_after 0 outer x).0) (part_passed (length outer) here [] (λ j least. refl))
    ∙ ap (λ (x : Forest × List Visit). x.0) (all_passed 0 outer (part_kept here) [] (λ k less j least. refl)))
    ∙ was.answer_is

-- the tree of the next visit does not come
pub visits_missed : (answer : Forest) (here : Part) (outer : List Part) (v : Visit) (vs : List Visit)
    → length outer ≤ v.depth → (here.count < v.index → here.left ≡ [])
    → (v.depth ≡ length outer → v.index ≡ here.count → here.left ≡ [])
    → IsJoining answer here outer (v ∷ vs) → all_kept outer here ≡ answer
visits_missed answer here outer v vs few reached missed was =
    sym (ap (λ x. (all_after 0 outer x).0) (missed_trees (length outer) here here.left v vs refl reached missed)
    ∙ ap (λ (x : Forest × List Visit). x.0)
    (all_passed 0 outer (part_kept here) (v ∷ vs)
    (λ k less j least. not_visited k j v vs (λ depth place. absurd (omega (arith, few, less, depth))))))
    ∙ was.answer_is

pub joined_result : {E : Type 0} (r : Result Forest E) (kept f : Forest) (vs : List Visit) → IfOk r (λ g. g ≡ kept)
    → kept ≡ join_visited 0 0 f vs → IfOk r (λ g. g ≡ joined (visited_marks 0 0 f vs) f)
joined_result (Ok g) kept f vs is same = is ∙ (same ∙ joined_by_visits 0 0 f vs)
joined_result (Err error) kept f vs is same = tt

-- ---- closing

-- lists were closed. The first lists and the innermost one of them are given
pub record IsClosing (first : List Part) (innermost : Part) (depth : ℕ) (here : Part) (outer : List Part) : Type 0 where
  pub way : IsOnTheWay (λ f. f) here outer (all_kept first innermost)
  pub visits : (vs : List Visit) → IsShallow depth vs → all_visited outer here vs ≡ all_visited first innermost vs

pub begin_closing : (outer : List Part) (here : Part) (depth : ℕ) → Linked outer here.whole
    → IsClosing outer here depth here outer
begin_closing outer here depth linked =
    record { way = record { answer_is = refl; linked = linked }; visits = λ vs shallow. refl }

pub close_kept : (first : List Part) (innermost here rest part new : Part) (outer more : List Part) (depth : ℕ)
    → rest.left ≡ [] → Keeps here rest → outer ≡ more ++ part ∷ [] → depth < length outer
    → Adds part (first_group part.left rest.done) new → IsClosing first innermost depth here outer
    → IsClosing first innermost depth new more
close_kept first innermost here rest part new outer more depth none keeps pop deep adds was = record {
  way =
      close_group (λ f. f) rest part new outer more (all_kept first innermost) by_trees_kept none pop adds
      (step_inside (λ f. f) here rest outer (all_kept first innermost) keeps.whole keeps.kept was.way);
  visits =
      λ vs shallow.
      close_visits here rest part new outer more vs (shallow_passed vs depth (length outer) shallow deep) none keeps
      pop adds
      ∙ was.visits vs shallow;
}

pub open_kept : (here rest part : Part) (outer more : List Part) (answer : Forest) → Keeps here rest
    → outer ≡ more ++ part ∷ [] → IsOnTheWay (λ f. f) here outer answer → IsOpen part.left rest.whole
open_kept here rest part outer more answer keeps pop was =
    is_open (λ f. f) rest part outer more answer pop
    (step_inside (λ f. f) here rest outer answer keeps.whole keeps.kept was)

pub end_closing : (first : List Part) (innermost here : Part) (outer : List Part) (depth : ℕ) → length outer ≤ depth
    → IsClosing first innermost depth here outer → Closes first innermost depth outer here
end_closing first innermost here outer depth few was =
    record { few = few; kept = was.way.answer_is; linked = was.way.linked; visits = was.visits }

none_left : (outer : List Part) → length outer ≤ 0 → outer ≡ []
none_left [] few = refl
none_left (p ∷ outer) few = absurd (omega (arith, few))

-- all lists were closed
pub all_closed : {E : Type 0} (r : Result Forest E) (outer more : List Part) (here closed kept : Part)
    → Closes outer here 0 more closed → Keeps closed kept → kept.left ≡ [] → IfOk r (λ f. f ≡ kept.done)
    → IfOk r (λ f. f ≡ all_kept outer here)
all_closed (Ok f) outer more here closed kept closes keeps none done =
    done ∙ (all_done (λ x. x) kept more (all_kept outer here) by_trees_kept none (none_left more closes.few)
    (step_inside (λ x. x) closed kept more (all_kept outer here) keeps.whole keeps.kept
    (record { answer_is = closes.kept; linked = closes.linked })))
all_closed (Err error) outer more here closed kept closes keeps none done = tt
