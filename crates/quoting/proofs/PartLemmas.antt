-- The lists that are open while a stream is changed. Each is the list of the next group in the list around it.
use Rattle.std.proofs.Common.{◌≡◌, ℕ, ◌+◌, ◌*◌, ◌<◌, Result, Ok, Err, IfOk, List, [], ◌∷◌, ◌++◌, refl, sym, ap, ap₂}
use Rattle.std.proofs.Common.{subst, ◌∙◌, arith}
use Rattle.proc_macro2.specs.Forest.{Forest, nil, leaf, group, chain}
use Rattle.proc_macro2.specs.Trees.{before, forest}
use Rattle.proc_macro2.specs.Size.{count}
use Rattle.proc_macro2.specs.WellSpaced.{next_token}
use Rattle.proc_macro2.specs.declared.Delimiter.{Delimiter}
use Rattle.proc_macro2.specs.declared.Group.{Group as Grouped}
use Rattle.proc_macro2.specs.declared.TokenTree.{TokenTree}
use Rattle.proc_macro2.specs.declared.TokenTree.TheVariants.{Group, Ident, Punct, Literal}
use Rattle.quoting.specs.Part.{Adds, IsOpen, Linked, Part, first_group, first_whole, others, part_closed, part_result}
use Rattle.quoting.specs.Part.{respaced_alone, unwound}
use Rattle.quoting.specs.Respaced.{respace_marks}

-- ---- joined forests

pub joined_nil : (f : Forest) → chain f nil ≡ f
joined_nil nil = refl
joined_nil (leaf t lo hi f) = ap (leaf t lo hi) (joined_nil f)
joined_nil (group d lo hi f g) = ap (group d lo hi f) (joined_nil g)

pub joined_assoc : (f g h : Forest) → chain (chain f g) h ≡ chain f (chain g h)
joined_assoc nil g h = refl
joined_assoc (leaf t lo hi f) g h = ap (leaf t lo hi) (joined_assoc f g h)
joined_assoc (group d lo hi f k) g h = ap (group d lo hi f) (joined_assoc k g h)

-- ---- the outer lists

-- the function goes over a list tree by tree: it changes the first tree, and then the trees after it
pub record IsByTrees (each : Forest → Forest) : Type 0 where
  pub none : each nil ≡ nil
  pub at_group : (d : Delimiter) (lo hi : ℕ) (inside rest : Forest)
      → each (group d lo hi inside rest) ≡ group d lo hi (each inside) (each rest)

-- the number of trees and group ends that are left after the open groups
abbrev pub outer_count : List Part → ℕ
outer_count [] = 0
outer_count (part ∷ parts) = 1 + 2 * count (forest (others part.left)) + outer_count parts

abbrev pub left_count : Part → List Part → ℕ
left_count here outer = 2 * count (forest here.left) + outer_count outer

unwound-push : (each : Forest → Forest) (outer : List Part) (part : Part) (inside : Forest)
    → unwound each (outer ++ part ∷ []) inside ≡ unwound each outer (part_closed each part inside)
unwound-push each [] part inside = refl
unwound-push each (p ∷ outer) part inside = ap (part_closed each p) (unwound-push each outer part inside)

outer_count-push : (outer : List Part) (part : Part)
    → outer_count (outer ++ part ∷ []) ≡ 1 + 2 * count (forest (others part.left)) + outer_count outer
outer_count-push [] part = refl
outer_count-push (p ∷ outer) part = omega (arith, outer_count-push outer part)

first_whole-push : (outer : List Part) (part : Part) (whole : Forest)
    → first_whole (outer ++ part ∷ []) whole ≡ first_whole outer part.whole
first_whole-push [] part whole = refl
first_whole-push (p ∷ outer) part whole = refl

pub linked_push : (outer : List Part) (part : Part) (whole : Forest) → Linked outer part.whole → IsOpen part.left whole
    → Linked (outer ++ part ∷ []) whole
linked_push [] part whole h opened = (opened, tt)
linked_push (p ∷ outer) part whole h opened = (
  subst (IsOpen p.left) (sym (first_whole-push outer part whole)) h.0,
  linked_push outer part whole h.1 opened,
)

linked_pop : (outer : List Part) (part : Part) (whole : Forest) → Linked (outer ++ part ∷ []) whole
    → Linked outer part.whole × IsOpen part.left whole
linked_pop [] part whole h = (tt, h.0)
linked_pop (p ∷ outer) part whole h =
    let more = linked_pop outer part whole h.1 in
    ((subst (IsOpen p.left) (first_whole-push outer part whole) h.0, more.0), more.1)

-- ---- the state of a loop

-- the state leads to the answer, and each list is that of the next group in the list around it
pub record IsOnTheWay (each : Forest → Forest) (here : Part) (outer : List Part) (answer : Forest) : Type 0 where
  pub answer_is : unwound each outer (part_result each here) ≡ answer
  pub linked : Linked outer here.whole

-- the state at the start, when no tree is done
pub begin_parts : (each : Forest → Forest) (here : Part) (outer : List Part) (f : Forest)
    → here.done ≡ nil → forest here.left ≡ f → outer ≡ [] → IsOnTheWay each here outer (each f)
begin_parts each here outer f done left none = record {
  answer_is =
      ap (λ o. unwound each o (part_result each here)) none
      ∙ (ap (λ x. chain x (each (forest here.left))) done ∙ ap each left);
  linked = subst (λ o. Linked o here.whole) (sym none) tt;
}

-- ---- a step at a group

pub open_group : (each : Forest → Forest) (here new : Part) (outer more : List Part) (t : TokenTree)
    (after : List TokenTree) (g : Grouped) (answer : Forest)
    → IsByTrees each → here.left ≡ t ∷ after → t ≡ Group g → new.whole ≡ g.stream → new.done ≡ nil
    → forest new.left ≡ g.stream → more ≡ outer ++ here ∷ [] → IsOnTheWay each here outer answer
    → IsOnTheWay each new more answer
open_group each here new outer more t after g answer by left is whole done inside push was =
    let first : here.left ≡ Group g ∷ after = left ∙ ap (λ u. u ∷ after) is in
    let inner : part_result each new ≡ each g.stream =
    ap (λ x. chain x (each (forest new.left))) done ∙ ap each inside in
    let same : part_closed each here (part_result each new) ≡ part_result each here =
    ap (part_closed each here) inner
    ∙ (ap (λ ts. chain here.done (chain (first_group ts (each g.stream)) (each (forest (others ts))))) first
    ∙ (ap (chain here.done) (sym (by.at_group g.delimiter g.span.lo g.span.hi g.stream (forest after)))
    ∙ ap (λ ts. chain here.done (each (forest ts))) (sym first))) in
    record {
      answer_is =
          ap (λ o. unwound each o (part_result each new)) push
          ∙ (unwound-push each outer here (part_result each new) ∙ (ap (unwound each outer) same ∙ was.answer_is));
      linked =
          subst (λ o. Linked o new.whole) (sym push)
          (linked_push outer here new.whole was.linked
          (subst (λ ts. IsOpen ts new.whole) (sym first) (sym whole)));
    }

pub open_less : (here new : Part) (outer more : List Part) (t : TokenTree) (after : List TokenTree) (g : Grouped)
    → here.left ≡ t ∷ after → t ≡ Group g → forest new.left ≡ g.stream → more ≡ outer ++ here ∷ []
    → left_count new more < left_count here outer
open_less here new outer more t after g left is inside push =
    let first : here.left ≡ Group g ∷ after = left ∙ ap (λ u. u ∷ after) is in
    let here_count = ap (λ ts. count (forest ts)) first in
    let rest_count = ap (λ ts. count (forest (others ts))) first in
    omega (arith, ap outer_count push, outer_count-push outer here, ap count inside, here_count, rest_count)

-- ---- a step at another tree

-- the state after a step that changes only the innermost list
pub step_inside : (each : Forest → Forest) (here new : Part) (outer : List Part) (answer : Forest)
    → new.whole ≡ here.whole → part_result each new ≡ part_result each here → IsOnTheWay each here outer answer
    → IsOnTheWay each new outer answer
step_inside each here new outer answer whole same was = record {
  answer_is = ap (unwound each outer) same ∙ was.answer_is;
  linked = subst (Linked outer) (sym whole) was.linked;
}

-- the list after a step, if the first tree that was left is done as `each` says
pub adds_result : (each : Forest → Forest) (here new : Part) (t : TokenTree) (after : List TokenTree) (first : Forest)
    → here.left ≡ t ∷ after → each (before t (forest after)) ≡ chain first (each (forest after))
    → Adds here first new → part_result each new ≡ part_result each here
adds_result each here new t after first left by adds =
    let rest : new.left ≡ after = adds.left ∙ ap others left in
    ap₂ (λ x ts. chain x (each (forest ts))) adds.done rest
    ∙ (joined_assoc here.done first (each (forest after))
    ∙ ap (chain here.done) (sym by ∙ ap (λ ts. each (forest ts)) (sym left)))

respaced-before : (t : TokenTree) (rest : Forest) → ((g : Grouped) → t ≡ Group g → ⊥)
    → respace_marks (before t rest) ≡ chain (respaced_alone t (next_token rest)) (respace_marks rest)
respaced-before (Group g) rest other = absurd (other g refl)
respaced-before (Ident i) rest other = refl
respaced-before (Punct p) rest other = refl
respaced-before (Literal l) rest other = refl

pub step_token : (here new : Part) (outer : List Part) (t : TokenTree) (after : List TokenTree) (answer : Forest)
    → here.left ≡ t ∷ after → ((g : Grouped) → t ≡ Group g → ⊥)
    → Adds here (respaced_alone t (next_token (forest after))) new → IsOnTheWay respace_marks here outer answer
    → IsOnTheWay respace_marks new outer answer
step_token here new outer t after answer left other adds =
    step_inside respace_marks here new outer answer adds.whole
    (adds_result respace_marks here new t after _ left (respaced-before t (forest after) other) adds)

pub by_trees_respaced : IsByTrees respace_marks
by_trees_respaced = record { none = refl; at_group = λ d lo hi inside rest. refl }

count-before : (t : TokenTree) (rest : Forest) → count rest < count (before t rest)
count-before (Group g) rest = omega arith
count-before (Ident i) rest = omega arith
count-before (Punct p) rest = omega arith
count-before (Literal l) rest = omega arith

pub step_less : (here new : Part) (outer : List Part) (t : TokenTree) (after : List TokenTree) (first : Forest)
    → here.left ≡ t ∷ after → Adds here first new → left_count new outer < left_count here outer
step_less here new outer t after first left adds =
    let rest : new.left ≡ after = adds.left ∙ ap others left in
    omega (arith, ap (λ ts. count (forest ts)) left, ap (λ ts. count (forest ts)) rest, count-before t (forest after))

-- ---- a step at the end of a list

ended_here : (each : Forest → Forest) (here : Part) → IsByTrees each → here.left ≡ []
    → part_result each here ≡ here.done
ended_here each here by none =
    ap (λ ts. chain here.done (each (forest ts))) none ∙ (ap (chain here.done) by.none ∙ joined_nil here.done)

pub is_open : (each : Forest → Forest) (here part : Part) (outer more : List Part) (answer : Forest)
    → outer ≡ more ++ part ∷ [] → IsOnTheWay each here outer answer → IsOpen part.left here.whole
is_open each here part outer more answer pop was =
    (linked_pop more part here.whole (subst (λ o. Linked o here.whole) pop was.linked)).1

pub close_group : (each : Forest → Forest) (here part new : Part) (outer more : List Part) (answer : Forest)
    → IsByTrees each → here.left ≡ [] → outer ≡ more ++ part ∷ []
    → Adds part (first_group part.left here.done) new → IsOnTheWay each here outer answer
    → IsOnTheWay each new more answer
close_group each here part new outer more answer by none pop adds was =
    let same : part_result each new ≡ part_closed each part (part_result each here) =
    ap₂ (λ x ts. chain x (each (forest ts))) adds.done adds.left
    ∙ (joined_assoc part.done (first_group part.left here.done) (each (forest (others part.left)))
    ∙ ap (part_closed each part) (sym (ended_here each here by none))) in
    record {
      answer_is =
          ap (unwound each more) same
          ∙ (sym (unwound-push each more part (part_result each here))
          ∙ (ap (λ o. unwound each o (part_result each here)) (sym pop) ∙ was.answer_is));
      linked =
          subst (Linked more) (sym adds.whole)
          (linked_pop more part here.whole (subst (λ o. Linked o here.whole) pop was.linked)).0;
    }

pub close_less : (here part new : Part) (outer more : List Part) (first : Forest) → outer ≡ more ++ part ∷ []
    → Adds part first new → left_count new more < left_count here outer
close_less here part new outer more first pop adds =
    omega (arith, ap outer_count pop, outer_count-push more part, ap (λ ts. count (forest ts)) adds.left)

pub all_done : (each : Forest → Forest) (here : Part) (outer : List Part) (answer : Forest)
    → IsByTrees each → here.left ≡ [] → outer ≡ [] → IsOnTheWay each here outer answer → here.done ≡ answer
all_done each here outer answer by none end was =
    sym (ended_here each here by none) ∙ (ap (λ o. unwound each o (part_result each here)) (sym end) ∙ was.answer_is)

pub result_is : {E : Type 0} (r : Result Forest E) (done answer : Forest) → IfOk r (λ f. f ≡ done) → done ≡ answer
    → IfOk r (λ f. f ≡ answer)
result_is (Ok f) done answer h e = h ∙ e
result_is (Err error) done answer h e = tt
