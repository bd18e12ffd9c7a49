-- The loop that fills the trees of a list in place.
use Rattle.std.proofs.Common.{◌≡◌, ℕ, ◌+◌, ◌-◌, ◌≤◌, ◌<◌, zero, suc, Bool, true, false, All, None, Ok, List}
use Rattle.std.proofs.Common.{[], ◌∷◌, take, drop, length, refl, sym, ap, subst, ◌∙◌, arith}
use Rattle.std.specs.Prelude.{slice_index_or, slice_set}
use Rattle.std.proofs.lemmas.List.{drop-drop, drop-set-lt, drop_more, length-drop, length-set, take_all, take_more_set}
use Rattle.proc_macro2.specs.Forest.{Forest, nil, chain, IsBuilt}
use Rattle.proc_macro2.specs.Leaf as leaves
use Rattle.proc_macro2.specs.Trees.{GoesInside, alone, before, forest}
use Rattle.proc_macro2.specs.declared.TokenTree.{TokenTree}
use Rattle.proc_macro2.specs.declared.TokenTree.TheVariants.{Group, Ident, Punct, Literal}
use Rattle.quoting.specs.Filled.{then_outcome, filled_by}
use Rattle.quoting.specs.Given.{Settles, apart, apart_before, interpolation_of}
use Rattle.pm_stream.proofs.TreeLemmas.{built_inside, forest-push}
use Rattle.quoting.proofs.FillLemmas.{Giving, IsUpTo, ends_fill, followed_nil, group_step, token_step}

-- the loop is at the given index of a list that can become a stream
pub record IsAt (given : Giving) (depth : ℕ) (was all out : Forest) (done : ℕ) (items : List TokenTree) : Type 0 where
  pub up_to : IsUpTo given depth was all out (drop done items)
  pub built : IsBuilt (forest items)
  pub within : done ≤ length items

apart_name : (b : Bool) (i : leaves.Name) → Ident i ≡ apart b (Ident i)
apart_name false i = refl
apart_name true i = refl

apart_text : (b : Bool) (l : leaves.Text) → Literal l ≡ apart b (Literal l)
apart_text false l = refl
apart_text true l = refl

-- one step at a tree that begins neither a hole nor a repetition
pub settle_step : (given : Giving) (depth : ℕ) (old all out put : Forest) (b : Bool) (t new : TokenTree)
    (left after : List TokenTree)
    → IsUpTo given depth old all out left → left ≡ t ∷ after → None ≡ interpolation_of t (forest after)
    → apart b t ≡ apart_before (forest after) t → Settles given depth b t new → put ≡ chain out (alone new)
    → IsUpTo given depth old all put after
settle_step given depth old all out put b (Group g) new left after was whole none same (inside, fills, is) puts =
    group_step given depth old all out put inside (Group g) g (record g { stream = inside }) left after was whole refl
    fills refl (puts ∙ ap (λ u. chain out (alone u)) is)
settle_step given depth old all out put b (Ident i) new left after was whole none same is puts =
    token_step given depth old all out put (Ident i) new left after was whole (λ g e. absurd (cc)) none
    (is ∙ (apart_name b i ∙ same)) puts
settle_step given depth old all out put b (Punct p) new left after was whole none same is puts =
    token_step given depth old all out put (Punct p) new left after was whole (λ g e. absurd (cc)) none
    (is ∙ same) puts
settle_step given depth old all out put b (Literal l) new left after was whole none same is puts =
    token_step given depth old all out put (Literal l) new left after was whole (λ g e. absurd (cc)) none
    (is ∙ (apart_text b l ∙ same)) puts

-- the index at which the last trees of a list begin
pub ends_with : (n : ℕ) (ts left : List TokenTree) → drop n ts ≡ left → drop (length ts - length left) ts ≡ left
ends_with zero ts left h =
    let none : length ts - length left ≡ 0 = omega (arith, ap length h) in
    ap (λ m. drop m ts) none ∙ h
ends_with (suc n) [] left h =
    let none : 0 - length left ≡ 0 = omega arith in
    ap (λ m. drop m []) none ∙ h
ends_with (suc n) (t ∷ ts) left h =
    let more : length (t ∷ ts) - length left ≡ suc (length ts - length left) =
    omega (arith, ap length h, length-drop n ts) in
    ap (λ m. drop m (t ∷ ts)) more ∙ ends_with n ts left h

built_before : (t : TokenTree) (rest : Forest) → IsBuilt (alone t) → IsBuilt rest → IsBuilt (before t rest)
built_before (Group g) rest h r = (h.0, h.1, r)
built_before (Ident i) rest h r = (h.0, h.1, r)
built_before (Punct p) rest h r = (h.0, h.1, r)
built_before (Literal l) rest h r = (h.0, h.1, r)

built_after : (t : TokenTree) (rest : Forest) → IsBuilt (before t rest) → IsBuilt rest
built_after (Group g) rest h = h.2
built_after (Ident i) rest h = h.2
built_after (Punct p) rest h = h.2
built_after (Literal l) rest h = h.2

built_first : (t : TokenTree) (rest : Forest) → IsBuilt (before t rest) → IsBuilt (alone t)
built_first (Group g) rest h = (h.0, h.1, tt)
built_first (Ident i) rest h = (h.0, h.1, tt)
built_first (Punct p) rest h = (h.0, h.1, tt)
built_first (Literal l) rest h = (h.0, h.1, tt)

built_set : (n : ℕ) (ts : List TokenTree) (new : TokenTree) → IsBuilt (forest ts) → IsBuilt (alone new)
    → IsBuilt (forest (slice_set ts n new))
built_set n [] new h one = h
built_set zero (t ∷ ts) new h one = built_before new (forest ts) one (built_after t (forest ts) h)
built_set (suc n) (t ∷ ts) new h one =
    built_before t (forest (slice_set ts n new)) (built_first t (forest ts) h)
    (built_set n ts new (built_after t (forest ts) h) one)

pub built_drop : (n : ℕ) (ts : List TokenTree) → IsBuilt (forest ts) → IsBuilt (forest (drop n ts))
built_drop zero ts h = h
built_drop (suc n) [] h = h
built_drop (suc n) (t ∷ ts) h = built_drop n ts (built_after t (forest ts) h)

-- the trees from the index on
pub all_left : (n : ℕ) (xs items : List TokenTree) → xs ≡ items → drop n items ≡ take (length xs - n) (drop n xs)
all_left n xs items same =
    ap (drop n) (sym same) ∙ sym (take_all (length xs - n) (drop n xs) (omega (arith, length-drop n xs)))

-- ---- the loop

pub begin_in_place : (given : Giving) (depth : ℕ) (was all out : Forest) (items : List TokenTree)
    → IsBuilt (forest items)
    → then_outcome (Ok was) (filled_by given depth 0 all)
    ≡ then_outcome (Ok out) (filled_by given depth 0 (forest items))
    → IsAt given depth was all out 0 items
begin_in_place given depth was all out items built same = record {
  up_to = record { so_far = same; inside = built_inside items built };
  built = built;
  within = omega arith;
}

-- if trees are left, the index is within the list
index_within : (n : ℕ) (items after : List TokenTree) (t : TokenTree) → drop n items ≡ t ∷ after → n < length items
index_within n items after t whole = omega (arith, ap length whole, length-drop n items)

-- the tree at the index is the first that is left
is_first : (n : ℕ) (items after : List TokenTree) (t x : TokenTree) → drop n items ≡ t ∷ after
    → x ≡ slice_index_or items n x → t ≡ x
is_first n items after t x whole at =
    ap (λ ts. slice_index_or ts 0 x) (sym whole ∙ drop_more items n x (index_within n items after t whole)) ∙ sym at

after_is : (n : ℕ) (items after : List TokenTree) (t : TokenTree) → drop n items ≡ t ∷ after
    → drop (n + 1) items ≡ after
after_is n items after t whole = sym (drop-drop 1 n items) ∙ ap (drop 1) whole

pub goes_inside : (given : Giving) (depth n : ℕ) (was all out : Forest) (items after : List TokenTree) (t x : TokenTree)
    → IsAt given depth was all out n items → drop n items ≡ t ∷ after → x ≡ slice_index_or items n x → GoesInside x
goes_inside given depth n was all out items after t x here whole at =
    subst GoesInside (is_first n items after t x whole at)
    (subst (All GoesInside) whole here.up_to.inside 0 t (omega arith))

-- the loop goes past a tree that begins neither a hole nor a repetition
pub past_token : (given : Giving) (depth n : ℕ) (was all out put : Forest) (items after : List TokenTree) (b : Bool)
    (t x new : TokenTree)
    → IsAt given depth was all out n items → drop n items ≡ t ∷ after → x ≡ slice_index_or items n x
    → None ≡ interpolation_of t (forest after) → apart b t ≡ apart_before (forest after) t
    → Settles given depth b x new → IsBuilt (alone new) → put ≡ chain out (alone new)
    → IsAt given depth was all put (n + 1) (slice_set items n new)
past_token given depth n was all out put items after b t x new here whole at none same settles built puts = record {
  up_to =
      subst (IsUpTo given depth was all put)
      (sym (drop-set-lt (n + 1) items n new (omega arith) ∙ after_is n items after t whole))
      (settle_step given depth was all out put b t new (drop n items) after here.up_to whole none same
      (subst (λ u. Settles given depth b u new) (sym (is_first n items after t x whole at)) settles) puts);
  built = built_set n items new here.built built;
  within = omega (arith, index_within n items after t whole, length-set items n new);
}

-- the loop goes past such a tree, and the filled tree stays in the list
pub settled_in_place : (given : Giving) (depth n : ℕ) (was all : Forest) (items after : List TokenTree) (b : Bool)
    (t x new : TokenTree)
    → IsAt given depth was all (forest (take n items)) n items → drop n items ≡ t ∷ after
    → x ≡ slice_index_or items n x → None ≡ interpolation_of t (forest after)
    → apart b t ≡ apart_before (forest after) t → Settles given depth b x new → IsBuilt (alone new)
    → IsAt given depth was all (forest (take (n + 1) (slice_set items n new))) (n + 1) (slice_set items n new)
settled_in_place given depth n was all items after b t x new here whole at none same settles built =
    past_token given depth n was all (forest (take n items)) (forest (take (n + 1) (slice_set items n new))) items after
    b
    t x new here whole at none same settles built
    (ap forest (take_more_set items n new (index_within n items after t whole)) ∙ forest-push (take n items) new)

-- the loop goes past a hole or a repetition
pub past_hole : (given : Giving) (depth n m : ℕ) (was all out new : Forest) (items after rest : List TokenTree)
    (t : TokenTree)
    → IsAt given depth was all out n items → drop n items ≡ t ∷ after → rest ≡ drop m after
    → IsUpTo given depth was all new rest → IsAt given depth was all new (length items - length rest) items
past_hole given depth n m was all out new items after rest t here whole drops now =
    let last : drop (n + 1 + m) items ≡ rest =
    sym (drop-drop m (n + 1) items) ∙ (ap (drop m) (after_is n items after t whole) ∙ sym drops) in
    record {
      up_to = subst (IsUpTo given depth was all new) (sym (ends_with (n + 1 + m) items rest last)) now;
      built = here.built;
      within = omega arith;
    }

-- the loop ends when all trees are done
pub all_done : (given : Giving) (depth n : ℕ) (all stream : Forest) (items : List TokenTree)
    → IsAt given depth nil all (forest (take n items)) n items → n ≡ length items → stream ≡ forest items
    → filled_by given depth 0 all ≡ Ok stream
all_done given depth n all stream items here whole is =
    sym (followed_nil (filled_by given depth 0 all))
    ∙ (ends_fill given depth nil all (forest (take n items)) (drop n items) here.up_to
    (omega (arith, whole, length-drop n items))
    ∙ ap Ok (ap forest (take_all n items (omega (arith, whole))) ∙ sym is))
