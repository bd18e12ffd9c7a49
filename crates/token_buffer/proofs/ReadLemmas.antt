-- The first entry of a cursor gives its first tree.
use Rattle.std.proofs.Common.{◌≡◌, ℕ, ◌+◌, ◌<◌, ◌≤◌, List, [], ◌∷◌, ◌++◌, length, take, drop, get_or, refl, sym, ap}
use Rattle.std.proofs.Common.{ap₂, ◌∙◌}
use Rattle.std.proofs.Common.{subst, append_assoc, arith, length-append, zero, suc, Bool, false, ◌==◌, ne_eqb}
use Rattle.std.proofs.Math.Logic.{∥∥₁_elim, ∥∥₁_map}
use Rattle.std.proofs.Math.Seq.{drop-cons}
use Rattle.std.specs.Coded.{le_prop}
use Rattle.std.proofs.lemmas.List.{take_at, drop_at}
use Rattle.lexical.specs.Token.{Token}
use Rattle.pm_token.specs.declared.delimiters.Delimiter.{Delimiter}
use Rattle.pm_stream.specs.Events.{Event, One, Opens, Closes}
use Rattle.pm_stream.specs.Forest.{Forest, nil, leaf, group, flat_onto, flattening, IsBuilt}
use Rattle.pm_stream.specs.Size.{is_nil}
use Rattle.pm_stream.proofs.TreeLemmas.{flat_onto-append}
use Rattle.token_buffer.specs.Entries.{closer_end, event_of, events_of, count_of, counts_of, AreWithin}
use Rattle.token_buffer.specs.Held.{counts_onto, counts, Holds}
use Rattle.token_buffer.specs.Left.{trees_of}
use Rattle.token_buffer.specs.Unflattened.{trees_of_events}
use Rattle.token_buffer.specs.declared.entry.Entry.{Entry}
use Rattle.token_buffer.specs.declared.entry.Entry.TheVariants as entries
use Rattle.token_buffer.proofs.HeldLemmas.{counts_onto-append, events_of-length, trees_are, holds_own}
use Rattle.token_buffer.proofs.HeldLemmas.{unflattened_flattening}

-- ---- a token

after_one : (text : List ℕ) (e : Entry) (es : List Entry) (token : Token) (lo hi : ℕ) (f : Forest)
    → Holds text (e ∷ es) f → event_of text e ≡ One token lo hi → Holds text es (trees_of text es)
after_one text e es token lo hi nil h is =
    let clash : event_of text e ∷ events_of text es ≡ [] = h.events in cc
after_one text e es token lo hi (leaf t l r g) h is =
    let events : event_of text e ∷ events_of text es ≡ One t l r ∷ flattening g = h.events in
    let counted : count_of e ∷ counts_of es ≡ 0 ∷ counts g = h.counted in
    holds_own text es g (record { events = cc; counted = cc; within = h.within.1 })
after_one text e es token lo hi (group d l r g k) h is =
    let clash : event_of text e ∷ events_of text es ≡ Opens d l ∷ flat_onto g (Closes d r ∷ flattening k) = h.events in
    cc

-- the remaining trees are the token and the trees of the other entries
pub begins_one : (text : List ℕ) (e : Entry) (es : List Entry) (token : Token) (lo hi : ℕ)
    → event_of text e ≡ One token lo hi → trees_of text (e ∷ es) ≡ leaf token lo hi (trees_of text es)
begins_one text e es token lo hi is = ap (λ event. trees_of_events (event ∷ events_of text es)) is

pub holds_after_one : (text : List ℕ) (e : Entry) (es : List Entry) (token : Token) (lo hi : ℕ)
    → Holds text (e ∷ es) (trees_of text (e ∷ es)) → event_of text e ≡ One token lo hi
    → Holds text es (trees_of text es)
holds_after_one text e es token lo hi h is = after_one text e es token lo hi (trees_of text (e ∷ es)) h is

pub built_after_one : (text : List ℕ) (e : Entry) (es : List Entry) (token : Token) (lo hi : ℕ)
    → ∥ IsBuilt (trees_of text (e ∷ es)) ∥₁ → event_of text e ≡ One token lo hi → ∥ IsBuilt (trees_of text es) ∥₁
built_after_one text e es token lo hi h is =
    ∥∥₁_map h (λ (built : IsBuilt (trees_of text (e ∷ es))).
    (subst IsBuilt (begins_one text e es token lo hi is) built).2)

-- ---- a group

events_of-take : (text : List ℕ) (n : ℕ) (es : List Entry) → events_of text (take n es) ≡ take n (events_of text es)
events_of-take text zero es = refl
events_of-take text (suc n) [] = refl
events_of-take text (suc n) (e ∷ es) = ap (λ x. event_of text e ∷ x) (events_of-take text n es)

events_of-drop : (text : List ℕ) (n : ℕ) (es : List Entry) → events_of text (drop n es) ≡ drop n (events_of text es)
events_of-drop text zero es = refl
events_of-drop text (suc n) [] = refl
events_of-drop text (suc n) (e ∷ es) = events_of-drop text n es

counts_of-take : (n : ℕ) (es : List Entry) → counts_of (take n es) ≡ take n (counts_of es)
counts_of-take zero es = refl
counts_of-take (suc n) [] = refl
counts_of-take (suc n) (e ∷ es) = ap (λ x. count_of e ∷ x) (counts_of-take n es)

counts_of-drop : (n : ℕ) (es : List Entry) → counts_of (drop n es) ≡ drop n (counts_of es)
counts_of-drop zero es = refl
counts_of-drop (suc n) [] = refl
counts_of-drop (suc n) (e ∷ es) = counts_of-drop n es

within-take : (text : List ℕ) (n : ℕ) (es : List Entry) → AreWithin text es → AreWithin text (take n es)
within-take text zero es h = tt
within-take text (suc n) [] h = tt
within-take text (suc n) (e ∷ es) h = (h.0, within-take text n es h.1)

within-drop : (text : List ℕ) (n : ℕ) (es : List Entry) → AreWithin text es → AreWithin text (drop n es)
within-drop text zero es h = h
within-drop text (suc n) [] h = tt
within-drop text (suc n) (e ∷ es) h = within-drop text n es h.1

counts_onto-length : (f : Forest) (ns : List ℕ) (es : List Event) → length ns ≡ length es
    → length (counts_onto f ns) ≡ length (flat_onto f es)
counts_onto-length nil ns es e = e
counts_onto-length (leaf t lo hi f) ns es e = omega (arith, counts_onto-length f ns es e)
counts_onto-length (group d lo hi f k) ns es e =
    let rest = counts_onto-length k ns es e in
    omega (arith, counts_onto-length f (0 ∷ counts_onto k ns) (Closes d hi ∷ flat_onto k es) (omega (arith, rest)))

-- an opener, as many entries as it counts, the closer, and the entries of the trees after the group
pub record GroupAt (text : List ℕ) (d : Delimiter) (at n : ℕ) (es : List Entry) : Type 0 where
  pub hi : ℕ
  pub trees : trees_of text (entries.Open d at n ∷ es)
      ≡ group d at hi (trees_of text (take n es)) (trees_of text (drop (n + 1) es))
  pub inside : Holds text (take n es) (trees_of text (take n es))
  pub after : Holds text (drop (n + 1) es) (trees_of text (drop (n + 1) es))
  pub fits : n < length es
  pub closer : drop n (events_of text es) ≡ Closes d hi ∷ drop (n + 1) (events_of text es)

group_in : (text : List ℕ) (d : Delimiter) (at n : ℕ) (es : List Entry) (r : ℕ) (g k : Forest)
    → AreWithin text es → events_of text es ≡ flattening g ++ (Closes d r ∷ flattening k)
    → counts_of es ≡ counts g ++ (0 ∷ counts k) → n ≡ length (flattening g) → GroupAt text d at n es
group_in text d at n es r g k within split counted size =
    let front : List Event = flattening g ++ (Closes d r ∷ []) in
    let apart : events_of text es ≡ front ++ flattening k
    = split ∙ sym (append_assoc (flattening g) (Closes d r ∷ []) (flattening k)) in
    let past : length front ≡ n + 1 = omega (arith, length-append (flattening g) (Closes d r ∷ [])) in
    let counts_front : List ℕ = counts g ++ (0 ∷ []) in
    let counts_apart : counts_of es ≡ counts_front ++ counts k
    = counted ∙ sym (append_assoc (counts g) (0 ∷ []) (counts k)) in
    let same : length (counts g) ≡ length (flattening g) = counts_onto-length g [] [] refl in
    let counts_past : length counts_front ≡ n + 1 = omega (arith, length-append (counts g) (0 ∷ [])) in
    let inside : Holds text (take n es) g = record {
      events = events_of-take text n es
          ∙ (ap (take n) split ∙ take_at (flattening g) (Closes d r ∷ flattening k) n (sym size));
      counted = counts_of-take n es ∙ (ap (take n) counted ∙ take_at (counts g) (0 ∷ counts k) n (same ∙ sym size));
      within = within-take text n es within;
    } in
    let after : Holds text (drop (n + 1) es) k = record {
      events = events_of-drop text (n + 1) es
          ∙ (ap (drop (n + 1)) apart ∙ drop_at front (flattening k) (n + 1) past);
      counted = counts_of-drop (n + 1) es
          ∙ (ap (drop (n + 1)) counts_apart ∙ drop_at counts_front (counts k) (n + 1) counts_past);
      within = within-drop text (n + 1) es within;
    } in
    let is : trees_of text (entries.Open d at n ∷ es) ≡ group d at r g k
    = ap (λ events. trees_of_events (Opens d at ∷ events)) (split ∙ flat_onto-append g [] (Closes d r ∷ flattening k))
    ∙ unflattened_flattening (group d at r g k) in
    record {
      hi = r;
      trees = is ∙ ap₂ (λ x y. group d at r x y) (sym (trees_are text (take n es) g inside))
          (sym (trees_are text (drop (n + 1) es) k after));
      inside = holds_own text (take n es) g inside;
      after = holds_own text (drop (n + 1) es) k after;
      fits = omega (
        arith,
        ap length split,
        length-append (flattening g) (Closes d r ∷ flattening k),
        events_of-length text es,
      );
      closer = ap (drop n) split
          ∙ (drop_at (flattening g) (Closes d r ∷ flattening k) n (sym size)
          ∙ ap (λ x. Closes d r ∷ x) (sym (ap (drop (n + 1)) apart ∙ drop_at front (flattening k) (n + 1) past)));
    }

pub group_at : (text : List ℕ) (d : Delimiter) (at n : ℕ) (es : List Entry) (f : Forest)
    → Holds text (entries.Open d at n ∷ es) f → GroupAt text d at n es
group_at text d at n es nil h =
    let clash : Opens d at ∷ events_of text es ≡ [] = h.events in cc
group_at text d at n es (leaf t l r g) h =
    let clash : Opens d at ∷ events_of text es ≡ One t l r ∷ flattening g = h.events in cc
group_at text d at n es (group e l r g k) h =
    let events : Opens d at ∷ events_of text es ≡ Opens e l ∷ flat_onto g (Closes e r ∷ flattening k) = h.events in
    let counted : n ∷ counts_of es ≡ length (flattening g) ∷ counts_onto g (0 ∷ counts k) = h.counted in
    let delimiter : e ≡ d = cc in
    let more : events_of text es ≡ flat_onto g (Closes e r ∷ flattening k) = cc in
    let numbers : counts_of es ≡ counts_onto g (0 ∷ counts k) = cc in
    let size : n ≡ length (flattening g) = cc in
    group_in text d at n es r g k h.within.1
    (more ∙ (sym (flat_onto-append g [] (Closes e r ∷ flattening k))
    ∙ ap (λ x. flattening g ++ (Closes x r ∷ flattening k)) delimiter))
    (numbers ∙ sym (counts_onto-append g [] (0 ∷ counts k))) size

-- the trees in a group and those after it are built
pub built_in : (text : List ℕ) (d : Delimiter) (at n : ℕ) (es : List Entry) → GroupAt text d at n es
    → ∥ IsBuilt (trees_of text (entries.Open d at n ∷ es)) ∥₁ → ∥ IsBuilt (trees_of text (take n es)) ∥₁
built_in text d at n es h all =
    ∥∥₁_map all (λ (built : IsBuilt (trees_of text (entries.Open d at n ∷ es))). (subst IsBuilt h.trees built).1)

pub built_past : (text : List ℕ) (d : Delimiter) (at n : ℕ) (es : List Entry) → GroupAt text d at n es
    → ∥ IsBuilt (trees_of text (entries.Open d at n ∷ es)) ∥₁ → ∥ IsBuilt (trees_of text (drop (n + 1) es)) ∥₁
built_past text d at n es h all =
    ∥∥₁_map all (λ (built : IsBuilt (trees_of text (entries.Open d at n ∷ es))). (subst IsBuilt h.trees built).2)

-- a closer does not come first
pub closer_first : (text : List ℕ) (d : Delimiter) (hi : ℕ) (es : List Entry) (f : Forest)
    → Holds text (entries.Close d hi ∷ es) f → ⊥
closer_first text d hi es nil h =
    let clash : Closes d hi ∷ events_of text es ≡ [] = h.events in cc
closer_first text d hi es (leaf t l r g) h =
    let clash : Closes d hi ∷ events_of text es ≡ One t l r ∷ flattening g = h.events in cc
closer_first text d hi es (group e l r g k) h =
    let clash : Closes d hi ∷ events_of text es ≡ Opens e l ∷ flat_onto g (Closes e r ∷ flattening k) = h.events in cc

-- ---- the results of a cursor's calls

pub record AfterToken (text : List ℕ) (all es : List Entry) (token : Token) (lo hi : ℕ) : Type 0 where
  pub trees : trees_of text all ≡ leaf token lo hi (trees_of text es)
  pub holds : Holds text es (trees_of text es)
  pub built : ∥ IsBuilt (trees_of text es) ∥₁

pub after_token : (text : List ℕ) (all : List Entry) (e : Entry) (es : List Entry) (token : Token) (lo hi : ℕ)
    → all ≡ e ∷ es → event_of text e ≡ One token lo hi → Holds text all (trees_of text all)
    → ∥ IsBuilt (trees_of text all) ∥₁ → AfterToken text all es token lo hi
after_token text all e es token lo hi whole is h built = record {
  trees = ap (trees_of text) whole ∙ begins_one text e es token lo hi is;
  holds = holds_after_one text e es token lo hi (subst (λ x. Holds text x (trees_of text x)) whole h) is;
  built = built_after_one text e es token lo hi (subst (λ x. ∥ IsBuilt (trees_of text x) ∥₁) whole built) is;
}

pub record AfterGroup (text : List ℕ) (all es : List Entry) (d : Delimiter) (at n : ℕ) : Type 0 where
  pub hi : ℕ
  pub trees : trees_of text all ≡ group d at hi (trees_of text (take n es)) (trees_of text (drop (n + 1) es))
  pub inside : Holds text (take n es) (trees_of text (take n es))
  pub inside_built : ∥ IsBuilt (trees_of text (take n es)) ∥₁
  pub after : Holds text (drop (n + 1) es) (trees_of text (drop (n + 1) es))
  pub after_built : ∥ IsBuilt (trees_of text (drop (n + 1) es)) ∥₁
  pub fits : n < length es
  pub closer : drop n (events_of text es) ≡ Closes d hi ∷ drop (n + 1) (events_of text es)

pub after_group : (text : List ℕ) (all es : List Entry) (d : Delimiter) (at n : ℕ) → all ≡ entries.Open d at n ∷ es
    → Holds text all (trees_of text all) → ∥ IsBuilt (trees_of text all) ∥₁ → AfterGroup text all es d at n
after_group text all es d at n whole h built =
    let own : List Entry = entries.Open d at n ∷ es in
    let group = group_at text d at n es (trees_of text own) (subst (λ x. Holds text x (trees_of text x)) whole h) in
    let all_built : ∥ IsBuilt (trees_of text own) ∥₁ = subst (λ x. ∥ IsBuilt (trees_of text x) ∥₁) whole built in
    record {
      hi = group.hi;
      trees = ap (trees_of text) whole ∙ group.trees;
      inside = group.inside;
      inside_built = built_in text d at n es group all_built;
      after = group.after;
      after_built = built_past text d at n es group all_built;
      fits = group.fits;
      closer = group.closer;
    }

-- no entry is left exactly if no tree is left
pub is_nil-empty : (text : List ℕ) (all : List Entry) (empty : Bool) → Holds text all (trees_of text all)
    → empty ≡ (length all == 0) → empty ≡ is_nil (trees_of text all)
is_nil-empty text [] empty h is = is
is_nil-empty text (e ∷ es) empty h is =
    let size : (length (e ∷ es) == 0) ≡ false = ne_eqb (length (e ∷ es)) 0 (λ clash. omega (arith, clash)) in
    is ∙ (size ∙ not_nil (trees_of text (e ∷ es)) h)
  where
    not_nil : (f : Forest) → Holds text (e ∷ es) f → false ≡ is_nil f
    not_nil nil k = let clash : event_of text e ∷ events_of text es ≡ [] = k.events in cc
    not_nil (leaf t lo hi f) k = refl
    not_nil (group d lo hi f g) k = refl

-- ---- the span of the first tree

pub leaf_ordered : (trees rest : Forest) (token : Token) (lo hi : ℕ) → ∥ IsBuilt trees ∥₁
    → trees ≡ leaf token lo hi rest → lo ≤ hi
leaf_ordered trees rest token lo hi built is =
    ∥∥₁_elim built le_prop (λ (all : IsBuilt trees). (subst IsBuilt is all).1)

pub group_ordered : (trees inside rest : Forest) (d : Delimiter) (lo hi : ℕ) → ∥ IsBuilt trees ∥₁
    → trees ≡ group d lo hi inside rest → lo ≤ hi
group_ordered trees inside rest d lo hi built is =
    ∥∥₁_elim built le_prop (λ (all : IsBuilt trees). (subst IsBuilt is all).0)

closer_is : (text : List ℕ) (d : Delimiter) (hi : ℕ) (entry : Entry) → event_of text entry ≡ Closes d hi
    → closer_end entry ≡ hi
closer_is text d hi (entries.Name raw lo to at) is = cc
closer_is text d hi (entries.Mark joint mark at end) is = cc
closer_is text d hi (entries.Literal lo to at) is = cc
closer_is text d hi (entries.Open delimiter at count) is = cc
closer_is text d hi (entries.Close delimiter end) is = cc
closer_is text d hi (entries.DocName at end) is = cc
closer_is text d hi (entries.DocText closing lo to at) is = cc

-- the closer of a group comes after the entries inside
pub closer_at : (text : List ℕ) (d : Delimiter) (hi n : ℕ) (es : List Entry) (other : Entry) → n < length es
    → drop n (events_of text es) ≡ Closes d hi ∷ drop (n + 1) (events_of text es)
    → closer_end (get_or es n other) ≡ hi
closer_at text d hi n es other fits closer =
    let whole : event_of text (get_or es n other) ∷ events_of text (drop (suc n) es)
    ≡ Closes d hi ∷ drop (n + 1) (events_of text es)
    = sym (ap (events_of text) (drop-cons es n other fits)) ∙ (events_of-drop text n es ∙ closer) in
    let is : event_of text (get_or es n other) ≡ Closes d hi = cc in
    closer_is text d hi (get_or es n other) is
