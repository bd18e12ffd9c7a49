-- Joined entries are the tokens of joined trees.
use Rattle.std.proofs.Common.{◌≡◌, ℕ, List, [], ◌∷◌, ◌++◌, length, refl, sym, ap, ap₂, ◌∙◌, subst, arith}
use Rattle.lexical.specs.Token.{Token}
use Rattle.pm_token.specs.declared.delimiters.Delimiter.{Delimiter}
use Rattle.pm_stream.specs.Events.{Event, One, Opens, Closes}
use Rattle.pm_stream.specs.Forest.{Forest, nil, leaf, group, flat_onto, flattening, chain}
use Rattle.pm_stream.proofs.TreeLemmas.{flat_onto-append, flattening-joined}
use Rattle.token_buffer.specs.Entries.{event_of, events_of, count_of, counts_of, IsWithin, AreWithin}
use Rattle.token_buffer.specs.Held.{counts_onto, counts, Holds}
use Rattle.token_buffer.specs.Left.{trees_of}
use Rattle.token_buffer.specs.Unflattened.{Levels, levels, with_opener, trees_of_events}
use Rattle.token_buffer.specs.declared.entry.Entry.{Entry}
use Rattle.token_buffer.specs.declared.entry.Entry.TheVariants as entries

-- ---- lists

pub events_of-append : (text : List ℕ) (es fs : List Entry)
    → events_of text (es ++ fs) ≡ events_of text es ++ events_of text fs
events_of-append text [] fs = refl
events_of-append text (e ∷ es) fs = ap (λ x. event_of text e ∷ x) (events_of-append text es fs)

pub counts_of-append : (es fs : List Entry) → counts_of (es ++ fs) ≡ counts_of es ++ counts_of fs
counts_of-append [] fs = refl
counts_of-append (e ∷ es) fs = ap (λ x. count_of e ∷ x) (counts_of-append es fs)

within-append : (text : List ℕ) (es fs : List Entry) → AreWithin text es → AreWithin text fs → AreWithin text (es ++ fs)
within-append text [] fs h k = k
within-append text (e ∷ es) fs h k = (h.0, within-append text es fs h.1 k)

pub events_of-length : (text : List ℕ) (es : List Entry) → length (events_of text es) ≡ length es
events_of-length text [] = refl
events_of-length text (e ∷ es) = omega (arith, events_of-length text es)

counts_onto-joined : (f g : Forest) (ns : List ℕ) → counts_onto (chain f g) ns ≡ counts_onto f (counts_onto g ns)
counts_onto-joined nil g ns = refl
counts_onto-joined (leaf t lo hi f) g ns = ap (λ x. 0 ∷ x) (counts_onto-joined f g ns)
counts_onto-joined (group d lo hi f k) g ns =
    ap (λ x. length (flattening f) ∷ counts_onto f (0 ∷ x)) (counts_onto-joined k g ns)

pub counts_onto-append : (f : Forest) (ns ms : List ℕ) → counts_onto f ns ++ ms ≡ counts_onto f (ns ++ ms)
counts_onto-append nil ns ms = refl
counts_onto-append (leaf t lo hi f) ns ms = ap (λ x. 0 ∷ x) (counts_onto-append f ns ms)
counts_onto-append (group d lo hi f g) ns ms =
    ap (λ x. length (flattening f) ∷ x) (counts_onto-append f (0 ∷ counts_onto g ns) ms
    ∙ ap (λ x. counts_onto f (0 ∷ x)) (counts_onto-append g ns ms))

counts-joined : (f g : Forest) → counts (chain f g) ≡ counts f ++ counts g
counts-joined f g = counts_onto-joined f g [] ∙ sym (counts_onto-append f [] (counts g))

-- ---- trees

pub holds-nil : (text : List ℕ) → Holds text [] nil
holds-nil text = record { events = refl; counted = refl; within = tt }

pub holds-joined : (text : List ℕ) (es fs : List Entry) (f g : Forest) → Holds text es f → Holds text fs g
    → Holds text (es ++ fs) (chain f g)
holds-joined text es fs f g h k = record {
  events = events_of-append text es fs ∙ (ap₂ (λ x y. x ++ y) h.events k.events ∙ sym (flattening-joined f g));
  counted = counts_of-append es fs ∙ (ap₂ (λ x y. x ++ y) h.counted k.counted ∙ sym (counts-joined f g));
  within = within-append text es fs h.within k.within;
}

pub holds-leaf : (text : List ℕ) (e : Entry) (token : Token) (lo hi : ℕ) → event_of text e ≡ One token lo hi
    → count_of e ≡ 0 → IsWithin text e → Holds text (e ∷ []) (leaf token lo hi nil)
holds-leaf text e token lo hi is none within = record {
  events = ap (λ x. x ∷ []) is;
  counted = ap (λ n. n ∷ []) none;
  within = (within, tt);
}

pub held_length : (text : List ℕ) (es : List Entry) (f : Forest) → Holds text es f → length es ≡ length (flattening f)
held_length text es f h = sym (events_of-length text es) ∙ ap length h.events

pub holds-group : (text : List ℕ) (inner : List Entry) (d : Delimiter) (lo hi n : ℕ) (f : Forest) → Holds text inner f
    → n ≡ length inner
    → Holds text (entries.Open d lo n ∷ (inner ++ (entries.Close d hi ∷ []))) (group d lo hi f nil)
holds-group text inner d lo hi n f h size = record {
  events = ap (λ x. Opens d lo ∷ x)
      (events_of-append text inner (entries.Close d hi ∷ [])
      ∙ (ap (λ x. x ++ (Closes d hi ∷ [])) h.events ∙ flat_onto-append f [] (Closes d hi ∷ [])));
  counted = ap₂ (λ m x. m ∷ x) (size ∙ held_length text inner f h)
      (counts_of-append inner (entries.Close d hi ∷ [])
      ∙ (ap (λ x. x ++ (0 ∷ [])) h.counted ∙ counts_onto-append f [] (0 ∷ [])));
  within = (tt, within-append text inner (entries.Close d hi ∷ []) h.within (tt, tt));
}

-- ---- the events of trees give these trees

pub joined_nil : (f : Forest) → chain f nil ≡ f
joined_nil nil = refl
joined_nil (leaf t lo hi f) = ap (leaf t lo hi) (joined_nil f)
joined_nil (group d lo hi f k) = ap (group d lo hi f) (joined_nil k)

levels_flat : (f : Forest) (es : List Event) → levels (flat_onto f es) ≡ (chain f (levels es).0, (levels es).1)
levels_flat nil es = refl
levels_flat (leaf t lo hi f) es = ap (λ (u : Levels). (leaf t lo hi u.0, u.1)) (levels_flat f es)
levels_flat (group d lo hi f k) es =
    ap (with_opener d lo) (levels_flat f (Closes d hi ∷ flat_onto k es))
    ∙ (ap (λ (i : Forest). (group d lo hi i (levels (flat_onto k es)).0, (levels (flat_onto k es)).1)) (joined_nil f)
    ∙ ap (λ (u : Levels). (group d lo hi f u.0, u.1)) (levels_flat k es))

pub unflattened_flattening : (f : Forest) → trees_of_events (flattening f) ≡ f
unflattened_flattening f = ap (λ (u : Levels). u.0) (levels_flat f []) ∙ joined_nil f

pub trees_are : (text : List ℕ) (es : List Entry) (f : Forest) → Holds text es f → trees_of text es ≡ f
trees_are text es f h = ap trees_of_events h.events ∙ unflattened_flattening f

pub holds_own : (text : List ℕ) (es : List Entry) (f : Forest) → Holds text es f → Holds text es (trees_of text es)
holds_own text es f h = subst (Holds text es) (sym (trees_are text es f h)) h
