-- Lists of trees that are open while a stream is changed. The first trees of each are done.
use Rattle.std.specs.Prelude.{ℕ, ◌+◌, ◌≡◌, ◌≤◌, ◌<◌, refl, true, List, [], ◌∷◌, length, Option, Some, None, take, drop}
use Rattle.std.specs.Coded.{Coded, code_by, coded×, coded_list, coded_ℕ}
use Rattle.proc_macro2.specs.Codec.{coded_forest}
use Rattle.proc_macro2.specs.Forest.{Forest, nil, leaf, group, chain}
use Rattle.proc_macro2.specs.Leaf.{mark_token}
use Rattle.proc_macro2.specs.Trees.{alone, forest}
use Rattle.proc_macro2.specs.Token.{Token}
use Rattle.proc_macro2.specs.contracts.TokenTree as tree
use Rattle.proc_macro2.specs.declared.TokenTree.{TokenTree}
use Rattle.proc_macro2.specs.declared.TokenTree.TheVariants.{Group, Ident, Punct, Literal}
use Rattle.quoting.specs.Joined.{joined_token}
use Rattle.quoting.specs.Respaced.{respaced_token}
use Rattle.quoting.specs.Visited.{join_visited, past_visits}
use Rattle.quoting.specs.declared.join.Visit.{Visit}

-- the trees of a list, its first trees as they will be, the number of these, and the trees that are left
pub record Part : Type 0 where
  pub whole : Forest
  pub done : Forest
  pub count : ℕ
  pub left : List TokenTree

-- the code of a `Part`, as pairs
abbrev pub coded_part : Coded Part
coded_part = code_by (Forest × (Forest × (ℕ × List TokenTree)))
    (coded× coded_forest (coded× coded_forest (coded× coded_ℕ (coded_list tree.the_row.coded))))
    (λ part. (part.whole, (part.done, (part.count, part.left))))
    (λ fields. record { whole = fields.0; done = fields.1.0; count = fields.1.1.0; left = fields.1.1.1 }) (λ _. refl)

-- the first `count` trees, of which the first `changed.1` became `changed.0`
abbrev pub done_of : Option (Forest × ℕ) → ℕ → List TokenTree → Forest
done_of None count trees = forest (take count trees)
done_of (Some changed) count trees = chain changed.0 (forest (drop changed.1 (take count trees)))

-- the list, if `each` says what becomes of the trees that are left
abbrev pub part_result : (Forest → Forest) → Part → Forest
part_result each part = chain part.done (each (forest part.left))

-- the list, if the trees that are left stay as they are
abbrev pub part_kept : Part → Forest
part_kept = part_result (λ f. f)

-- the respaced tree, if it is no group
abbrev pub respaced_alone : TokenTree → Option Token → Forest
respaced_alone (Group g) next = alone (Group g)
respaced_alone (Ident i) next = alone (Ident i)
respaced_alone (Punct p) next = leaf (respaced_token (mark_token p) next) p.span.lo p.span.hi nil
respaced_alone (Literal l) next = alone (Literal l)

-- the tree, in which a mark is Joint if it may be joined
abbrev pub joined_alone : TokenTree → Option Token → Forest
joined_alone (Group g) next = alone (Group g)
joined_alone (Ident i) next = alone (Ident i)
joined_alone (Punct p) next = leaf (joined_token true (mark_token p) next) p.span.lo p.span.hi nil
joined_alone (Literal l) next = alone (Literal l)

-- whether the first tree is a group with the given contents
abbrev pub IsOpen : List TokenTree → Forest → Type 0
IsOpen [] inside = ⊥
IsOpen (Group g ∷ after) inside = g.stream ≡ inside
IsOpen (Ident i ∷ after) inside = ⊥
IsOpen (Punct p ∷ after) inside = ⊥
IsOpen (Literal l ∷ after) inside = ⊥

-- the first tree, which is a group, with the given contents
abbrev pub first_group : List TokenTree → Forest → Forest
first_group [] inside = nil
first_group (Group g ∷ after) inside = group g.delimiter g.span.lo g.span.hi inside nil
first_group (Ident i ∷ after) inside = nil
first_group (Punct p ∷ after) inside = nil
first_group (Literal l ∷ after) inside = nil

-- the first tree
abbrev pub first_alone : List TokenTree → Forest
first_alone [] = nil
first_alone (tree ∷ trees) = alone tree

-- the trees after the first
abbrev pub others : List TokenTree → List TokenTree
others [] = []
others (tree ∷ trees) = trees

-- the first tree that was left is done and became the given trees. Nothing else changed
pub record Adds (old : Part) (first : Forest) (new : Part) : Type 0 where
  pub whole : new.whole ≡ old.whole
  pub done : new.done ≡ chain old.done first
  pub count : new.count ≡ old.count + 1
  pub left : new.left ≡ others old.left

-- trees that were left are done as they were. Nothing else changed
pub record Keeps (old : Part) (new : Part) : Type 0 where
  pub whole : new.whole ≡ old.whole
  pub kept : part_kept new ≡ part_kept old

-- ---- the lists around

-- the list, if its next group has the given contents, and `each` says what becomes of the trees after it
abbrev pub part_closed : (Forest → Forest) → Part → Forest → Forest
part_closed each part inside =
    chain part.done (chain (first_group part.left inside) (each (forest (others part.left))))

-- the outermost list, if the innermost list becomes the given trees
abbrev pub unwound : (Forest → Forest) → List Part → Forest → Forest
unwound each [] inside = inside
unwound each (part ∷ parts) inside = part_closed each part (unwound each parts inside)

-- the trees of the first list before any change, or else the given trees
abbrev pub first_whole : List Part → Forest → Forest
first_whole [] whole = whole
first_whole (part ∷ parts) whole = part.whole

-- each list is that of the next group in the list around it. The given trees are the innermost list
abbrev pub Linked : List Part → Forest → Type 0
Linked [] whole = Unit {0}
Linked (part ∷ parts) whole = IsOpen part.left (first_whole parts whole) × Linked parts whole

-- the stream, if all trees that are left stay as they are
abbrev pub all_kept : List Part → Part → Forest
all_kept outer here = unwound (λ f. f) outer (part_kept here)

-- ---- visits

-- the list when the visits are made, and the visits after those of its trees. It is in this number of groups
abbrev pub part_visited : ℕ → Part → List Visit → Forest × List Visit
part_visited depth part visits = (
  chain part.done (join_visited depth part.count (forest part.left) visits),
  past_visits depth part.count (forest part.left) visits,
)

-- the same, if its next group becomes the given trees and is followed by the given visits
abbrev pub part_after : ℕ → Part → Forest × List Visit → Forest × List Visit
part_after depth part inner = (
  chain part.done
      (chain (first_group part.left inner.0)
      (join_visited depth (part.count + 1) (forest (others part.left)) inner.1)),
  past_visits depth (part.count + 1) (forest (others part.left)) inner.1,
)

-- the same of the outermost list
abbrev pub all_after : ℕ → List Part → Forest × List Visit → Forest × List Visit
all_after depth [] inner = inner
all_after depth (part ∷ parts) inner = part_after depth part (all_after (depth + 1) parts inner)

-- the outermost list when the visits are made, and the visits after those of its trees
abbrev pub all_visited : List Part → Part → List Visit → Forest × List Visit
all_visited outer here visits = all_after 0 outer (part_visited (length outer) here visits)

-- the first visit is in this number of groups at most
abbrev pub IsShallow : ℕ → List Visit → Type 0
IsShallow depth [] = Unit {0}
IsShallow depth (visit ∷ visits) = visit.depth ≤ depth

-- lists are closed until at most `depth` are left around the innermost one, which is `new`
pub record Closes (outer : List Part) (here : Part) (depth : ℕ) (more : List Part) (new : Part) : Type 0 where
  pub few : length more ≤ depth
  pub kept : all_kept more new ≡ all_kept outer here
  pub linked : Linked more new.whole
  pub visits : (visits : List Visit) → IsShallow depth visits
      → all_visited more new visits ≡ all_visited outer here visits

-- trees before this index were kept, up to it or to the end
pub record KeepsUpTo (index : ℕ) (old : Part) (new : Part) : Type 0 where
  pub whole : new.whole ≡ old.whole
  pub kept : part_kept new ≡ part_kept old
  pub reached : new.count < index → new.left ≡ []
  pub visits : (depth : ℕ) (visit : Visit) (visits : List Visit) → visit.index ≡ index
      → part_visited depth new (visit ∷ visits) ≡ part_visited depth old (visit ∷ visits)
