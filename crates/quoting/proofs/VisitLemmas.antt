-- Visits of the trees of open lists.
use Rattle.std.proofs.Common.{◌≡◌, ◌≤◌, ◌<◌, ℕ, ◌+◌, Bool, true, false, ◌||◌, if◌then◌else◌, Option, List}
use Rattle.std.proofs.Common.{[], ◌∷◌, ◌++◌, length, drop, refl, sym, ap, ap₂, ◌∙◌, arith}
use Rattle.std.proofs.lemmas.Bool.{and_from, and_parts, eq-eqb, eqb-true}
use Rattle.std.proofs.lemmas.List.{append_assoc}
use Rattle.proc_macro2.specs.Forest.{Forest, nil, leaf, group, chain}
use Rattle.proc_macro2.specs.Leaf.{mark_token}
use Rattle.proc_macro2.specs.Token.{Token, Name, Mark, Literal}
use Rattle.proc_macro2.specs.Trees.{alone, before, forest}
use Rattle.proc_macro2.specs.WellSpaced.{next_token}
use Rattle.proc_macro2.specs.declared.Group.{Group as Grouped}
use Rattle.proc_macro2.specs.declared.TokenTree.{TokenTree}
use Rattle.proc_macro2.specs.declared.TokenTree.TheVariants.{Group, Ident, Punct, Literal as Text}
use Rattle.quoting.specs.Joined.{joined, joined_token, past_stream}
use Rattle.quoting.specs.Part.{Adds, IsShallow, Keeps, Part, all_after, all_visited, first_group}
use Rattle.quoting.specs.Part.{joined_alone, others, part_after, part_closed, part_kept, part_visited, unwound}
use Rattle.quoting.specs.Visited.{inner_visits, is_visited, join_visited, past_visit, past_visits, visited_marks}
use Rattle.quoting.specs.declared.join.Visit.{Visit}
use Rattle.quoting.proofs.PartLemmas.{joined_assoc, joined_nil}

-- ---- the answers of the visits

-- the answers join the visited marks, also before more answers
visited_joined : (d i : ℕ) (f : Forest) (vs : List Visit) (more : List Bool)
    → (joined (visited_marks d i f vs ++ more) f ≡ join_visited d i f vs)
    × (past_stream f (visited_marks d i f vs ++ more) ≡ more)
visited_joined d i nil vs more = (refl, refl)
visited_joined d i (leaf (Name raw name) lo hi f) vs more =
    let rest = visited_joined d (i + 1) f (past_visit d i vs) more in
    (ap (leaf (Name raw name) lo hi) rest.0, rest.1)
visited_joined d i (leaf (Mark c joint) lo hi f) vs more =
    let rest = visited_joined d (i + 1) f (past_visit d i vs) more in
    (ap (leaf (joined_token (is_visited d i vs) (Mark c joint) (next_token f)) lo hi) rest.0, rest.1)
visited_joined d i (leaf (Literal text) lo hi f) vs more =
    let rest = visited_joined d (i + 1) f (past_visit d i vs) more in
    (ap (leaf (Literal text) lo hi) rest.0, rest.1)
visited_joined d i (group e lo hi f g) vs more =
    let after = if is_visited d i vs then past_visits (d + 1) 0 f (drop 1 vs) else vs in
    let first = visited_marks (d + 1) 0 f (inner_visits d i vs) in
    let second = visited_marks d (i + 1) g after in
    let same : (first ++ second) ++ more ≡ first ++ (second ++ more) = append_assoc first second more in
    let inside = visited_joined (d + 1) 0 f (inner_visits d i vs) (second ++ more) in
    let rest = visited_joined d (i + 1) g after more in (
      ap (λ ws. group e lo hi (joined ws f) (joined (past_stream f ws) g)) same
          ∙ ap₂ (group e lo hi) inside.0 (ap (λ ws. joined ws g) inside.1 ∙ rest.0),
      ap (λ ws. past_stream g (past_stream f ws)) same ∙ (ap (past_stream g) inside.1 ∙ rest.1),
    )

append_none : (ws : List Bool) → ws ++ [] ≡ ws
append_none [] = refl
append_none (w ∷ ws) = ap (λ vs. w ∷ vs) (append_none ws)

pub joined_by_visits : (d i : ℕ) (f : Forest) (vs : List Visit)
    → join_visited d i f vs ≡ joined (visited_marks d i f vs) f
joined_by_visits d i f vs =
    sym ((visited_joined d i f vs []).0) ∙ ap (λ ws. joined ws f) (append_none (visited_marks d i f vs))

-- ---- visits of other trees

is_false : (b : Bool) → (b ≡ true → ⊥) → b ≡ false
is_false true misses = absurd (misses refl)
is_false false misses = refl

pub not_visited : (d i : ℕ) (v : Visit) (vs : List Visit) → (v.depth ≡ d → v.index ≡ i → ⊥)
    → is_visited d i (v ∷ vs) ≡ false
not_visited d i v vs misses =
    is_false _ (λ e. let both = and_parts _ _ e in misses (eqb-true _ _ both.0) (eqb-true _ _ both.1))

pub yes_visited : (d i : ℕ) (v : Visit) (vs : List Visit) → v.depth ≡ d → v.index ≡ i
    → is_visited d i (v ∷ vs) ≡ true
yes_visited d i v vs depth index = and_from _ _ (eq-eqb _ _ depth) (eq-eqb _ _ index)

-- no tree from this index on is the first that is visited
abbrev pub IsPassed : ℕ → ℕ → List Visit → Type 0
IsPassed d i vs = (j : ℕ) → i ≤ j → is_visited d j vs ≡ false

or_false : (b : Bool) → (b || false) ≡ b
or_false true = refl
or_false false = refl

unwanted : (t : Token) (next : Option Token) → joined_token false t next ≡ t
unwanted (Name raw name) next = refl
unwanted (Mark c joint) next = ap (Mark c) (or_false joint)
unwanted (Literal text) next = refl

later : (d i : ℕ) (vs : List Visit) → IsPassed d i vs → IsPassed d (i + 1) vs
later d i vs h = λ j more. h j (omega (arith, more))

here_not : (d i : ℕ) (vs : List Visit) → IsPassed d i vs → is_visited d i vs ≡ false
here_not d i vs h = h i (omega arith)

pub trees_passed : (d i : ℕ) (f : Forest) (vs : List Visit) → IsPassed d i vs → join_visited d i f vs ≡ f
trees_passed d i nil vs h = refl
trees_passed d i (leaf t lo hi f) vs h =
    ap (λ b. leaf (joined_token b t (next_token f)) lo hi (join_visited d (i + 1) f (if b then drop 1 vs else vs)))
    (here_not d i vs h)
    ∙ ap₂ (λ u g. leaf u lo hi g) (unwanted t (next_token f)) (trees_passed d (i + 1) f vs (later d i vs h))
trees_passed d i (group e lo hi f g) vs h =
    ap (λ b. group e lo hi (join_visited (d + 1) 0 f (if b then drop 1 vs else []))
    (join_visited d (i + 1) g (if b then past_visits (d + 1) 0 f (drop 1 vs) else vs))) (here_not d i vs h)
    ∙ ap₂ (group e lo hi) (trees_passed (d + 1) 0 f [] (λ j more. refl))
    (trees_passed d (i + 1) g vs (later d i vs h))

pub visits_passed : (d i : ℕ) (f : Forest) (vs : List Visit) → IsPassed d i vs → past_visits d i f vs ≡ vs
visits_passed d i nil vs h = refl
visits_passed d i (leaf t lo hi f) vs h =
    ap (λ b. past_visits d (i + 1) f (if b then drop 1 vs else vs)) (here_not d i vs h)
    ∙ visits_passed d (i + 1) f vs (later d i vs h)
visits_passed d i (group e lo hi f g) vs h =
    ap (λ b. past_visits d (i + 1) g (if b then past_visits (d + 1) 0 f (drop 1 vs) else vs)) (here_not d i vs h)
    ∙ visits_passed d (i + 1) g vs (later d i vs h)

pub part_passed : (d : ℕ) (p : Part) (vs : List Visit) → IsPassed d p.count vs
    → part_visited d p vs ≡ (part_kept p, vs)
part_passed d p vs h =
    ap₂ (λ f ws. (chain p.done f, ws)) (trees_passed d p.count (forest p.left) vs h)
    (visits_passed d p.count (forest p.left) vs h)

after_passed : (d : ℕ) (p : Part) (f : Forest) (vs : List Visit) → IsPassed d (p.count + 1) vs
    → part_after d p (f, vs) ≡ (part_closed (λ x. x) p f, vs)
after_passed d p f vs h =
    ap₂ (λ g ws. (chain p.done (chain (first_group p.left f) g), ws))
    (trees_passed d (p.count + 1) (forest (others p.left)) vs h)
    (visits_passed d (p.count + 1) (forest (others p.left)) vs h)

pub all_passed : (d : ℕ) (outer : List Part) (f : Forest) (vs : List Visit)
    → ((k : ℕ) → k < d + length outer → IsPassed k 0 vs) → all_after d outer (f, vs) ≡ (unwound (λ x. x) outer f, vs)
all_passed d [] f vs h = refl
all_passed d (p ∷ outer) f vs h =
    ap (part_after d p) (all_passed (d + 1) outer f vs (λ k less. h k (omega (arith, less))))
    ∙ after_passed d p (unwound (λ x. x) outer f) vs (λ j more. h d (omega arith) j (omega arith))

-- ---- the outer lists

after-push : (d : ℕ) (outer : List Part) (part : Part) (x : Forest × List Visit)
    → all_after d (outer ++ part ∷ []) x ≡ all_after d outer (part_after (d + length outer) part x)
after-push d [] part x = ap (λ k. part_after k part x) (omega arith)
after-push d (p ∷ outer) part x =
    ap (part_after d p)
    (after-push (d + 1) outer part x ∙ ap (λ k. all_after (d + 1) outer (part_after k part x)) (omega arith))

length-push : (outer : List Part) (part : Part) → length (outer ++ part ∷ []) ≡ length outer + 1
length-push [] part = refl
length-push (p ∷ outer) part = omega (arith, length-push outer part)

pub shallow_passed : (vs : List Visit) (depth k : ℕ) → IsShallow depth vs → depth < k → IsPassed k 0 vs
shallow_passed [] depth k h less = λ j more. refl
shallow_passed (v ∷ vs) depth k h less =
    λ j more. not_visited k j v vs (λ same index. absurd (omega (arith, h, less, same)))

-- the innermost list was closed
pub close_visits : (here rest part new : Part) (outer more : List Part) (vs : List Visit)
    → IsPassed (length outer) 0 vs → rest.left ≡ [] → Keeps here rest → outer ≡ more ++ part ∷ []
    → Adds part (first_group part.left rest.done) new → all_visited more new vs ≡ all_visited outer here vs
close_visits here rest part new outer more vs passed none keeps pop adds =
    let done : part_kept here ≡ rest.done =
    sym keeps.kept ∙ (ap (λ ts. chain rest.done (forest ts)) none ∙ joined_nil rest.done) in
    let was : all_visited outer here vs ≡ all_after 0 more (part_after (length more) part (rest.done, vs)) =
    ap (all_after 0 outer) (part_passed (length outer) here vs (λ j least. passed j (omega arith)))
    ∙ (ap₂ (λ o f. all_after 0 o (f, vs)) pop done
    ∙ (after-push 0 more part (rest.done, vs)
    ∙ ap (λ k. all_after 0 more (part_after k part (rest.done, vs))) (omega arith))) in
    let now : part_visited (length more) new vs ≡ part_after (length more) part (rest.done, vs) =
    ap₂ (λ (n : ℕ) (x : Forest × List TokenTree). (
      chain x.0 (join_visited (length more) n (forest x.1) vs),
      past_visits (length more) n (forest x.1) vs,
    )) adds.count (ap₂ (λ f ts. (f, ts)) adds.done adds.left)
    ∙ ap (λ f. (f, past_visits (length more) (part.count + 1) (forest (others part.left)) vs))
    (joined_assoc part.done (first_group part.left rest.done) _) in
    ap (all_after 0 more) now ∙ sym was

-- ---- a tree of the innermost list

-- the list, after the first tree that was left
visited_next : (d : ℕ) (here new : Part) (t : TokenTree) (after : List TokenTree) (first : Forest)
    (was vs : List Visit)
    → here.left ≡ t ∷ after → Adds here first new
    → join_visited d here.count (before t (forest after)) was
    ≡ chain first (join_visited d (here.count + 1) (forest after) vs)
    → past_visits d here.count (before t (forest after)) was ≡ past_visits d (here.count + 1) (forest after) vs
    → part_visited d new vs ≡ part_visited d here was
visited_next d here new t after first was vs left adds trees visits =
    let rest : new.left ≡ after = adds.left ∙ ap others left in
    let now : part_visited d new vs
    ≡ (
      chain (chain here.done first) (join_visited d (here.count + 1) (forest after) vs),
      past_visits d (here.count + 1) (forest after) vs,
    ) =
    ap₂ (λ (n : ℕ) (x : Forest × List TokenTree). (
      chain x.0 (join_visited d n (forest x.1) vs),
      past_visits d n (forest x.1) vs,
    )) adds.count (ap₂ (λ f ts. (f, ts)) adds.done rest) in
    now
    ∙ (ap₂ (λ f ws. (f, ws))
    (joined_assoc here.done first (join_visited d (here.count + 1) (forest after) vs)
    ∙ ap (chain here.done) (sym trees)) (sym visits)
    ∙ ap (λ ts. (chain here.done (join_visited d here.count (forest ts) was), past_visits d here.count (forest ts) was))
    (sym left))

kept_trees : (d i : ℕ) (t : TokenTree) (f : Forest) (vs : List Visit) → is_visited d i vs ≡ false
    → join_visited d i (before t f) vs ≡ chain (alone t) (join_visited d (i + 1) f vs)
kept_trees d i (Group g) f vs misses =
    ap (λ b. group g.delimiter g.span.lo g.span.hi (join_visited (d + 1) 0 g.stream (if b then drop 1 vs else []))
    (join_visited d (i + 1) f (if b then past_visits (d + 1) 0 g.stream (drop 1 vs) else vs))) misses
    ∙ ap (λ x. group g.delimiter g.span.lo g.span.hi x (join_visited d (i + 1) f vs))
    (trees_passed (d + 1) 0 g.stream [] (λ j more. refl))
kept_trees d i (Ident t) f vs misses =
    ap (λ b. chain (alone (Ident t)) (join_visited d (i + 1) f (if b then drop 1 vs else vs))) misses
kept_trees d i (Punct t) f vs misses =
    ap (λ b. leaf (joined_token b (mark_token t) (next_token f)) t.span.lo t.span.hi
    (join_visited d (i + 1) f (if b then drop 1 vs else vs))) misses
    ∙ ap (λ u. leaf u t.span.lo t.span.hi (join_visited d (i + 1) f vs)) (unwanted _ (next_token f))
kept_trees d i (Text t) f vs misses =
    ap (λ b. chain (alone (Text t)) (join_visited d (i + 1) f (if b then drop 1 vs else vs))) misses

kept_visits : (d i : ℕ) (t : TokenTree) (f : Forest) (vs : List Visit) → is_visited d i vs ≡ false
    → past_visits d i (before t f) vs ≡ past_visits d (i + 1) f vs
kept_visits d i (Group g) f vs misses =
    ap (λ b. past_visits d (i + 1) f (if b then past_visits (d + 1) 0 g.stream (drop 1 vs) else vs)) misses
kept_visits d i (Ident t) f vs misses = ap (λ b. past_visits d (i + 1) f (if b then drop 1 vs else vs)) misses
kept_visits d i (Punct t) f vs misses = ap (λ b. past_visits d (i + 1) f (if b then drop 1 vs else vs)) misses
kept_visits d i (Text t) f vs misses = ap (λ b. past_visits d (i + 1) f (if b then drop 1 vs else vs)) misses

-- a tree that is not visited was kept
pub keep_visits : (d : ℕ) (here new : Part) (t : TokenTree) (after : List TokenTree) (vs : List Visit)
    → here.left ≡ t ∷ after → Adds here (alone t) new → is_visited d here.count vs ≡ false
    → part_visited d new vs ≡ part_visited d here vs
keep_visits d here new t after vs left adds misses =
    visited_next d here new t after (alone t) vs vs left adds (kept_trees d here.count t (forest after) vs misses)
    (kept_visits d here.count t (forest after) vs misses)

joined_trees : (d i : ℕ) (t : TokenTree) (f : Forest) (v : Visit) (vs : List Visit)
    → ((g : Grouped) → t ≡ Group g → ⊥) → is_visited d i (v ∷ vs) ≡ true
    → join_visited d i (before t f) (v ∷ vs) ≡ chain (joined_alone t (next_token f)) (join_visited d (i + 1) f vs)
joined_trees d i (Group g) f v vs other meets = absurd (other g refl)
joined_trees d i (Ident t) f v vs other meets =
    ap (λ b. chain (alone (Ident t)) (join_visited d (i + 1) f (if b then vs else v ∷ vs))) meets
joined_trees d i (Punct t) f v vs other meets =
    ap (λ b. leaf (joined_token b (mark_token t) (next_token f)) t.span.lo t.span.hi
    (join_visited d (i + 1) f (if b then vs else v ∷ vs))) meets
joined_trees d i (Text t) f v vs other meets =
    ap (λ b. chain (alone (Text t)) (join_visited d (i + 1) f (if b then vs else v ∷ vs))) meets

joined_visits : (d i : ℕ) (t : TokenTree) (f : Forest) (v : Visit) (vs : List Visit)
    → ((g : Grouped) → t ≡ Group g → ⊥) → is_visited d i (v ∷ vs) ≡ true
    → past_visits d i (before t f) (v ∷ vs) ≡ past_visits d (i + 1) f vs
joined_visits d i (Group g) f v vs other meets = absurd (other g refl)
joined_visits d i (Ident t) f v vs other meets = ap (λ b. past_visits d (i + 1) f (if b then vs else v ∷ vs)) meets
joined_visits d i (Punct t) f v vs other meets = ap (λ b. past_visits d (i + 1) f (if b then vs else v ∷ vs)) meets
joined_visits d i (Text t) f v vs other meets = ap (λ b. past_visits d (i + 1) f (if b then vs else v ∷ vs)) meets

-- a tree that is no group was visited
pub join_visits : (here new : Part) (outer : List Part) (t : TokenTree) (after : List TokenTree) (v : Visit)
    (vs : List Visit)
    → here.left ≡ t ∷ after → ((g : Grouped) → t ≡ Group g → ⊥)
    → Adds here (joined_alone t (next_token (forest after))) new
    → v.depth ≡ length outer → v.index ≡ here.count
    → all_visited outer new vs ≡ all_visited outer here (v ∷ vs)
join_visits here new outer t after v vs left other adds depth index =
    let meets = yes_visited (length outer) here.count v vs depth index in
    ap (all_after 0 outer)
    (visited_next (length outer) here new t after (joined_alone t (next_token (forest after))) (v ∷ vs) vs left adds
    (joined_trees (length outer) here.count t (forest after) v vs other meets)
    (joined_visits (length outer) here.count t (forest after) v vs other meets))

-- a group was visited and opened
pub enter_visits : (here new : Part) (outer more : List Part) (t : TokenTree) (after : List TokenTree) (g : Grouped)
    (v : Visit) (vs : List Visit)
    → here.left ≡ t ∷ after → t ≡ Group g → new.done ≡ nil → new.count ≡ 0 → forest new.left ≡ g.stream
    → more ≡ outer ++ here ∷ [] → v.depth ≡ length outer → v.index ≡ here.count
    → all_visited more new vs ≡ all_visited outer here (v ∷ vs)
enter_visits here new outer more t after g v vs left is done count inside push depth index =
    let d = length outer in
    let first : here.left ≡ Group g ∷ after = left ∙ ap (λ u. u ∷ after) is in
    let inner : Forest × List Visit = (join_visited (d + 1) 0 g.stream vs, past_visits (d + 1) 0 g.stream vs) in
    let now : part_visited (length more) new vs ≡ inner =
    ap₂ (λ (k : ℕ) (x : Forest × (ℕ × Forest)).
    (chain x.0 (join_visited k x.1.0 x.1.1 vs), past_visits k x.1.0 x.1.1 vs))
    (ap length push ∙ length-push outer here)
    (ap₂ (λ f (y : ℕ × Forest). (f, y)) done (ap₂ (λ (n : ℕ) f. (n, f)) count inside)) in
    let opened : part_after d here inner ≡ part_visited d here (v ∷ vs) =
    ap (λ ts. (
      chain here.done (chain (first_group ts inner.0) (join_visited d (here.count + 1) (forest (others ts)) inner.1)),
      past_visits d (here.count + 1) (forest (others ts)) inner.1,
    )) first
    ∙ (ap (λ b. (
      chain here.done
          (group g.delimiter g.span.lo g.span.hi (join_visited (d + 1) 0 g.stream (if b then vs else []))
          (join_visited d (here.count + 1) (forest after)
          (if b then past_visits (d + 1) 0 g.stream vs else v ∷ vs))),
      past_visits d (here.count + 1) (forest after) (if b then past_visits (d + 1) 0 g.stream vs else v ∷ vs),
    )) (sym (yes_visited d here.count v vs depth index))
    ∙ ap (λ ts. (
      chain here.done (join_visited d here.count (forest ts) (v ∷ vs)),
      past_visits d here.count (forest ts) (v ∷ vs),
    )) (sym first)) in
    ap₂ (λ o x. all_after 0 o x) push now
    ∙ (after-push 0 outer here inner ∙ (ap (λ k. all_after 0 outer (part_after k here inner)) (omega arith)
    ∙ ap (all_after 0 outer) opened))
