-- What the walk over the tables reads, as the result of a function that reads by a rule.
use Rattle.std.proofs.Common.{◌≡◌, refl, sym, ◌∙◌, ap, Bool, true, false, List, [], ◌∷◌, ◌++◌, Some, None}
use Rattle.std.proofs.Common.{if◌then◌else◌}
use Rattle.std.specs.Prelude.{MatchResult, Result, Ok, Err}
use Rattle.std.specs.Borrow.{Bor}
use Rattle.grammars.specs.Grammar.{Event}
use Rattle.grammars.specs.Machine as machine
use Rattle.grammars.specs.Find.{Found, Past, Stuck, find, front, scan}
use Rattle.grammars.proofs.FindLemmas.{front_front, scan_step}
use Rattle.grammars.proofs.FlatLemmas.{flat_all}
use Rattle.pm_stream.specs.declared.stream.TokenTree.{TokenTree}
use Rattle.item_tables.specs.Walk.{step}
use Rattle.declarations.specs.Reader.{Remains, ReadsRule, classes_in}
use Rattle.declarations.specs.Tables.{StopsAt}
use Rattle.declarations.specs.Signs.{classes_of, signs}
use Rattle.declarations.specs.Walk.{Stops}
use Rattle.item_tables.specs.declared.class.SignClass.{SignClass}
use Rattle.item_tables.specs.declared.walk_state.WalkState.{WalkState}
use Rattle.declarations.specs.rules.Names.{G, Label, Name}
use Rattle.declarations.specs.rules.Rules.{rules}
use Rattle.declarations.proofs.ReadingLemmas.{classes-append}
use Rattle.declarations.proofs.StackLemmas.{left_at}
use Rattle.declarations.proofs.TableLemmas.{Meets, meet_ends, no_step, table_walk}

-- ---- the machine after a walk

front_none : (f : Found SignClass Label) → f ≡ front [] f
front_none (Past e r) = refl
front_none (Stuck l) = refl

scan_walk : (k : List G) (cs left : List SignClass) (taken : List (Event SignClass Label) × List G)
    → machine.walk rules k cs ≡ Some taken
    → scan rules k (cs ++ left) ≡ front taken.0 (scan rules taken.1 left)
scan_walk k [] left taken e =
    let events : [] ≡ taken.0 = cc in
    let stack : k ≡ taken.1 = cc in
    front_none (scan rules k left)
    ∙ (ap (λ x. front x (scan rules k left)) events ∙ ap (λ j. front taken.0 (scan rules j left)) stack)
scan_walk k (c ∷ cs) left taken e = go (machine.step rules k c) refl e (λ j t h. scan_walk j cs left t h)
  where
    later : (t : List (Event SignClass Label) × List G) → machine.step rules k c ≡ Some t
        → (o : machine.Transition SignClass Name Label) → machine.walk rules t.1 cs ≡ o
        → machine.prepend_events t.0 o ≡ Some taken
        → ((u : List (Event SignClass Label) × List G) → machine.walk rules t.1 cs ≡ Some u
        → scan rules t.1 (cs ++ left) ≡ front u.0 (scan rules u.1 left))
        → scan rules k (c ∷ (cs ++ left)) ≡ front taken.0 (scan rules taken.1 left)
    later t s None w e f = absurd cc
    later t s (Some u) w e f =
        let events : t.0 ++ u.0 ≡ taken.0 = cc in
        let stack : u.1 ≡ taken.1 = cc in
        scan_step rules k c (cs ++ left) (Some t) s
        ∙ (ap (front t.0) (f u w)
        ∙ (front_front t.0 u.0 (scan rules u.1 left)
        ∙ (ap (λ x. front x (scan rules u.1 left)) events ∙ ap (λ j. front taken.0 (scan rules j left)) stack)))

    go : (s : machine.Transition SignClass Name Label) → machine.step rules k c ≡ s
        → (elim s as (λ y. machine.Transition SignClass Name Label) [
          | None ↦ None
          | Some t ↦ machine.prepend_events t.0 (machine.walk rules t.1 cs)
        ]) ≡ Some taken
        → ((j : List G) (u : List (Event SignClass Label) × List G) → machine.walk rules j cs ≡ Some u
        → scan rules j (cs ++ left) ≡ front u.0 (scan rules u.1 left))
        → scan rules k (c ∷ (cs ++ left)) ≡ front taken.0 (scan rules taken.1 left)
    go None s e f = absurd cc
    go (Some t) s e f = later t s (machine.walk rules t.1 cs) refl e (f t.1)

-- what the machine finds where the walk stops
scan_stops : (k : List G) (left : List SignClass) (ended : Bool) → machine.ends k ≡ ended
    → ((c : SignClass) (more : List SignClass) → left ≡ c ∷ more → machine.step rules k c ≡ None)
    → scan rules k left ≡ (if ended then Past (machine.closing k) left else Stuck left)
scan_stops k [] ended e f = ap (λ b. if b then Past (machine.closing k) [] else Stuck []) e
scan_stops k (c ∷ left) ended e f =
    scan_step rules k c left None (f c left refl)
    ∙ ap (λ b. if b then Past (machine.closing k) (c ∷ left) else Stuck (c ∷ left)) e

-- ---- results

no_steps : (start : WalkState) (ended : Bool) (trees left : List TokenTree) (s : StopsAt start ended trees left)
    (k : List G) → Meets s.place k → (c : SignClass) (more : List SignClass) → classes_of (signs left) ≡ c ∷ more
    → machine.step rules k c ≡ None
no_steps start ended trees left s k m c more e =
    no_step s.place k m c (stop s.place (classes_of (signs left)) s.stops c more e)
  where
    stop : (last : WalkState) (rest : List SignClass) → Stops step last rest → (c : SignClass) (more : List SignClass)
        → rest ≡ c ∷ more
        → step last c ≡ None
    stop last [] s c more e = absurd cc
    stop last (d ∷ rest) s c more e = let same : d ≡ c = cc in ap (step last) (sym same) ∙ s

module _ (place : WalkState) (g : G) (left_there : left_at place ≡ Some (flat_all (g ∷ []))) where
  -- what the machine finds in the trees up to where the walk stops
  table_scan : (ended : Bool) (trees left : List TokenTree) (s : StopsAt place ended trees left)
      → (taken : List (Event SignClass Label) × List G) × (find rules g (classes_in trees)
      ≡ front taken.0 (if ended then Past (machine.closing taken.1) (classes_in left) else Stuck (classes_in left)))
  unfolding find classes_in
  table_scan ended trees left s =
      let all : classes_of (signs trees) ≡ classes_of s.walked.front ++ classes_of (signs left) =
      ap classes_of s.walked.read ∙ classes-append s.walked.front (signs left) in
      let at = table_walk place g (record { left = left_there }) (classes_of s.walked.front) s.place s.walked.walks in (
        at.0,
        ap (scan rules (g ∷ [])) all
            ∙ (scan_walk (g ∷ []) (classes_of s.walked.front) (classes_of (signs left)) at.0 at.1
            ∙ ap (front at.0.0) (scan_stops at.0.1 (classes_of (signs left)) ended
            (sym (meet_ends s.place at.0.1 at.2) ∙ s.may_end) (no_steps place ended trees left s at.0.1 at.2))),
      )

  remains_walk : (ended : Bool) (trees left : List TokenTree) → StopsAt place ended trees left → Remains left trees
  remains_walk ended trees left s =
      record { front = s.walked.front; read = s.walked.read; whole = s.walked.whole }

  pub table_reads : (trees : List TokenTree) (result : Result (Bor (List TokenTree)) (Bor (List TokenTree)))
      → MatchResult result (λ rest. StopsAt place true trees rest.now) (λ left. StopsAt place false trees left.now)
      → ReadsRule g trees result
  table_reads trees (Ok rest) s =
      let at = table_scan true trees rest.now s in record {
        events = at.0.0 ++ machine.closing at.0.1;
        found = at.1;
        remains = remains_walk true trees rest.now s;
      }
  table_reads trees (Err left) s =
      let at = table_scan false trees left.now s in
      record { stuck = at.1; remains = remains_walk false trees left.now s }
