-- Trees that a rule derives. Such trees are built from their parts, whatever comes after them.
use Rattle.std.proofs.Common.{◌≡◌, refl, sym, ◌∙◌, ap, subst, Bool, true, false, List, [], ◌∷◌, ◌++◌, Some, None}
use Rattle.std.proofs.Common.{append-nil, if◌then◌else◌}
use Rattle.grammars.specs.Deterministic.{IsStart}
use Rattle.grammars.specs.Find.{Found, Past, Stuck, find, front, scan}
use Rattle.grammars.specs.Grammar.{Derives, Either, Event, Listed, Mark, Marked, Nothing, One, Sign, Then, To, both}
use Rattle.grammars.specs.Grammar.{element, empty, first, last, mark, nothing, second, sign, signs_of, to}
use Rattle.grammars.specs.Machine.{Transition, closing, ends, prepend_events, run, step, walk}
use Rattle.grammars.proofs.CompleteLemmas.{run_complete}
use Rattle.grammars.proofs.FindLemmas.{front_front, scan_step}
use Rattle.grammars.proofs.PieceLemmas.{Walks, run_walks}
use Rattle.grammars.proofs.SoundLemmas.{signs_append}
use Rattle.pm_stream.specs.declared.stream.TokenTree.{TokenTree}
use Rattle.item_tables.specs.Classes.{is}
use Rattle.item_tables.specs.declared.class.SignClass.{SignClass}
use Rattle.declarations.specs.Found.{bare, finds}
use Rattle.declarations.specs.Reader.{Finds, classes_in}
use Rattle.declarations.specs.Reading.{Reads}
use Rattle.declarations.specs.Signs.{classes_of, signs}
use Rattle.declarations.specs.rules.Names.{G, Label, Name, one}
use Rattle.declarations.specs.rules.Pieces.{ByRule}
use Rattle.declarations.specs.rules.Rules.{follows, rules}
use Rattle.declarations.proofs.FieldLemmas.{reads_alone}
use Rattle.declarations.proofs.FoundLemmas.{bind, finds_lacks, finds_then}
use Rattle.declarations.proofs.ReadingLemmas.{classes-append}
use Rattle.declarations.proofs.RuleLemmas.{well_formed}
use Rattle.declarations.proofs.SignLemmas.{trees_of-signs}
use Rattle.item_headers.proofs.SeamLemmas.{Calm, calm_append, seam}
use Rattle.item_headers.proofs.CalmLemmas.{Quiet, ends_quietly, quiet, quiet_calm}

-- the rule derives the signs of the trees, the last of which is read as it is, whatever comes after it
pub record Derived (g : G) (trees : List TokenTree) : Type 0 where
  pub events : List (Event SignClass Label)
  pub derives : Derives rules g events
  pub same : signs_of events ≡ classes_in trees
  pub calm : Calm (signs trees)

pub classes_seam : (a b : List TokenTree) → Calm (signs a) → classes_in (a ++ b) ≡ classes_in a ++ classes_in b
unfolding classes_in
classes_seam a b calm = ap classes_of (seam a b calm) ∙ classes-append (signs a) (signs b)

calm_seam : (a b : List TokenTree) → Calm (signs a) → Calm (signs b) → Calm (signs (a ++ b))
calm_seam a b x y = subst Calm (sym (seam a b x)) (calm_append (signs a) (signs b) x y)

-- ---- word by word

pub derived_both : (g h : G) (a b : List TokenTree) → Derived g a → Derived h b → Derived (Then g h) (a ++ b)
derived_both g h a b x y = record {
  events = x.events ++ y.events;
  derives = both x.derives y.derives;
  same = signs_append x.events y.events
      ∙ (ap (λ c. c ++ signs_of y.events) x.same ∙ (ap (λ c. classes_in a ++ c) y.same
      ∙ sym (classes_seam a b x.calm)));
  calm = calm_seam a b x.calm y.calm;
}

pub derived_mark : (l : Label) (g : G) (a : List TokenTree) → Derived g a → Derived (Then (Mark l) g) a
derived_mark l g a x = record {
  events = Marked l ∷ x.events;
  derives = both (mark l) x.derives;
  same = x.same;
  calm = x.calm;
}

pub derived_sign : (passes : SignClass → Bool) (a : List TokenTree) (c : SignClass) → classes_in a ≡ c ∷ []
    → Calm (signs a) → passes c ≡ true
    → Derived (Sign passes) a
derived_sign passes a c is calm h =
    record { events = One c ∷ []; derives = sign c h; same = sym is; calm = calm }

pub derived_first : (g h : G) (a : List TokenTree) → Derived g a → Derived (Either g h) a
derived_first g h a x = record { events = x.events; derives = first x.derives; same = x.same; calm = x.calm }

pub derived_second : (g h : G) (a : List TokenTree) → Derived h a → Derived (Either g h) a
derived_second g h a x = record { events = x.events; derives = second x.derives; same = x.same; calm = x.calm }

pub derived_nothing : Derived Nothing []
unfolding classes_in
derived_nothing = record { events = []; derives = nothing; same = refl; calm = tt }

pub derived_to : (passes : SignClass → Bool) (n : Name) (a b : List TokenTree) (c : SignClass)
    → classes_in a ≡ c ∷ [] → Calm (signs a) → passes c ≡ true → Derived (rules n) b
    → Derived (To passes n) (a ++ b)
derived_to passes n a b c is calm h x = record {
  events = One c ∷ x.events;
  derives = to c h x.derives;
  same = ap (λ cs. c ∷ cs) x.same
      ∙ (ap (λ cs. cs ++ classes_in b) (sym is) ∙ sym (classes_seam a b calm));
  calm = calm_seam a b calm x.calm;
}

pub derived_empty : (g s : G) → Derived (Listed g s) []
unfolding classes_in
derived_empty g s = record { events = []; derives = empty; same = refl; calm = tt }

pub derived_last : (g s : G) (a : List TokenTree) → Derived g a → Derived (Listed g s) a
derived_last g s a x = record { events = x.events; derives = last x.derives; same = x.same; calm = x.calm }

pub derived_element : (g s : G) (a b d : List TokenTree) → Derived g a → Derived s b → Derived (Listed g s) d
    → Derived (Listed g s) (a ++ (b ++ d))
derived_element g s a b d x y z = record {
  events = x.events ++ (y.events ++ z.events);
  derives = element x.derives y.derives z.derives;
  same = signs_append x.events (y.events ++ z.events)
      ∙ (ap (λ c. signs_of x.events ++ c) (signs_append y.events z.events)
      ∙ (ap (λ c. c ++ (signs_of y.events ++ signs_of z.events)) x.same
      ∙ (ap (λ c. classes_in a ++ (c ++ signs_of z.events)) y.same
      ∙ (ap (λ c. classes_in a ++ (classes_in b ++ c)) z.same
      ∙ (ap (λ c. classes_in a ++ c) (sym (classes_seam b d y.calm)) ∙ sym (classes_seam a (b ++ d) x.calm))))));
  calm = calm_seam a (b ++ d) x.calm (calm_seam b d y.calm z.calm);
}

-- ---- parts that are read

-- a part that a rule reads is read alone, and the rule derives it
pub derived_part : (g : G) → ends_quietly g ≡ true → (trees part rest : List TokenTree)
    → Reads (ByRule g) trees part rest
    → Derived g part
unfolding classes_in
derived_part g ends trees part rest reads =
    let alone = reads_alone g trees part rest reads in
    let whole : signs part ≡ alone.piece = alone.read ∙ append-nil alone.piece in
    let p = alone.stands.0 in
    let r = p.reading.reads in
    let front_is : r.0 ≡ p.events = sym (append-nil r.0) ∙ (ap (λ e. r.0 ++ e) (sym r.4) ∙ sym r.2) in
    let derives = subst (λ e. Derives rules g e) front_is r.3 in
    record {
      events = p.events;
      derives = derives;
      same = p.reading.whole ∙ ap classes_of (sym whole);
      calm = subst Calm (sym whole)
          (quiet_calm alone.piece (subst Quiet p.reading.whole (quiet g p.events ends derives)));
    }

-- ---- what is derived is found

front_nothing : (f : Found SignClass Label) → f ≡ front [] f
front_nothing (Past events rest) = refl
front_nothing (Stuck left) = refl

-- after a walk the rest is scanned
scan_walk : (k : List G) (piece : List SignClass) (taken : List (Event SignClass Label) × List G)
    → walk rules k piece ≡ Some taken → (rest : List SignClass)
    → scan rules k (piece ++ rest) ≡ front taken.0 (scan rules taken.1 rest)
scan_walk k [] taken e rest =
    let same : ([], k) ≡ taken = cc in
    subst (λ (t : List (Event SignClass Label) × List G). scan rules k rest ≡ front t.0 (scan rules t.1 rest)) same
    (front_nothing (scan rules k rest))
scan_walk k (c ∷ piece) taken e rest = go (step rules k c) refl e (λ j t h. scan_walk j piece t h rest)
  where
    later : (t : List (Event SignClass Label) × List G) → step rules k c ≡ Some t
        → (o : Transition SignClass Name Label) → prepend_events t.0 o ≡ Some taken
        → ((u : List (Event SignClass Label) × List G) → o ≡ Some u
        → scan rules t.1 (piece ++ rest) ≡ front u.0 (scan rules u.1 rest))
        → scan rules k (c ∷ (piece ++ rest)) ≡ front taken.0 (scan rules taken.1 rest)
    later t h None e f = absurd cc
    later t h (Some u) e f =
        let same : (t.0 ++ u.0, u.1) ≡ taken = cc in
        scan_step rules k c (piece ++ rest) (Some t) h
        ∙ (ap (front t.0) (f u refl) ∙ (front_front t.0 u.0 (scan rules u.1 rest)
        ∙ ap (λ (x : List (Event SignClass Label) × List G). front x.0 (scan rules x.1 rest)) same))

    go : (s : Transition SignClass Name Label) → step rules k c ≡ s
        → (elim s as (λ y. Transition SignClass Name Label) [
          | None ↦ None
          | Some t ↦ prepend_events t.0 (walk rules t.1 piece)
        ]) ≡ Some taken
        → ((j : List G) (t : List (Event SignClass Label) × List G) → walk rules j piece ≡ Some t
        → scan rules j (piece ++ rest) ≡ front t.0 (scan rules t.1 rest))
        → scan rules k (c ∷ (piece ++ rest)) ≡ front taken.0 (scan rules taken.1 rest)
    go None h e f = absurd cc
    go (Some t) h e f = later t h (walk rules t.1 piece) e (f t.1)

-- what the machine reads it finds
run_scan : (k : List G) (cs : List SignClass) (events : List (Event SignClass Label)) → run rules k cs ≡ Some events
    → bare (scan rules k cs) ≡ Past [] []
run_scan k cs events e =
    let w = run_walks rules k cs events e in
    ap (λ s. bare (scan rules k s)) (sym (append-nil cs))
    ∙ (ap bare (scan_walk k cs w.taken w.walks [])
    ∙ ap (λ b. bare (front w.taken.0 (if b then Past (closing w.taken.1) [] else Stuck []))) w.ended)

-- after a walk to where the signs may end, and before a sign that is no step, the rule is found
pub walk_finds : (g : G) (piece : List SignClass) (w : Walks rules (g ∷ []) piece) (c : SignClass)
    (rest : List SignClass) → step rules w.taken.1 c ≡ None
    → find rules g (piece ++ c ∷ rest) ≡ Past (w.taken.0 ++ closing w.taken.1) (c ∷ rest)
unfolding find
walk_finds g piece w c rest stop =
    scan_walk (g ∷ []) piece w.taken w.walks (c ∷ rest)
    ∙ (ap (front w.taken.0) (scan_step rules w.taken.1 c rest None stop)
    ∙ ap (λ b. front w.taken.0 (if b then Past (closing w.taken.1) (c ∷ rest) else Stuck (c ∷ rest))) w.ended)

-- the rule finds what it derives, if a sign comes after it that may come there
module _ (g : G) (c : SignClass) (start : IsStart rules follows (g ∷ []))
    (follow : IsStart rules follows (Then g (one c) ∷ [])) (self : is c c ≡ true) where
  abbrev with_next : G
  with_next = Then g (one c)

  -- both are found
  next_found : (events : List (Event SignClass Label)) → Derives rules g events
      → finds with_next (signs_of events ++ c ∷ []) ≡ Past [] []
  unfolding find
  next_found events d =
      let all : List (Event SignClass Label) = events ++ One c ∷ [] in
      let ran = run_complete rules follows well_formed.deterministic (with_next ∷ []) all follow.deterministic
      (all, [], sym (append-nil all), both d (sign c self), refl) in
      ap (λ s. bare (scan rules (with_next ∷ []) s)) (sym (signs_append events (One c ∷ [])))
      ∙ run_scan (with_next ∷ []) (signs_of all) all ran

  -- the rule cannot go on with the sign
  next_stops : (events : List (Event SignClass Label)) → Derives rules g events
      → (w : Walks rules (g ∷ []) (signs_of events)) → step rules w.taken.1 c ≡ None
  unfolding find
  next_stops events d w = go (step rules w.taken.1 c) refl
    where
      both_found : bind (finds g (signs_of events ++ c ∷ [])) (finds (one c)) ≡ Past [] []
      both_found = sym (finds_then g (one c) (signs_of events ++ c ∷ [])) ∙ next_found events d

      scanned : finds g (signs_of events ++ c ∷ []) ≡ bare (front w.taken.0 (scan rules w.taken.1 (c ∷ [])))
      scanned = ap bare (scan_walk (g ∷ []) (signs_of events) w.taken w.walks (c ∷ []))

      wrong : (t : List (Event SignClass Label) × List G) (b : Bool)
          → bind (bare (front w.taken.0 (front t.0 (if b then Past (closing t.1) [] else Stuck [])))) (finds (one c))
          ≡ Past [] []
          → ⊥
      wrong t true h = let none = sym (finds_lacks (one c) [] refl refl) ∙ h in absurd cc
      wrong t false h = absurd cc

      go : (s : Transition SignClass Name Label) → step rules w.taken.1 c ≡ s → s ≡ None
      go None h = refl
      go (Some t) h =
          absurd (wrong t (ends t.1)
          (ap (λ x. bind (bare (front w.taken.0 x)) (finds (one c)))
          (sym (scan_step rules w.taken.1 c [] (Some t) h))
          ∙ (ap (λ x. bind x (finds (one c))) (sym scanned) ∙ both_found)))

  next_finds : (events : List (Event SignClass Label)) → Derives rules g events → (rest : List SignClass)
      → (found : List (Event SignClass Label)) × (find rules g (signs_of events ++ c ∷ rest) ≡ Past found (c ∷ rest))
  next_finds events d rest =
      let ran = run_complete rules follows well_formed.deterministic (g ∷ []) events start.deterministic
      (events, [], sym (append-nil events), d, refl) in
      let w = run_walks rules (g ∷ []) (signs_of events) events ran in (
        w.taken.0 ++ closing w.taken.1,
        walk_finds g (signs_of events) w c rest (next_stops events d w),
      )

  -- in trees
  pub derived_finds : (part rest : List TokenTree) (more : List SignClass) → Derived g part
      → classes_in rest ≡ c ∷ more
      → Finds g (part ++ rest) rest
  derived_finds part rest more x is =
      let found = next_finds x.events x.derives more in
      record {
        events = found.0;
        found = ap (find rules g)
            (classes_seam part rest x.calm ∙ (ap (λ cs. cs ++ classes_in rest) (sym x.same)
            ∙ ap (λ cs. signs_of x.events ++ cs) is))
            ∙ (found.1 ∙ ap (Past found.0) (sym is));
        remains = record {
          front = signs part;
          read = seam part rest x.calm;
          whole = ap (λ ts. ts ++ rest) (sym (trees_of-signs part));
        };
      }
