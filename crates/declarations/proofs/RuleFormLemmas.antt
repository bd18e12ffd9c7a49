-- What a function that reads by a rule finds is the only piece of the rule there, and where it finds none, none is.
use Rattle.std.proofs.Common.{◌≡◌, refl, sym, ◌∙◌, ap, subst, ℕ, ◌+◌, ◌<◌, false, List, [], ◌∷◌}
use Rattle.std.proofs.Common.{◌++◌, Option}
use Rattle.std.proofs.Common.{Some, None, append-nil, length, arith}
use Rattle.std.proofs.lemmas.List.{append_cancel_left, append_cancel_right, length-append}
use Rattle.grammars.specs.Grammar.{Event}
use Rattle.grammars.specs.Machine as machine
use Rattle.grammars.specs.Deterministic.{IsStart}
use Rattle.grammars.specs.Find.{Found, Past, Stuck, find, scan}
use Rattle.grammars.proofs.PieceLemmas.{piece_stops, piece_walk, walk_piece}
use Rattle.grammars.proofs.ReadingLemmas.{found, goes_on, reading}
use Rattle.grammars.proofs.WholeLemmas.{Ended, scan_ended}
use Rattle.pm_stream.specs.declared.stream.TokenTree.{TokenTree}
use Rattle.declarations.specs.Reader.{Finds, Sticks, classes_in}
use Rattle.declarations.specs.Reading.{FaultAt, IsOnly, Reads, StopsBefore}
use Rattle.declarations.specs.Signs.{Sign, classes_of, pair_class, signs, tree_class, trees_of}
use Rattle.declarations.specs.Walk.{IsFront, IsWalk, Stops, walk}
use Rattle.item_tables.specs.declared.class.SignClass.{SignClass}
use Rattle.declarations.specs.rules.Names.{G, Label, Name}
use Rattle.declarations.specs.rules.Pieces.{ByRule}
use Rattle.declarations.specs.rules.Rules.{follows, rules}
use Rattle.declarations.proofs.ReadingLemmas.{classes-append, same_front}
use Rattle.declarations.proofs.RuleLemmas.{well_formed}
use Rattle.declarations.proofs.WalkLemmas.{no_front, none_stands, not_found, not_found-end, one_walk}
use Rattle.declarations.proofs.SignLemmas.{pair_signs, signs-cons}

-- ---- a sign has at least one tree

pub first_some : (trees : List TokenTree) (sign : Sign) (after : List Sign) → signs trees ≡ sign ∷ after
    → 0 < length sign.trees
first_some [] sign after read = cc
first_some (first ∷ []) sign after read =
    let one : Sign = record { class = tree_class first; trees = first ∷ [] } in
    let is : one ≡ sign = cc in
    subst (λ s. 0 < length s.trees) is (omega arith)
first_some (first ∷ second ∷ rest) sign after read =
    elim (pair_class first second) as (λ o. pair_signs o first second rest ≡ sign ∷ after → 0 < length sign.trees) [
      | None ↦ λ h.
          let one : Sign = record { class = tree_class first; trees = first ∷ [] } in
          let is : one ≡ sign = cc in
          subst (λ s. 0 < length s.trees) is (omega arith)
      | Some class ↦ λ h.
          let two : Sign = record { class = class; trees = first ∷ second ∷ [] } in
          let is : two ≡ sign = cc in
          subst (λ s. 0 < length s.trees) is (omega arith)
    ] (sym (signs-cons first second rest) ∙ read)

-- ---- the machine as a walk

-- the stack after a step
abbrev stack_of : machine.Transition SignClass Name Label → Option (List G)
stack_of None = None
stack_of (Some taken) = Some taken.1

-- the steps of the machine, without events
abbrev step : List G → SignClass → Option (List G)
step k c = stack_of (machine.step rules k c)

stack_before : (events : List (Event SignClass Label)) (s : machine.Transition SignClass Name Label)
    → stack_of (machine.prepend_events events s) ≡ stack_of s
stack_before events None = refl
stack_before events (Some taken) = refl

walk_same : (k : List G) (cs : List SignClass) → walk step k cs ≡ stack_of (machine.walk rules k cs)
walk_same k [] = refl
walk_same k (c ∷ cs) = go (machine.step rules k c) (λ j. walk_same j cs)
  where
    go : (s : machine.Transition SignClass Name Label)
        → ((j : List G) → walk step j cs ≡ stack_of (machine.walk rules j cs))
        → (elim (stack_of s) as (λ x. Option (List G)) [ None ↦ None | Some next ↦ walk step next cs ])
        ≡ stack_of (elim s as (λ x. machine.Transition SignClass Name Label) [
          | None ↦ None
          | Some taken ↦ machine.prepend_events taken.0 (machine.walk rules taken.1 cs)
        ])
    go None f = refl
    go (Some taken) f = f taken.1 ∙ sym (stack_before taken.0 (machine.walk rules taken.1 cs))

stop_here : (k : List G) (rest : List SignClass)
    → ((c : SignClass) (more : List SignClass) → rest ≡ c ∷ more → machine.step rules k c ≡ None)
    → Stops step k rest
stop_here k [] f = tt
stop_here k (c ∷ rest) f = ap stack_of (f c rest refl)

-- ---- pieces of a rule that a reading can begin with

module _ (g : G) (start : IsStart rules follows (g ∷ [])) where
  abbrev Form : List SignClass → List SignClass → Type 0
  Form = IsWalk step machine.ends (g ∷ [])

  piece_form : (piece rest : List SignClass) → ByRule g piece rest → Form piece rest
  piece_form piece rest p =
      let w = piece_walk rules follows well_formed (g ∷ []) start piece rest p in
      record {
        last = w.taken.1;
        walks = walk_same (g ∷ []) piece ∙ ap stack_of w.walks;
        ended = w.ended;
        stops = stop_here w.taken.1 rest (piece_stops rules follows well_formed (g ∷ []) start piece rest p w);
      }

  -- what is found is a piece of the rule
  found_piece : (cs piece rest : List SignClass) (events : List (Event SignClass Label))
      → find rules g cs ≡ Past events rest
      → cs ≡ piece ++ rest
      → ByRule g piece rest
  unfolding find
  found_piece cs piece rest events e whole =
      let s = subst (Ended rules (g ∷ []) cs) e (scan_ended rules (g ∷ []) cs) in
      let same : s.0.before ≡ piece = append_cancel_right s.0.before piece rest (sym s.0.whole ∙ whole) in
      subst (λ p. ByRule g p rest) same
      (walk_piece rules follows well_formed (g ∷ []) start s.0.before rest
      (record { taken = s.0.taken; walks = s.0.walks; ended = s.1 }) s.0.stops)

  -- ---- what is read

  remaining_classes : (trees rest : List TokenTree) (front : List Sign) → signs trees ≡ front ++ signs rest
      → classes_in trees ≡ classes_of front ++ classes_in rest
  unfolding classes_in
  remaining_classes trees rest front read = ap classes_of read ∙ classes-append front (signs rest)

  pub found_reads : (trees part rest : List TokenTree) → Finds g trees rest → trees ≡ part ++ rest
      → Reads (ByRule g) trees part rest
  unfolding classes_in
  found_reads trees part rest f whole = record {
    piece = f.remains.front;
    read = f.remains.read;
    taken = append_cancel_right part (trees_of f.remains.front) rest (sym whole ∙ f.remains.whole);
    whole = whole;
    stands = found_piece (classes_in trees) (classes_of f.remains.front) (classes_in rest) f.events f.found
        (remaining_classes trees rest f.remains.front f.remains.read);
  }

  pub only_reading : (trees part rest : List TokenTree) → Reads (ByRule g) trees part rest
      → IsOnly (ByRule g) trees part rest
  only_reading trees part rest here part2 rest2 there =
      let same : here.piece ++ signs rest ≡ there.piece ++ signs rest2 = sym here.read ∙ there.read in
      let classes = one_walk step machine.ends (g ∷ []) (classes_of here.piece) (classes_of (signs rest))
      (classes_of there.piece) (classes_of (signs rest2)) (piece_form _ _ here.stands) (piece_form _ _ there.stands)
      (sym (classes-append here.piece (signs rest)) ∙ ap classes_of same
      ∙ classes-append there.piece (signs rest2)) in
      let pieces : here.piece ≡ there.piece =
      same_front here.piece there.piece (signs rest) (signs rest2) same classes.0 in
      let parts : part2 ≡ part = there.taken ∙ ap trees_of (sym pieces) ∙ sym here.taken in
      let rests : rest2 ≡ rest =
      append_cancel_left part rest2 rest (ap (λ p. p ++ rest2) (sym parts) ∙ sym there.whole ∙ here.whole) in
      (parts, rests)

  -- what is found is the only part that can be read
  pub found_only : (trees part rest : List TokenTree) → Finds g trees rest → trees ≡ part ++ rest
      → IsOnly (ByRule g) trees part rest
  found_only trees part rest f whole =
      only_reading trees part rest (found_reads trees part rest f whole)

  -- ---- when nothing can be read

  -- other signs can complete the prefix that a walk took
  front_goes : (front : List SignClass) (taken : List (Event SignClass Label) × List G)
      → machine.walk rules (g ∷ []) front ≡ Some taken
      → IsFront (ByRule g) front
  front_goes front taken walks =
      let goes = goes_on rules follows well_formed (g ∷ []) start.deterministic start.productive front taken walks in
      record {
        more = goes.1;
        piece = front ++ goes.1;
        rest = [];
        whole = sym (append-nil (front ++ goes.1));
        stands = record {
          events = goes.0;
          reading = reading rules follows well_formed (g ∷ []) start.deterministic start.productive (front ++ goes.1)
              goes.0
              (found rules follows well_formed (g ∷ []) start.deterministic start.productive (front ++ goes.1) goes.0
              goes.2 goes.3);
          longest = λ c more e. cc;
        };
      }

  no_longer : (front left : List SignClass) (last : List G) → walk step (g ∷ []) front ≡ Some last
      → machine.ends last ≡ false → Stops step last left
      → StopsBefore (ByRule g) front left
  no_longer front [] last walks wrong stops = tt
  no_longer front (c ∷ left) last walks wrong stops = λ goes.
      no_front step machine.ends (g ∷ []) last front c walks wrong stops
      (record {
        more = goes.more;
        piece = goes.piece;
        rest = goes.rest;
        whole = goes.whole;
        stands = piece_form goes.piece goes.rest goes.stands;
      })

  nothing_read : (front left : List SignClass) (last : List G) → walk step (g ∷ []) front ≡ Some last
      → machine.ends last ≡ false → Stops step last left
      → (piece rest : List SignClass) → front ++ left ≡ piece ++ rest → ByRule g piece rest → ⊥
  nothing_read front [] last walks wrong stops piece rest whole stands =
      none_stands step machine.ends (g ∷ []) front piece rest
      (not_found-end step machine.ends (g ∷ []) last front walks wrong) (sym (append-nil front) ∙ whole)
      (piece_form piece rest stands)
  nothing_read front (c ∷ left) last walks wrong stops piece rest whole stands =
      none_stands step machine.ends (g ∷ []) (front ++ c ∷ left) piece rest
      (not_found step machine.ends (g ∷ []) last front c left walks wrong stops) whole (piece_form piece rest stands)

  pub stuck_fault : (trees left : List TokenTree) (at : ℕ) → Sticks g trees left → at + length left ≡ length trees
      → FaultAt (ByRule g) trees at
  unfolding find classes_in
  stuck_fault trees left at f counted =
      let sum = ap length f.remains.whole ∙ length-append (trees_of f.remains.front) left in
      let all = remaining_classes trees left f.remains.front f.remains.read in
      let s = subst (Ended rules (g ∷ []) (classes_in trees)) f.stuck (scan_ended rules (g ∷ []) (classes_in trees)) in
      let same : s.0.before ≡ classes_of f.remains.front =
      append_cancel_right s.0.before (classes_of f.remains.front) (classes_in left) (sym s.0.whole ∙ all) in
      let walks : machine.walk rules (g ∷ []) (classes_of f.remains.front) ≡ Some s.0.taken =
      ap (machine.walk rules (g ∷ [])) (sym same) ∙ s.0.walks in
      let stacks : walk step (g ∷ []) (classes_of f.remains.front) ≡ Some s.0.taken.1 =
      walk_same (g ∷ []) (classes_of f.remains.front) ∙ ap stack_of walks in
      let stops = stop_here s.0.taken.1 (classes_in left) s.0.stops in
      record {
        front = f.remains.front;
        left = left;
        read = f.remains.read;
        whole = f.remains.whole;
        counted = omega arith;
        goes_on = front_goes (classes_of f.remains.front) s.0.taken walks;
        longest = no_longer (classes_of f.remains.front) (classes_in left) s.0.taken.1 stacks s.1 stops;
        nothing = λ part rest reads.
            nothing_read (classes_of f.remains.front) (classes_in left) s.0.taken.1 stacks s.1 stops
            (classes_of reads.piece) (classes_of (signs rest))
            (sym all ∙ ap classes_of reads.read ∙ classes-append reads.piece (signs rest)) reads.stands;
      }

  -- the rule finds each of its pieces
  pub piece_found : (cs piece rest : List SignClass) → cs ≡ piece ++ rest → ByRule g piece rest
      → (events : List (Event SignClass Label)) × (find rules g cs ≡ Past events rest)
  unfolding find
  piece_found cs piece rest whole p = go (scan rules (g ∷ []) cs) refl (scan_ended rules (g ∷ []) cs)
    where
      go : (f : Found SignClass Label) → scan rules (g ∷ []) cs ≡ f → Ended rules (g ∷ []) cs f
          → (events : List (Event SignClass Label)) × (scan rules (g ∷ []) cs ≡ Past events rest)
      go (Past events left) e s =
          let other = found_piece cs s.0.before left events e s.0.whole in
          let same : s.0.before ++ left ≡ piece ++ rest = sym s.0.whole ∙ whole in
          let pieces = one_walk step machine.ends (g ∷ []) s.0.before left piece rest
          (piece_form s.0.before left other) (piece_form piece rest p) same in
          let lefts : left ≡ rest =
          append_cancel_left piece left rest (ap (λ x. x ++ left) (sym pieces.0) ∙ same) in
          (events, e ∙ ap (Past events) lefts)
      go (Stuck left) e s =
          absurd (nothing_read s.0.before left s.0.taken.1
          (walk_same (g ∷ []) s.0.before ∙ ap stack_of s.0.walks) s.1 (stop_here s.0.taken.1 left s.0.stops) piece rest
          (sym s.0.whole ∙ whole) p)

  -- where the rule is stuck, it reads nothing
  pub none_sticks : (trees part rest left : List TokenTree) → Sticks g trees left → Reads (ByRule g) trees part rest → ⊥
  none_sticks trees part rest left s reads =
      let sum = ap length s.remains.whole ∙ length-append (trees_of s.remains.front) left in
      let f = stuck_fault trees left (length (trees_of s.remains.front)) s (omega arith) in
      f.nothing part rest reads

  -- ---- a part has at least one tree

  piece_some : (trees rest : List TokenTree) (piece : List Sign) → signs trees ≡ piece ++ signs rest
      → ByRule g (classes_of piece) (classes_of (signs rest)) → machine.is_nullable g ≡ false
      → 0 < length (trees_of piece)
  piece_some trees rest [] read p h =
      let ran = found rules follows well_formed (g ∷ []) start.deterministic start.productive [] p.events
      p.reading.reads p.reading.whole in
      let none : machine.run rules (g ∷ []) [] ≡ None = rw h refl in
      let both : Some p.events ≡ None = sym ran ∙ none in
      absurd cc
  piece_some trees rest (sign ∷ piece) read p h =
      let some = first_some trees sign (piece ++ signs rest) read in
      let all = length-append sign.trees (trees_of piece) in
      omega arith

  -- what is read by a rule that reads at least one sign has at least one tree
  pub rule_fewer : (trees part rest : List TokenTree) → machine.is_nullable g ≡ false
      → Reads (ByRule g) trees part rest
      → length rest < length trees
  rule_fewer trees part rest h reads =
      let some = piece_some trees rest reads.piece reads.read reads.stands h in
      let whole = ap length reads.whole ∙ length-append part rest in
      let taken = ap length reads.taken in
      omega arith
