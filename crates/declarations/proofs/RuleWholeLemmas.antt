-- What a function that reads all the trees by a rule promises.
use Rattle.std.proofs.Common.{◌≡◌, refl, sym, ◌∙◌, ap, subst, ℕ, ◌+◌, List, [], ◌∷◌, ◌++◌, append-nil, length, arith}
use Rattle.std.proofs.lemmas.List.{append_cancel_right, length-append}
use Rattle.grammars.specs.Deterministic.{IsStart}
use Rattle.grammars.specs.Find.{find}
use Rattle.grammars.specs.Reading as machine
use Rattle.grammars.specs.Reading.{GoesOn}
use Rattle.grammars.proofs.ReadingLemmas.{found, reading}
use Rattle.grammars.proofs.WholeLemmas as scans
use Rattle.pm_stream.specs.declared.stream.TokenTree.{TokenTree}
use Rattle.declarations.specs.Reader.{Finds, Remains, Sticks, classes_in}
use Rattle.declarations.specs.Reading.{FaultAt, StopsBefore}
use Rattle.declarations.specs.Signs.{classes_of, signs, trees_of}
use Rattle.declarations.specs.Walk.{IsFront}
use Rattle.declarations.specs.Whole.{IsWhole, ReadsAll}
use Rattle.item_tables.specs.declared.class.SignClass.{SignClass}
use Rattle.declarations.specs.rules.Names.{G}
use Rattle.declarations.specs.rules.Pieces.{ByRule}
use Rattle.declarations.specs.rules.Rules.{follows, rules}
use Rattle.declarations.proofs.ReadingLemmas.{classes-append}
use Rattle.declarations.proofs.RuleFormLemmas.{found_reads}
use Rattle.declarations.proofs.RuleLemmas.{well_formed}
use Rattle.declarations.proofs.SignLemmas.{no_signs}

module _ (g : G) (start : IsStart rules follows (g ∷ [])) where
  -- what is found of all trees
  pub whole_read : (trees rest : List TokenTree) → Finds g trees rest → length rest ≡ 0 → ReadsAll (ByRule g) trees
  whole_read trees [] f none =
      let here = found_reads g start trees trees [] f (sym (append-nil trees)) in record {
        piece = here.piece;
        read = here.read;
        taken = here.taken;
        whole = here.whole;
        stands = (here.stands, refl);
      }
  whole_read trees (tree ∷ rest) f none = absurd (omega arith)

  -- ---- faults

  -- signs that can go on can go on to a whole piece
  pub goes_whole : (front : List SignClass) → GoesOn rules (g ∷ []) front → IsFront (IsWhole (ByRule g)) front
  goes_whole front goes = record {
    more = goes.1;
    piece = front ++ goes.1;
    rest = [];
    whole = sym (append-nil (front ++ goes.1));
    stands = (
      record {
        events = goes.0;
        reading = reading rules follows well_formed (g ∷ []) start.deterministic start.productive (front ++ goes.1)
            goes.0
            (found rules follows well_formed (g ∷ []) start.deterministic start.productive (front ++ goes.1) goes.0
            goes.2 goes.3);
        longest = λ c more e. cc;
      },
      refl,
    );
  }

  -- and what is the front of a whole piece can go on
  pub whole_goes : (front : List SignClass) → IsFront (IsWhole (ByRule g)) front → GoesOn rules (g ∷ []) front
  whole_goes front goes =
      let p = goes.stands.0 in (
        p.events,
        goes.more,
        p.reading.reads,
        p.reading.whole
            ∙ (sym (append-nil goes.piece)
            ∙ (ap (λ r. goes.piece ++ r) (sym goes.stands.1) ∙ sym goes.whole)),
      )

  pub no_longer : (front left : List SignClass)
      → ((c : SignClass) (more : List SignClass) → left ≡ c ∷ more → GoesOn rules (g ∷ []) (front ++ c ∷ []) → ⊥)
      → StopsBefore (IsWhole (ByRule g)) front left
  no_longer front [] f = tt
  no_longer front (c ∷ left) f = λ goes. f c left refl (whole_goes (front ++ c ∷ []) goes)

  -- the fault of the signs is the fault of the trees
  fault_of : (trees left : List TokenTree) (at : ℕ) → Remains left trees → (before : List SignClass)
      → machine.FaultAt rules (g ∷ []) (classes_in trees) before (classes_in left)
      → at + length left ≡ length trees
      → FaultAt (IsWhole (ByRule g)) trees at
  unfolding classes_in
  fault_of trees left at remains before f counted =
      let sum = ap length remains.whole ∙ length-append (trees_of remains.front) left in
      let all : classes_in trees ≡ classes_of remains.front ++ classes_in left =
      ap classes_of remains.read ∙ classes-append remains.front (signs left) in
      let same : before ≡ classes_of remains.front =
      append_cancel_right before (classes_of remains.front) (classes_in left) (sym f.whole ∙ all) in
      record {
        front = remains.front;
        left = left;
        read = remains.read;
        whole = remains.whole;
        counted = omega arith;
        goes_on = goes_whole (classes_of remains.front) (subst (GoesOn rules (g ∷ [])) same f.goes_on);
        longest = no_longer (classes_of remains.front) (classes_in left)
            (λ c more e goes.
            f.longest c more e (subst (λ w. GoesOn rules (g ∷ []) (w ++ c ∷ [])) (sym same) goes));
        nothing = λ part rest reads.
            let p = reads.stands.0 in
            f.nothing p.events p.reading.reads
            (p.reading.whole
            ∙ (sym (append-nil (classes_of reads.piece))
            ∙ (ap (λ r. classes_of reads.piece ++ r) (sym reads.stands.1)
            ∙ (sym (classes-append reads.piece (signs rest)) ∙ ap classes_of (sym reads.read)))));
      }

  -- nothing is found
  pub stuck_whole : (trees left : List TokenTree) (at : ℕ) → Sticks g trees left → at + length left ≡ length trees
      → FaultAt (IsWhole (ByRule g)) trees at
  unfolding find
  stuck_whole trees left at f counted =
      let at_signs = scans.stuck_fault rules follows well_formed (g ∷ []) start.deterministic start.productive
      (classes_in trees) (classes_in left) f.stuck in
      fault_of trees left at f.remains at_signs.0 at_signs.1 counted

  pub some_left : (rest : List TokenTree) → (length rest ≡ 0 → ⊥) → classes_in rest ≡ [] → ⊥
  unfolding classes_in
  some_left rest some none = some (ap length (no_signs rest none))

  -- trees are left over
  pub left_whole : (trees rest : List TokenTree) (at : ℕ) → Finds g trees rest → (length rest ≡ 0 → ⊥)
      → at + length rest ≡ length trees
      → FaultAt (IsWhole (ByRule g)) trees at
  unfolding find
  left_whole trees rest at f some counted =
      let at_signs = scans.rest_fault rules follows well_formed (g ∷ []) start.deterministic start.productive
      (classes_in trees) (classes_in rest) f.events f.found (some_left rest some) in
      fault_of trees rest at f.remains at_signs.0 at_signs.1 counted
