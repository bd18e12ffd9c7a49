-- The set of signs at the error of a rule is exact.
use Rattle.std.proofs.Common.{◌≡◌, refl, sym, ◌∙◌, ap, subst, ℕ, Bool, true, false, List, [], ◌∷◌, ◌++◌}
use Rattle.std.proofs.Common.{Some, None, is_some, length, arith, ◌-◌, ◌+◌, append-nil, append_assoc}
use Rattle.std.proofs.lemmas.List.{length-append}
use Rattle.grammars.specs.Deterministic.{IsStart}
use Rattle.grammars.specs.Grammar.{Event}
use Rattle.grammars.specs.Machine as machine
use Rattle.grammars.specs.Next as signs_next
use Rattle.grammars.specs.Next.{may_end, may_follow}
use Rattle.grammars.specs.Reading.{GoesOn}
use Rattle.grammars.proofs.NextLemmas.{after, ends_reading, goes_on_next, next_goes_on, reading_ends, walk_append}
use Rattle.grammars.proofs.NextWordLemmas as laws
use Rattle.grammars.proofs.PieceLemmas.{run_walks}
use Rattle.grammars.proofs.ReadingLemmas.{found}
use Rattle.pm_stream.specs.declared.stream.TokenTree.{TokenTree}
use Rattle.declarations.specs.Expected.{Expects, holds, holds_end}
use Rattle.declarations.specs.Explore.{Explores, ExpectsWhole}
use Rattle.declarations.specs.Reader.{Finds, Sticks, classes_in}
use Rattle.declarations.specs.Reading.{FaultAt, Reads, StopsBefore}
use Rattle.declarations.specs.Signs.{classes_of, signs}
use Rattle.declarations.specs.Walk.{IsFront}
use Rattle.declarations.specs.Whole.{IsWhole}
use Rattle.item_tables.specs.declared.class.SignClass.{SignClass}
use Rattle.declarations.specs.declared.expected.Expected.{Expected}
use Rattle.declarations.specs.rules.Names.{G, Label, Name}
use Rattle.declarations.specs.rules.Pieces.{ByRule}
use Rattle.declarations.specs.rules.Rules.{follows, rules}
use Rattle.declarations.proofs.ReadingLemmas.{classes-append}
use Rattle.declarations.proofs.RuleLemmas.{well_formed}
use Rattle.declarations.proofs.ReaderLemmas.{remains_within}
use Rattle.declarations.proofs.RuleWholeLemmas.{goes_whole, left_whole, no_longer, some_left, stuck_whole}
use Rattle.declarations.proofs.RuleWholeLemmas.{whole_goes}

classes_of_rest : (rest : List TokenTree) → classes_of (signs rest) ≡ [] → classes_in rest ≡ []
unfolding classes_in
classes_of_rest rest none = none

module _ (g : G) (start : IsStart rules follows (g ∷ [])) where
  -- signs that can go on are a walk of the machine
  goes_walk : (front : List SignClass) → GoesOn rules (g ∷ []) front
      → is_some (machine.walk rules (g ∷ []) front) ≡ true
  goes_walk front goes =
      let ran = found rules follows well_formed (g ∷ []) start.deterministic start.productive (front ++ goes.1) goes.0
      goes.2 goes.3 in
      let w = run_walks rules (g ∷ []) (front ++ goes.1) goes.0 ran in
      go (machine.walk rules (g ∷ []) front) (sym (walk_append rules (g ∷ []) front goes.1) ∙ w.walks)
    where
      go : {last : List (Event SignClass Label) × List G} (o : machine.Transition SignClass Name Label)
          → after rules o goes.1 ≡ Some last
          → is_some o ≡ true
      go None e = absurd cc
      go (Some t) e = refl

  -- what can come next where the trees have their error
  fault_next : (trees : List TokenTree) (at : ℕ) (f : FaultAt (IsWhole (ByRule g)) trees at)
      → signs_next.IsNext rules (g ∷ []) (classes_in trees) (classes_of (signs f.left))
      (may_follow rules (g ∷ []) (classes_of f.front)) (may_end rules (g ∷ []) (classes_of f.front))
  unfolding classes_in
  fault_next trees at f =
      let front = classes_of f.front in record {
        front = front;
        whole = ap classes_of f.read ∙ classes-append f.front (signs f.left);
        walks = goes_walk front (whole_goes g start front f.goes_on);
        follows = λ c. refl;
        ends = refl;
        longest = λ c more e. go c (may_follow rules (g ∷ []) front c) refl
            (subst (StopsBefore (IsWhole (ByRule g)) front) e f.longest);
      }
    where
      go : (c : SignClass) (b : Bool) → may_follow rules (g ∷ []) (classes_of f.front) c ≡ b
          → (IsFront (IsWhole (ByRule g)) (classes_of f.front ++ c ∷ []) → ⊥)
          → may_follow rules (g ∷ []) (classes_of f.front) c ≡ false
      go c false h n = h
      go c true h n =
          absurd (n (goes_whole g start (classes_of f.front ++ c ∷ [])
          (next_goes_on rules follows well_formed (g ∷ []) start (classes_of f.front) c h)))

  pub rule_expects : (trees left : List TokenTree) (set : Expected) (at : ℕ) → Explores g trees left set
      → FaultAt (IsWhole (ByRule g)) trees at
      → Expects (ByRule g) trees at set
  rule_expects trees left set at e f =
      let front = classes_of f.front in
      let there = laws.is_seen SignClass Name Label rules (g ∷ []) (classes_in trees) (classes_of (signs f.left))
      (may_follow rules (g ∷ []) front) (may_end rules (g ∷ []) front) (fault_next trees at f) in
      let same : (c : SignClass) → holds set c ≡ may_follow rules (g ∷ []) front c = λ c.
      e.sees.nexts c ∙ sym (there.nexts c) in
      let last : holds_end set ≡ may_end rules (g ∷ []) front = e.sees.ended ∙ sym there.ended in
      record {
        front = f.front;
        left = f.left;
        read = f.read;
        whole = f.whole;
        counted = f.counted;
        classes = λ c. (
          λ h. goes_whole g start (front ++ c ∷ [])
              (next_goes_on rules follows well_formed (g ∷ []) start front c (sym (same c) ∙ h)),
          λ i. same c ∙ goes_on_next rules follows well_formed (g ∷ []) start front c
              (whole_goes g start (front ++ c ∷ []) i),
        );
        end = (
          λ h. let r = ends_reading rules follows well_formed (g ∷ []) start front (sym last ∙ h) in
              record { events = r.0; reading = r.1; longest = λ c more x. absurd cc },
          λ p. last ∙ reading_ends rules follows well_formed (g ∷ []) start front p.events p.reading,
        );
      }

pub whole_expects : (g : G) (trees left : List TokenTree) (set : Expected) → Explores g trees left set
    → ExpectsWhole g trees set
whole_expects g trees left set e start at f = rule_expects g start trees left set at e f

-- ---- functions that read by a rule

-- the rule reads no part
pub stuck_expects : (g : G) → IsStart rules follows (g ∷ []) → (trees left : List TokenTree) (at : ℕ) (set : Expected)
    → Sticks g trees left → at ≡ length trees - length left → ExpectsWhole g trees set
    → Expects (ByRule g) trees at set
stuck_expects g start trees left at set f counted e =
    let within = remains_within trees left f.remains in
    e start at (stuck_whole g start trees left at f (omega arith))

-- the rule reads a part, and trees are left over
pub left_expects : (g : G) → IsStart rules follows (g ∷ []) → (trees rest : List TokenTree) (at : ℕ) (set : Expected)
    → Finds g trees rest → (length rest ≡ 0 → ⊥) → at ≡ length trees - length rest → ExpectsWhole g trees set
    → Expects (ByRule g) trees at set
left_expects g start trees rest at set f some counted e =
    let within = remains_within trees rest f.remains in
    e start at (left_whole g start trees rest at f some (omega arith))

-- a part is read, and trees are left over
module _ (g : G) (start : IsStart rules follows (g ∷ [])) where
  reads_fault : (trees part rest : List TokenTree) (at : ℕ) → Reads (ByRule g) trees part rest
      → (length rest ≡ 0 → ⊥) → at + length rest ≡ length trees
      → FaultAt (IsWhole (ByRule g)) trees at
  reads_fault trees part rest at r some counted =
      let front = classes_of r.piece in
      let sum = ap length r.whole ∙ length-append part rest in
      let taken = ap length r.taken in
      record {
        front = r.piece;
        left = rest;
        read = r.read;
        whole = r.whole ∙ ap (λ p. p ++ rest) r.taken;
        counted = omega arith;
        goes_on = goes_whole g start front
            (r.stands.events, [], r.stands.reading.reads, r.stands.reading.whole ∙ sym (append-nil front));
        longest = no_longer g start front (classes_of (signs rest)) r.stands.longest;
        nothing = λ other past reads. go other past (classes_of (signs rest)) refl reads;
      }
    where
      go : (other past : List TokenTree) (left : List SignClass) → classes_of (signs rest) ≡ left
          → Reads (IsWhole (ByRule g)) trees other past
          → ⊥
      go other past [] none reads = some_left g start rest some (classes_of_rest rest none)
      go other past (c ∷ more) first reads =
          r.stands.longest c more first (
            reads.stands.0.events,
            more,
            reads.stands.0.reading.reads,
            reads.stands.0.reading.whole
                ∙ (sym (append-nil (classes_of reads.piece))
                ∙ (ap (λ x. classes_of reads.piece ++ x) (sym reads.stands.1)
                ∙ (sym (classes-append reads.piece (signs past))
                ∙ (ap classes_of (sym reads.read ∙ r.read)
                ∙ (classes-append r.piece (signs rest)
                ∙ (ap (λ x. classes_of r.piece ++ x) first
                ∙ sym (append_assoc (classes_of r.piece) (c ∷ []) more))))))),
          )

  pub reads_expects : (trees part rest : List TokenTree) (at : ℕ) (set : Expected) → Reads (ByRule g) trees part rest
      → (length rest ≡ 0 → ⊥) → at ≡ length trees - length rest → ExpectsWhole g trees set
      → Expects (ByRule g) trees at set
  reads_expects trees part rest at set r some counted e =
      let sum = ap length r.whole ∙ length-append part rest in
      e start at (reads_fault trees part rest at r some (omega arith))
