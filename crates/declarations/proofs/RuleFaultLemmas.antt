-- The error of a function that reads by a rule.
use Rattle.std.proofs.Common.{◌≡◌, ℕ, ◌-◌, List, [], ◌∷◌, length, arith}
use Rattle.grammars.specs.Deterministic.{IsStart}
use Rattle.pm_stream.specs.declared.stream.TokenTree.{TokenTree}
use Rattle.declarations.specs.Reader.{Finds, Sticks}
use Rattle.declarations.specs.Reading.{FaultAt}
use Rattle.declarations.specs.Whole.{IsWhole}
use Rattle.declarations.specs.rules.Names.{G}
use Rattle.declarations.specs.rules.Pieces.{ByRule}
use Rattle.declarations.specs.rules.Rules.{follows, rules}
use Rattle.declarations.proofs.ReaderLemmas.{remains_within}
use Rattle.declarations.proofs.RuleFormLemmas.{stuck_fault}
use Rattle.declarations.proofs.RuleWholeLemmas.{left_whole, stuck_whole}

module _ (g : G) (start : IsStart rules follows (g ∷ [])) where
  -- the rule reads no part
  pub rule_fault : (trees left : List TokenTree) (at : ℕ) → Sticks g trees left → at ≡ length trees - length left
      → FaultAt (ByRule g) trees at
  rule_fault trees left at s counted =
      let within = remains_within trees left s.remains in
      stuck_fault g start trees left at s (omega arith)

  -- ---- all of the trees

  pub rule_stuck : (trees left : List TokenTree) (at : ℕ) → Sticks g trees left → at ≡ length trees - length left
      → FaultAt (IsWhole (ByRule g)) trees at
  rule_stuck trees left at s counted =
      let within = remains_within trees left s.remains in
      stuck_whole g start trees left at s (omega arith)

  pub rule_left : (trees rest : List TokenTree) (at : ℕ) → Finds g trees rest → (length rest ≡ 0 → ⊥)
      → at ≡ length trees - length rest
      → FaultAt (IsWhole (ByRule g)) trees at
  rule_left trees rest at f some counted =
      let within = remains_within trees rest f.remains in
      left_whole g start trees rest at f some (omega arith)
