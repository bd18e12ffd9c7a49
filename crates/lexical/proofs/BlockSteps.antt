-- Steps inside block comments.
use Rattle.std.proofs.Common.{◌≡◌, ℕ, zero, suc, ◌+◌, ◌-◌, ◌<◌, ◌≤◌, Bool, true, not, ◌||◌, ◌==◌, List, [], ◌∷◌, ◌++◌}
use Rattle.std.proofs.Common.{codes, None, refl, sym, arith, add-one}
use Rattle.std.specs.Str.{chars}
use Rattle.std.specs.List.{list_all}
use Rattle.std.proofs.lemmas.Bool.{or_from}
use Rattle.lexical.specs.Block.{find_ends}
use Rattle.lexical.specs.Finder.{prepend}
use Rattle.lexical.specs.Rule.{Run, Exactly, Ends, find}
use Rattle.lexical.specs.RuleMatch.{Leads, Passes}
use Rattle.lexical.specs.declared.cursor.TextCursor.{TextCursor}
use Rattle.lexical.proofs.BlockLemmas.{prepend_nothing, prepend_prepend, at_close, at_open, at_other}
use Rattle.lexical.proofs.RuleSteps.{lacks_text, past_text, steps}
use Rattle.lexical.proofs.UnitSteps.{leads_past}

-- a step past a `*/` leaves one comment fewer open
pub closes : (depth : ℕ) (at to : TextCursor) → 0 < depth → Passes (Exactly (codes "*/")) at to
    → Leads (Ends depth) at (Ends (depth - 1)) to
unfolding find
closes zero at to some h = absurd (omega arith)
closes (suc outer) at to some h =
    let one : suc outer - 1 ≡ outer = omega arith in
    leads_past (Exactly (codes "*/")) tt (Ends (suc outer)) (Ends (suc outer - 1)) at to h
    (λ p r is. rw (is, one) (at_close outer r))

pub opens : (depth : ℕ) (at to : TextCursor) → 0 < depth → Passes (Exactly (codes "/*")) at to
    → Leads (Ends depth) at (Ends (depth + 1)) to
unfolding find
opens zero at to some h = absurd (omega arith)
opens (suc outer) at to some h =
    leads_past (Exactly (codes "/*")) tt (Ends (suc outer)) (Ends (suc outer + 1)) at to h
    (λ p r is. rw (is, add-one) (at_open outer r))

-- a step past a character at which no sign begins leaves as many comments open
pub passes : (depth c : ℕ) (at to : TextCursor) → 0 < depth → chars at.rest.now ≡ c ∷ chars to.rest.now
    → to.chars_before ≡ at.chars_before + 1
    → find (Exactly (codes "*/")) (chars at.rest.now) ≡ None → find (Exactly (codes "/*")) (chars at.rest.now) ≡ None
    → Leads (Ends depth) at (Ends depth) to
unfolding find
passes zero c at to some e one closed opened = absurd (omega arith)
passes (suc outer) c at to some e one closed opened =
    let plain = or_from _ _ (lacks_text (codes "/*") (chars at.rest.now) opened)
    (or_from _ _ (lacks_text (codes "*/") (chars at.rest.now) closed) refl) in
    record { front = c ∷ []; found = rw e (at_other outer c (chars to.rest.now) (rw e at plain)); count = one }

-- a character at which no sign can begin
abbrev other : ℕ → Bool
other c = not (c == 42 || c == 47)

run_ends : (outer : ℕ) (front rest : List ℕ) → list_all other front ≡ true
    → find_ends (suc outer) (front ++ rest) ≡ prepend front (find_ends (suc outer) rest)
run_ends outer [] rest all = sym (prepend_nothing _)
run_ends outer (c ∷ front) rest all =
    let more = prepend_prepend (c ∷ []) front (find_ends (suc outer) rest) in
    grind (arith, all, at_other outer c (front ++ rest), run_ends outer front rest, more)

pub runs : (depth : ℕ) (at to : TextCursor) → 0 < depth → Passes (Run (λ c. not (c == 42 || c == 47))) at to
    → Leads (Ends depth) at (Ends depth) to
unfolding find
runs zero at to some h = absurd (omega arith)
runs (suc outer) at to some h =
    leads_past (Run other) tt (Ends (suc outer)) (Ends (suc outer)) at to h (λ p r is. run_ends outer p r is.each)

-- at the end of the text an open comment has no end
pub ends_at_end : (depth : ℕ) (text : List ℕ) → 0 < depth → text ≡ [] → find (Ends depth) text ≡ None
unfolding find find_ends
ends_at_end zero text some e = absurd (omega arith)
ends_at_end (suc outer) text some e = rw e refl

-- if no comment is open, the end is here
pub ends_none : (depth : ℕ) (at : TextCursor) → depth ≤ 0 → Passes (Ends depth) at at
unfolding find find_ends
ends_none zero at none = record { front = []; found = refl; count = omega arith }
ends_none (suc outer) at none = absurd (omega arith)

-- ---- all steps

pub ruleset block_steps = (steps, past_text, closes, opens, passes)
