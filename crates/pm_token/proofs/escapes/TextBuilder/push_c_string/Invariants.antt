use Rattle.std.proofs.Common.{◌≡◌, ◌++◌, List, length, IsTrue}
use Rattle.pm_token.specs.CString.{Part, AreParts, parts_text, has_no_zero}
use Rattle.pm_token.proofs.escapes.TextBuilder.push_c_string.Given as goal

-- the text so far is right, whatever parts the remaining bytes have
abbrev pub invariant-loop-left : goal.invariant-loop-left
invariant-loop-left l = record {
  reads : (more : List Part) → AreParts more l.left
      → (parts : List Part) × AreParts parts l.initial.left
      × (l.initial.self ++ parts_text parts ≡ l.self ++ parts_text more);
  nonzero : IsTrue (has_no_zero l.left);
}

abbrev pub decreases-loop-left : goal.decreases-loop-left
decreases-loop-left l = length l.left
