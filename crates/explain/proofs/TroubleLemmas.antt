-- The reason of a `Trouble` holds.
use Rattle.std.proofs.Common.{◌≡◌, ℕ, List, [], ◌++◌, ap, ◌∙◌, subst, arith}
use Rattle.std.specs.Str.{chars}
use Rattle.lexical.specs.Rule.{Rule, Stands, nothing}
use Rattle.lexical.specs.RuleMatch.{Passes}
use Rattle.lexical.specs.declared.cursor.TextCursor.{TextCursor}
use Rattle.lexical.proofs.RuleLemmas.{Clear}
use Rattle.lexical.proofs.RuleSteps.{passes_piece, find_nothing}
use Rattle.explain.specs.Reason.{Holds, Follow, Begins}
use Rattle.explain.specs.Trouble.{IsTrouble}
use Rattle.explain.specs.declared.reason.Reason.{Reason}

-- the first rule passes the text up to the wrong part, and the second rule passes the wrong part
pub trouble : (a b : Rule) → Clear a → Clear b → (at here after : TextCursor) (reason : Reason) → Passes a at here
    → Passes b here after
    → ((front part : List ℕ) → chars at.rest.now ≡ front ++ (part ++ chars after.rest.now)
    → Follow a b front part (chars after.rest.now) → Holds reason front part (chars after.rest.now))
    → IsTrouble at (record { reason = reason; at = here; after = after })
trouble a b clear clear' at here after reason h j says =
    let before = passes_piece a clear at here h in
    let part = passes_piece b clear' here after j in
    record {
      front = h.front;
      part = j.front;
      before = before.0;
      here = part.0;
      count = h.count;
      size = j.count;
      holds = says h.front j.front (before.0 ∙ ap (λ t. h.front ++ t) part.0)
          (subst (Stands a h.front) part.0 before.1, part.1);
    }

stays : (at : TextCursor) → Passes nothing at at
stays at = record { front = []; found = find_nothing (chars at.rest.now); count = omega arith }

-- the wrong part begins right at the fault
pub trouble_here : (b : Rule) → Clear b → (at after : TextCursor) (reason : Reason) → Passes b at after
    → ((front part : List ℕ) → chars at.rest.now ≡ front ++ (part ++ chars after.rest.now)
    → Begins b front part (chars after.rest.now) → Holds reason front part (chars after.rest.now))
    → IsTrouble at (record { reason = reason; at = at; after = after })
trouble_here b clear at after reason h says = trouble nothing b tt clear at at after reason (stays at) h says
