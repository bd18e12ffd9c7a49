-- Errors with the span of a closing delimiter.
use Rattle.std.proofs.Common.{◌≡◌, sym, subst, List, Option}
use Rattle.pm_span.specs.Extent.{Extent}
use Rattle.pm_stream.specs.declared.stream.TokenTree.{TokenTree}
use Rattle.declarations.specs.Ending.{EndsAt, ending_at}
use Rattle.declarations.specs.EntryExpects.{ExpectsEntry}
use Rattle.declarations.specs.declared.fault.Fault.{Fault}

pub ends_at : (end : Option Extent) (fails : Fault → Type 0) (found fault : Fault) → fails found
    → fault ≡ ending_at end found → EndsAt end fails fault
ends_at end fails found fault failed is = (found, failed, is)

-- the signs stay those that can come next
pub expected_within : (trees : List TokenTree) (found fault : Fault) (end : Option Extent) → fault ≡ ending_at end found
    → ExpectsEntry trees found.at found.expected
    → ExpectsEntry trees fault.at fault.expected
expected_within trees found fault end is e = subst (λ f. ExpectsEntry trees f.at f.expected) (sym is) e
