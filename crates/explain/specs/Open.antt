-- The openers that no closer matches.
use Rattle.std.specs.Prelude.{◌≡◌, List, [], ◌∷◌, ◌++◌, reverse, map, Option, Some, None}
use Rattle.pm_token.specs.declared.delimiters.Delimiter.{Delimiter}
use Rattle.pm_stream.specs.Events.{Event, Opens, Balanced}
use Rattle.pm_stream.specs.Taken.{Waiting}
use Rattle.explain.specs.declared.explained.Opener.{Opener}
use Rattle.explain.specs.declared.reason.Reason.{Reason}
use Rattle.explain.specs.declared.reason.Reason.TheVariants.{StrayCloser, MismatchedCloser}

-- these openers, the innermost first, are those that no closer matches among the events
abbrev pub LeavesOpen : List Event → List Waiting → Type 0
LeavesOpen events [] = Balanced events
LeavesOpen events (x ∷ outer) =
    (front : List Event) × (back : List Event) × (events ≡ front ++ (Opens x.0 x.1 ∷ back)) × Balanced back
    × LeavesOpen front outer

-- the delimiter of an opener, and its position
abbrev pub opener_of : Opener → Waiting
opener_of x = (x.delimiter, x.at.span.lo)

-- the delimiter and position of each opener in the list, whose last is the innermost. The result has the innermost
-- first
abbrev pub waiting : List Opener → List Waiting
waiting openers = map opener_of (reverse openers)

-- the open groups are those of `outer` and of the innermost opener. Without an innermost opener none is open
abbrev pub WaitsAs : List Waiting → Option Opener → List Opener → Type 0
WaitsAs all None outer = (all ≡ []) × (outer ≡ [])
WaitsAs all (Some x) outer = all ≡ (x.delimiter, x.at.span.lo) ∷ waiting outer

-- the first list is `outer` and then the innermost opener. Without an innermost opener both lists are empty
abbrev pub Loses : List Opener → Option Opener → List Opener → Type 0
Loses all None outer = (all ≡ []) × (outer ≡ [])
Loses all (Some x) outer = all ≡ outer ++ x ∷ []

-- this is the reason why a closer of this delimiter is wrong after this innermost opener
abbrev pub RefusesFor : Delimiter → Reason → Option Opener → Type 0
RefusesFor d StrayCloser None = Unit {0}
RefusesFor d StrayCloser (Some opener) = ⊥
RefusesFor d MismatchedCloser None = ⊥
RefusesFor d MismatchedCloser (Some opener) = opener.delimiter ≡ d → ⊥
RefusesFor d _ innermost = ⊥

-- the reason for a closer that doesn't match this innermost opener
abbrev pub refusal : Option Opener → Reason
refusal None = StrayCloser
refusal (Some opener) = MismatchedCloser
