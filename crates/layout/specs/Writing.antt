-- What a stream is written as with chosen gaps.
use Rattle.std.specs.Prelude.{ℕ, Bool, true, false, List, [], ◌∷◌, ◌++◌, codes, Option, Some, None, zero, suc}
use Rattle.std.specs.Prelude.{if◌then◌else◌}
use Rattle.lexical.specs.Number.{bars_dot}
use Rattle.lexical.specs.Text.{ends_with, first_passes}
use Rattle.lexical.specs.Token as tokens
use Rattle.pm_token.specs.Leaf.{name_token, mark_token, text_token}
use Rattle.pm_stream.specs.Events.{Event, One, Opens, Closes}
use Rattle.pm_stream.specs.Forest.{Forest}
use Rattle.pm_stream.specs.Steps.{Step, Enter, Leave, Token, step_of}
use Rattle.pm_stream.specs.declared.steps.Step.{Step as Given}
use Rattle.pm_stream.specs.declared.stream.TokenTree.{TokenTree}
use Rattle.pm_stream.specs.declared.stream.TokenTree.TheVariants.{Group, Ident, Punct, Literal}
use Rattle.proc_macro2.specs.Laws.{Gives}
use Rattle.layout.specs.Layout.{event_text, goes_on, is_digits, is_dot, is_joint, must_part}
use Rattle.layout.specs.declared.errors.LayoutError.{LayoutError}
use Rattle.layout.specs.declared.errors.LayoutError.TheVariants.{NotWellSpaced, Memory, Write}
use Rattle.layout.specs.declared.gaps.Gap.{Gap}
use Rattle.layout.specs.declared.gaps.Gap.TheVariants.{Nothing, Space, Line, Blank}

-- ---- gaps

-- `n` spaces
abbrev pub spaces : ℕ → List ℕ
spaces zero = []
spaces (suc n) = 32 ∷ spaces n

-- the text of a gap
abbrev pub gap_text : Gap → List ℕ
gap_text Nothing = []
gap_text Space = codes " "
gap_text (Line columns) = 10 ∷ spaces columns
gap_text (Blank columns) = 10 ∷ 10 ∷ spaces columns

-- the gap, or a space instead of nothing
abbrev pub some : Gap → Gap
some Nothing = Space
some Space = Space
some (Line columns) = Line columns
some (Blank columns) = Blank columns

-- ---- what a step writes

-- a token, or the opener of a group
abbrev pub tree_event : TokenTree → Event
tree_event (Group g) = Opens g.delimiter g.span.lo
tree_event (Ident i) = One (name_token i) i.span.lo i.span.hi
tree_event (Punct p) = One (mark_token p) p.span.lo p.span.hi
tree_event (Literal l) = One (text_token l) l.span.lo l.span.hi

-- the token, opener or closer that a step writes
abbrev pub event_of : Step → Event
event_of (Enter g after) = Opens g.delimiter g.span.lo
event_of (Leave g after) = Closes g.delimiter g.span.hi
event_of (Token tree after) = tree_event tree

-- the step that a `GapContext` holds, if it holds one
abbrev pub step_before : Option Given → Option Step
step_before None = None
step_before (Some step) = Some (step_of step)

-- the token, opener or closer that the step before a gap writes, if there is a step
abbrev pub event_before : Option Step → Option Event
event_before None = None
event_before (Some step) = Some (event_of step)

-- the token, opener or closer before a gap, if there is one
abbrev pub before_of : Option Given → Option Event
before_of step = event_before (step_before step)

-- ---- the gap that is written

-- the gap that is written before `next` if `chosen` is chosen, where `later` is the text right after `next`
abbrev pub fitting : Option Event → Gap → Event → List ℕ → Gap
fitting None chosen next later = chosen
fitting (Some before) chosen next later =
    if is_joint before then Nothing else (if must_part before next later then some chosen else chosen)

-- the gap that is written between the literal and a dot if nothing is chosen, or `None` if the text after the dot
-- decides
abbrev pub literal_gap : List ℕ → Option Gap
literal_gap text = if is_digits text then None else (if ends_with 46 text then Some Space else Some Nothing)

-- the gap that is written between the event and a dot that would extend it by its first character
abbrev pub gap_before_dot : Event → Option Gap
gap_before_dot (One (tokens.Name raw name) lo hi) = Some Space
gap_before_dot (One (tokens.Mark c joint) lo hi) = Some Space
gap_before_dot (One (tokens.Literal text) lo hi) = literal_gap text
gap_before_dot (Opens d lo) = Some Space
gap_before_dot (Closes d hi) = Some Space

-- the gap that is written where nothing is chosen after an event that is not Joint
abbrev pub gap_for_nothing : Event → Event → Option Gap
gap_for_nothing before next =
    if goes_on before (event_text next) then (if is_dot next then gap_before_dot before else Some Space)
    else Some Nothing

-- the gap that is written after an event that is not Joint
abbrev pub gap_apart : Event → Gap → Event → Option Gap
gap_apart before Nothing next = gap_for_nothing before next
gap_apart before Space next = Some Space
gap_apart before (Line columns) next = Some (Line columns)
gap_apart before (Blank columns) next = Some (Blank columns)

-- the gap that is written before `next` if `chosen` is chosen, or `None` if the text after `next` decides: then `next`
-- is a dot after digits
abbrev pub known_gap : Option Event → Gap → Event → Option Gap
known_gap None chosen next = Some chosen
known_gap (Some before) chosen next = if is_joint before then Some Nothing else gap_apart before chosen next

-- the dot that is held back, if there is one, with the gap before it, where `later` is the text after the dot
abbrev pub held_text : Bool → List ℕ → List ℕ
held_text false later = []
held_text true later = if first_passes bars_dot later then codes "." else codes " ."

-- what is written when the gap before `next` is chosen: nothing if the gap is not known yet, and otherwise also the dot
-- that is held back
abbrev pub pushed : Bool → Option Gap → Event → List ℕ
pushed held None next = []
pushed held (Some gap) next =
    held_text held (gap_text gap ++ event_text next) ++ (gap_text gap ++ event_text next)

-- the text of a delimiter's mark, if it has one
abbrev pub option_list : Option ℕ → List ℕ
option_list None = []
option_list (Some c) = c ∷ []

-- the first character of a text
abbrev pub front_char : List ℕ → Option ℕ
front_char [] = None
front_char (c ∷ text) = Some c

-- ---- what is guaranteed

-- the text reads back to the stream up to spans, wherever the spans begin
abbrev pub ReadsBack : Forest → List ℕ → Type 0
ReadsBack stream text = (base : ℕ) → Gives base text stream

-- the error is not that of a writer
abbrev pub IsNoWrite : LayoutError → Type 0
IsNoWrite NotWellSpaced = Unit {0}
IsNoWrite (Memory error) = Unit {0}
IsNoWrite (Write error) = ⊥
