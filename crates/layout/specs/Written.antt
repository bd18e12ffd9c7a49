-- What is written with the gaps that a chooser gives.
use Rattle.std.specs.Prelude.{◌≡◌, ◌++◌, ◌+◌, ◌-◌, ◌^◌, ℕ, List, [], ◌∷◌, map, min, Option, Some, None}
use Rattle.std.specs.List.{FoldsTo}
use Rattle.std.specs.Io.KnownBytes.{Appends}
use Rattle.std.specs.Str.{encode_utf8_all}
use Rattle.pm_stream.specs.Forest.{Forest}
use Rattle.pm_stream.specs.Steps.{Step, Enter, Leave, Token, steps}
use Rattle.layout.specs.Layout.{IsLayout, event_text}
use Rattle.layout.specs.Writing.{ReadsBack, event_before, event_of, fitting, gap_text, step_before}
use Rattle.layout.specs.declared.gaps.Gap.{Gap}
use Rattle.layout.specs.declared.gaps.GapContext.{GapContext}

-- ---- where gaps are

-- where a gap is: the step before it and the step after it, if there are any, and the number of groups around it
pub record Spot : Type 0 where
  pub before : Option Step
  pub after : Option Step
  pub depth : ℕ

-- where the gap is that a chooser gets as a `GapContext`
abbrev pub spot_of : GapContext → Spot
spot_of place = record { before = step_before place.before; after = step_before place.after; depth = place.depth }

-- the depth of the gap before the step, when `depth` groups are open; a gap before a closer counts as outside its group
abbrev pub depth_at : ℕ → Step → ℕ
depth_at depth (Enter g after) = depth
depth_at depth (Leave g after) = depth - 1
depth_at depth (Token tree after) = depth

-- how many groups are open after the step, when `depth` are open before it; a `usize` limits the number
abbrev pub depth_past : ℕ → Step → ℕ
depth_past depth (Enter g after) = min (depth + 1) (2 ^ 64 - 1)
depth_past depth (Leave g after) = depth - 1
depth_past depth (Token tree after) = depth

-- where the gaps are before these steps and after the last
abbrev pub places_from : Option Step → ℕ → List Step → List Spot
places_from before depth [] = record { before = before; after = None; depth = depth } ∷ []
places_from before depth (step ∷ steps) =
    record { before = before; after = Some step; depth = depth_at depth step }
    ∷ places_from (Some step) (depth_past depth step) steps

-- where a stream's gaps are, in order: one before each token, opener and closer, and one at the end
abbrev pub places : Forest → List Spot
places stream = places_from None 0 (steps stream)

-- ---- choices

-- a gap that a chooser gives, and where it is
pub record Choice : Type 0 where
  pub place : Spot
  pub gap : Gap

-- the choice that consists of a chooser's argument and its result
abbrev pub choice_of : GapContext → Gap → Choice
choice_of place gap = record { place = spot_of place; gap = gap }

-- the gap that is written for a chosen one, where `later` is the text that is written right after the next step:
-- nothing after a Joint mark, a space if nothing is chosen and the tokens must be parted, and the chosen one otherwise
abbrev pub fitting_gap : Option Step → Option Step → Gap → List ℕ → Gap
fitting_gap before None gap later = gap
fitting_gap before (Some step) gap later = fitting (event_before before) gap (event_of step) later

-- the text of the token, opener or closer after a gap, if there is one
abbrev pub text_after : Option Step → List ℕ
text_after None = []
text_after (Some step) = event_text (event_of step)

-- the text of the first gap and of what follows it. Whether digits may touch a dot depends on the second choice
abbrev pub written_front : List Choice → List ℕ
written_front [] = []
written_front (c ∷ choices) =
    gap_text (fitting_gap c.place.before c.place.after c.gap (written_front choices)) ++ text_after c.place.after

-- the text of each gap and of what follows it
abbrev pub written_text : List Choice → List ℕ
written_text [] = []
written_text (c ∷ choices) = written_front (c ∷ choices) ++ written_text choices

-- the text consists of the stream and the gaps that a chooser gives. The chooser is called once for each gap of the
-- stream, in order, which takes it from its old state to its new one
pub record IsWritten {C : Type 0} (gives : C → Choice → C → Type 0) (old new : C) (stream : Forest) (text : List ℕ)
    : Type 0 where
  pub choices : List Choice
  pub each : map (λ c. c.place) choices ≡ places stream
  pub given : FoldsTo gives old choices new
  pub whole : text ≡ written_text choices

-- a wanted text is written; it is a layout of the stream and reads back to it
pub record Writes (wanted : List ℕ → Type 0) (stream : Forest) (old new : Option (List ℕ)) : Type 0 where
  pub text : List ℕ
  pub made : wanted text
  pub layout : IsLayout stream text
  pub back : ReadsBack stream text
  pub appends : Appends old new (encode_utf8_all text)
