-- A text that is written gap by gap as a chooser gives the gaps, and is a layout.
use Rattle.std.proofs.Common.{◌≡◌, ℕ, Bool, true, false, List, [], ◌∷◌, ◌++◌, Option, Some, None}
use Rattle.std.proofs.Common.{refl, sym, ap, ap₂, ◌∙◌, subst, append_assoc, append-nil, codes}
use Rattle.std.specs.Prelude.{if◌then◌else◌, is_none, map}
use Rattle.std.specs.List.{FoldsTo}
use Rattle.std.proofs.lemmas.Bool.{and_from, both_ways}
use Rattle.lexical.specs.Number.{bars_dot}
use Rattle.lexical.specs.Text.{first_passes}
use Rattle.pm_stream.specs.Events.{Event}
use Rattle.pm_stream.specs.Forest.{Forest}
use Rattle.pm_stream.specs.Steps.{Step, steps}
use Rattle.layout.specs.Layout.{event_text, Laid, laid_onto, laid_front, events_of, IsGap, AreGaps, may_follow}
use Rattle.layout.specs.Layout.{keeps_apart, IsLayout}
use Rattle.layout.specs.Writing.{event_before, event_of, fitting, gap_text, held_text, known_gap, pushed}
use Rattle.layout.specs.Written.{Choice, IsWritten, Spot, depth_at, depth_past, places_from}
use Rattle.layout.specs.Written.{written_front, written_text}
use Rattle.layout.specs.declared.gaps.Gap.{Gap}
use Rattle.layout.proofs.GapLemmas.{end_bars}
use Rattle.layout.proofs.HeldLemmas.{HeldDot, pushed_once}
use Rattle.layout.proofs.WritingLemmas.{events_left, events_left-steps, fitting_may, gap_white, may_begin}
use Rattle.layout.proofs.WritingLemmas.{nothing_follows}

-- ---- step by step

-- what is written so far, the dot that is held back, and any gaps that the chooser gives for the steps that are left,
-- make the text
abbrev pub WritesOn : {C : Type 0} → (C → Choice → C → Type 0) → C → Forest → List ℕ → Bool → Option Step → ℕ
    → List Step → C → Type 0
WritesOn {C} gives first stream done held before depth left now =
    (choices : List Choice) (last : C) → map (λ c. c.place) choices ≡ places_from before depth left
    → FoldsTo gives now choices last
    → IsWritten gives first last stream (done ++ (held_text held (written_front choices) ++ written_text choices))

-- before the first step nothing is written
pub writes_first : {C : Type 0} (gives : C → Choice → C → Type 0) (first : C) (stream : Forest) (text : List ℕ)
    (all : List Step) → text ≡ [] → all ≡ steps stream → WritesOn gives first stream text false None 0 all first
writes_first gives first stream text all none is = rw (none, is) (λ choices last each given. record {
  choices = choices;
  each = each;
  given = given;
  whole = refl;
})

-- one more step keeps the invariant
pub writes_next : {C : Type 0} (gives : C → Choice → C → Type 0) (first old new : C) (stream : Forest)
    (done now : List ℕ) (held holds : Bool) (before : Option Step) (depth : ℕ) (step : Step) (left later : List Step)
    (gap : Gap)
    → WritesOn gives first stream done held before depth left old → HeldDot held (event_before before)
    → left ≡ step ∷ later
    → gives old (record {
      place = record { before = before; after = Some step; depth = depth_at depth step };
      gap = gap;
    }) new
    → now ≡ done ++ pushed held (known_gap (event_before before) gap (event_of step)) (event_of step)
    → holds ≡ is_none (known_gap (event_before before) gap (event_of step))
    → WritesOn gives first stream now holds (Some step) (depth_past depth step) later new
writes_next gives first old new stream done now held holds before depth step left later gap h dot is gave text back =
    let before_it = subst (λ steps. WritesOn gives first stream done held before depth steps old) is h in
    rw (text, back) (λ choices last each given.
    let place : Spot = record { before = before; after = Some step; depth = depth_at depth step } in
    subst (IsWritten gives first last stream)
    (pushed_once done held (event_before before) gap (event_of step) (written_front choices) (written_text choices) dot)
    (before_it (record { place = place; gap = gap } ∷ choices) last (ap (λ x. place ∷ x) each) (new, gave, given)))

-- after the last gap, what is written is the text
pub writes_last : {C : Type 0} (gives : C → Choice → C → Type 0) (first old new : C) (stream : Forest)
    (done now : List ℕ) (held : Bool) (before : Option Step) (depth : ℕ) (left : List Step) (gap : Gap)
    → WritesOn gives first stream done held before depth left old → left ≡ []
    → gives old (record {
      place = record { before = before; after = None; depth = depth };
      gap = gap;
    }) new
    → now ≡ done ++ ((if held then codes " ." else []) ++ gap_text gap) → IsWritten gives first new stream now
writes_last gives first old new stream done now held before depth left gap h none gave text =
    let place : Spot = record { before = before; after = None; depth = depth } in
    subst (IsWritten gives first new stream)
    (ap₂ (λ back z. done ++ (back ++ z)) (by_held held) (append-nil (gap_text gap ++ []) ∙ append-nil (gap_text gap))
    ∙ sym text)
    (h (record { place = place; gap = gap } ∷ []) new (rw none refl) (new, gave, refl))
  where
    by_bars : (bars : Bool) → bars ≡ false → (if bars then codes "." else codes " .") ≡ codes " ."
    by_bars true is = absurd (both_ways true is refl)
    by_bars false is = refl

    by_held : (held : Bool) → held_text held (gap_text gap ++ []) ≡ (if held then codes " ." else [])
    by_held true = by_bars (first_passes bars_dot (gap_text gap ++ [])) (end_bars gap)
    by_held false = refl

-- ---- the layout

-- the text as a layout of these events, after the event before them; `bars` says whether a dot before the text belongs
-- to no number
record LaysOut (before : Option Event) (left : List Event) (text : List ℕ) (bars : Bool) : Type 0 where
  laid : List Laid
  last : List ℕ
  whole : text ≡ laid_onto laid last
  events : events_of laid ≡ left
  gaps : AreGaps laid
  end : IsGap last
  begins : may_begin before laid ≡ true
  apart : keeps_apart laid ≡ true
  same : bars ≡ first_passes bars_dot (laid_front laid)

-- what the choices write
abbrev ChoicesLay : Option Event → List Event → List Choice → Type 0
ChoicesLay before left choices =
    LaysOut before left (written_text choices) (first_passes bars_dot (written_front choices))

-- the last choice writes its gap
end_lays : (before : Option Step) (depth : ℕ) (gap : Gap)
    → ChoicesLay (event_before before) []
    (record { place = record { before = before; after = None; depth = depth }; gap = gap } ∷ [])
end_lays before depth gap = record {
  laid = [];
  last = gap_text gap;
  whole = append-nil (gap_text gap ++ []) ∙ append-nil (gap_text gap);
  events = refl;
  gaps = tt;
  end = gap_white gap;
  begins = nothing_follows (event_before before);
  apart = refl;
  same = end_bars gap;
}

-- each other choice writes its gap and its step
step_lays : (before : Option Step) (depth : ℕ) (step : Step) (gap : Gap) (left : List Event) (choices : List Choice)
    → ChoicesLay (Some (event_of step)) left choices
    → ChoicesLay (event_before before) (event_of step ∷ left)
    (record { place = record { before = before; after = Some step; depth = depth }; gap = gap } ∷ choices)
step_lays before depth step gap left choices more =
    let e = event_of step in
    let near = written_front choices in
    let text = gap_text (fitting (event_before before) gap e near) in
    record {
      laid = (text, e) ∷ more.laid;
      last = more.last;
      whole =
          ap (λ z. (text ++ event_text e) ++ z) more.whole
          ∙ append_assoc text (event_text e) (laid_onto more.laid more.last);
      events = ap (λ es. e ∷ es) more.events;
      gaps = (gap_white (fitting (event_before before) gap e near), more.gaps);
      end = more.end;
      begins = fitting_may (event_before before) gap e near more.laid more.same;
      apart = and_from (may_follow e more.laid) (keeps_apart more.laid) more.begins more.apart;
      same = refl;
    }

choices_lay : (before : Option Step) (depth : ℕ) (left : List Step) (choices : List Choice)
    → map (λ c. c.place) choices ≡ places_from before depth left
    → ChoicesLay (event_before before) (events_left left) choices
choices_lay before depth [] [] is = absurd (cc)
choices_lay before depth [] (c ∷ (d ∷ choices)) is = absurd (cc)
choices_lay before depth [] (c ∷ []) is =
    let place : Spot = record { before = before; after = None; depth = depth } in
    let here : place ≡ c.place = cc in
    subst (λ at. ChoicesLay (event_before before) [] (record { place = at; gap = c.gap } ∷ [])) here
    (end_lays before depth c.gap)
choices_lay before depth (step ∷ left) [] is = absurd (cc)
choices_lay before depth (step ∷ left) (c ∷ choices) is =
    let place : Spot = record { before = before; after = Some step; depth = depth_at depth step } in
    let here : place ≡ c.place = cc in
    let more : map (λ c. c.place) choices ≡ places_from (Some step) (depth_past depth step) left = cc in
    subst (λ at. ChoicesLay (event_before before) (events_left (step ∷ left)) (record { place = at; gap = c.gap }
    ∷ choices)) here
    (step_lays before (depth_at depth step) step c.gap (events_left left) choices
    (choices_lay (Some step) (depth_past depth step) left choices more))

-- what is written is a layout of the stream, whatever gaps the chooser gives
pub written_layout : {C : Type 0} (gives : C → Choice → C → Type 0) (old new : C) (stream : Forest) (text : List ℕ)
    → IsWritten gives old new stream text → IsLayout stream text
written_layout gives old new stream text is =
    let lays = choices_lay None 0 (steps stream) is.choices is.each in
    record {
      laid = lays.laid;
      last = lays.last;
      whole = is.whole ∙ lays.whole;
      events = lays.events ∙ events_left-steps stream;
      gaps = lays.gaps;
      end = lays.end;
      apart = lays.apart;
    }
