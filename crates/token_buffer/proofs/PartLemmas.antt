-- The contents of entries, without their positions.
use Rattle.std.proofs.Common.{◌≡◌, ◌↔◌, ◌==◌, ℕ, Bool, false, IsTrue, List, [], ◌∷◌, ◌++◌, length, refl, sym, ap}
use Rattle.std.proofs.Common.{◌∙◌, append-nil, arith, ne_eqb}
use Rattle.pm_stream.specs.Events.{Event, One, Opens, Closes}
use Rattle.pm_stream.specs.Forest.{Forest, nil, leaf, group, flat_onto, flattening}
use Rattle.pm_stream.specs.Printed.{printed}
use Rattle.pm_stream.specs.PrintedEvents.{event_text, events_text, gap_after_event}
use Rattle.pm_stream.specs.Same.{Same, without_spans}
use Rattle.pm_stream.proofs.PrintedEventLemmas.{events_text-flattening}
use Rattle.token_buffer.specs.Compared.{cursor_eq, cursor_eq-Same, one_answer}
use Rattle.token_buffer.specs.Entries.{event_of, events_of}
use Rattle.token_buffer.specs.Held.{Holds}
use Rattle.token_buffer.specs.Left.{trees_of}
use Rattle.token_buffer.specs.Parts.{part_event, at_zero, all_unplaced}
use Rattle.token_buffer.specs.Reads.{left}
use Rattle.token_buffer.specs.Unflattened.{trees_of_events}
use Rattle.token_buffer.specs.declared.cursor.Cursor.{Cursor}
use Rattle.token_buffer.specs.declared.entry.Entry.{Entry}
use Rattle.token_buffer.specs.declared.part.Part.{Part}
use Rattle.token_buffer.proofs.HeldLemmas.{unflattened_flattening}

-- ---- the printed text

pub event_text-unplaced : (gap : Bool) (e : Event) → event_text gap (at_zero e) ≡ event_text gap e
event_text-unplaced gap (One token lo hi) = refl
event_text-unplaced gap (Opens d lo) = refl
event_text-unplaced gap (Closes d hi) = refl

pub gap_after-unplaced : (e : Event) → gap_after_event (at_zero e) ≡ gap_after_event e
gap_after-unplaced (One token lo hi) = refl
gap_after-unplaced (Opens d lo) = refl
gap_after-unplaced (Closes d hi) = refl

pub all_printed : (text : List ℕ) (all : List Entry) → Holds text all (trees_of text all)
    → events_text false (events_of text all) ≡ printed (trees_of text all)
all_printed text all h = ap (events_text false) h.events ∙ events_text-flattening (trees_of text all)

-- one entry is printed, and then the others
pub printed_first : (text : List ℕ) (es : List Entry) (e : Entry) (rest : List Entry) (part : Part) (gap now : Bool)
    → es ≡ e ∷ rest → part_event part ≡ at_zero (event_of text e) → now ≡ gap_after_event (part_event part)
    → event_text gap (part_event part) ++ events_text now (events_of text rest) ≡ events_text gap (events_of text es)
printed_first text es e rest part gap now whole is after =
    rw (whole, after, is, event_text-unplaced gap (event_of text e), gap_after-unplaced (event_of text e)) refl

-- after the last entry nothing is printed
pub printed_last : (text : List ℕ) (es : List Entry) (gap : Bool) (done all : List ℕ) → length es ≡ 0
    → done ++ events_text gap (events_of text es) ≡ all → done ≡ all
printed_last text [] gap done all none e = sym (append-nil done) ∙ e
printed_last text (x ∷ es) gap done all none e = absurd (omega (arith, none))

-- ---- sameness

all_unplaced-flat_onto : (f : Forest) (es : List Event)
    → all_unplaced (flat_onto f es) ≡ flat_onto (without_spans f) (all_unplaced es)
all_unplaced-flat_onto nil es = refl
all_unplaced-flat_onto (leaf t lo hi f) es = ap (λ x. One t 0 0 ∷ x) (all_unplaced-flat_onto f es)
all_unplaced-flat_onto (group d lo hi f k) es =
    ap (λ x. Opens d 0 ∷ x) (all_unplaced-flat_onto f (Closes d hi ∷ flat_onto k es)
    ∙ ap (λ x. flat_onto (without_spans f) (Closes d 0 ∷ x)) (all_unplaced-flat_onto k es))

same_unplaced : (f g : Forest) → Same f g ↔ (all_unplaced (flattening f) ≡ all_unplaced (flattening g))
same_unplaced f g = (
  λ same. all_unplaced-flat_onto f [] ∙ (ap flattening same ∙ sym (all_unplaced-flat_onto g [])),
  λ same. sym (unflattened_flattening (without_spans f))
      ∙ (ap trees_of_events (sym (all_unplaced-flat_onto f []) ∙ (same ∙ all_unplaced-flat_onto g []))
      ∙ unflattened_flattening (without_spans g)),
)

-- the events of the entries, with their positions set to 0
abbrev pub bare_events : List ℕ → List Entry → List Event
bare_events text all = all_unplaced (events_of text all)

-- trees are the same up to spans exactly if the contents of their entries are
pub same_events : (text other : List ℕ) (all others : List Entry) → Holds text all (trees_of text all)
    → Holds other others (trees_of other others)
    → Same (trees_of text all) (trees_of other others) ↔ (bare_events text all ≡ bare_events other others)
same_events text other all others h k =
    let same = same_unplaced (trees_of text all) (trees_of other others) in (
      λ e. ap all_unplaced h.events ∙ (same.0 e ∙ sym (ap all_unplaced k.events)),
      λ e. same.1 (sym (ap all_unplaced h.events) ∙ (e ∙ ap all_unplaced k.events)),
    )

-- ---- the result of a comparison

-- one cursor has one more entry
pub longer_events : (text other : List ℕ) (es os : List Entry) (e : Entry) (rest : List Entry) → es ≡ e ∷ rest
    → length os ≡ 0 → IsTrue false ↔ (bare_events text es ≡ bare_events other os)
longer_events text other es [] e rest whole none = (
  λ h. absurd cc,
  λ h. let clash : at_zero (event_of text e) ∷ bare_events text rest ≡ [] =
      sym (ap (bare_events text) whole) ∙ h in absurd cc,
)
longer_events text other es (o ∷ os) e rest whole none = absurd (omega (arith, none))

-- the first entries differ
pub other_events : (text other : List ℕ) (es os : List Entry) (e o : Entry) (rest rests : List Entry) (p q : Part)
    (r : Bool)
    → es ≡ e ∷ rest → os ≡ o ∷ rests → part_event p ≡ at_zero (event_of text e)
    → part_event q ≡ at_zero (event_of other o) → IsTrue r ↔ (part_event p ≡ part_event q) → r ≡ false
    → IsTrue false ↔ (bare_events text es ≡ bare_events other os)
other_events text other es os e o rest rests p q r whole wholes is also alike differ = (
  λ h. absurd cc,
  λ h.
      let both : at_zero (event_of text e) ∷ bare_events text rest
      ≡ at_zero (event_of other o) ∷ bare_events other rests
      = sym (ap (bare_events text) whole) ∙ (h ∙ ap (bare_events other) wholes) in
      let first : at_zero (event_of text e) ≡ at_zero (event_of other o) = cc in
      let yes : IsTrue r = alike.1 (is ∙ (first ∙ sym also)) in
      absurd cc,
)

-- the first cursor has no entry left
pub ends_events : (text other : List ℕ) (es os : List Entry) (r : Bool) → length es ≡ 0 → r ≡ (length os == 0)
    → IsTrue r ↔ (bare_events text es ≡ bare_events other os)
ends_events text other [] [] r none is = (λ h. refl, λ h. is)
ends_events text other [] (o ∷ os) r none is =
    let more : r ≡ false = is ∙ ne_eqb (length (o ∷ os)) 0 (λ clash. omega (arith, clash)) in
    (λ h. absurd cc, λ h. absurd cc)
ends_events text other (e ∷ es) os r none is = absurd (omega (arith, none))

pub eq_same : (a b : Cursor) (s o : List Event) (r : Bool)
    → (bare_events a.text.now a.entries.now ≡ bare_events b.text.now b.entries.now) ↔ (s ≡ o) → IsTrue r ↔ (s ≡ o)
    → IsTrue r ↔ Same (left a) (left b)
eq_same a b s o r all here =
    let same = same_events a.text.now b.text.now a.entries.now b.entries.now a.holds b.holds in
    (λ h. same.1 (all.1 (here.0 h)), λ e. here.1 (all.0 (same.0 e)))

pub eq_value : (a b : Cursor) (r : Bool) → IsTrue r ↔ Same (left a) (left b) → r ≡ cursor_eq a b
eq_value a b r same = one_answer r (cursor_eq a b) (λ h. (cursor_eq-Same a b).1 (same.0 h))
    (λ e. same.1 ((cursor_eq-Same a b).0 e))
