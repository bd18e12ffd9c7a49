-- A dot that is held back until the text after it is known.
use Rattle.std.proofs.Common.{◌≡◌, ℕ, Bool, true, false, not, List, [], ◌∷◌, ◌++◌, codes, Option, Some, None}
use Rattle.std.proofs.Common.{refl, sym, ap, ap₂, ◌∙◌, append_assoc, append-nil, eqb-true}
use Rattle.std.specs.Prelude.{◌&&◌, if◌then◌else◌, is_none}
use Rattle.std.proofs.lemmas.Bool.{both_ways}
use Rattle.lexical.specs.Number.{bars_dot}
use Rattle.lexical.specs.Text.{ends_with, first_passes}
use Rattle.lexical.specs.Token.{Name, Mark, Literal}
use Rattle.pm_stream.specs.Events.{Event, One, Opens, Closes}
use Rattle.layout.specs.Layout.{event_text, goes_on, is_digits, is_dot, is_joint, leaves_dot, must_part}
use Rattle.layout.specs.Writing.{fitting, gap_apart, gap_before_dot, gap_text, held_text}
use Rattle.layout.specs.Writing.{known_gap, pushed, some}
use Rattle.layout.specs.declared.gaps.Gap.{Gap}
use Rattle.layout.specs.declared.gaps.Gap.TheVariants.{Nothing, Space, Line, Blank}

-- ---- the gap, once the text after the dot is known

-- the gap if it is known, and otherwise the one that the text after the dot decides
abbrev pub settled : Option Gap → List ℕ → Gap
settled (Some gap) later = gap
settled None later = if first_passes bars_dot later then Nothing else Space

same_both : (b : Bool) (gap : Gap) → (if b then gap else gap) ≡ gap
same_both true gap = refl
same_both false gap = refl

flipped : (b : Bool) → (if not b then Space else Nothing) ≡ (if b then Nothing else Space)
flipped true = refl
flipped false = refl

dot_settled : (before : Event) (later : List ℕ)
    → (if not (leaves_dot before later) then Space else Nothing) ≡ settled (gap_before_dot before) later
dot_settled (One (Name raw name) lo hi) later = refl
dot_settled (One (Mark c joint) lo hi) later = refl
dot_settled (One (Literal text) lo hi) later = by_text (is_digits text) (ends_with 46 text)
  where
    by_text : (digits ends : Bool)
        → (if not (if digits then first_passes bars_dot later else not ends) then Space else Nothing)
        ≡ settled (if digits then None else (if ends then Some Space else Some Nothing)) later
    by_text true ends = flipped (first_passes bars_dot later)
    by_text false true = refl
    by_text false false = refl
dot_settled (Opens d lo) later = refl
dot_settled (Closes d hi) later = refl

apart_settled : (before : Event) (chosen : Gap) (next : Event) (later : List ℕ)
    → (if must_part before next later then some chosen else chosen) ≡ settled (gap_apart before chosen next) later
apart_settled before Nothing next later = by_tests (goes_on before (event_text next)) (is_dot next)
  where
    by_tests : (goes dot : Bool)
        → (if goes && not (dot && leaves_dot before later) then Space else Nothing)
        ≡ settled (if goes then (if dot then gap_before_dot before else Some Space) else Some Nothing) later
    by_tests false dot = refl
    by_tests true false = refl
    by_tests true true = dot_settled before later
apart_settled before Space next later = same_both (must_part before next later) Space
apart_settled before (Line n) next later = same_both (must_part before next later) (Line n)
apart_settled before (Blank n) next later = same_both (must_part before next later) (Blank n)

-- the gap that is written is the known one, or the text after the dot decides
pub fitting_settled : (before : Option Event) (chosen : Gap) (next : Event) (later : List ℕ)
    → fitting before chosen next later ≡ settled (known_gap before chosen next) later
fitting_settled None chosen next later = refl
fitting_settled (Some before) chosen next later = by_joint (is_joint before)
  where
    by_joint : (joint : Bool)
        → (if joint then Nothing else (if must_part before next later then some chosen else chosen))
        ≡ settled (if joint then Some Nothing else gap_apart before chosen next) later
    by_joint true = refl
    by_joint false = apart_settled before chosen next later

-- ---- where the gap is not known

apart_dot : (before : Event) (chosen : Gap) (next : Event) → gap_apart before chosen next ≡ None → is_dot next ≡ true
apart_dot before Nothing next is = by_tests (goes_on before (event_text next)) (is_dot next) is
  where
    by_tests : (goes dot : Bool)
        → (if goes then (if dot then gap_before_dot before else Some Space) else Some Nothing) ≡ None → dot ≡ true
    by_tests goes true is = refl
    by_tests true false is = absurd (cc)
    by_tests false false is = absurd (cc)
apart_dot before Space next is = absurd (cc)
apart_dot before (Line n) next is = absurd (cc)
apart_dot before (Blank n) next is = absurd (cc)

-- only a gap before a dot is not known
unknown_dot : (before : Option Event) (chosen : Gap) (next : Event) → known_gap before chosen next ≡ None
    → is_dot next ≡ true
unknown_dot None chosen next is = absurd (cc)
unknown_dot (Some before) chosen next is = by_joint (is_joint before) is
  where
    by_joint : (joint : Bool) → (if joint then Some Nothing else gap_apart before chosen next) ≡ None
        → is_dot next ≡ true
    by_joint true is = absurd (cc)
    by_joint false is = apart_dot before chosen next is

after_mark : (c lo hi : ℕ) (joint : Bool) (chosen : Gap) (next : Event)
    → gap_apart (One (Mark c joint) lo hi) chosen next ≡ None → ⊥
after_mark c lo hi joint Nothing next is =
    by_tests (goes_on (One (Mark c joint) lo hi) (event_text next)) (is_dot next) is
  where
    by_tests : (goes dot : Bool) → (if goes then (if dot then Some Space else Some Space) else Some Nothing) ≡ None → ⊥
    by_tests true true is = absurd (cc)
    by_tests true false is = absurd (cc)
    by_tests false dot is = absurd (cc)
after_mark c lo hi joint Space next is = absurd (cc)
after_mark c lo hi joint (Line n) next is = absurd (cc)
after_mark c lo hi joint (Blank n) next is = absurd (cc)

-- the gap after a dot is known
known_after_dot : (before : Event) (chosen : Gap) (next : Event) → is_dot before ≡ true
    → known_gap (Some before) chosen next ≡ None → ⊥
known_after_dot (One (Mark c true) lo hi) chosen next dot is = absurd (cc)
known_after_dot (One (Mark c false) lo hi) chosen next dot is = after_mark c lo hi false chosen next is
known_after_dot (One (Name raw name) lo hi) chosen next dot is = absurd (both_ways false refl dot)
known_after_dot (One (Literal text) lo hi) chosen next dot is = absurd (both_ways false refl dot)
known_after_dot (Opens d lo) chosen next dot is = absurd (both_ways false refl dot)
known_after_dot (Closes d hi) chosen next dot is = absurd (both_ways false refl dot)

-- ---- the dot that is held back

-- if something is held back, it is a dot
abbrev pub HeldDot : Bool → Option Event → Type 0
HeldDot false before = Unit {0}
HeldDot true None = ⊥
HeldDot true (Some before) = is_dot before ≡ true

-- a dot is held back only if no dot is
held_alone : (held : Bool) (before : Option Event) (chosen : Gap) (next : Event) → HeldDot held before
    → known_gap before chosen next ≡ None → held ≡ false
held_alone false before chosen next dot is = refl
held_alone true None chosen next dot is = absurd dot
held_alone true (Some before) chosen next dot is = absurd (known_after_dot before chosen next dot is)

-- what is held back after a step is a dot
pub held_next : (before : Option Event) (chosen : Gap) (next : Event) (holds : Bool)
    → holds ≡ is_none (known_gap before chosen next) → HeldDot holds (Some next)
held_next before chosen next holds is = rw is (by_gap (known_gap before chosen next) refl)
  where
    by_gap : (known : Option Gap) → known_gap before chosen next ≡ known → HeldDot (is_none known) (Some next)
    by_gap None same = unknown_dot before chosen next same
    by_gap (Some gap) same = tt

dot_text : (e : Event) → is_dot e ≡ true → event_text e ≡ codes "."
dot_text (One (Mark c joint) lo hi) dot = ap (λ x. x ∷ []) (eqb-true c 46 dot)
dot_text (One (Name raw name) lo hi) dot = absurd (both_ways false refl dot)
dot_text (One (Literal text) lo hi) dot = absurd (both_ways false refl dot)
dot_text (Opens d lo) dot = absurd (both_ways false refl dot)
dot_text (Closes d hi) dot = absurd (both_ways false refl dot)

-- what is written for a step and is held back after it is the step with its gap, after what was held back before it.
-- `near` is the text right after the step, and `rest` all text after it
pub pushed_once : (done : List ℕ) (held : Bool) (before : Option Event) (chosen : Gap) (e : Event) (near rest : List ℕ)
    → HeldDot held before
    → done ++ (held_text held (gap_text (fitting before chosen e near) ++ event_text e)
    ++ ((gap_text (fitting before chosen e near) ++ event_text e) ++ rest))
    ≡ (done ++ pushed held (known_gap before chosen e) e)
    ++ (held_text (is_none (known_gap before chosen e)) near ++ rest)
pushed_once done held before chosen e near rest dot =
    ap (λ gap. done ++ (held_text held (gap_text gap ++ event_text e) ++ ((gap_text gap ++ event_text e) ++ rest)))
    (fitting_settled before chosen e near)
    ∙ by_gap (known_gap before chosen e) refl
  where
    by_bars : (bars : Bool)
        → done ++ ((gap_text (if bars then Nothing else Space) ++ codes ".") ++ rest)
        ≡ (done ++ []) ++ ((if bars then codes "." else codes " .") ++ rest)
    by_bars true = ap (λ z. z ++ (codes "." ++ rest)) (sym (append-nil done))
    by_bars false = ap (λ z. z ++ (codes " ." ++ rest)) (sym (append-nil done))

    by_gap : (known : Option Gap) → known_gap before chosen e ≡ known
        → done ++ (held_text held (gap_text (settled known near) ++ event_text e)
        ++ ((gap_text (settled known near) ++ event_text e) ++ rest))
        ≡ (done ++ pushed held known e) ++ (held_text (is_none known) near ++ rest)
    by_gap None same =
        ap₂ (λ h t. done ++ (held_text h (gap_text (settled None near) ++ t)
        ++ ((gap_text (settled None near) ++ t) ++ rest)))
        (held_alone held before chosen e dot same) (dot_text e (unknown_dot before chosen e same))
        ∙ by_bars (first_passes bars_dot near)
    by_gap (Some gap) same =
        let own = gap_text gap ++ event_text e in
        sym (append_assoc done (held_text held own ++ own) rest
        ∙ ap (λ z. done ++ z) (append_assoc (held_text held own) own rest))
