-- What the steps write, and the gaps between them.
use Rattle.std.specs.Prelude.{not, ◌&&◌}
use Rattle.std.proofs.Common.{◌≡◌, ℕ, Bool, true, false, List, [], ◌∷◌, Option, Some, None}
use Rattle.std.proofs.Common.{refl, sym, ap, ◌∙◌, zero, suc}
use Rattle.std.proofs.Common.{MatchOption}
use Rattle.std.specs.Prelude.{String, string_bytes}
use Rattle.std.specs.Str.{chars, encode_utf8_all}
use Rattle.std.proofs.lemmas.Str.{IsUtf8-string_bytes, encodes-chars, encodes_same}
use Rattle.std.specs.Prelude.{if◌then◌else◌}
use Rattle.std.proofs.lemmas.Bool.{and_from, not_from_false, or_left, or_right}
use Rattle.lexical.specs.Token as tokens
use Rattle.lexical.specs.Token.{Token, Name, Mark}
use Rattle.lexical.specs.Class.{is_white}
use Rattle.lexical.specs.Number.{bars_dot}
use Rattle.lexical.specs.Text.{ends_with, first_passes}
use Rattle.pm_stream.specs.Events.{Event, One, Opens, Closes}
use Rattle.pm_stream.specs.Forest.{Forest, nil, leaf, group, flat_onto, flattening}
use Rattle.pm_stream.specs.InOrder.{token_tree}
use Rattle.pm_stream.specs.Steps.{Step, Leave, step_of, steps, steps_onto}
use Rattle.pm_stream.specs.declared.steps.Step.{Step as Given}
use Rattle.pm_stream.specs.declared.stream.Group.{Group as Grouped}
use Rattle.layout.specs.Layout.{event_text, goes_on, is_digits, is_dot, is_joint, leaves_dot, must_part, may_part, Laid}
use Rattle.layout.specs.Layout.{laid_front, IsGap, may_follow}
use Rattle.layout.specs.Writing.{event_of, tree_event, fitting, gap_text, some, spaces}
use Rattle.layout.specs.declared.gaps.Gap.{Gap}
use Rattle.layout.specs.declared.gaps.Gap.TheVariants.{Nothing, Space, Line, Blank}

-- ---- what the steps write

abbrev pub events_left : List Step → List Event
events_left [] = []
events_left (step ∷ steps) = event_of step ∷ events_left steps

token_event : (token : Token) (lo hi : ℕ) → tree_event (token_tree token lo hi) ≡ One token lo hi
token_event (Name raw name) lo hi = refl
token_event (Mark c true) lo hi = refl
token_event (Mark c false) lo hi = refl
token_event (tokens.Literal text) lo hi = refl

events_left-onto : (f : Forest) (more : List Step) → events_left (steps_onto f more) ≡ flat_onto f (events_left more)
events_left-onto nil more = refl
events_left-onto (leaf token lo hi rest) more =
    rw (token_event token lo hi) (ap (λ es. One token lo hi ∷ es) (events_left-onto rest more))
events_left-onto (group d lo hi inside rest) more =
    let whole : Grouped = record { delimiter = d; stream = inside; span = record { lo = lo; hi = hi } } in
    ap (λ es. Opens d lo ∷ es)
    (events_left-onto inside (Leave whole rest ∷ steps_onto rest more)
    ∙ ap (λ es. flat_onto inside (Closes d hi ∷ es)) (events_left-onto rest more))

pub events_left-steps : (f : Forest) → events_left (steps f) ≡ flattening f
events_left-steps f = events_left-onto f []

-- no step is left once there is no next one
pub none_taken : (next : Option Given) (old new : List Step) → next ≡ None
    → MatchOption next ((old ≡ []) × (new ≡ [])) (λ s. old ≡ step_of s ∷ new) → old ≡ []
none_taken next old new is h = (rw is at h).0

-- ---- gaps

spaces_white : (n : ℕ) → IsGap (spaces n)
spaces_white zero = refl
spaces_white (suc n) = and_from (is_white 32) _ refl (spaces_white n)

pub gap_white : (gap : Gap) → IsGap (gap_text gap)
gap_white Nothing = refl
gap_white Space = refl
gap_white (Line n) = and_from (is_white 10) _ refl (spaces_white n)
gap_white (Blank n) = and_from (is_white 10) _ refl (and_from (is_white 10) _ refl (spaces_white n))

leaves_alike : (before : Event) (near other : List ℕ) → first_passes bars_dot near ≡ first_passes bars_dot other
    → leaves_dot before near ≡ leaves_dot before other
leaves_alike (One (tokens.Name raw name) lo hi) near other same = refl
leaves_alike (One (tokens.Mark c joint) lo hi) near other same = refl
leaves_alike (One (tokens.Literal text) lo hi) near other same =
    ap (λ bars. if is_digits text then bars else not (ends_with 46 text)) same
leaves_alike (Opens d lo) near other same = refl
leaves_alike (Closes d hi) near other same = refl

-- texts that agree about a dot before them also agree about what must be parted before that dot
parts_alike : (before next : Event) (near other : List ℕ) → first_passes bars_dot near ≡ first_passes bars_dot other
    → must_part before next near ≡ must_part before next other
parts_alike before next near other same =
    ap (λ leaves. goes_on before (event_text next) && not (is_dot next && leaves)) (leaves_alike before near other same)

-- whether `xs` may follow what was written, if anything was
abbrev pub may_begin : Option Event → List Laid → Bool
may_begin None xs = true
may_begin (Some before) xs = may_follow before xs

pub nothing_follows : (before : Option Event) → may_begin before [] ≡ true
nothing_follows None = refl
nothing_follows (Some before) = refl

-- the gap that is written is allowed, if `near` agrees with the text that is laid out after `e` about a dot before it
pub fitting_may : (before : Option Event) (chosen : Gap) (e : Event) (near : List ℕ) (xs : List Laid)
    → first_passes bars_dot near ≡ first_passes bars_dot (laid_front xs)
    → may_begin before ((gap_text (fitting before chosen e near), e) ∷ xs) ≡ true
fitting_may None chosen e near xs same = refl
fitting_may (Some before) chosen e near xs same =
    by_cases chosen (is_joint before) (must_part before e near) refl
    (sym (parts_alike before e near (laid_front xs) same))
  where
    by_cases : (chosen : Gap) (joint must : Bool) → is_joint before ≡ joint
        → must_part before e (laid_front xs) ≡ must
        → may_part before (gap_text (if joint then Nothing else (if must then some chosen else chosen))) e
        (laid_front xs) ≡ true
    by_cases chosen true must j m = or_left (is_joint before) _ j
    by_cases Nothing false false j m =
        or_right (is_joint before) _ (not_from_false (must_part before e (laid_front xs)) m)
    by_cases Nothing false true j m = not_from_false (is_joint before) j
    by_cases Space false false j m = not_from_false (is_joint before) j
    by_cases Space false true j m = not_from_false (is_joint before) j
    by_cases (Line n) false false j m = not_from_false (is_joint before) j
    by_cases (Line n) false true j m = not_from_false (is_joint before) j
    by_cases (Blank n) false false j m = not_from_false (is_joint before) j
    by_cases (Blank n) false true j m = not_from_false (is_joint before) j

-- ---- what the calls write

-- the characters of a string are those of the text that it encodes
pub string_chars : {Z : Type 0} (s : String Z) (text : List ℕ) → string_bytes s ≡ encode_utf8_all text
    → chars (string_bytes s) ≡ text
string_chars s text e =
    encodes_same _ _ (encodes-chars (string_bytes s) (IsUtf8-string_bytes s) ∙ e)
