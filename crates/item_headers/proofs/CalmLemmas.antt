-- Attributes, types and bounds end in a sign that is not read with the tree after it.
use Rattle.std.proofs.Common.{◌≡◌, refl, sym, ◌∙◌, ap, subst, Bool, true, false, not, ◌&&◌, ◌||◌, List, [], ◌∷◌, ◌++◌}
use Rattle.std.proofs.lemmas.Bool.{and_parts, both_ways, or_cases, or_parts}
use Rattle.std.proofs.Common.{inl, inr}
use Rattle.grammars.specs.Grammar.{Derives, Either, Event, Listed, Mark, Many, Nothing, Sign, Then, To, both}
use Rattle.grammars.specs.Grammar.{element, empty, first, last, mark, more, none, nothing, second, sign, signs_of, to}
use Rattle.grammars.specs.Machine.{is_nullable}
use Rattle.grammars.proofs.SoundLemmas.{signs_append}
use Rattle.item_tables.specs.Classes.{every}
use Rattle.item_tables.specs.declared.class.SignClass.{SignClass}
use Rattle.item_tables.specs.declared.types.TypeState.TheVariants as states
use Rattle.declarations.specs.Signs.{Sign as Read, classes_of}
use Rattle.declarations.specs.rules.Names.{G, Label, Name, Outside, Range}
use Rattle.declarations.specs.rules.Rules.{rules}
use Rattle.declarations.proofs.ClassLemmas.{every_holds}
use Rattle.item_headers.proofs.SeamLemmas.{Calm, calm_one, may_pair}

-- the last of the classes, if there is one, is not that of a mark that may be read with the tree after it
abbrev pub Quiet : List SignClass → Type 0
Quiet [] = Unit {0}
Quiet (c ∷ []) = may_pair c ≡ false
Quiet (c ∷ (d ∷ rest)) = Quiet (d ∷ rest)

pub quiet_calm : (piece : List Read) → Quiet (classes_of piece) → Calm piece
quiet_calm [] h = tt
quiet_calm (one ∷ []) h = calm_one one h
quiet_calm (one ∷ (next ∷ rest)) h = quiet_calm (next ∷ rest) h

quiet_both : (xs ys : List SignClass) → Quiet xs → Quiet ys → Quiet (xs ++ ys)
quiet_both [] ys a b = b
quiet_both (x ∷ []) [] a b = a
quiet_both (x ∷ []) (y ∷ ys) a b = b
quiet_both (x ∷ (z ∷ xs)) ys a b = quiet_both (z ∷ xs) ys a b

-- what comes before other signs does not matter
quiet_last : (xs ys : List SignClass) → (ys ≡ [] → ⊥) → Quiet ys → Quiet (xs ++ ys)
quiet_last xs [] some b = absurd (some refl)
quiet_last [] (y ∷ ys) some b = b
quiet_last (x ∷ []) (y ∷ ys) some b = b
quiet_last (x ∷ (z ∷ xs)) (y ∷ ys) some b = quiet_last (z ∷ xs) (y ∷ ys) some b

no_front : {T : Type 0} (xs ys : List T) → xs ++ ys ≡ [] → xs ≡ []
no_front [] ys e = refl
no_front (x ∷ xs) ys e = cc

no_back : {T : Type 0} (xs ys : List T) → xs ++ ys ≡ [] → ys ≡ []
no_back [] ys e = e
no_back (x ∷ xs) ys e = cc

-- ---- what a rule derives ends quietly

-- no sign that passes the test is such a mark
abbrev passes_quiet : (SignClass → Bool) → Bool
passes_quiet passes = every (λ c. not (passes c && may_pair c))

-- whether this is the rule of a type or bounds outside of angle brackets
abbrev is_outside : Name → Bool
is_outside (Range state Outside) = true
is_outside _ = false

-- a test of grammars: what they derive ends in no such mark
abbrev pub ends_quietly : G → Bool
ends_quietly Nothing = true
ends_quietly (Sign passes) = passes_quiet passes
ends_quietly (To passes n) = is_outside n && (passes_quiet passes || not (is_nullable (rules n)))
ends_quietly (Mark l) = true
ends_quietly (Then a b) = ends_quietly b && (not (is_nullable b) || ends_quietly a)
ends_quietly (Either a b) = ends_quietly a && ends_quietly b
ends_quietly (Many a) = ends_quietly a
ends_quietly (Listed a s) = ends_quietly a && ends_quietly s

-- types and bounds outside of angle brackets pass the test
range_ends : (n : Name) → is_outside n ≡ true → ends_quietly (rules n) ≡ true
range_ends (Range states.Wanted Outside) h = refl
range_ends (Range states.Bound Outside) h = refl
range_ends (Range _ Outside) h = refl
range_ends _ h = absurd (both_ways _ refl h)

not_true : (b : Bool) → not b ≡ true → b ≡ false
not_true true h = cc
not_true false h = refl

quiet_sign : (passes : SignClass → Bool) (c : SignClass) → passes_quiet passes ≡ true → passes c ≡ true
    → may_pair c ≡ false
quiet_sign passes c h e = go (passes c) (may_pair c) (every_holds (λ c. not (passes c && may_pair c)) h c) e
  where
    go : (p m : Bool) → not (p && m) ≡ true → p ≡ true → m ≡ false
    go true m h e = not_true m h
    go false m h e = cc

-- what needs a sign derives one
derives_some : (g : G) (events : List (Event SignClass Label)) → is_nullable g ≡ false → Derives rules g events
    → signs_of events ≡ []
    → ⊥
derives_some _ _ h nothing e = cc
derives_some _ _ h (sign c p) e = cc
derives_some _ _ h (to c p d) e = cc
derives_some _ _ h (mark l) e = cc
derives_some _ _ h (both {a = a} {b = b} {front = f} {back = g} x y) e =
    go (is_nullable a) refl (λ i. derives_some a f i x (no_front (signs_of f) (signs_of g) split))
    (λ i. derives_some b g i y (no_back (signs_of f) (signs_of g) split))
  where
    split : signs_of f ++ signs_of g ≡ []
    split = sym (signs_append f g) ∙ e

    go : (n : Bool) → is_nullable a ≡ n → (is_nullable a ≡ false → ⊥) → (is_nullable b ≡ false → ⊥) → ⊥
    go false i none_a none_b = none_a i
    go true i none_a none_b = none_b (sym (ap (λ n. n && is_nullable b) i) ∙ h)
derives_some _ _ h (first {a = a} {b = b} {events = f} d) e =
    derives_some a f (or_parts (is_nullable a) (is_nullable b) h).0 d e
derives_some _ _ h (second {a = a} {b = b} {events = f} d) e =
    derives_some b f (or_parts (is_nullable a) (is_nullable b) h).1 d e
derives_some _ _ h none e = cc
derives_some _ _ h (more x y) e = cc
derives_some _ _ h empty e = cc
derives_some _ _ h (last d) e = cc
derives_some _ _ h (element x y z) e = cc

-- what a grammar that passes the test derives ends in no such mark
pub quiet : (g : G) (events : List (Event SignClass Label)) → ends_quietly g ≡ true → Derives rules g events
    → Quiet (signs_of events)
quiet _ _ h nothing = tt
quiet _ _ h (sign {passes = passes} c p) = quiet_sign passes c h p
quiet _ _ h (to {passes = passes} {n = n} c {events = f} p d) =
    let parts = and_parts (is_outside n) (passes_quiet passes || not (is_nullable (rules n))) h in
    let rest = quiet (rules n) f (range_ends n parts.0) d in
    elim (or_cases (passes_quiet passes) (not (is_nullable (rules n))) parts.1) [
      | inl q ↦ quiet_both (c ∷ []) (signs_of f) (quiet_sign passes c q p) rest
      | inr some ↦ quiet_last (c ∷ []) (signs_of f) (derives_some (rules n) f (not_true _ some) d) rest
    ]
quiet _ _ h (mark l) = tt
quiet _ _ h (both {a = a} {b = b} {front = f} {back = g} x y) =
    let parts = and_parts (ends_quietly b) (not (is_nullable b) || ends_quietly a) h in
    let last = quiet b g parts.0 y in
    subst Quiet (sym (signs_append f g))
    (elim (or_cases (not (is_nullable b)) (ends_quietly a) parts.1) [
      | inl some ↦ quiet_last (signs_of f) (signs_of g) (derives_some b g (not_true _ some) y) last
      | inr q ↦ quiet_both (signs_of f) (signs_of g) (quiet a f q x) last
    ])
quiet _ _ h (first {a = a} {b = b} {events = f} d) = quiet a f (and_parts (ends_quietly a) (ends_quietly b) h).0 d
quiet _ _ h (second {a = a} {b = b} {events = f} d) = quiet b f (and_parts (ends_quietly a) (ends_quietly b) h).1 d
quiet _ _ h none = tt
quiet _ _ h (more {a = a} {front = f} {back = g} x y) =
    subst Quiet (sym (signs_append f g))
    (quiet_both (signs_of f) (signs_of g) (quiet a f h x) (quiet (Many a) g h y))
quiet _ _ h empty = tt
quiet _ _ h (last {a = a} {s = s} {events = f} d) = quiet a f (and_parts (ends_quietly a) (ends_quietly s) h).0 d
quiet _ _ h (element {a = a} {s = s} {front = f} {mid = m} {back = g} x y z) =
    let parts = and_parts (ends_quietly a) (ends_quietly s) h in
    subst Quiet (sym (signs_append f (m ++ g) ∙ ap (λ c. signs_of f ++ c) (signs_append m g)))
    (quiet_both (signs_of f) (signs_of m ++ signs_of g) (quiet a f parts.0 x)
    (quiet_both (signs_of m) (signs_of g) (quiet s m parts.1 y) (quiet (Listed a s) g h z)))
