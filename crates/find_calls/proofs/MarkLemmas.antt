-- What a mark in generic arguments changes.
use Rattle.std.proofs.Common.{◌≡◌, ℕ, ◌+◌, ◌^◌, ◌<◌, ◌≤◌, ◌==◌, Bool, true, false}
use Rattle.std.proofs.Common.{List, [], ◌∷◌, ◌++◌, length, reverse, Option, Some, None, refl, sym, ap, ap₂, ◌∙◌, arith}
use Rattle.std.proofs.Common.{if◌then◌else◌, ne_eqb, subst, eqb-true}
use Rattle.std.proofs.lemmas.List.{length-reverse}
use Rattle.lexical.specs.Token.{Token, Mark}
use Rattle.pm_span.specs.Extent.{Extent}
use Rattle.pm_stream.specs.Forest.{Forest, nil, leaf, group}
use Rattle.pm_stream.specs.Size.{count}
use Rattle.token_buffer.specs.Arguments.{begins_arrow}
use Rattle.token_buffer.specs.Arguments.{is_token_mark}
use Rattle.find_calls.specs.Calls.{calls_onto, has_arguments}
use Rattle.find_calls.specs.declared.calls.Candidate.{Candidate}
use Rattle.find_calls.specs.declared.calls.Open.{Open}
use Rattle.find_calls.specs.declared.calls.Open.TheVariants.{Group, Angle}
use Rattle.find_calls.specs.Opened.{close_angle, resolve, AreBelow}
use Rattle.find_calls.specs.Opened.{Passes, Closes}
use Rattle.find_calls.specs.Opened.{is_in_angle, past_arrow}
use Rattle.find_calls.proofs.OpenLemmas.{reverse-last, is_bracket, mark-length, resolve-agree}
use Rattle.find_calls.proofs.OpenLemmas.{resolve-closes, resolve-opens}
use Rattle.find_calls.proofs.OpenLemmas.{resolve-plain}
use Rattle.find_calls.proofs.FollowLemmas.{and_true, mark_is}

-- ---- marks in generic arguments

-- a mark that opens and closes nothing, and begins no arrow
pub passes_plain : (c : ℕ) (joint : Bool) (f : Forest) (opened : List Open) (found : List Candidate)
    → is_bracket false (Mark c joint) ≡ false → begins_arrow (Mark c joint) ≡ false
    → Passes (Mark c joint) f opened found f opened found
passes_plain c joint f opened found plain arrow = record {
  below = λ h. h;
  same = λ lo hi. resolve-plain false (Mark c joint) lo hi f opened found plain
      ∙ ap (λ a. resolve 0 a f opened found) arrow;
  onto = λ name more. refl;
  outside = λ name. refl;
  few = omega arith;
}

-- the `-` of an arrow, with its `>`
arrow-token : (token : Token) (lo hi : ℕ) (f : Forest) (opened : List Open) (found : List Candidate) (is : Bool)
    → is_token_mark 62 token ≡ is
    → resolve 0 true (leaf token lo hi f) opened found
    ≡ resolve 0 false (if is then f else leaf token lo hi f) opened found
arrow-token token lo hi f opened found true is =
    let mark = mark_is 62 token is in
    ap (λ t. resolve 0 true (leaf t lo hi f) opened found) mark.1
    ∙ resolve-plain true (Mark 62 mark.0) lo hi f opened found refl
arrow-token token lo hi f opened found false is =
    resolve-agree 0 0 true false (leaf token lo hi f) (leaf token lo hi f) opened found (λ n. rw (is))

arrow-past : (f : Forest) (opened : List Open) (found : List Candidate)
    → resolve 0 true f opened found ≡ resolve 0 false (past_arrow f) opened found
arrow-past nil opened found = resolve-agree 0 0 true false nil nil opened found (λ n. refl)
arrow-past (group d lo hi inside rest) opened found =
    resolve-agree 0 0 true false (group d lo hi inside rest) (group d lo hi inside rest) opened found (λ n. refl)
arrow-past (leaf token lo hi f) opened found =
    arrow-token token lo hi f opened found (is_token_mark 62 token) refl

arrow-onto : (token : Token) (lo hi : ℕ) (f : Forest) (name : List ℕ) (more : List Extent) (is : Bool)
    → is_token_mark 62 token ≡ is
    → calls_onto name false (leaf token lo hi f) more
    ≡ calls_onto name false (if is then f else leaf token lo hi f) more
arrow-onto token lo hi f name more false is = refl
arrow-onto token lo hi f name more true is =
    let mark = mark_is 62 token is in ap (λ t. calls_onto name false (leaf t lo hi f) more) mark.1

past-onto : (f : Forest) (name : List ℕ) (more : List Extent)
    → calls_onto name false f more ≡ calls_onto name false (past_arrow f) more
past-onto nil name more = refl
past-onto (group d lo hi inside rest) name more = refl
past-onto (leaf token lo hi f) name more = arrow-onto token lo hi f name more (is_token_mark 62 token) refl

count-if : (is : Bool) (token : Token) (lo hi : ℕ) (f : Forest)
    → count (if is then f else leaf token lo hi f) ≤ 1 + count f
count-if true token lo hi f = omega arith
count-if false token lo hi f = omega arith

past-count : (f : Forest) → count (past_arrow f) ≤ count f
past-count nil = omega arith
past-count (group d lo hi inside rest) = omega arith
past-count (leaf token lo hi f) = count-if (is_token_mark 62 token) token lo hi f

pub passes_arrow : (f : Forest) (opened : List Open) (found : List Candidate)
    → Passes (Mark 45 true) f opened found (past_arrow f) opened found
passes_arrow f opened found = record {
  below = λ h. h;
  same = λ lo hi. resolve-plain false (Mark 45 true) lo hi f opened found refl ∙ arrow-past f opened found;
  onto = λ name more. past-onto f name more;
  outside = λ name. refl;
  few = omega (arith, past-count f);
}

-- a `<`
pub passes_open : (joint : Bool) (f : Forest) (opened : List Open) (found : List Candidate)
    → length opened + 1 < 2 ^ 32 → Passes (Mark 60 joint) f opened found f (Angle None ∷ opened) found
passes_open joint f opened found few = record {
  below = λ h. h;
  same = λ lo hi. resolve-opens 0 false (Mark 60 joint) lo hi f opened found refl (omega arith);
  onto = λ name more. refl;
  outside = λ name. refl;
  few = omega arith;
}

closed-below : (opens : Option ℕ) (f : Forest) (outer : List Open) (found : List Candidate)
    → AreBelow (length found) (Angle opens ∷ outer) → AreBelow (length (close_angle opens f found)) outer
closed-below None f outer found h = h
closed-below (Some k) f outer found h =
    subst (λ n. AreBelow n outer) (sym (mark-length k (has_arguments f) found)) h.1

-- a `>`
pub passes_close : (joint : Bool) (f : Forest) (opened : List Open) (found : List Candidate) (now : List Open)
    (new_found : List Candidate) → is_in_angle opened ≡ true → Closes f opened found now new_found
    → Passes (Mark 62 joint) f opened found f now new_found
passes_close joint f [] found now new_found within closes = absurd (cc)
passes_close joint f (Group after ∷ outer) found now new_found within closes = absurd (cc)
passes_close joint f (Angle opens ∷ outer) found now new_found within closes =
    subst (λ xs. Passes (Mark 62 joint) f (Angle opens ∷ outer) found f xs new_found) (sym closes.0)
    (subst (λ xs. Passes (Mark 62 joint) f (Angle opens ∷ outer) found f outer xs) (sym closes.1) (record {
      below = closed-below opens f outer found;
      same = λ lo hi. resolve-closes false (Mark 62 joint) lo hi f opens outer found refl refl;
      onto = λ name more. refl;
      outside = λ name. refl;
      few = omega arith;
    }))

-- ---- marks, by their characters

pub turn_open : (m : ℕ) (joint : Bool) (f : Forest) (opened now : List Open) (found : List Candidate) → m ≡ 60
    → now ≡ opened ++ (Angle None ∷ []) → length opened + 1 < 2 ^ 32
    → Passes (Mark m joint) f (reverse opened) found f (reverse now) found
turn_open m joint f opened now found is pushed few =
    let small : length (reverse opened) + 1 < 2 ^ 32 = omega (arith, length-reverse opened) in
    subst (λ n. Passes (Mark n joint) f (reverse opened) found f (reverse now) found) (sym is)
    (subst (λ xs. Passes (Mark 60 joint) f (reverse opened) found f xs found)
    (sym (ap reverse pushed ∙ reverse-last opened (Angle None))) (passes_open joint f (reverse opened) found small))

pub turn_close : (m : ℕ) (joint : Bool) (f : Forest) (opened : List Open) (found : List Candidate) (now : List Open)
    (new_found : List Candidate) → m ≡ 62 → is_in_angle opened ≡ true → Closes f opened found now new_found
    → Passes (Mark m joint) f opened found f now new_found
turn_close m joint f opened found now new_found is within closes =
    subst (λ n. Passes (Mark n joint) f opened found f now new_found) (sym is)
    (passes_close joint f opened found now new_found within closes)

pub turn_arrow : (m : ℕ) (joint : Bool) (f next : Forest) (opened : List Open) (found : List Candidate)
    → begins_arrow (Mark m joint) ≡ true → next ≡ past_arrow f
    → Passes (Mark m joint) f opened found next opened found
turn_arrow m joint f next opened found arrow is =
    let both = and_true (m == 45) joint arrow in
    subst (λ t. Passes t f opened found next opened found) (sym (ap₂ Mark (eqb-true m 45 both.0) both.1))
    (subst (λ x. Passes (Mark 45 true) f opened found x opened found) (sym is) (passes_arrow f opened found))

pub turn_none : (m : ℕ) (joint : Bool) (f : Forest) (opened : List Open) (found : List Candidate) → (m ≡ 60 → ⊥)
    → (m ≡ 62 → ⊥) → begins_arrow (Mark m joint) ≡ false → Passes (Mark m joint) f opened found f opened found
turn_none m joint f opened found not_open not_close arrow =
    passes_plain m joint f opened found (rw (ne_eqb m 60 not_open, ne_eqb m 62 not_close)) arrow
