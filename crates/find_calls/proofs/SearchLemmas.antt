-- The steps of a search lose no call and make none up.
use Rattle.std.proofs.Common.{◌≡◌, ℕ, ◌+◌, ◌*◌, ◌^◌, ◌<◌, Bool, true, false, not, ◌&&◌}
use Rattle.std.proofs.Common.{List, [], ◌∷◌, ◌++◌, length, reverse, Option, Some, None, refl, sym, ap, ap₂, ◌∙◌, arith}
use Rattle.std.proofs.Common.{if◌then◌else◌, append_assoc, length-append, subst, ◌⊎◌, inl, inr}
use Rattle.std.proofs.lemmas.List.{length-reverse}
use Rattle.std.specs.Option.{MatchOption}
use Rattle.lexical.specs.Token.{Token, Name, Mark}
use Rattle.pm_token.specs.declared.delimiters.Delimiter.{Delimiter}
use Rattle.pm_span.specs.Extent.{Extent}
use Rattle.pm_stream.specs.Forest.{Forest, nil, leaf, group}
use Rattle.pm_stream.specs.Size.{count}
use Rattle.token_buffer.specs.Arguments.{begins_arrow}
use Rattle.token_buffer.specs.Arguments.{past_arguments}
use Rattle.token_buffer.specs.Reads.{first_extent, left}
use Rattle.token_buffer.specs.declared.cursor.Cursor.{Cursor}
use Rattle.find_calls.specs.Calls.{calls_onto, has_arguments_there, is_called, is_fn, is_named}
use Rattle.find_calls.specs.declared.calls.Candidate.{Candidate}
use Rattle.find_calls.specs.declared.calls.Open.{Open}
use Rattle.find_calls.specs.declared.calls.Open.TheVariants.{Group, Angle}
use Rattle.find_calls.specs.Opened.{put, call_spans, as_call, resolve, rests, rests_steps, AreBelow}
use Rattle.find_calls.specs.Opened.{Leaves, IsNoted, IsOpened, candidate}
use Rattle.find_calls.specs.Opened.{inside_turbofish, is_called_at_once, is_in_angle}
use Rattle.find_calls.proofs.OpenLemmas.{reverse-last, below-append, below-outer, is_bracket, kept-append}
use Rattle.find_calls.proofs.OpenLemmas.{mark-last, put-append}
use Rattle.find_calls.proofs.OpenLemmas.{put_if, resolve-append, resolve-group, resolve-opens, resolve-plain}
use Rattle.find_calls.proofs.OpenLemmas.{resolve-unclosed}
use Rattle.find_calls.proofs.FollowLemmas.{and_false, and_false2, called_at_once, turbofish_is}

-- ---- the search

-- what is found, whether `fn` is right before the trees that are left, those trees, and what is open
pub record View : Type 0 where
  pub found : List Candidate
  pub follows_fn : Bool
  pub here : Forest
  pub opened : List Open

-- the calls among the candidates, and those that are left, are all
abbrev pub AreAll : List ℕ → View → List Extent → Type 0
AreAll name v all =
    AreBelow (length v.found) v.opened
    × (call_spans (resolve 0 false v.here v.opened v.found)
    ++ calls_onto name v.follows_fn v.here (rests name v.opened) ≡ all)

-- how many steps are left
abbrev pub steps : View → ℕ
steps v = 2 * count v.here + rests_steps v.opened

-- no call is lost or made up from the one view to the other, of which fewer steps are left
pub record Moves (name : List ℕ) (old new : View) : Type 0 where
  pub all : (all : List Extent) → AreAll name old all → AreAll name new all
  pub less : steps new < steps old

-- ---- steps

abbrev pub at : List Candidate → Bool → Forest → List Open → View
at found follows_fn here opened = record { found = found; follows_fn = follows_fn; here = here; opened = opened }

calls_skip : (name : List ℕ) (defined : Bool) (token : Token) (lo hi : ℕ) (f : Forest) (more : List Extent)
    → (is_named name token && (not defined && is_called f)) ≡ false
    → calls_onto name defined (leaf token lo hi f) more ≡ calls_onto name (is_fn token) f more
calls_skip name defined token lo hi f more h = rw h

-- a name that is searched for, and what it has after it
calls_if : (name : List ℕ) (defined : Bool) (token : Token) (lo hi : ℕ) (f : Forest) (more : List Extent)
    → defined ≡ false → is_named name token ≡ true
    → calls_onto name defined (leaf token lo hi f) more
    ≡ put (is_called f) (record { lo = lo; hi = hi }) (calls_onto name (is_fn token) f more)
calls_if name defined token lo hi f more not_defined named =
    rw (named, not_defined) (put_if (is_called f) (record { lo = lo; hi = hi }) (calls_onto name (is_fn token) f more))

-- a token that is no candidate, past which the same candidates are calls
moves_same : (name : List ℕ) (found : List Candidate) (defined : Bool) (here : Forest) (opened : List Open)
    (token : Token) (lo hi : ℕ) (f : Forest) → here ≡ leaf token lo hi f
    → resolve 0 false (leaf token lo hi f) opened found ≡ resolve 0 false f opened found
    → (is_named name token && (not defined && is_called f)) ≡ false
    → Moves name (at found defined here opened) (at found (is_fn token) f opened)
moves_same name found defined here opened token lo hi f is same not_call = record {
  all = λ all h.
      let was = ap (λ x. call_spans (resolve 0 false x opened found) ++ calls_onto name defined x (rests name opened))
      is in
      let now = ap₂ (λ slots calls. call_spans slots ++ calls) same
      (calls_skip name defined token lo hi f (rests name opened) not_call) in
      (h.0, sym now ∙ (sym was ∙ h.1));
  less = omega (arith, ap count is);
}

-- a token that opens and closes nothing, and is no candidate
pub moves_plain : (name : List ℕ) (found : List Candidate) (defined : Bool) (here : Forest) (opened : List Open)
    (token : Token) (lo hi : ℕ) (f : Forest) → here ≡ leaf token lo hi f → is_bracket false token ≡ false
    → begins_arrow token ≡ false → (is_named name token && (not defined && is_called f)) ≡ false
    → Moves name (at found defined here opened) (at found (is_fn token) f opened)
moves_plain name found defined here opened token lo hi f is plain arrow not_call =
    moves_same name found defined here opened token lo hi f is
    (resolve-plain false token lo hi f opened found plain ∙ ap (λ a. resolve 0 a f opened found) arrow) not_call

-- into a group
pub moves_in : (name : List ℕ) (found : List Candidate) (defined : Bool) (here : Forest) (opened : List Open)
    (d : Delimiter) (lo hi : ℕ) (f : Forest) (after : Cursor) → here ≡ group d lo hi f (left after)
    → Moves name (at found defined here opened) (at found false f (Group after ∷ opened))
moves_in name found defined here opened d lo hi f after is = record {
  all = λ all h.
      let was = ap (λ x. call_spans (resolve 0 false x opened found) ++ calls_onto name defined x (rests name opened))
      is in
      let now = ap (λ slots. call_spans slots
      ++ calls_onto name false f (calls_onto name false (left after) (rests name opened)))
      (resolve-group false d lo hi f (left after) opened found) in
      (h.0, sym now ∙ (sym was ∙ h.1));
  less = omega (arith, ap count is);
}

-- out of a list at its end
pub moves_out : (name : List ℕ) (found : List Candidate) (defined : Bool) (here : Forest) (opened : List Open)
    (next : Forest) (now : List Open) → here ≡ nil → Leaves here opened next now
    → Moves name (at found defined here opened) (at found false next now)
moves_out name found defined here [] next now is leaves = absurd leaves
moves_out name found defined here (Group after ∷ outer) next now is leaves = record {
  all = λ all h.
      let was = ap (λ x. call_spans (resolve 0 false (left after) outer found)
      ++ calls_onto name defined x (calls_onto name false (left after) (rests name outer))) is in
      subst (λ x. AreAll name (at found false x now) all) (sym leaves.0)
      (subst (λ x. AreAll name (at found false (left after) x) all) (sym leaves.1) (h.0, sym was ∙ h.1));
  less = omega (arith, ap count is, ap count leaves.0, ap rests_steps leaves.1);
}
moves_out name found defined here (Angle opens ∷ outer) next now is leaves = record {
  all = λ all h.
      let was = ap (λ x. call_spans (resolve 0 false x (Angle opens ∷ outer) found)
      ++ calls_onto name defined x (rests name outer))
      is in
      let same = ap (λ slots. call_spans slots ++ rests name outer) (resolve-unclosed false opens outer found) in
      let back = ap (λ x. call_spans (resolve 0 false x outer found) ++ calls_onto name false x (rests name outer))
      (leaves.0 ∙ is) in
      subst (λ x. AreAll name (at found false next x) all) (sym leaves.1)
      (below-outer (length found) opens outer h.0, back ∙ (sym same ∙ (sym was ∙ h.1)));
  less = omega (arith, ap count leaves.0, ap rests_steps leaves.1);
}

-- a name that is searched for, before its arguments
moves_call : (name : List ℕ) (found : List Candidate) (defined : Bool) (here : Forest) (opened : List Open) (raw : Bool)
    (text : List ℕ) (lo hi : ℕ) (f : Forest) → here ≡ leaf (Name raw text) lo hi f → defined ≡ false
    → is_named name (Name raw text) ≡ true → is_called f ≡ true
    → Moves name (at found defined here opened)
    (at (found ++ candidate true (first_extent here)) (is_fn (Name raw text)) f opened)
moves_call name found defined here opened raw text lo hi f is not_defined named called =
    let span : Extent = record { lo = lo; hi = hi } in
    let one : List Candidate = record { span = span; is_call = true } ∷ [] in
    let more = calls_onto name (is_fn (Name raw text)) f (rests name opened) in
    let slots = resolve 0 false f opened found in
    record {
      all = λ all h.
          let was = ap (λ x. call_spans (resolve 0 false x opened found)
          ++ calls_onto name defined x (rests name opened)) is in
          let taken : calls_onto name defined (leaf (Name raw text) lo hi f) (rests name opened) ≡ span ∷ more
          = calls_if name defined (Name raw text) lo hi f (rests name opened) not_defined named
          ∙ ap (λ b. put b span more) called in
          let now = ap₂ (λ slots calls. call_spans slots ++ calls)
          (resolve-plain false (Name raw text) lo hi f opened found refl) taken in
          let put_in : call_spans (resolve 0 false f opened (found ++ one)) ++ more ≡ call_spans slots ++ (span ∷ more)
          = ap (λ xs. call_spans xs ++ more) (resolve-append 0 false f opened found one h.0)
          ∙ (ap (λ xs. xs ++ more) (kept-append slots one) ∙ append_assoc (call_spans slots) (span ∷ []) more) in
          subst (λ xs. AreAll name (at xs (is_fn (Name raw text)) f opened) all)
          (sym (ap (λ x. found ++ candidate true (first_extent x)) is))
          (below-append found one opened h.0, put_in ∙ (sym now ∙ (sym was ∙ h.1)));
      less = omega (arith, ap count is);
    }

if_called : (is : Bool) → (is ≡ true) ⊎ (is ≡ false)
if_called true = inl refl
if_called false = inr refl

-- a name that is noted
pub moves_noted : (name : List ℕ) (found : List Candidate) (defined : Bool) (here : Forest) (raw : Bool)
    (text : List ℕ) (lo hi : ℕ) (f : Forest) (stack now : List Open) (new_found : List Candidate)
    → here ≡ leaf (Name raw text) lo hi f → defined ≡ false → is_named name (Name raw text) ≡ true
    → IsNoted here f stack found now new_found
    → Moves name (at found defined here (reverse stack)) (at new_found (is_fn (Name raw text)) f (reverse now))
moves_noted name found defined here raw text lo hi f stack now new_found is not_defined named noted =
    let is_fn_now : Bool = is_fn (Name raw text) in
    let put_in = λ (b : Bool). if b then found ++ candidate true (first_extent here) else found in
    subst (λ xs. Moves name (at found defined here (reverse stack)) (at new_found is_fn_now f xs))
    (sym (ap reverse noted.same)) (elim (if_called (is_called_at_once f)) [
      | inl hit ↦ subst (λ xs. Moves name (at found defined here (reverse stack)) (at xs is_fn_now f (reverse stack)))
          (sym (noted.noted ∙ ap put_in hit))
          (moves_call name found defined here (reverse stack) raw text lo hi f is not_defined named
          (called_at_once f noted.turbofish ∙ hit))
      | inr miss ↦ subst (λ xs. Moves name (at found defined here (reverse stack)) (at xs is_fn_now f (reverse stack)))
          (sym (noted.noted ∙ ap put_in miss))
          (moves_plain name found defined here (reverse stack) (Name raw text) lo hi f is refl refl
          (ap (λ b. is_named name (Name raw text) && (not defined && b)) (called_at_once f noted.turbofish ∙ miss)
          ∙ and_false2 (is_named name (Name raw text)) (not defined)))
    ])

-- a name that is not searched for, or follows `fn`
pub moves_name : (name : List ℕ) (found : List Candidate) (defined : Bool) (here : Forest) (opened : List Open)
    (raw : Bool) (text : List ℕ) (lo hi : ℕ) (f : Forest) → here ≡ leaf (Name raw text) lo hi f
    → (is_named name (Name raw text) ≡ false) ⊎ (defined ≡ true)
    → Moves name (at found defined here opened) (at found (is_fn (Name raw text)) f opened)
moves_name name found defined here opened raw text lo hi f is (inl other) =
    moves_plain name found defined here opened (Name raw text) lo hi f is refl refl
    (ap (λ b. b && (not defined && is_called f)) other)
moves_name name found defined here opened raw text lo hi f is (inr after_fn) =
    moves_plain name found defined here opened (Name raw text) lo hi f is refl refl
    (ap (λ b. is_named name (Name raw text) && (not b && is_called f)) after_fn
    ∙ and_false (is_named name (Name raw text)))

-- into a turbofish after a name
pub moves_turbofish : (name : List ℕ) (found : List Candidate) (here : Forest) (opened : List Open) (raw : Bool)
    (text : List ℕ) (lo hi : ℕ) (f g : Forest) → here ≡ leaf (Name raw text) lo hi f
    → is_named name (Name raw text) ≡ true → inside_turbofish f ≡ Some g → length opened + 1 < 2 ^ 32
    → Moves name (at found false here opened)
    (at (found ++ candidate false (first_extent here)) false g (Angle (Some (length found)) ∷ opened))
moves_turbofish name found here opened raw text lo hi f g is named opens few =
    let t = turbofish_is f g opens in
    let start : Forest = leaf (Mark 58 true) t.l1 t.h1 (leaf (Mark 58 t.j2) t.l2 t.h2
    (leaf (Mark 60 t.j3) t.l3 t.h3 g)) in
    let whole : here ≡ leaf (Name raw text) lo hi start = is ∙ ap (leaf (Name raw text) lo hi) t.is in
    let span : Extent = record { lo = lo; hi = hi } in
    let call : Bool = has_arguments_there (past_arguments 0 false g) in
    let slots = resolve 1 false g opened found in
    let more = calls_onto name false g (rests name opened) in
    let read : resolve 0 false (leaf (Name raw text) lo hi start) opened found ≡ slots
    = resolve-plain false (Name raw text) lo hi start opened found refl
    ∙ (resolve-plain false (Mark 58 true) t.l1 t.h1 _ opened found refl
    ∙ (resolve-plain false (Mark 58 t.j2) t.l2 t.h2 _ opened found refl
    ∙ resolve-opens 0 false (Mark 60 t.j3) t.l3 t.h3 g opened found refl (omega arith))) in
    let one : List Candidate = record { span = span; is_call = false } ∷ [] in
    let two : List Candidate = record { span = span; is_call = call } ∷ [] in
    let calls : calls_onto name false (leaf (Name raw text) lo hi start) (rests name opened) ≡ put call span more
    = calls_if name false (Name raw text) lo hi start (rests name opened) refl named in
    record {
      all = λ all h.
          let was = ap (λ x. call_spans (resolve 0 false x opened found)
          ++ calls_onto name false x (rests name opened)) whole in
          let now = ap₂ (λ slots calls. call_spans slots ++ calls) read calls in
          let split : resolve 0 false g (Angle (Some (length found)) ∷ opened) (found ++ one) ≡ slots ++ two
          = ap (resolve 1 false g opened) (mark-last found span call) ∙ resolve-append 1 false g opened found two h.0 in
          let put_in : call_spans (resolve 0 false g (Angle (Some (length found)) ∷ opened) (found ++ one)) ++ more
          ≡ call_spans slots ++ put call span more
          = ap (λ xs. call_spans xs ++ more) split
          ∙ (ap (λ xs. xs ++ more) (kept-append slots two)
          ∙ (append_assoc (call_spans slots) (put call span []) more
          ∙ ap (λ xs. call_spans slots ++ xs) (put-append call span [] more))) in
          let fits : length found < length (found ++ one) = omega (arith, length-append found one) in
          subst (λ xs. AreAll name (at xs false g (Angle (Some (length found)) ∷ opened)) all)
          (sym (ap (λ x. found ++ candidate false (first_extent x)) whole))
          ((fits, below-append found one opened h.0), put_in ∙ (sym now ∙ (sym was ∙ h.1)));
      less = omega (arith, ap count whole);
    }

pub moves_opened : (name : List ℕ) (found : List Candidate) (defined : Bool) (here : Forest) (raw : Bool)
    (text : List ℕ) (lo hi : ℕ) (f g : Forest) (stack now : List Open) (new_found : List Candidate)
    → here ≡ leaf (Name raw text) lo hi f → defined ≡ false → is_named name (Name raw text) ≡ true
    → IsOpened here f g stack found now new_found
    → Moves name (at found defined here (reverse stack)) (at new_found false g (reverse now))
moves_opened name found defined here raw text lo hi f g stack now new_found is not_defined named opens =
    let few : length (reverse stack) + 1 < 2 ^ 32 = omega (arith, length-reverse stack, opens.few) in
    subst (λ b. Moves name (at found b here (reverse stack)) (at new_found false g (reverse now))) (sym not_defined)
    (subst (λ xs. Moves name (at found false here (reverse stack)) (at xs false g (reverse now))) (sym opens.noted)
    (subst (λ xs. Moves name (at found false here (reverse stack))
    (at (found ++ candidate false (first_extent here)) false g xs))
    (sym (ap reverse opens.opens ∙ reverse-last stack (Angle (Some (length found)))))
    (moves_turbofish name found here (reverse stack) raw text lo hi f g is named opens.turbofish few)))

pub opened_in_angle : (stack now : List Open) (opens : Option ℕ) → now ≡ stack ++ (Angle opens ∷ [])
    → true ≡ is_in_angle (reverse now)
opened_in_angle stack now opens is = sym (ap is_in_angle (ap reverse is ∙ reverse-last stack (Angle opens)))

-- into a group that is put last
pub moves_group : (name : List ℕ) (found : List Candidate) (defined : Bool) (here : Forest) (d : Delimiter) (lo hi : ℕ)
    (f : Forest) (after : Cursor) (stack now : List Open) → here ≡ group d lo hi f (left after)
    → now ≡ stack ++ (Group after ∷ [])
    → Moves name (at found defined here (reverse stack)) (at found false f (reverse now))
moves_group name found defined here d lo hi f after stack now is pushed =
    subst (λ xs. Moves name (at found defined here (reverse stack)) (at found false f xs))
    (sym (ap reverse pushed ∙ reverse-last stack (Group after)))
    (moves_in name found defined here (reverse stack) d lo hi f after is)

pub in_no_angle : (stack now : List Open) (after : Cursor) → now ≡ stack ++ (Group after ∷ [])
    → false ≡ is_in_angle (reverse now)
in_no_angle stack now after is = sym (ap is_in_angle (ap reverse is ∙ reverse-last stack (Group after)))

-- what a call returned, by its variant
pub match_some : {A : Type 0} (found : Option A) (x : A) (P : Type 0) (Q : A → Type 0) → found ≡ Some x
    → MatchOption found P Q → Q x
match_some found x P Q is h = subst (λ o. MatchOption o P Q) is h

pub match_none : {A : Type 0} (found : Option A) (P : Type 0) (Q : A → Type 0) → found ≡ None
    → MatchOption found P Q → P
match_none found P Q is h = subst (λ o. MatchOption o P Q) is h
