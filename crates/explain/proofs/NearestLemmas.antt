-- The quote that came nearest to ending a raw string.
use Rattle.std.proofs.Common.{◌≡◌, ℕ, ◌+◌, ◌-◌, ◌<◌, ◌≤◌, true, false, not, ◌==◌, List, [], ◌∷◌, ◌++◌}
use Rattle.std.proofs.Common.{codes, length, Option, Some, None, MatchOption, refl, sym, ap, ◌∙◌, subst, append_assoc}
use Rattle.std.proofs.Common.{append-nil, arith, eqb-true}
use Rattle.std.specs.Prelude.{IfSome, nat_le}
use Rattle.std.specs.List.{concat, list_all}
use Rattle.std.specs.Str.{chars}
use Rattle.std.proofs.lemmas.Bool.{and_parts, both_ways, cond_both, leb-false, leb-true, or_from}
use Rattle.lexical.specs.Form.{Each, HasNone}
use Rattle.lexical.specs.Rule.{Exactly, Run, Stands, find}
use Rattle.lexical.specs.RuleMatch.{Passes}
use Rattle.lexical.specs.Text.{begins_with, first_passes}
use Rattle.lexical.specs.declared.cursor.TextCursor.{TextCursor}
use Rattle.lexical.proofs.RuleSteps.{lacks_text, passes_piece, past_text, run_goes_on}
use Rattle.lexical.proofs.TextLemmas.{begins_front}
use Rattle.explain.specs.HintWalk.{CameNearest, longer}
use Rattle.explain.specs.Shapes.{closed_raw_body, is_hash, raw_unit}
use Rattle.explain.specs.Walk.{IsPast}
use Rattle.explain.proofs.PlaceLemmas.{further}
use Rattle.explain.proofs.ScanLemmas.{no_quote}

-- `close` begins at no position of this text, which is before the rest
abbrev Bare : List ℕ → List ℕ → List ℕ → Type 0
Bare close [] rest = Unit {0}
Bare close (c ∷ part) rest = (begins_with close (c ∷ (part ++ rest)) ≡ false) × Bare close part rest

bare_join : (close a b r : List ℕ) → Bare close a (b ++ r) → Bare close b r → Bare close (a ++ b) r
bare_join close [] b r h more = more
bare_join close (c ∷ a) b r h more =
    (subst (λ t. begins_with close (c ∷ t) ≡ false) (sym (append_assoc a b r)) h.0, bare_join close a b r h.1 more)

bare_plain : (signs p r : List ℕ) → list_all no_quote p ≡ true → Bare (34 ∷ signs) p r
bare_plain signs [] r all = tt
bare_plain signs (c ∷ p) r all =
    let parts = and_parts (no_quote c) (list_all no_quote p) all in
    (grind (arith, parts.0), bare_plain signs p r parts.1)

hashes_plain : (p : List ℕ) → list_all is_hash p ≡ true → list_all no_quote p ≡ true
hashes_plain [] all = refl
hashes_plain (c ∷ p) all =
    let parts = and_parts (is_hash c) (list_all is_hash p) all in
    let is : c ≡ 35 = eqb-true c 35 parts.0 in
    rw is (hashes_plain p parts.1)

-- fewer hash signs than `need` do not begin with `need`
fewer : (need signs rest : List ℕ) → list_all is_hash need ≡ true → first_passes is_hash rest ≡ false
    → length signs < length need → begins_with need (signs ++ rest) ≡ false
fewer [] signs rest all stops short = absurd (omega arith)
fewer (c ∷ need) [] [] all stops short = refl
fewer (c ∷ need) [] (d ∷ rest) all stops short =
    let parts = and_parts (is_hash c) (list_all is_hash need) all in
    let is : c ≡ 35 = eqb-true c 35 parts.0 in
    grind (arith, is, stops)
fewer (c ∷ need) (d ∷ signs) rest all stops short =
    let parts = and_parts (is_hash c) (list_all is_hash need) all in
    let more = fewer need signs rest parts.1 stops (omega (arith, short)) in
    grind (arith, more)

-- text that doesn't begin with some hash signs doesn't begin with more
more_signs : (a b text : List ℕ) → list_all is_hash a ≡ true → list_all is_hash b ≡ true → length a ≤ length b
    → begins_with a text ≡ false → begins_with b text ≡ false
more_signs [] b text all also long none = absurd (both_ways _ none refl)
more_signs (c ∷ a) [] text all also long none = absurd (omega arith)
more_signs (c ∷ a) (d ∷ b) [] all also long none = refl
more_signs (c ∷ a) (d ∷ b) (e ∷ text) all also long none =
    let parts = and_parts (is_hash c) (list_all is_hash a) all in
    let others = and_parts (is_hash d) (list_all is_hash b) also in
    let is : c ≡ 35 = eqb-true c 35 parts.0 in
    let is' : d ≡ 35 = eqb-true d 35 others.0 in
    grind (arith, is, is', none, more_signs a b text parts.1 others.1 (omega (arith, long)))

bare_more : (a b p r : List ℕ) → list_all is_hash a ≡ true → list_all is_hash b ≡ true → length a ≤ length b
    → Bare (34 ∷ a) p r → Bare (34 ∷ b) p r
bare_more a b [] r all also long h = tt
bare_more a b (c ∷ p) r all also long h =
    (grind (arith, h.0, more_signs a b (p ++ r) all also long), bare_more a b p r all also long h.1)

-- a quote with fewer hash signs after it doesn't close
bare_quote : (need signs r : List ℕ) → list_all is_hash need ≡ true → Stands (Run is_hash) signs r
    → length signs < length need → Bare (34 ∷ need) (34 ∷ signs) r
bare_quote need signs r all run short =
    (fewer need signs r all run.stops short, bare_plain need signs r (hashes_plain signs run.each))

-- ---- in terms of rules

singles : List ℕ → List (List ℕ)
singles [] = []
singles (c ∷ p) = (c ∷ []) ∷ singles p

unfoldable concat_singles : (p : List ℕ) → concat (singles p) ≡ p
unfolding singles
concat_singles [] = refl
concat_singles (c ∷ p) = ap (λ t. c ∷ t) (concat_singles p)

each_of : (signs p r : List ℕ) → Bare (34 ∷ signs) p r → Each (Stands (raw_unit signs)) (singles p) r
unfolding singles
each_of signs [] r h = tt
each_of signs (c ∷ p) r h = (
  (
    (c, refl, refl),
    or_from _ _ (subst (λ t. begins_with (34 ∷ signs) (c ∷ (t ++ r)) ≡ false) (sym (concat_singles p)) h.0) refl,
  ),
  each_of signs p r h.1,
)

closes_of : (signs p r : List ℕ) → Bare (34 ∷ signs) p ((34 ∷ signs) ++ r)
    → Stands (closed_raw_body signs) (p ++ (34 ∷ signs)) r
closes_of signs p r h = record {
  front = p;
  back = 34 ∷ signs;
  whole = refl;
  first = record {
    units = singles p;
    whole = sym (concat_singles p);
    each = each_of signs p ((34 ∷ signs) ++ r) h;
  };
  second = refl;
}

bare_lacks : (close front r : List ℕ) → 1 ≤ length close → Bare close (front ++ (close ++ r)) [] → ⊥
bare_lacks [] front r some h = absurd (omega arith)
bare_lacks (c ∷ close) [] r some h =
    both_ways _ h.0 (ap (begins_with (c ∷ close)) (ap (λ t. c ∷ t) (append-nil (close ++ r)))
    ∙ begins_front (c ∷ close) r)
bare_lacks (c ∷ close) (d ∷ front) r some h = bare_lacks (c ∷ close) front r some h.1

none_of : (signs text : List ℕ) → Bare (34 ∷ signs) text [] → HasNone (Stands (closed_raw_body signs)) text
none_of signs text h = λ p r e is.
    let whole : text ≡ is.front ++ ((34 ∷ signs) ++ r) =
    e ∙ (ap (λ t. t ++ r) (is.whole ∙ ap (λ t. is.front ++ t) is.second) ∙ append_assoc is.front (34 ∷ signs) r) in
    bare_lacks (34 ∷ signs) is.front r (omega arith) (subst (λ t. Bare (34 ∷ signs) t []) whole h)

-- ---- the loop

-- a quote and its hash signs, and no quote before it has so many
pub record Found (inside from to : TextCursor) : Type 0 where
  pub before : IsPast inside from
  pub signs : List ℕ
  pub quote : chars from.rest.now ≡ (34 ∷ signs) ++ chars to.rest.now
  pub count : to.chars_before ≡ from.chars_before + length (34 ∷ signs)
  pub run : Stands (Run is_hash) signs (chars to.rest.now)
  pub first : Bare (34 ∷ signs) before.part (chars from.rest.now)

-- no quote that was read has more hash signs
abbrev pub Best : TextCursor → List ℕ → List ℕ → Option (TextCursor × TextCursor) → Type 0
Best inside part rest None = Bare (34 ∷ []) part rest
Best inside part rest (Some x) = (found : Found inside x.0 x.1) × Bare (34 ∷ (35 ∷ found.signs)) part rest

pub record Sought (inside at : TextCursor) (found : Option (TextCursor × TextCursor)) : Type 0 where
  pub past : IsPast inside at
  pub best : Best inside past.part (chars at.rest.now) found
  pub stops : first_passes no_quote (chars at.rest.now) ≡ false

best_plain : (inside : TextCursor) (part run rest : List ℕ) (best : Option (TextCursor × TextCursor))
    → Best inside part (run ++ rest) best → list_all no_quote run ≡ true → Best inside (part ++ run) rest best
best_plain inside part run rest None h all = bare_join (34 ∷ []) part run rest h (bare_plain [] run rest all)
best_plain inside part run rest (Some x) h all =
    let need = 35 ∷ h.0.signs in
    (h.0, bare_join (34 ∷ need) part run rest h.1 (bare_plain need run rest all))

pub sought_first : (inside at : TextCursor) → Passes (Run (λ c. not (c == 34))) inside at → Sought inside at None
sought_first inside at h =
    let is = passes_piece (Run no_quote) tt inside at h in
    record {
      past = record { part = h.front; whole = is.0; count = h.count };
      best = bare_plain [] h.front (chars at.rest.now) is.1.each;
      stops = is.1.stops;
    }

-- one more quote, with these hash signs
module _ (inside at to : TextCursor) (signs : List ℕ) (past : IsPast inside at)
    (quote : chars at.rest.now ≡ (34 ∷ signs) ++ chars to.rest.now)
    (count : to.chars_before ≡ at.chars_before + length (34 ∷ signs))
    (run : Stands (Run is_hash) signs (chars to.rest.now)) where
  here : (first : Bare (34 ∷ signs) past.part (chars at.rest.now))
      → Best inside (past.part ++ (34 ∷ signs)) (chars to.rest.now) (Some (at, to))
  here first = (
    record { before = past; signs = signs; quote = quote; count = count; run = run; first = first },
    bare_join (34 ∷ (35 ∷ signs)) past.part (34 ∷ signs) (chars to.rest.now)
        (bare_more signs (35 ∷ signs) past.part ((34 ∷ signs) ++ chars to.rest.now) run.each (run.each)
        (omega arith) (subst (Bare (34 ∷ signs) past.part) quote first))
        (bare_quote (35 ∷ signs) signs (chars to.rest.now) run.each run (omega arith)),
  )

  best_more : (best : Option (TextCursor × TextCursor)) → Best inside past.part (chars at.rest.now) best
      → Best inside (past.part ++ (34 ∷ signs)) (chars to.rest.now) (longer best at to)
  best_more None h = here (bare_more [] signs past.part (chars at.rest.now) refl run.each (omega arith) h)
  best_more (Some x) h =
      cond_both (nat_le (to.chars_before - at.chars_before) (x.1.chars_before - x.0.chars_before))
      (Some x) (Some (at, to)) (Best inside (past.part ++ (34 ∷ signs)) (chars to.rest.now))
      (λ few. let short : length signs ≤ length h.0.signs = omega (arith, leb-true _ _ few, count, h.0.count) in (
        h.0,
        bare_join (34 ∷ (35 ∷ h.0.signs)) past.part (34 ∷ signs) (chars to.rest.now)
            (subst (Bare (34 ∷ (35 ∷ h.0.signs)) past.part) quote h.1)
            (bare_quote (35 ∷ h.0.signs) signs (chars to.rest.now) h.0.run.each run (omega (arith, short))),
      ))
      (λ many. here (bare_more (35 ∷ h.0.signs) signs past.part (chars at.rest.now) h.0.run.each run.each
      (omega (arith, leb-false _ _ many, count, h.0.count)) h.1))

pub sought_more : (inside at after to next : TextCursor) (best : Option (TextCursor × TextCursor))
    → Sought inside at best
    → Passes (Exactly (codes "\"")) at after → Passes (Run is_hash) after to
    → Passes (Run (λ c. not (c == 34))) to next → Sought inside next (longer best at to)
unfolding further
sought_more inside at after to next best h opens run more =
    let one = past_text (codes "\"") at after opens in
    let signs = passes_piece (Run is_hash) tt after to run in
    let gap = passes_piece (Run no_quote) tt to next more in
    let quote : chars at.rest.now ≡ (34 ∷ run.front) ++ chars to.rest.now =
    one.0 ∙ ap (λ t. 34 ∷ t) signs.0 in
    let step : IsPast at to = record {
      part = 34 ∷ run.front;
      whole = quote;
      count = omega (arith, one.1, run.count);
    } in
    let past = further inside at to h.past step in
    record {
      past = further inside to next past (record { part = more.front; whole = gap.0; count = more.count });
      best = best_plain inside past.part more.front (chars next.rest.now) (longer best at to)
          (subst (λ t. Best inside past.part t (longer best at to)) gap.0
          (best_more inside at to run.front h.past quote step.count signs.1 best h.best)) gap.1.each;
      stops = gap.1.stops;
    }

pub sought_shorter : (at after to next : TextCursor) → Passes (Exactly (codes "\"")) at after
    → Passes (Run is_hash) after to → Passes (Run (λ c. not (c == 34))) to next
    → length (chars next.rest.now) < length (chars at.rest.now)
sought_shorter at after to next opens run more =
    omega (
      arith,
      ap length (past_text (codes "\"") at after opens).0,
      run_goes_on is_hash after to run,
      run_goes_on no_quote to next more,
    )

-- the quote that was found is between its two cursors
pub best_ordered : (inside at : TextCursor) (best : Option (TextCursor × TextCursor)) → Sought inside at best
    → IfSome best (λ x. x.0.chars_before ≤ x.1.chars_before)
best_ordered inside at None h = tt
best_ordered inside at (Some x) h = omega (arith, h.best.0.count)

-- ---- where no quote is left

at_end : (text : List ℕ) → first_passes no_quote text ≡ false → find (Exactly (codes "\"")) text ≡ None → text ≡ []
at_end [] stops none = refl
at_end (c ∷ text) stops none =
    let lacks = lacks_text (codes "\"") (c ∷ text) none in
    absurd (grind (arith, stops, lacks))

nearest_is : (inside at : TextCursor) (best : Option (TextCursor × TextCursor))
    → Best inside (chars inside.rest.now) [] best
    → MatchOption best (HasNone (Stands (closed_raw_body [])) (chars inside.rest.now))
    (λ x. CameNearest inside x.0 x.1)
nearest_is inside at None h = none_of [] (chars inside.rest.now) h
nearest_is inside at (Some x) h = record {
  before = h.0.before;
  signs = h.0.signs;
  quote = h.0.quote;
  count = h.0.count;
  run = h.0.run;
  closes = closes_of h.0.signs h.0.before.part (chars x.1.rest.now)
      (subst (Bare (34 ∷ h.0.signs) h.0.before.part) h.0.quote h.0.first);
  most = none_of (35 ∷ h.0.signs) (chars inside.rest.now) h.1;
}

pub nearest_found : (inside at : TextCursor) (best : Option (TextCursor × TextCursor)) → Sought inside at best
    → find (Exactly (codes "\"")) (chars at.rest.now) ≡ None
    → MatchOption best (HasNone (Stands (closed_raw_body [])) (chars inside.rest.now))
    (λ x. CameNearest inside x.0 x.1)
nearest_found inside at best h none =
    let done = at_end (chars at.rest.now) h.stops none in
    let all : chars inside.rest.now ≡ h.past.part =
    h.past.whole ∙ (ap (λ t. h.past.part ++ t) done ∙ append-nil h.past.part) in
    nearest_is inside at best
    (subst (λ t. Best inside t [] best) (sym all) (subst (λ t. Best inside h.past.part t best) done h.best))
