-- The error in the content of a raw string that is closed.
use Rattle.std.proofs.Common.{◌≡◌, ℕ, ◌+◌, ◌<◌, ◌≤◌, true, false, not, ◌&&◌, ◌==◌, List, [], ◌∷◌, ◌++◌}
use Rattle.std.proofs.Common.{codes, length, Some, None, Err, inl, inr, refl, sym, ap, ◌∙◌, subst, append_assoc}
use Rattle.std.proofs.Common.{append-nil, arith, length-append}
use Rattle.std.specs.Prelude.{nat_le}
use Rattle.std.specs.List.{concat}
use Rattle.std.specs.Str.{chars}
use Rattle.std.proofs.lemmas.Bool.{both_ways, cond-false, cond-true, le-leb, or_from, or_parts}
use Rattle.lexical.specs.Finder.{Answer, and_find, and_next, prepend, if_passes, or_find}
use Rattle.lexical.specs.Form.{Each, Many}
use Rattle.lexical.specs.Identifier.{name}
use Rattle.lexical.specs.Quoted.{body as body_of, close, suffix}
use Rattle.lexical.specs.RawString.{hashes, may_stand_raw, raw_front, raw_quotes, raw_string, raw_unit}
use Rattle.lexical.specs.Rule.{Rule, Exactly, Next, Run, Stands, find}
use Rattle.lexical.specs.RuleMatch.{Leads, Passes}
use Rattle.lexical.specs.Text.{begins_any, begins_with}
use Rattle.lexical.specs.declared.cursor.TextCursor.{TextCursor}
use Rattle.lexical.specs.declared.quoted.StringKind.{StringKind}
use Rattle.lexical.proofs.QuotedFinderLemmas.{clear_raw_body}
use Rattle.lexical.proofs.RuleLemmas.{exact, some_holds}
use Rattle.lexical.proofs.RuleSteps.{find_then, lacks_text, passes_piece, past_text, text_found}
use Rattle.lexical.proofs.TextLemmas.{begins_front}
use Rattle.lexical.proofs.UnitSteps.{leads_unit, unit_shortens}
use Rattle.lexical.proofs.WordLemmas.{many_ends}
use Rattle.literal_escaper.specs.declared.errors.EscapeError.{EscapeError}
use Rattle.explain.specs.Content.{raw_character, raw_units}
use Rattle.explain.specs.Shapes.{closed_raw, closed_raw_body, is_hash}
use Rattle.explain.specs.Shapes as shapes
use Rattle.explain.specs.Trouble.{IsTrouble}
use Rattle.explain.specs.Walk.{IsPast}
use Rattle.explain.specs.declared.reason.Reason.TheVariants.{Content}
use Rattle.explain.proofs.NumberLemmas.{none_after, none_of_rest, one_none, or_none}
use Rattle.explain.proofs.PlaceLemmas.{further, stays}
use Rattle.explain.proofs.QuoteLemmas.{clear_closed, raw_some}
use Rattle.explain.proofs.ScanLemmas.{clear_raw, leads_self}
use Rattle.explain.proofs.StringLemmas.{prepend_none, many_more}

-- the end of a literal is found where it is
pub closes_text : (front text rest : List ℕ) → text ≡ front ++ rest → find (close front) text ≡ None → ⊥
unfolding find
closes_text front text rest e none =
    by_suffix (find name rest) (sym (find_then (Exactly front) suffix text
    ∙ ap (and_find (find suffix)) (text_found front text rest e)) ∙ none)
  where
    by_suffix : (o : Answer) → prepend front (or_find o (Some ([], rest))) ≡ None → ⊥
    by_suffix None e = let clash : ◌≡◌ {A = Answer} (Some (front ++ [], rest)) None = e in absurd (cc)
    by_suffix (Some x) e = let clash : ◌≡◌ {A = Answer} (Some (front ++ x.0, x.1)) None = e in absurd (cc)

module _ (kind : StringKind) (signs : List ℕ) where
  abbrev ends : List ℕ
  ends = 34 ∷ signs

  abbrev unit : Rule
  unit = raw_unit (may_stand_raw kind) ends

  abbrev body : Rule
  body = body_of unit ends

  -- ---- what is left of the content

  -- what closes the string begins nowhere in this text, before the tail
  abbrev Clean : List ℕ → List ℕ → Type 0
  Clean [] tail = Unit {0}
  Clean (c ∷ left) tail = (begins_with ends (c ∷ (left ++ tail)) ≡ false) × Clean left tail

  clean_of : (units : List (List ℕ)) (tail : List ℕ) → Each (Stands (shapes.raw_unit signs)) units tail
      → Clean (concat units) tail
  clean_of [] tail each = tt
  clean_of (u ∷ units) tail each =
      let one = each.0.0 in
      subst (λ v. Clean (v ++ concat units) tail) (sym one.1) (
        (or_parts _ _ (sym (ap (λ v. begins_any (ends ∷ []) (v ++ (concat units ++ tail))) one.1) ∙ each.0.1)).0,
        clean_of units tail each.1,
      )

  -- this content is left up to what closes the string
  pub record RawLeft (place end : TextCursor) : Type 0 where
    pub left : List ℕ
    pub whole : chars place.rest.now ≡ left ++ (ends ++ chars end.rest.now)
    pub clean : Clean left (ends ++ chars end.rest.now)

  pub raw_left : (at end : TextCursor) → Passes (closed_raw_body signs) at end → RawLeft at end
  raw_left at end h =
      let is = passes_piece (closed_raw_body signs) (clear_raw signs) at end h in
      let last : h.front ≡ is.1.front ++ ends = is.1.whole ∙ ap (λ t. is.1.front ++ t) is.1.second in
      let many : Many (Stands (shapes.raw_unit signs)) is.1.front (ends ++ chars end.rest.now) =
      subst (λ t. Many (Stands (shapes.raw_unit signs)) is.1.front (t ++ chars end.rest.now)) is.1.second is.1.first in
      record {
        left = is.1.front;
        whole = is.0 ∙ (ap (λ t. t ++ chars end.rest.now) last
            ∙ append_assoc is.1.front ends (chars end.rest.now));
        clean = subst (λ t. Clean t (ends ++ chars end.rest.now)) (sym many.whole)
            (clean_of many.units (ends ++ chars end.rest.now) many.each);
      }

  raw_past : (p left text tail : List ℕ) → p ++ text ≡ left ++ (ends ++ tail) → Clean left (ends ++ tail)
      → Stands unit p text
      → (more : List ℕ) × (text ≡ more ++ (ends ++ tail)) × Clean more (ends ++ tail)
  raw_past p [] text tail e clean is =
      absurd (both_ways _ (or_parts _ _ (sym (ap (begins_any (ends ∷ [])) e) ∙ is.1)).0
      (sym (sym (begins_front ends tail))))
  raw_past p (d ∷ left) text tail e clean (inl one, apart) =
      let split : one.0 ∷ text ≡ d ∷ (left ++ (ends ++ tail)) = ap (λ q. q ++ text) (sym one.1) ∙ e in
      (left, cc, clean.1)
  raw_past p (d ∷ []) text tail e clean (inr feed, apart) =
      let split : 13 ∷ 10 ∷ text ≡ d ∷ (34 ∷ (signs ++ tail)) = ap (λ q. q ++ text) (sym feed) ∙ e in
      let clash : ◌≡◌ {A = ℕ} 10 34 = cc in
      absurd (omega (arith, clash))
  raw_past p (d ∷ (x ∷ left)) text tail e clean (inr feed, apart) =
      let split : 13 ∷ 10 ∷ text ≡ d ∷ x ∷ (left ++ (ends ++ tail)) = ap (λ q. q ++ text) (sym feed) ∙ e in
      (left, cc, clean.1.1)

  -- ---- the units that were read

  pub record ReadRaw (start place : TextCursor) : Type 0 where
    pub past : IsPast start place
    pub units : Many (Stands unit) past.part (chars place.rest.now)
    pub leads : Leads body start body place

  pub raw_start : (start : TextCursor) → ReadRaw start start
  unfolding stays
  raw_start start = record {
    past = stays start;
    units = record { units = []; whole = refl; each = tt };
    leads = leads_self body start;
  }

  pub raw_more : (start place after end : TextCursor) → ReadRaw start place → RawLeft place end
      → Passes unit place after
      → ReadRaw start after × RawLeft after end
  unfolding further
  raw_more start place after end h rest j =
      let clear = clear_raw_body kind ends in
      let is = passes_piece unit clear.0 place after j in
      let past : IsPast place after = record { part = j.front; whole = is.0; count = j.count } in
      let more = raw_past j.front rest.left (chars after.rest.now) (chars end.rest.now) (sym is.0 ∙ rest.whole)
      rest.clean
      is.1 in (
        record {
          past = further start place after h.past past;
          units = many_more (Stands unit) h.past.part j.front (chars after.rest.now)
              (subst (Many (Stands unit) h.past.part) is.0 h.units) is.1;
          leads = leads_unit unit (close ends) clear body start place after h.leads j;
        },
        record { left = more.0; whole = more.1; clean = more.2 },
      )

  pub raw_shorter : (place after : TextCursor) → Passes unit place after
      → length (chars after.rest.now) < length (chars place.rest.now)
  raw_shorter = unit_shortens unit (close ends) (clear_raw_body kind ends)

  -- ---- where there is no unit

  no_unit_closes : (start place end : TextCursor) → ReadRaw start place → find body (chars start.rest.now) ≡ None
      → find unit (chars place.rest.now) ≡ None → chars place.rest.now ≡ ends ++ chars end.rest.now → ⊥
  unfolding find
  no_unit_closes start place end h none last whole =
      let clear = clear_raw_body kind ends in
      let ended = many_ends _ _ (exact unit clear.0) (some_holds unit clear.2) (chars place.rest.now) last in
      closes_text ends (chars place.rest.now) (chars end.rest.now) whole
      (prepend_none [] (find (close ends) (chars place.rest.now))
      (sym (ap (and_find (find (close ends))) ended)
      ∙ prepend_none h.leads.front (find body (chars place.rest.now)) (sym h.leads.found ∙ none)))

  -- a character that is no unit
  pub record RawStop (c : ℕ) (text : List ℕ) : Type 0 where
    pub bars : (may_stand_raw kind c && not (c == 13)) ≡ false
    pub apart : begins_with (codes "\r\n") (c ∷ text) ≡ false

  none_bars : (c : ℕ) (text : List ℕ) → begins_with ends (c ∷ text) ≡ false → find unit (c ∷ text) ≡ None
      → RawStop c text
  unfolding find
  none_bars c text apart none =
      let inner = or_none _ _ (sym (cond-false _ _ _ (or_from _ _ apart refl)) ∙ none) in
      record {
        bars = one_none (λ d. may_stand_raw kind d && not (d == 13)) (c ∷ text) inner.0;
        apart = lacks_text (codes "\r\n") (c ∷ text) inner.1;
      }

  pub raw_stop : (start place end after : TextCursor) (c : ℕ) → ReadRaw start place → RawLeft place end
      → find body (chars start.rest.now) ≡ None → find unit (chars place.rest.now) ≡ None
      → chars place.rest.now ≡ c ∷ chars after.rest.now → RawStop c (chars after.rest.now)
  raw_stop start place end after c h rest none last split = by_left rest.left rest.whole rest.clean
    where
      by_left : (left : List ℕ) → chars place.rest.now ≡ left ++ (ends ++ chars end.rest.now)
          → Clean left (ends ++ chars end.rest.now) → RawStop c (chars after.rest.now)
      by_left [] whole clean = absurd (no_unit_closes start place end h none last whole)
      by_left (d ∷ left) whole clean =
          let same : d ∷ (left ++ (ends ++ chars end.rest.now)) ≡ c ∷ chars after.rest.now = sym whole ∙ split in
          none_bars c (chars after.rest.now) (subst (λ t. begins_with ends t ≡ false) same clean.0)
          (subst (λ t. find unit t ≡ None) split last)

  pub raw_some_left : (place end : TextCursor) → RawLeft place end → chars place.rest.now ≡ [] → ⊥
  raw_some_left place end rest done = by_left rest.left (sym done ∙ rest.whole)
    where
      by_left : (left : List ℕ) → ◌≡◌ {A = List ℕ} [] (left ++ (ends ++ chars end.rest.now)) → ⊥
      by_left [] e = absurd (cc)
      by_left (d ∷ left) e = absurd (cc)

-- ---- the error

module _ (kind : StringKind) (at inside quote start : TextCursor)
    (letters : Passes (Exactly (raw_front kind)) at inside)
    (run : Passes (Run is_hash) inside quote) (opens : Passes (Exactly (codes "\"")) quote start)
    (signs : List ℕ) (same : signs ≡ run.front) (few : length signs ≤ 255) where
  few_run : nat_le (length run.front) 255 ≡ true
  few_run = le-leb (length run.front) 255 (omega (arith, few, ap length same))

  pub raw_body_none : find (raw_string kind) (chars at.rest.now) ≡ None → find (body kind signs) (chars
      start.rest.now) ≡ None
  unfolding find
  raw_body_none none =
      let quotes = raw_quotes (may_stand_raw kind) in
      let inner = none_of_rest (Exactly (raw_front kind)) (Next hashes quotes) at inside letters none in
      let found : find hashes (chars inside.rest.now) ≡ Some (run.front, chars quote.rest.now) =
      ap (if_passes (λ p r. nat_le (length p) 255)) run.found ∙ cond-true _ _ _ few_run in
      let after = none_after run.front (find (quotes run.front) (chars quote.rest.now))
      (sym (ap (and_next (λ front. find (quotes front))) found) ∙ inner) in
      none_of_rest (Exactly (codes "\"")) (body kind signs) quote start opens
      (subst (λ s. find (quotes s) (chars quote.rest.now) ≡ None) (sym same) after)

  pub bad_raw : (place after end : TextCursor) (c : ℕ) (e : EscapeError) → ReadRaw kind signs start place
      → Passes (closed_raw_body signs) start end → RawStop kind signs c (chars after.rest.now)
      → chars place.rest.now ≡ c ∷ chars after.rest.now → after.chars_before ≡ place.chars_before + 1
      → raw_character kind c ≡ Err e
      → IsTrouble at (record { reason = Content e; at = place; after = after })
  bad_raw place after end c e h closed stop split count gives =
      let opening = past_text (raw_front kind) at inside letters in
      let hash = passes_piece (Run is_hash) tt inside quote run in
      let mark = past_text (codes "\"") quote start opens in
      let units = h.past.part in
      let front : List ℕ = raw_front kind ++ (run.front ++ (codes "\"" ++ units)) in
      let whole : chars at.rest.now ≡ front ++ chars place.rest.now =
      opening.0 ∙ (ap (λ t. raw_front kind ++ t) (hash.0 ∙ ap (λ t. run.front ++ t) (mark.0
      ∙ ap (λ t. codes "\"" ++ t) h.past.whole))
      ∙ sym (append_assoc (raw_front kind) (run.front ++ (codes "\"" ++ units)) (chars place.rest.now)
      ∙ ap (λ t. raw_front kind ++ t) (append_assoc run.front (codes "\"" ++ units) (chars place.rest.now)))) in
      let all = passes_piece (closed_raw kind) (clear_closed kind) at end
      (raw_some kind at inside quote start letters run opens end
      (subst (λ s. Passes (closed_raw_body s) start end) same closed)) in
      let back : List ℕ = c ∷ chars after.rest.now in
      let stands : Stands (raw_units kind) front back = record {
        front = raw_front kind;
        back = run.front ++ (codes "\"" ++ units);
        whole = refl;
        first = refl;
        second = record {
          front = run.front;
          back = codes "\"" ++ units;
          whole = refl;
          first = (record { each = hash.1.each; stops = refl }, few_run);
          second = record {
            front = codes "\"";
            back = units;
            whole = refl;
            first = refl;
            second = record {
              front = units;
              back = [];
              whole = sym (append-nil units);
              first = subst (λ s. Many (Stands (raw_unit (may_stand_raw kind) (34 ∷ s))) units back) same
                  (subst (Many (Stands (unit kind signs)) units) split h.units);
              second = refl;
            };
          };
        };
      } in
      record {
        front = front;
        part = c ∷ [];
        before = whole;
        here = split;
        count = omega (
          arith,
          opening.1,
          run.count,
          mark.1,
          h.past.count,
          length-append (raw_front kind) (run.front ++ (codes "\"" ++ units)),
          length-append run.front (codes "\"" ++ units),
        );
        size = count;
        holds = inr (inl (
          kind,
          record {
            character = c;
            stands = stands;
            closed = λ none. none _ _ (sym (whole ∙ ap (λ t. front ++ t) split) ∙ all.0) all.1;
            one = refl;
            apart = stop.apart;
            gives = gives;
          },
        ));
      }
