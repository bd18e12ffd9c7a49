-- The error in the content of a string that is closed.
use Rattle.std.proofs.Common.{◌≡◌, ℕ, ◌<◌, List, [], ◌∷◌, ◌++◌, codes, false, length, Some, None, inl, refl, sym, ap}
use Rattle.std.proofs.Common.{◌∙◌, subst, append_assoc, append-nil, arith, length-append}
use Rattle.std.specs.List.{concat}
use Rattle.std.specs.Str.{chars}
use Rattle.std.proofs.lemmas.List.{append_cancel_right}
use Rattle.lexical.specs.Character.{double_quote}
use Rattle.lexical.specs.Finder.{Answer, and_find, prepend, or_find}
use Rattle.lexical.specs.Form.{Each, Form, Many}
use Rattle.lexical.specs.Identifier.{name}
use Rattle.lexical.specs.Quoted.{body, close, cooked_string, unit, front as string_front}
use Rattle.lexical.specs.Rule.{Exactly, Stands, find}
use Rattle.lexical.specs.RuleMatch.{Leads, Passes}
use Rattle.lexical.specs.Text.{begins_any}
use Rattle.lexical.specs.declared.cursor.TextCursor.{TextCursor}
use Rattle.lexical.specs.declared.quoted.StringKind.{StringKind}
use Rattle.lexical.specs.declared.quoted.StringKind.TheVariants as kinds
use Rattle.lexical.proofs.QuotedFinderLemmas.{clear_body}
use Rattle.lexical.proofs.RuleLemmas.{exact, some_holds}
use Rattle.lexical.proofs.RuleSteps.{passes_piece, past_text, then_passes}
use Rattle.lexical.proofs.UnitSteps.{leads_then, leads_unit, unit_shortens}
use Rattle.lexical.proofs.WordLemmas.{many_ends}
use Rattle.literal_escaper.specs.declared.errors.EscapeError.{EscapeError}
use Rattle.explain.specs.Content.{IsBadString, StringFault, line_ends, string_units}
use Rattle.explain.specs.Reason.{Holds}
use Rattle.explain.specs.Shapes.{closed_body, closed_string}
use Rattle.explain.specs.Trouble.{IsTrouble}
use Rattle.explain.specs.Walk.{IsFaultAt, IsFaulty, IsInside, IsLeft, IsPast}
use Rattle.explain.specs.declared.trouble.Trouble.{Trouble}

-- ---- one more unit

module _ (A : Form) where
  concat_more : (us : List (List ℕ)) (p r : List ℕ) → concat (us ++ p ∷ []) ++ r ≡ concat us ++ (p ++ r)
  concat_more [] p r = ap (λ t. t ++ r) (append-nil p)
  concat_more (u ∷ us) p r =
      append_assoc u (concat (us ++ p ∷ [])) r ∙ (ap (λ t. u ++ t) (concat_more us p r)
      ∙ sym (append_assoc u (concat us) (p ++ r)))

  each_more : (us : List (List ℕ)) (p r : List ℕ) → Each A us (p ++ r) → A p r → Each A (us ++ p ∷ []) r
  each_more [] p r each is = (is, tt)
  each_more (u ∷ us) p r each is = (subst (A u) (sym (concat_more us p r)) each.0, each_more us p r each.1 is)

  pub many_more : (front p r : List ℕ) → Many A front (p ++ r) → A p r → Many A (front ++ p) r
  many_more front p r many is = record {
    units = many.units ++ p ∷ [];
    whole = ap (λ t. t ++ p) many.whole
        ∙ sym (sym (append-nil (concat (many.units ++ p ∷ [])))
        ∙ (concat_more many.units p [] ∙ ap (λ t. concat many.units ++ t) (append-nil p)));
    each = each_more many.units p r many.each is;
  }

-- the units that were read
pub record ReadUnits (kind : StringKind) (at place : TextCursor) : Type 0 where
  pub past : IsPast at place
  pub units : Stands (string_units kind) past.part (chars place.rest.now)
  pub leads : Leads (cooked_string kind) at (body (unit kind) (codes "\"")) place

pub read_opening : (kind : StringKind) (at inside : TextCursor) → Passes (Exactly (string_front kind)) at inside
    → ReadUnits kind at inside
read_opening kind at inside h =
    let is = past_text (string_front kind) at inside h in
    record {
      past = record { part = string_front kind; whole = is.0; count = is.1 };
      units = record {
        front = string_front kind;
        back = [];
        whole = sym (append-nil (string_front kind));
        first = refl;
        second = record {
          front = [];
          back = [];
          whole = refl;
          first = record { units = []; whole = refl; each = tt };
          second = refl;
        };
      };
      leads = leads_then (Exactly (string_front kind)) (body (unit kind) (codes "\"")) at inside h;
    }

pub read_unit : (kind : StringKind) (at place after : TextCursor) → ReadUnits kind at place
    → Passes (unit kind) place after
    → ReadUnits kind at after
read_unit kind at place after h j =
    let is = passes_piece (unit kind) (clear_body kind).0 place after j in
    let past : IsPast place after = record { part = j.front; whole = is.0; count = j.count } in
    let opens = h.units in
    let inner = opens.second in
    let none : inner.front ≡ opens.back = sym (append-nil inner.front)
    ∙ sym (inner.whole ∙ ap (λ t. inner.front ++ t) inner.second) in
    let many : Many (Stands (unit kind)) inner.front (j.front ++ chars after.rest.now) =
    subst (Many (Stands (unit kind)) inner.front)
    (ap (λ t. t ++ chars place.rest.now) inner.second ∙ is.0) inner.first in
    record {
      past = record {
        part = h.past.part ++ j.front;
        whole = h.past.whole ∙ (ap (λ t. h.past.part ++ t) is.0
            ∙ sym (append_assoc h.past.part j.front (chars after.rest.now)));
        count = omega (arith, h.past.count, j.count, length-append h.past.part j.front);
      };
      units = record {
        front = opens.front;
        back = inner.front ++ j.front;
        whole = ap (λ t. t ++ j.front) opens.whole
            ∙ (append_assoc opens.front opens.back j.front ∙ ap (λ t. opens.front ++ (t ++ j.front)) (sym none));
        first = opens.first;
        second = record {
          front = inner.front ++ j.front;
          back = [];
          whole = sym (append-nil (inner.front ++ j.front));
          first = many_more (Stands (unit kind)) inner.front j.front (chars after.rest.now) many is.1;
          second = refl;
        };
      };
      leads = leads_unit (unit kind) (close (codes "\"")) (clear_body kind) (cooked_string kind) at place after h.leads
          j;
    }

pub unit_shorter : (kind : StringKind) (place after : TextCursor) → Passes (unit kind) place after
    → length (chars after.rest.now) < length (chars place.rest.now)
unit_shorter kind = unit_shortens (unit kind) (close (codes "\"")) (clear_body kind)

-- ---- a closed body that has only units is a string's

closes : (text : List ℕ) → find (close (codes "\"")) (34 ∷ text) ≡ None → ⊥
unfolding find
closes text none = by_suffix (find name text) none
  where
    by_suffix : (o : Answer) → prepend (34 ∷ []) (or_find o (Some ([], text))) ≡ None → ⊥
    by_suffix None e = let clash : ◌≡◌ {A = Answer} (Some (34 ∷ [], text)) None = e in absurd (cc)
    by_suffix (Some x) e = let clash : ◌≡◌ {A = Answer} (Some (34 ∷ x.0, x.1)) None = e in absurd (cc)

pub no_unit : (kind : StringKind) (text : List ℕ) → find (unit kind) (34 ∷ text) ≡ None
unfolding find
no_unit kinds.Plain text = refl
no_unit kinds.Byte text = refl
no_unit kinds.C text = refl

pub prepend_none : (front : List ℕ) (o : Answer) → prepend front o ≡ None → o ≡ None
prepend_none front None e = refl
prepend_none front (Some x) e = absurd (cc)

body_closes : (kind : StringKind) (text : List ℕ) → find (body (unit kind) (codes "\"")) (34 ∷ text) ≡ None → ⊥
unfolding find
body_closes kind text none =
    let clear = clear_body kind in
    let ended = many_ends _ _ (exact (unit kind) clear.0) (some_holds (unit kind) clear.2) (34 ∷ text)
    (no_unit kind text) in
    closes text (prepend_none [] (find (close (codes "\"")) (34 ∷ text))
    (sym (ap (and_find (find (close (codes "\"")))) ended) ∙ none))

pub not_whole : (kind : StringKind) (at place end : TextCursor) → ReadUnits kind at place
    → IsLeft double_quote [] place end
    → find (cooked_string kind) (chars at.rest.now) ≡ None → ⊥
not_whole kind at place end h whole none =
    body_closes kind (chars end.rest.now)
    (subst (λ t. find (body (unit kind) (codes "\"")) t ≡ None) whole
    (prepend_none h.leads.front (find (body (unit kind) (codes "\"")) (chars place.rest.now))
    (sym h.leads.found ∙ none)))

-- ---- the error

pub bad_string : (kind : StringKind) (e : EscapeError) (at inside place after end : TextCursor) (x : Trouble)
    → Passes (Exactly (string_front kind)) at inside → Passes closed_body inside end → ReadUnits kind at place
    → IsFaultAt kind e place after end → IsFaulty e place after x → IsTrouble at x
bad_string kind e at inside place after end x opens closed h fault is =
    let units = h.past.part in
    let start = is.start.part in
    let part = is.part.part in
    let left = fault.left in
    let tail = chars end.rest.now in
    let r = chars x.after.rest.now in
    let here : chars place.rest.now ≡ start ++ (part ++ r) = is.start.whole
    ∙ ap (λ t. start ++ t) is.part.whole in
    let back : r ≡ left ++ (34 ∷ tail) = ap (λ c. chars c.rest.now) is.ends ∙ fault.closes in
    let read : fault.past.part ≡ start ++ part =
    append_cancel_right _ _ (chars after.rest.now)
    (sym fault.past.whole ∙ (here ∙ (sym (append_assoc start part r)
    ∙ ap (λ c. (start ++ part) ++ chars c.rest.now) is.ends))) in
    let whole : chars at.rest.now ≡ (units ++ start) ++ (part ++ r) =
    h.past.whole ∙ (ap (λ t. units ++ t) here ∙ sym (append_assoc units start (part ++ r))) in
    let all = passes_piece (closed_string kind) (assumption) at end
    (then_passes (Exactly (string_front kind)) closed_body at inside end opens closed) in
    let joined : (units ++ start) ++ (part ++ r) ≡ ((units ++ start) ++ (part ++ (left ++ codes "\""))) ++ tail =
    ap (λ t. (units ++ start) ++ (part ++ t)) (back ∙ sym (append_assoc left (codes "\"") tail))
    ∙ (ap (λ t. (units ++ start) ++ t) (sym (append_assoc part (left ++ codes "\"") tail))
    ∙ sym (append_assoc (units ++ start) (part ++ (left ++ codes "\"")) tail)) in
    let same : _ ≡ (units ++ start) ++ (part ++ (left ++ codes "\"")) =
    append_cancel_right _ _ tail (sym all.0 ∙ (whole ∙ joined)) in
    let bad : IsBadString kind e (units ++ start) part r = record {
      units = units;
      start = start;
      left = left;
      tail = tail;
      front = refl;
      stands = subst (Stands (string_units kind) units) here h.units;
      back = back;
      closed = subst (λ w. Stands (closed_string kind) w tail) same all.1;
      apart = subst (λ t. begins_any line_ends t ≡ false) here fault.apart;
      gives = subst (λ t. StringFault kind e (t ++ left) left) read fault.gives;
      part = is.fault;
    } in
    record {
      front = units ++ start;
      part = part;
      before = h.past.whole ∙ (ap (λ t. units ++ t) is.start.whole
          ∙ sym (append_assoc units start (chars x.at.rest.now)));
      here = is.part.whole;
      count = omega (arith, h.past.count, is.start.count, length-append units start);
      size = is.part.count;
      holds = subst (λ reason. Holds reason (units ++ start) part r) (sym is.reason) (inl (kind, bad));
    }

pub closed_inside : (inside end : TextCursor) → Passes closed_body inside end → IsInside double_quote inside end
closed_inside inside end h =
    let is = passes_piece closed_body (assumption) inside end h in
    let last : h.front ≡ is.1.front ++ codes "\"" = is.1.whole ∙ ap (λ t. is.1.front ++ t) is.1.second in (
      is.1.front,
      is.0 ∙ (ap (λ t. t ++ chars end.rest.now) last ∙ append_assoc is.1.front (codes "\"") (chars end.rest.now)),
    )
