-- The error in the content of a character or byte literal that is closed.
use Rattle.std.proofs.Common.{◌≡◌, ℕ, ◌+◌, ◌≤◌, Bool, true, false, ◌||◌, ◌==◌, List, [], ◌∷◌, ◌++◌}
use Rattle.std.proofs.Common.{codes, drop, take, length, Some, None, Result, Ok, Err, inl, inr, refl, sym, ap}
use Rattle.std.proofs.Common.{◌∙◌}
use Rattle.std.proofs.Common.{subst, append_assoc, append-nil, arith, eqb-true, length-append}
use Rattle.std.specs.Prelude.{cond}
use Rattle.std.specs.Char.{is_ascii}
use Rattle.std.specs.Str.{IsCharBoundary, chars}
use Rattle.std.specs.declared.ops.Range.{Range}
use Rattle.std.proofs.lemmas.Bool.{and_from, both_ways, cond_both}
use Rattle.std.proofs.lemmas.List.{append_cancel_right}
use Rattle.std.proofs.lemmas.Str.{IsUtf8-had}
use Rattle.lexical.specs.Character.{single_quote}
use Rattle.lexical.specs.Finder.{and_find}
use Rattle.lexical.specs.Quoted.{close, escape as escape_rule}
use Rattle.lexical.specs.Rule.{Rule, Exactly, Then, Stands, find}
use Rattle.lexical.specs.SingleQuoted.{is_byte_char_plain, is_char_plain, single as single_quoted}
use Rattle.lexical.specs.SingleQuoted.{unit as unit_of}
use Rattle.lexical.specs.RuleMatch.{Passes}
use Rattle.lexical.specs.declared.cursor.TextCursor.{TextCursor}
use Rattle.lexical.specs.declared.quoted.StringKind.{StringKind}
use Rattle.lexical.specs.declared.quoted.StringKind.TheVariants as kinds
use Rattle.lexical.proofs.RuleLemmas.{Clear, exact}
use Rattle.lexical.proofs.RuleSteps.{find_then, past_text}
use Rattle.lexical.proofs.TextLemmas.{seam_boundary}
use Rattle.literal_escaper.specs.declared.errors.EscapeError.{EscapeError}
use Rattle.literal_escaper.specs.declared.errors.EscapeError.TheVariants as errors
use Rattle.literal_escaper.specs.Errors.{Error, at_most_one, error_at, errors_in, read_range}
use Rattle.literal_escaper.specs.Escape.{Read, escape}
use Rattle.literal_escaper.specs.Kind.{Kind, byte_kind, string_kind}
use Rattle.literal_escaper.specs.Single.{only, single, single_front as front_of}
use Rattle.literal_escaper.specs.Text.{bytes}
use Rattle.literal_escaper.proofs.FrontLemmas.{IsEnd, end_of_end, end_tail, end_whole, escape_end}
use Rattle.explain.specs.Content.{IsSinglePlace, SingleFault, is_of_literal}
use Rattle.explain.specs.Reason.{Holds}
use Rattle.explain.specs.Shapes.{closed_character, single_front, single_rule}
use Rattle.explain.specs.Trouble.{IsTrouble}
use Rattle.explain.specs.Walk.{GivesSingle, IsFaulty, IsLeft, IsPast, IsSingleFault, single_mode}
use Rattle.explain.specs.declared.quotes.SingleKind.{SingleKind}
use Rattle.explain.specs.declared.quotes.SingleKind.TheVariants as singles
use Rattle.explain.specs.declared.reason.Reason.TheVariants.{Content}
use Rattle.explain.specs.declared.trouble.Trouble.{Trouble}
use Rattle.explain.proofs.ContentLemmas.{past_read, size_of}
use Rattle.explain.proofs.EscapeLemmas.{Allows, byte_allows, escape_is, string_allows}
use Rattle.explain.proofs.NumberLemmas.{none_after, none_of_rest}
use Rattle.explain.proofs.RawLemmas.{closes_text}

-- ---- what the escaper returns

module _ {U : Type 0} (range : Range ℕ) where
  by_none : (o : Result U EscapeError) → at_most_one (error_at range o) ≡ [] → (u : U) × (o ≡ Ok u)
  by_none (Ok u) e = (u, refl)
  by_none (Err fault) e = absurd (cc)

  by_some : (o : Result U EscapeError) (r : Range ℕ) (e : EscapeError) (more : List Error)
      → at_most_one (error_at range o) ≡ (r, e) ∷ more → (r ≡ range) × (o ≡ Err e)
  by_some (Ok u) r e more is = absurd (cc)
  by_some (Err fault) r e more is =
      let same : ◌≡◌ {A = Error} (range, fault) (r, e) = cc in
      (ap (λ x. x.0) (sym same), ap (λ x. Err x.1) same)

pub no_fault : (kind : SingleKind) (text : List ℕ) → errors_in (single_mode kind) text ≡ []
    → IsSingleFault kind text None
no_fault singles.Character text e =
    by_none (read_range (bytes text) (single string_kind text).rest) (single string_kind text).unit e
no_fault singles.Byte text e =
    by_none (read_range (bytes text) (single byte_kind text).rest) (single byte_kind text).unit e

pub some_fault : (kind : SingleKind) (text : List ℕ) (r : Range ℕ) (e : EscapeError) (more : List Error)
    → errors_in (single_mode kind) text ≡ (r, e) ∷ more → IsSingleFault kind text (Some (r.end, e))
some_fault singles.Character text r e more is =
    let both = by_some (read_range (bytes text) (single string_kind text).rest) (single string_kind text).unit r e more
    is in
    (ap (λ x. x.end) both.0, both.1)
some_fault singles.Byte text r e more is =
    let both = by_some (read_range (bytes text) (single byte_kind text).rest) (single byte_kind text).unit r e more
    is in
    (ap (λ x. x.end) both.0, both.1)

-- ---- a literal whose content has no error matches its rule

only_ok : {U : Type 0} (o : Result U EscapeError) (rest : List ℕ) (u : U) → (only o rest).unit ≡ Ok u
    → (o ≡ Ok u) × (rest ≡ [])
only_ok (Ok unit) [] u e = (e, refl)
only_ok (Ok unit) (c ∷ rest) u e = absurd (cc)
only_ok (Err fault) rest u e = absurd (cc)

module _ {U : Type 0} (kind : Kind U) (strings : StringKind) (are : Allows kind strings) (plain : ℕ → Bool)
    (bare : (c : ℕ) (u : U) → kind.of_char c ≡ Ok u → is_char_plain c ≡ true → plain c ≡ true) (more : List ℕ) (u : U)
  where
    abbrev Is : ℕ → List ℕ → Read U → Type 0
    Is c text read = (only read.unit read.rest).unit ≡ Ok u
        → Stands (unit_of plain (escape_rule strings)) (c ∷ text) (39 ∷ more)

    plain_char : (c : ℕ) → ((c == 10) || (c == 9) || (c == 39)) ≡ false → (c == 13) ≡ false → (c == 92) ≡ false
        → is_char_plain c ≡ true
    plain_char c some return backslash = grind (arith, some, return, backslash)

    plain_is : (c : ℕ) (text : List ℕ) → (c == 92) ≡ false
        → Is c text (record {
          unit = cond ((c == 10) || (c == 9) || (c == 39)) (Err errors.EscapeOnlyChar)
              (cond (c == 13) (Err errors.BareCarriageReturn) (kind.of_char c));
          rest = text;
        })
    plain_is c text backslash =
        cond_both ((c == 10) || (c == 9) || (c == 39)) _ _ (λ o. Is c text (record { unit = o; rest = text }))
        (λ e h. absurd (cc))
        (λ some. cond_both (c == 13) _ _ (λ o. Is c text (record { unit = o; rest = text }))
        (λ e h. absurd (cc))
        (λ return h.
        let both = only_ok (kind.of_char c) text u h in
        inl (c, ap (λ t. c ∷ t) both.1, bare c u both.0 (plain_char c some return backslash))))

    escaped_is : (c : ℕ) (text : List ℕ) → (c == 92) ≡ true → Is c text (escape kind text)
    escaped_is c text e h =
        let both = only_ok (escape kind text).unit (escape kind text).rest u h in
        let is = escape_is kind strings are (39 ∷ more) u text both.0 in
        let whole : text ≡ is.part = is.whole ∙ (ap (λ t. is.part ++ t) both.1 ∙ append-nil is.part) in
        inr (record {
          front = codes "\\";
          back = text;
          whole = ap (λ d. d ∷ text) (eqb-true c 92 e);
          first = refl;
          second = subst (λ t. Stands (escape_rule strings) t (39 ∷ more)) (sym whole)
              (subst (λ t. Stands (escape_rule strings) is.part (t ++ (39 ∷ more))) both.1 is.stands);
        })

    pub single_is : (text : List ℕ) → (single kind text).unit ≡ Ok u
        → Stands (unit_of plain (escape_rule strings)) text (39 ∷ more)
    unfolding single
    single_is [] h = absurd (cc)
    single_is (c ∷ text) h = (cond_both (c == 92) _ _ (Is c text) (escaped_is c text) (plain_is c text)) h

-- a closed literal whose content is one unit is found
module _ (front : List ℕ) (plain : ℕ → Bool) (escapes : Rule) (clear : Clear (unit_of plain escapes)) where
  found_single : (at inside : TextCursor) (text more : List ℕ) → Passes (Exactly front) at inside
      → chars inside.rest.now ≡ text ++ (39 ∷ more) → Stands (unit_of plain escapes) text (39 ∷ more)
      → find (single_quoted front plain escapes) (chars at.rest.now) ≡ None → ⊥
  found_single at inside text more opens whole stands none =
      let unit = unit_of plain escapes in
      let inner = none_of_rest (Exactly front) (Then unit (close (codes "'"))) at inside opens none in
      let found = ap (find unit) whole ∙ (exact unit clear).complete text (39 ∷ more) stands in
      let last = none_after text (find (close (codes "'")) (39 ∷ more))
      (sym (find_then unit (close (codes "'")) (chars inside.rest.now)
      ∙ ap (and_find (find (close (codes "'")))) found) ∙ inner) in
      closes_text (codes "'") (39 ∷ more) more refl last

byte_bare : (c u : ℕ) → byte_kind.of_char c ≡ Ok u → is_char_plain c ≡ true → is_byte_char_plain c ≡ true
byte_bare c u = cond_both (is_ascii c) _ _ (λ o. o ≡ Ok u → is_char_plain c ≡ true → is_byte_char_plain c ≡ true)
    (λ e h plain. and_from _ _ plain e) (λ e h. absurd (cc))

pub not_right : (kind : SingleKind) (at inside end : TextCursor) (text : List ℕ) → Passes (Exactly (single_front kind))
    at inside
    → IsLeft single_quote text inside end → IsSingleFault kind text None
    → find (single_rule kind) (chars at.rest.now) ≡ None → ⊥
not_right singles.Character at inside end text opens whole right none =
    found_single (codes "'") is_char_plain (escape_rule kinds.Plain) (assumption) at inside text (chars end.rest.now)
    opens whole
    (single_is string_kind kinds.Plain string_allows is_char_plain (λ c u is plain. plain) (chars end.rest.now) right.0
    text right.1)
    none
not_right singles.Byte at inside end text opens whole right none =
    found_single (codes "b'") is_byte_char_plain (escape_rule kinds.Byte) (assumption) at inside text
    (chars end.rest.now) opens whole
    (single_is byte_kind kinds.Byte byte_allows is_byte_char_plain byte_bare (chars end.rest.now) right.0 text right.1)
    none

-- ---- what was read

only_end : {U : Type 0} (o : Result U EscapeError) (rest : List ℕ) → IsEnd rest (only o rest).rest
only_end (Ok unit) [] = end_whole []
only_end (Ok unit) (c ∷ rest) = end_tail c rest
only_end (Err fault) rest = end_whole rest

front_ends : {U : Type 0} (kind : Kind U) (c : ℕ) (text : List ℕ) → IsEnd text (front_of kind c text).rest
front_ends {U = U} kind c text =
    cond_both (c == 92) _ _ (λ (read : Read U). IsEnd text read.rest) (λ e. escape_end kind text) (λ e. end_whole text)

-- what was read of the content, and what is left
record IsSingleRead {U : Type 0} (kind : Kind U) (e : EscapeError) (text : List ℕ) (size : ℕ) : Type 0 where
  part : List ℕ
  whole : text ≡ part ++ (single kind text).rest
  some : is_of_literal e ≡ false → 1 ≤ length part
  long : size ≡ bytes part
  gives : (single kind text).unit ≡ Err e

single_read : {U : Type 0} (kind : Kind U) (e : EscapeError) (text : List ℕ) (size : ℕ)
    → GivesSingle kind text (Some (size, e)) → IsSingleRead kind e text size
unfolding single
single_read kind e [] size given = record {
  part = [];
  whole = refl;
  some = λ no.
      let same : ◌≡◌ {A = EscapeError} errors.ZeroChars e = cc in
      absurd (both_ways _ no (ap is_of_literal (sym same)));
  long = given.0 ∙ size_of [] [] [] refl;
  gives = given.1;
}
single_read kind e (c ∷ text) size given =
    let read = front_of kind c text in
    let last = end_of_end text read.rest (only read.unit read.rest).rest (front_ends kind c text)
    (only_end read.unit read.rest) in
    let whole : c ∷ text ≡ (c ∷ last.0) ++ (only read.unit read.rest).rest = ap (λ t. c ∷ t) last.1 in record {
      part = c ∷ last.0;
      whole = whole;
      some = λ no. omega arith;
      long = given.0 ∙ size_of (c ∷ text) (c ∷ last.0) (only read.unit read.rest).rest whole;
      gives = given.1;
    }

-- for this kind of literal, what was read of the content, and what is left
pub record IsReadFor (kind : SingleKind) (e : EscapeError) (text : List ℕ) (size : ℕ) : Type 0 where
  pub part : List ℕ
  pub rest : List ℕ
  pub whole : text ≡ part ++ rest
  pub some : is_of_literal e ≡ false → 1 ≤ length part
  pub long : size ≡ bytes part
  pub gives : SingleFault kind e text rest

pub read_for : (kind : SingleKind) (e : EscapeError) (text : List ℕ) (size : ℕ)
    → IsSingleFault kind text (Some (size, e)) → IsReadFor kind e text size
read_for singles.Character e text size given =
    let is = single_read string_kind e text size given in record {
      part = is.part;
      rest = (single string_kind text).rest;
      whole = is.whole;
      some = is.some;
      long = is.long;
      gives = ap (λ u. record { unit = u; rest = (single string_kind text).rest }) is.gives;
    }
read_for singles.Byte e text size given =
    let is = single_read byte_kind e text size given in record {
      part = is.part;
      rest = (single byte_kind text).rest;
      whole = is.whole;
      some = is.some;
      long = is.long;
      gives = ap (λ u. record { unit = u; rest = (single byte_kind text).rest }) is.gives;
    }

-- ---- the wrong part

module _ (kind : SingleKind) (e : EscapeError) (at inside end : TextCursor) (text : List ℕ) (size : ℕ)
    (opens : Passes (Exactly (single_front kind)) at inside) (past : IsPast at end)
    (closed : Stands closed_character past.part (chars end.rest.now)) (left : IsLeft single_quote text inside end)
    (read : IsReadFor kind e text size) where
  split : chars inside.rest.now ≡ read.part ++ (read.rest ++ (39 ∷ chars end.rest.now))
  split = left ∙ (ap (λ t. t ++ (39 ∷ chars end.rest.now)) read.whole
      ∙ append_assoc read.part read.rest (39 ∷ chars end.rest.now))

  pub single_boundary : IsCharBoundary inside.rest.now size
  single_boundary =
      seam_boundary inside.rest.now read.part (read.rest ++ (39 ∷ chars end.rest.now)) size
      (IsUtf8-had inside.rest.now inside.text) split read.long

  pub single_past : (after : TextCursor) → after.rest.now ≡ drop size inside.rest.now
      → after.chars_before ≡ inside.chars_before + length (chars (take size inside.rest.now))
      → (to : IsPast inside after) × (to.part ≡ read.part)
      × (chars after.rest.now ≡ read.rest ++ (39 ∷ chars end.rest.now))
  single_past after rest count =
      let is = past_read inside after size read.part (read.rest ++ (39 ∷ chars end.rest.now))
      (record { rest = rest; count = count }) split read.long in (
        record { part = read.part; whole = split ∙ ap (λ t. read.part ++ t) (sym is.0); count = is.1 },
        refl,
        is.0,
      )

  -- the literal up to its end
  literal : past.part ≡ single_front kind ++ (text ++ codes "'")
  literal =
      let opening = past_text (single_front kind) at inside opens in
      append_cancel_right _ _ (chars end.rest.now)
      (sym past.whole ∙ (opening.0 ∙ (ap (λ t. single_front kind ++ t) (left
      ∙ sym (append_assoc text (codes "'") (chars end.rest.now)))
      ∙ sym (append_assoc (single_front kind) (text ++ codes "'") (chars end.rest.now)))))

  closed_here : Stands closed_character (single_front kind ++ (text ++ codes "'")) (chars end.rest.now)
  closed_here = subst (λ p. Stands closed_character p (chars end.rest.now)) literal closed

  pub bad_literal : is_of_literal e ≡ true → IsTrouble at (record { reason = Content e; at = at; after = end })
  bad_literal whole = record {
    front = [];
    part = past.part;
    before = refl;
    here = past.whole;
    count = omega arith;
    size = past.count;
    holds = inr (inr (
      kind,
      record {
        content = text;
        left = read.rest;
        tail = chars end.rest.now;
        whole = ap (λ p. p ++ chars end.rest.now) literal;
        closed = closed_here;
        gives = read.gives;
        place = subst (λ b. IsSinglePlace b e (single_front kind) text read.rest [] past.part) (sym whole) (
          refl,
          literal,
        );
      },
    ));
  }

  pub bad_part : (after : TextCursor) (x : Trouble) → is_of_literal e ≡ false
      → after.rest.now ≡ drop size inside.rest.now
      → after.chars_before ≡ inside.chars_before + length (chars (take size inside.rest.now))
      → IsFaulty e inside after x → IsTrouble at x
  bad_part after x partly rest count is =
      let opening = past_text (single_front kind) at inside opens in
      let to = single_past after rest count in
      let start = is.start.part in
      let part = is.part.part in
      let r = chars x.after.rest.now in
      let here : chars inside.rest.now ≡ start ++ (part ++ r) = is.start.whole ∙ ap (λ t. start ++ t) is.part.whole in
      let back : r ≡ read.rest ++ (39 ∷ chars end.rest.now) = ap (λ c. chars c.rest.now) is.ends ∙ to.2 in
      let same : read.part ≡ start ++ part =
      append_cancel_right _ _ r
      (ap (λ t. read.part ++ t) back ∙ (sym split ∙ (here ∙ sym (append_assoc start part r)))) in
      let whole : chars at.rest.now ≡ (single_front kind ++ start) ++ (part ++ r) =
      opening.0 ∙ (ap (λ t. single_front kind ++ t) here ∙ sym (append_assoc (single_front kind) start (part ++ r))) in
      record {
        front = single_front kind ++ start;
        part = part;
        before = opening.0 ∙ (ap (λ t. single_front kind ++ t) is.start.whole
            ∙ sym (append_assoc (single_front kind) start (chars x.at.rest.now)));
        here = is.part.whole;
        count = omega (arith, opening.1, is.start.count, length-append (single_front kind) start);
        size = is.part.count;
        holds = subst (λ reason. Holds reason (single_front kind ++ start) part r) (sym is.reason)
            (inr (inr (
              kind,
              record {
                content = text;
                left = read.rest;
                tail = chars end.rest.now;
                whole = sym whole ∙ (past.whole ∙ ap (λ p. p ++ chars end.rest.now) literal);
                closed = closed_here;
                gives = read.gives;
                place = subst (λ b. IsSinglePlace b e (single_front kind) text read.rest (single_front kind ++ start)
                    part)
                    (sym partly) (start, refl, read.whole ∙ ap (λ t. t ++ read.rest) same, is.fault);
              },
            )));
      }
