-- Where no lone quote begins, which is the `'` of a lifetime.
use Rattle.std.proofs.Common.{◌≡◌, ℕ, ◌+◌, Bool, true, false, not, ◌&&◌, ◌==◌, cond, List, [], ◌∷◌, ◌++◌, codes}
use Rattle.std.proofs.Common.{length, Some, None, inl, inr, refl, sym, ap, ◌∙◌, subst, append_assoc, arith}
use Rattle.std.proofs.Common.{length-append}
use Rattle.std.specs.Char.{is_ascii_digit}
use Rattle.std.specs.Str.{chars}
use Rattle.std.proofs.lemmas.Bool.{both_ways, cond-false, cond-true, or_from, true_from_ne_false}
use Rattle.lexical.specs.Character.{single_quote}
use Rattle.lexical.specs.Class.{is_ident_continue}
use Rattle.lexical.specs.Finder.{Answer, and_find, prepend, find_run, if_passes, while_front, while_rest}
use Rattle.lexical.specs.Identifier.{is_allowed, is_reserved, name, raw_name, any_identifier}
use Rattle.lexical.specs.Mark.{bars_quote, follows_quote}
use Rattle.lexical.specs.PieceFinder.{find_lone_quote}
use Rattle.lexical.specs.Rule.{Either, Exactly, One, Run, Then, Stands, find}
use Rattle.lexical.specs.RuleMatch.{Passes}
use Rattle.lexical.specs.Text.{begins_with, first_passes}
use Rattle.lexical.specs.declared.cursor.TextCursor.{TextCursor}
use Rattle.lexical.proofs.ClassLemmas.{ident_continue_ascii, ident_start_ascii}
use Rattle.lexical.proofs.NameFinderLemmas.{unbarred_found}
use Rattle.lexical.proofs.RuleSteps.{lacks_text, passes_piece, past_text, then_passes}
use Rattle.lexical.proofs.TextLemmas.{begins_splits}
use Rattle.explain.specs.Shapes.{closed_character, closed_single, closed_single_body, single_opening}
use Rattle.explain.specs.Walk.{IsInside, IsPast}

some_none : (b : Bool) (x : List ℕ × List ℕ) → ◌≡◌ {A = Answer} (cond b (Some x) None) None → b ≡ false
some_none true x e = absurd (cc)
some_none false x e = refl

pub lone_false : (at inside : TextCursor) → Passes (Exactly (codes "'")) at inside
    → find_lone_quote (chars at.rest.now) ≡ None → follows_quote (chars inside.rest.now) ≡ false
lone_false at inside h none =
    some_none (follows_quote (chars inside.rest.now)) (h.front, chars inside.rest.now)
    (sym (ap (if_passes (λ p r. follows_quote r)) h.found) ∙ none)

-- a text that doesn't begin with this character
no_first : (d : ℕ) (text : List ℕ) → find (Exactly (d ∷ [])) text ≡ None → first_passes (λ c. c == d) text ≡ false
no_first d [] none = refl
no_first d (c ∷ text) none = grind (arith, lacks_text (d ∷ []) (c ∷ text) none)

no_bar_raw : (text : List ℕ) → first_passes (λ c. c == 39) text ≡ false → first_passes (bars_quote true) text ≡ false
no_bar_raw [] a = refl
no_bar_raw (c ∷ text) a = grind (arith, a)

no_bar : (text : List ℕ) → first_passes (λ c. c == 39) text ≡ false → first_passes (λ c. c == 35) text ≡ false
    → first_passes (bars_quote false) text ≡ false
no_bar [] a b = refl
no_bar (c ∷ text) a b = grind (arith, a, b)

-- ---- raw lifetimes

after_quote : (at inside inner : TextCursor) → Passes (Exactly (codes "'")) at inside
    → Passes (Exactly (codes "'r#")) at inner → chars inside.rest.now ≡ codes "r#" ++ chars inner.rest.now
after_quote at inside inner h j =
    let whole : 39 ∷ chars inside.rest.now ≡ 39 ∷ (codes "r#" ++ chars inner.rest.now) =
    sym (past_text (codes "'") at inside h).0 ∙ (past_text (codes "'r#") at inner j).0 in
    cc

not_allowed : (b : Bool) → b ≡ false → not (true && b) ≡ true
not_allowed b e = ap not e

pub raw_reserved : (at inside inner end : TextCursor) → Passes (Exactly (codes "'")) at inside
    → Passes (Exactly (codes "'r#")) at inner → (named : Passes name inner end)
    → find (Exactly (codes "'")) (chars end.rest.now) ≡ None → find_lone_quote (chars at.rest.now) ≡ None
    → is_reserved named.front ≡ true
unfolding find
raw_reserved at inside inner end quote front named closed lone = true_from_ne_false _ (λ plain.
    let raw : find raw_name (chars inner.rest.now) ≡ Some (named.front, chars end.rest.now) =
    ap (if_passes (λ p r. is_allowed true p)) named.found ∙ cond-true _ _ _ (not_allowed _ plain) in
    let split = after_quote at inside inner quote front in
    let found : find (any_identifier true) (chars inside.rest.now)
    ≡ Some (codes "r#" ++ named.front, chars end.rest.now) =
    ap (find (any_identifier true)) split ∙ ap (λ o. prepend (codes "r#") o) raw in
    both_ways _ (lone_false at inside quote lone)
    (unbarred_found true (chars inside.rest.now) _ _ (ap (begins_with (codes "r#")) split) found
    ∙ ap not (no_bar_raw (chars end.rest.now) (no_first 39 (chars end.rest.now) closed))))

-- ---- lifetimes

-- in `r#`, the name is `r`
name_r : (rest : List ℕ) → find name (codes "r#" ++ rest) ≡ Some (codes "r", 35 ∷ rest)
unfolding find
name_r rest =
    ap (and_find (find_run is_ident_continue)) (cond-true _ _ _ (ident_start_ascii 114 (omega arith)))
    ∙ ap (λ b. Some (
      114 ∷ cond b (35 ∷ while_front is_ident_continue rest) [],
      cond b (while_rest is_ident_continue rest) (35 ∷ rest),
    )) (ident_continue_ascii 35 (omega arith))

rest_of : (text rest : List ℕ) (p r : List ℕ) → text ≡ codes "r#" ++ rest → find name text ≡ Some (p, r)
    → r ≡ 35 ∷ rest
rest_of text rest p r e found =
    let same : ◌≡◌ {A = Answer} (Some (codes "r", 35 ∷ rest)) (Some (p, r)) =
    sym (name_r rest) ∙ (sym (ap (find name) e) ∙ found) in
    let pair : ◌≡◌ {A = List ℕ × List ℕ} (codes "r", 35 ∷ rest) (p, r) = cc in
    sym (ap (λ x. x.1) pair)

pub hash_follows : (at inside end : TextCursor) → Passes (Exactly (codes "'")) at inside
    → (named : Passes name inside end)
    → find (Exactly (codes "'")) (chars end.rest.now) ≡ None → find (Exactly (codes "#")) (chars end.rest.now) ≡ None
    → find_lone_quote (chars at.rest.now) ≡ None → ⊥
unfolding find
hash_follows at inside end quote named closed hash lone = by_raw (begins_with (codes "r#") (chars inside.rest.now)) refl
  where
    by_raw : (b : Bool) → begins_with (codes "r#") (chars inside.rest.now) ≡ b → ⊥
    by_raw true begins =
        let split = begins_splits (codes "r#") (chars inside.rest.now) begins in
        let rest = rest_of (chars inside.rest.now) split.0 named.front (chars end.rest.now) split.1 named.found in
        both_ways (first_passes (λ c. c == 35) (chars end.rest.now)) (no_first 35 (chars end.rest.now) hash)
        (ap (first_passes (λ c. c == 35)) rest)
    by_raw false begins =
        let found : find (any_identifier false) (chars inside.rest.now) ≡ Some (named.front, chars end.rest.now) =
        cond-false _ _ _ (or_from _ _ begins refl) ∙ named.found in
        both_ways _ (lone_false at inside quote lone)
        (unbarred_found false (chars inside.rest.now) _ _ begins found
        ∙ ap not (no_bar (chars end.rest.now) (no_first 39 (chars end.rest.now) closed)
        (no_first 35 (chars end.rest.now) hash)))

-- after the `'` of `'r#` a name begins
pub name_here : (at inside inner : TextCursor) → Passes (Exactly (codes "'")) at inside
    → Passes (Exactly (codes "'r#")) at inner → find name (chars inside.rest.now) ≡ None → ⊥
name_here at inside inner quote front none =
    let split = after_quote at inside inner quote front in
    let clash : ◌≡◌ {A = Answer} (Some (codes "r", 35 ∷ chars inner.rest.now)) None =
    sym (name_r (chars inner.rest.now)) ∙ (sym (ap (find name) split) ∙ none) in
    absurd (cc)

-- ---- characters that are closed

abbrev pub EndsAt : TextCursor → TextCursor → Type 0
EndsAt at end = (past : IsPast at end) × Stands closed_character past.part (chars end.rest.now)

pub single_ends : (at inside end : TextCursor) → Passes single_opening at inside → Passes closed_single_body inside end
    → EndsAt at end
single_ends at inside end opens body =
    let all = then_passes single_opening closed_single_body at inside end opens body in
    let is = passes_piece closed_single (assumption) at end all in
    (record { part = all.front; whole = is.0; count = all.count }, inl is.1)

pub single_inside : (inside end : TextCursor) → Passes closed_single_body inside end → IsInside single_quote inside end
single_inside inside end body =
    let is = passes_piece closed_single_body (assumption) inside end body in
    let last = by_rule body.front is.1 in
    (last.0, is.0 ∙ (ap (λ t. t ++ chars end.rest.now) last.1 ∙ append_assoc last.0 (codes "'") (chars end.rest.now)))
  where
    by_rule : (p : List ℕ) → Stands closed_single_body p (chars end.rest.now) → (left : List ℕ) × (p ≡ left ++ codes
        "'")
    by_rule p (inl alone) = (alone.front, alone.whole ∙ ap (λ t. alone.front ++ t) alone.second)
    by_rule p (inr more) = (more.1.front, more.1.whole ∙ ap (λ t. more.1.front ++ t) more.1.second)

module _ (at inside mid end : TextCursor) (quote : Passes (Exactly (codes "'")) at inside)
    (close : Passes (Exactly (codes "'")) mid end) where
  opening : (chars at.rest.now ≡ codes "'" ++ chars inside.rest.now) × (inside.chars_before ≡ at.chars_before + 1)
  opening = past_text (codes "'") at inside quote

  closing : (chars mid.rest.now ≡ codes "'" ++ chars end.rest.now) × (end.chars_before ≡ mid.chars_before + 1)
  closing = past_text (codes "'") mid end close

  -- the text between the quotes
  module _ (part : List ℕ) (whole : chars inside.rest.now ≡ part ++ chars mid.rest.now)
      (count : mid.chars_before ≡ inside.chars_before + length part) where
    pub quoted_inside : IsInside single_quote inside end
    quoted_inside = (part, whole ∙ ap (λ t. part ++ t) closing.0)

    quoted_past : (past : IsPast at end) × (past.part ≡ codes "'" ++ (part ++ codes "'"))
    quoted_past = (
      record {
        part = codes "'" ++ (part ++ codes "'");
        whole = opening.0 ∙ ap (λ t. codes "'" ++ t) (whole ∙ (ap (λ t. part ++ t) closing.0
            ∙ sym (append_assoc part (codes "'") (chars end.rest.now))));
        count = omega (arith, opening.1, closing.1, count, length-append part (codes "'"));
      },
      refl,
    )

    plain_ends : Stands (Either name (Then (One is_ascii_digit) (Run is_ident_continue))) part (codes "'" ++ chars
        end.rest.now)
        → EndsAt at end
    plain_ends stands = (
      quoted_past.0,
      subst (λ p. Stands closed_character p (chars end.rest.now)) (sym quoted_past.1)
          (inr (inr (record {
            front = codes "'";
            back = part ++ codes "'";
            whole = refl;
            first = refl;
            second = record { front = part; back = codes "'"; whole = refl; first = stands; second = refl };
          }))),
    )

  pub name_ends : (named : Passes name inside mid) → EndsAt at end × IsInside single_quote inside end
  name_ends named =
      let is = passes_piece name (assumption) inside mid named in (
        plain_ends named.front is.0 named.count (inl (subst (Stands name named.front) closing.0 is.1)),
        quoted_inside named.front is.0 named.count,
      )

  pub digits_end : (first : TextCursor) → Passes (One is_ascii_digit) inside first
      → Passes (Run is_ident_continue) first
      mid
      → EndsAt at end × IsInside single_quote inside end
  digits_end first digit run =
      let rule = Then (One is_ascii_digit) (Run is_ident_continue) in
      let all = then_passes (One is_ascii_digit) (Run is_ident_continue) inside first mid digit run in
      let is = passes_piece rule (assumption) inside mid all in (
        plain_ends all.front is.0 all.count (inr (subst (Stands rule all.front) closing.0 is.1)),
        quoted_inside all.front is.0 all.count,
      )

  pub raw_ends : (inner : TextCursor) → Passes (Exactly (codes "'r#")) at inner → (named : Passes name inner mid)
      → EndsAt at end × IsInside single_quote inside end
  raw_ends inner front named =
      let is = passes_piece name (assumption) inner mid named in
      let split = after_quote at inside inner quote front in
      let start = past_text (codes "'r#") at inner front in
      let part : List ℕ = codes "r#" ++ named.front in
      let whole : chars inside.rest.now ≡ part ++ chars mid.rest.now = split ∙ ap (λ t. codes "r#" ++ t) is.0 in
      let long : mid.chars_before ≡ inside.chars_before + length part =
      omega (arith, opening.1, start.1, named.count) in
      let past = quoted_past part whole long in (
        (
          past.0,
          subst (λ p. Stands closed_character p (chars end.rest.now)) (sym past.1)
              (inr (inl (record {
                front = codes "'r#";
                back = named.front ++ codes "'";
                whole = refl;
                first = refl;
                second = record {
                  front = named.front;
                  back = codes "'";
                  whole = refl;
                  first = subst (Stands name named.front) closing.0 is.1;
                  second = refl;
                };
              }))),
        ),
        quoted_inside part whole long,
      )
