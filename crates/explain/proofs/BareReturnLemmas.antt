-- A CR in a doc comment with no LF after it, which is called bare.
use Rattle.std.proofs.Common.{◌≡◌, ℕ, ◌+◌, Bool, true, false, not, ◌&&◌, ◌==◌, List, [], ◌∷◌, ◌++◌}
use Rattle.std.proofs.Common.{codes, drop, take, length, Option, Some, None, refl, sym, ap, ◌∙◌, subst}
use Rattle.std.proofs.Common.{append_assoc, append-nil, arith, eqb-true}
use Rattle.std.specs.Prelude.{cond}
use Rattle.std.specs.List.{list_all}
use Rattle.std.specs.Str.{IsCharBoundary, chars, encode_utf8_all}
use Rattle.std.proofs.lemmas.Bool.{and_parts, both_ways, cond_both, cond-true, false_from_ne_true, not-false}
use Rattle.std.proofs.lemmas.Bool.{or_from, or_parts}
use Rattle.std.proofs.lemmas.Str.{IsUtf8-had}
use Rattle.lexical.specs.Character.{carriage_return}
use Rattle.lexical.specs.Comment.{Comment, closing, comment, has_bare_return, is_doc}
use Rattle.lexical.specs.CommentKind.{comment_kind, doc_text}
use Rattle.lexical.specs.Finder.{Answer, and_find, find_run}
use Rattle.lexical.specs.Mark.{comment_fronts}
use Rattle.lexical.specs.Piece.{Kind}
use Rattle.lexical.specs.PieceFinder.{comment_found, with_kind}
use Rattle.lexical.specs.Rule.{Exactly, Run, find}
use Rattle.lexical.specs.RuleMatch.{Passes}
use Rattle.lexical.specs.Text.{begins_any, begins_with, ends_with, first_passes}
use Rattle.lexical.specs.declared.cursor.TextCursor.{TextCursor}
use Rattle.lexical.proofs.CommentKindLemmas.{clear_comment, closing_block, closing_none, doc_back, doc_front}
use Rattle.lexical.proofs.RuleSteps.{lacks_text, passes_piece}
use Rattle.lexical.proofs.TextLemmas.{begins_more, seam_boundary, seam_drop, seam_take}
use Rattle.explain.specs.Trouble.{IsTrouble}
use Rattle.explain.specs.Walk.{IsFirstBare, IsPast}
use Rattle.explain.specs.declared.reason.Reason.TheVariants.{BareReturnInDoc}
use Rattle.explain.proofs.NumberLemmas.{or_none}
use Rattle.explain.proofs.PlaceLemmas.{further}

abbrev other : ℕ → Bool
other c = not (c == carriage_return)

-- ---- from one CR to the next

none_plain : (p : List ℕ) → list_all other p ≡ true → has_bare_return p ≡ false
none_plain [] all = refl
none_plain (c ∷ p) all = grind (arith, all, none_plain p)

-- text without a bare CR, then a line end, and then text without a CR
none_feed : (p q : List ℕ) → has_bare_return p ≡ false → list_all other q ≡ true
    → has_bare_return (p ++ (13 ∷ 10 ∷ q)) ≡ false
none_feed [] q none all = grind (arith, none_plain q all)
none_feed (c ∷ []) q none all = grind (arith, none, none_plain q all)
none_feed (c ∷ (d ∷ p)) q none all = grind (arith, none, none_feed (d ∷ p) q, all)

-- the cursor is before the next CR or at the end, and none before it is bare
pub record AtReturn (inside at : TextCursor) : Type 0 where
  pub before : IsPast inside at
  pub none : has_bare_return before.part ≡ false
  pub stands : first_passes other (chars at.rest.now) ≡ false

pub first_return : (inside at : TextCursor) → Passes (Run other) inside at → AtReturn inside at
first_return inside at h =
    let is = passes_piece (Run other) tt inside at h in
    record {
      before = record { part = h.front; whole = is.0; count = h.count };
      none = none_plain h.front is.1.each;
      stands = is.1.stops;
    }

return_is : (c : ℕ) (text rest : List ℕ) → text ≡ c ∷ rest → first_passes other text ≡ false → c ≡ 13
return_is c text rest e stands =
    let is : not (c == 13) ≡ false = sym (ap (first_passes other) e) ∙ stands in
    eqb-true c 13 (not-false _ is)

feed_passes : (text : List ℕ) → first_passes other text ≡ false → begins_with (codes "\n") text ≡ true → ⊥
feed_passes [] stops feed = both_ways false refl feed
feed_passes (d ∷ text) stops feed =
    let line : d ≡ 10 = sym (eqb-true 10 d (and_parts _ _ feed).0) in
    both_ways _ stops (ap other line)

pub next_return : (inside at after to : TextCursor) (c : ℕ) → AtReturn inside at
    → chars at.rest.now ≡ c ∷ chars after.rest.now → after.chars_before ≡ at.chars_before + 1
    → begins_with (codes "\n") (chars after.rest.now) ≡ true → Passes (Run other) after to → AtReturn inside to
unfolding further
next_return inside at after to c is split count feed h =
    let run = passes_piece (Run other) tt after to h in
    let same = return_is c _ _ split is.stands in
    let past : IsPast at to = record {
      part = c ∷ h.front;
      whole = split ∙ ap (λ t. c ∷ t) run.0;
      count = omega (arith, count, h.count);
    } in
    record {
      before = further inside at to is.before past;
      none = by_front h.front run.1.each run.1.stops (sym (ap (begins_with (codes "\n")) run.0) ∙ feed);
      stands = run.1.stops;
    }
  where
    by_front : (front : List ℕ) → list_all other front ≡ true → first_passes other (chars to.rest.now) ≡ false
        → begins_with (codes "\n") (front ++ chars to.rest.now) ≡ true
        → has_bare_return (is.before.part ++ (c ∷ front)) ≡ false
    by_front [] all stops feed = absurd (feed_passes (chars to.rest.now) stops feed)
    by_front (d ∷ front) all stops feed =
        let line : d ≡ 10 = sym (eqb-true 10 d (and_parts _ _ feed).0) in
        let return : c ≡ 13 = return_is c _ _ split is.stands in
        subst (λ e. has_bare_return (is.before.part ++ (e ∷ d ∷ front)) ≡ false) (sym return)
        (subst (λ e. has_bare_return (is.before.part ++ (13 ∷ e ∷ front)) ≡ false) (sym line)
        (none_feed is.before.part front is.none (and_parts _ _ all).1))

-- a CR with no LF after it is the first bare one
pub first_bare : (inside at after : TextCursor) (c : ℕ) → AtReturn inside at
    → chars at.rest.now ≡ c ∷ chars after.rest.now
    → after.chars_before ≡ at.chars_before + 1 → begins_with (codes "\n") (chars after.rest.now) ≡ false
    → IsFirstBare inside at after
first_bare inside at after c is split count bare = record {
  before = is.before;
  return = split ∙ ap (λ d. d ∷ chars after.rest.now) (return_is c _ _ split is.stands);
  count = count;
  bare = bare;
  first = is.none;
}

-- at the end of the text, no CR is bare
pub no_bare : (inside at : TextCursor) → AtReturn inside at → chars at.rest.now ≡ []
    → has_bare_return (chars inside.rest.now) ≡ false
no_bare inside at is done =
    ap has_bare_return (is.before.whole ∙ (ap (λ t. is.before.part ++ t) done ∙ append-nil is.before.part)) ∙ is.none

-- ---- in the text of a doc comment

-- if the text ends with a CR, the rest doesn't begin with LF
abbrev Apart : List ℕ → List ℕ → Type 0
Apart text rest = ends_with 13 text ≡ true → begins_with (codes "\n") rest ≡ false

bare_more : (text rest : List ℕ) → Apart text rest → has_bare_return text ≡ true → has_bare_return (text ++ rest) ≡ true
bare_more [] rest apart bare = absurd (both_ways _ refl bare)
bare_more (c ∷ []) rest apart bare =
    let is : (c == 13) ≡ true = grind (arith, bare) in
    grind (arith, is, apart is)
bare_more (c ∷ (d ∷ text)) rest apart bare = grind (arith, bare, bare_more (d ∷ text) rest apart)

record Within (text rest before after : List ℕ) : Type 0 where
  more : List ℕ
  whole : text ≡ before ++ (13 ∷ more)
  back : after ≡ more ++ rest

within : (text rest before after : List ℕ) → Apart text rest → has_bare_return text ≡ true
    → has_bare_return before ≡ false → text ++ rest ≡ before ++ (13 ∷ after) → Within text rest before after
within [] rest before after apart bare none e = absurd (both_ways _ refl bare)
within (c ∷ text) rest [] after apart bare none e =
    let same : c ≡ 13 = cc in
    let back : text ++ rest ≡ after = cc in
    record { more = text; whole = ap (λ d. d ∷ text) same; back = sym back }
within (c ∷ []) rest (b ∷ before) after apart bare none e =
    let is : (c == 13) ≡ true = grind (arith, bare) in
    let same : c ≡ b = cc in
    let back : rest ≡ before ++ (13 ∷ after) = cc in
    absurd (both_ways _ (sym (ap (begins_with (codes "\n")) back) ∙ apart is) (line_before before after
    (sym (ap (λ d. d == 13) same) ∙ is) none))
  where
    line_before : (before after : List ℕ) → (b == 13) ≡ true → has_bare_return (b ∷ before) ≡ false
        → begins_with (codes "\n") (before ++ (13 ∷ after)) ≡ true
    line_before [] after is none = grind (arith, is, none)
    line_before (d ∷ before) after is none = grind (arith, is, none)
within (c ∷ (d ∷ text)) rest (b ∷ before) after apart bare none e =
    let same : c ≡ b = cc in
    let back : (d ∷ text) ++ rest ≡ before ++ (13 ∷ after) = cc in
    let inner = within (d ∷ text) rest before after apart
    (still before (sym (ap (begins_with (codes "\n")) back)) (sym same) none) (or_parts _ _ none).1 back in
    record {
      more = inner.more;
      whole = ap (λ t. c ∷ t) inner.whole ∙ ap (λ x. x ∷ (before ++ (13 ∷ inner.more)))
          same;
      back = inner.back;
    }
  where
    still : (before : List ℕ) → begins_with (codes "\n") (before ++ (13 ∷ after)) ≡ begins_with (codes "\n") (d ∷ text)
        → b ≡ c → has_bare_return (b ∷ before) ≡ false → has_bare_return (d ∷ text) ≡ true
    still [] first same none = grind (arith, bare, first, same, none)
    still (x ∷ before) first same none = grind (arith, bare, first, same, none)

-- ---- a doc comment with a bare CR, which is no comment

-- a doc comment at a cursor: its text, what closes it, and what follows it
pub record IsDocAt (at : TextCursor) : Type 0 where
  pub comment : List ℕ
  pub after : List ℕ
  pub whole : chars at.rest.now ≡ comment ++ after
  pub stands : Comment comment after
  pub doc : is_doc comment ≡ true
  pub bare : has_bare_return (doc_text comment after) ≡ true

kind_none : (p r : List ℕ) → comment_kind p r ≡ None
    → (is_doc p ≡ true) × (has_bare_return (doc_text p r) ≡ true)
kind_none p r = cond_both (is_doc p) _ _ (λ o. o ≡ None → (is_doc p ≡ true) × (has_bare_return (doc_text p r) ≡ true))
    (λ doc. cond_both (has_bare_return (doc_text p r)) _ _
    (λ o. o ≡ None → (is_doc p ≡ true) × (has_bare_return (doc_text p r) ≡ true))
    (λ bare e. (doc, bare)) (λ plain e. absurd (cc)))
    (λ plain e. absurd (cc))

untold : (x : List ℕ × List ℕ) (o : Option Kind) → with_kind x o ≡ None → o ≡ None
untold x None e = refl
untold x (Some kind) e = absurd (cc)

pub doc_at : (at end : TextCursor) → Passes comment at end → comment_found (find comment (chars at.rest.now)) ≡ None
    → IsDocAt at
doc_at at end h none =
    let is = passes_piece comment clear_comment at end h in
    let kind = kind_none h.front (chars end.rest.now)
    (untold (h.front, chars end.rest.now) (comment_kind h.front (chars end.rest.now))
    (sym (ap comment_found h.found) ∙ none)) in
    record {
      comment = h.front;
      after = chars end.rest.now;
      whole = is.0;
      stands = is.1;
      doc = kind.0;
      bare = kind.1;
    }

-- the text of a doc comment never ends with a CR before an LF
text_apart : (p r : List ℕ) → (h : Comment p r) → is_doc p ≡ true → Apart (doc_text p r) (closing p r ++ r)
text_apart p r h doc = by_closing (begins_with (codes "/*") p) refl
  where
    by_closing : (b : Bool) → begins_with (codes "/*") p ≡ b → Apart (doc_text p r) (closing p r ++ r)
    by_closing true block ends = ap (λ t. begins_with (codes "\n") (t ++ r)) (closing_block p r block)
    by_closing false line ends = by_feed (ends_with 13 p && begins_with (codes "\n") r) refl ends
      where
        by_feed : (b : Bool) → (ends_with 13 p && begins_with (codes "\n") r) ≡ b → Apart (doc_text p r) (closing p r
            ++ r)
        by_feed true feed ends =
            ap (λ t. begins_with (codes "\n") (t ++ r)) (ap (λ b. cond b (codes "*/")
            (cond (ends_with 13 p && begins_with (codes "\n") r) (13 ∷ []) [])) line ∙ cond-true _ _ _ feed)
        by_feed false other ends =
            let none = closing_none p r line other in
            let last : ends_with 13 p ≡ true =
            (doc_front p doc).last ∙ (ap (ends_with 13) (doc_back p r h doc ∙ (ap (λ t. doc_text p r ++ t) none
            ∙ append-nil (doc_text p r))) ∙ ends) in
            ap (λ t. begins_with (codes "\n") (t ++ r)) none
            ∙ sym (sym other ∙ ap (λ b. b && begins_with (codes "\n") r) last)

module _ (at inside : TextCursor) (is : IsDocAt at) (rest : inside.rest.now ≡ drop 3 at.rest.now)
    (count : inside.chars_before ≡ at.chars_before + length (chars (take 3 at.rest.now))) where
  abbrev text : List ℕ
  text = doc_text is.comment is.after

  abbrev closes : List ℕ
  closes = closing is.comment is.after

  opening : List ℕ
  opening = (doc_front is.comment is.doc).front

  doc_body : drop 3 is.comment ≡ text ++ closes
  doc_body = doc_back is.comment is.after is.stands is.doc

  whole : is.comment ≡ opening ++ (text ++ closes)
  unfolding opening
  whole = (doc_front is.comment is.doc).whole ∙ ap (λ t. opening ++ t) doc_body

  three : length opening ≡ 3
  unfolding opening
  three = (doc_front is.comment is.doc).three

  split : chars at.rest.now ≡ opening ++ (text ++ (closes ++ is.after))
  split =
      is.whole ∙ (ap (λ t. t ++ is.after) whole ∙ (append_assoc opening (text ++ closes) is.after
      ∙ ap (λ t. opening ++ t) (append_assoc text closes is.after)))

  size : 3 ≡ length (encode_utf8_all opening)
  unfolding opening
  size = (doc_front is.comment is.doc).bytes

  past_front : IsPast at inside
  past_front =
      let utf8 = IsUtf8-had at.rest.now at.text in record {
        part = opening;
        whole = split ∙ ap (λ t. opening ++ t) (sym (ap chars rest ∙ seam_drop at.rest.now opening _ 3 utf8 split
            size));
        count = count ∙ ap (λ t. at.chars_before + length t) (seam_take at.rest.now opening _ 3 utf8 split size);
      }

  inside_is : chars inside.rest.now ≡ text ++ (closes ++ is.after)
  inside_is = ap chars rest ∙ seam_drop at.rest.now opening _ 3 (IsUtf8-had at.rest.now at.text) split size

  apart : Apart text (closes ++ is.after)
  apart = text_apart is.comment is.after is.stands is.doc

  pub has_bare : has_bare_return (chars inside.rest.now) ≡ false → ⊥
  has_bare none = both_ways _ none (ap has_bare_return inside_is ∙ bare_more text (closes ++ is.after) apart is.bare)

  pub bad_return : (cr after : TextCursor) → IsFirstBare inside cr after
      → IsTrouble at (record { reason = BareReturnInDoc; at = cr; after = after })
  unfolding further past_front opening
  bad_return cr after first =
      let before = first.before.part in
      let in_text = within text (closes ++ is.after) before (chars after.rest.now) apart is.bare first.first
      (sym inside_is ∙ (first.before.whole ∙ ap (λ t. before ++ t) first.return)) in
      let past = further at inside cr past_front first.before in
      let all : chars at.rest.now ≡ (opening ++ before) ++ (13 ∷ chars after.rest.now) =
      past.whole ∙ ap (λ t. (opening ++ before) ++ t) first.return in
      record {
        front = opening ++ before;
        part = 13 ∷ [];
        before = past.whole;
        here = first.return;
        count = past.count;
        size = first.count;
        holds = record {
          comment = is.comment;
          after = is.after;
          whole = sym all ∙ is.whole;
          stands = (is.stands, is.doc);
          opening = opening;
          before = before;
          more = in_text.more;
          three = three;
          text = whole ∙ ap (λ t. opening ++ (t ++ closes)) in_text.whole;
          place = refl;
          return = refl;
          bare = false_from_ne_true _ (λ feed.
              both_ways _ (sym (ap (begins_with (codes "\n")) in_text.back) ∙ first.bare)
              (begins_more (codes "\n") in_text.more (closes ++ is.after) feed));
          first = first.first;
        };
      }

pub front_fits : (at : TextCursor) → IsDocAt at → IsCharBoundary at.rest.now 3
front_fits at is =
    let front = doc_front is.comment is.doc in
    seam_boundary at.rest.now front.front (drop 3 is.comment ++ is.after) 3 (IsUtf8-had at.rest.now at.text)
    (is.whole ∙ (ap (λ t. t ++ is.after) front.whole ∙ append_assoc front.front (drop 3 is.comment) is.after))
    front.bytes

-- ---- where no comment matches, a block comment begins

run_found : (passes : ℕ → Bool) (o : Answer) → and_find (find_run passes) o ≡ None → o ≡ None
run_found passes None e = refl
run_found passes (Some x) e = absurd (cc)

no_line : (text : List ℕ) → find comment text ≡ None → begins_with (codes "//") text ≡ false
unfolding find
no_line text none = lacks_text (codes "//") text (run_found _ (find (Exactly (codes "//")) text)
    (or_none _ _ none).0)

pub block_begins : (text : List ℕ) → begins_any comment_fronts text ≡ true → find comment text ≡ None
    → find (Exactly (codes "/*")) text ≡ None → ⊥
block_begins text begins none lacks =
    both_ways _ (or_from _ _ (no_line text none) (or_from _ _ (lacks_text (codes "/*") text lacks) refl)) begins
