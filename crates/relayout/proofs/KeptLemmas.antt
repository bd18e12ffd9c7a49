-- The loop of `with_doc_comments`, which writes what it keeps in one go.
use Rattle.std.proofs.Common.{◌≡◌, ℕ, ◌<◌, ◌==◌, Bool, true, false, ◌&&◌, ◌||◌, List, [], ◌∷◌, ◌++◌, codes, refl}
use Rattle.std.proofs.Common.{sym, ap, ◌∙◌, subst, inl, append_assoc, append-nil, length, arith}
use Rattle.std.specs.Prelude.{cond, nat_lt, None, Some}
use Rattle.std.specs.List.{list_all}
use Rattle.std.specs.Str.{chars, IsUtf8}
use Rattle.std.proofs.Math.Bool.{or-false}
use Rattle.std.proofs.lemmas.Bool.{and_parts, both_ways}
use Rattle.lexical.specs.Class.{is_white}
use Rattle.lexical.specs.Cover.{onto}
use Rattle.lexical.specs.Finder.{Answer, while_rest}
use Rattle.lexical.specs.Rule.{Run, find}
use Rattle.lexical.specs.Text.{begins_with}
use Rattle.lexical.specs.WhiteRun.{IsPastWhite, ascii_white}
use Rattle.relayout.specs.Commented.{Part, White, Attribute, CanHold, attribute_front, doc_comment, is_free, new_part}
use Rattle.relayout.specs.Comments.{BecomesComment, HasNoAttribute, IsAttribute, IsCommented, IsFirstPart}
use Rattle.relayout.specs.Written.{ends_line}
use Rattle.relayout.proofs.AttributeLemmas.{no_front}
use Rattle.relayout.proofs.PartLemmas.{Makes, attribute_part, attribute_written, makes_all, makes_part, makes_start}
use Rattle.relayout.proofs.RelaidLemmas.{no_chars, some_chars}

-- ---- what is read and not yet written

-- what is written, together with the part of `kept` before `rest`, is the text for all that is read
pub record Keeps (any : Bool) (source : List ℕ) (first free : Bool) (kept rest out : List ℕ) : Type 0 where
  pub front : List ℕ
  pub split : kept ≡ front ++ rest
  pub makes : Makes any source first free rest (out ++ front)

pub keeps_start : (any : Bool) (source out : List ℕ) → out ≡ [] → Keeps any source true true source source out
keeps_start any source out none = record {
  front = [];
  split = refl;
  makes = makes_start any source (out ++ []) (append-nil out ∙ none);
}

pub keeps_part : (any : Bool) (source kept text rest out : List ℕ) (first free now : Bool) (part : Part)
    → IsFirstPart any first free text part rest → now ≡ is_free free part → text ≡ onto (new_part part) [] ++ rest
    → Keeps any source first free kept text out → Keeps any source false now kept rest out
keeps_part any source kept text rest out first free now part is after split so = record {
  front = so.front ++ onto (new_part part) [];
  split =
      so.split ∙ (ap (λ t. so.front ++ t) split ∙ sym (append_assoc so.front (onto (new_part part) []) rest));
  makes = makes_part any source first free now text rest (out ++ so.front)
      (out ++ (so.front ++ onto (new_part part) []))
      part is after (sym (append_assoc out so.front (onto (new_part part) []))) so.makes;
}

-- once all is read, writing what is kept gives the whole text
pub keeps_all : (any : Bool) (source kept rest out new : List ℕ) (first free : Bool) → rest ≡ [] → new ≡ out ++ kept
    → Keeps any source first free kept rest out → IsCommented any source new
keeps_all any source kept rest out new first free none push so =
    makes_all any source first free rest new none
    (subst (Makes any source first free rest)
    (ap (λ t. out ++ t) (sym (so.split ∙ (ap (λ t. so.front ++ t) none ∙ append-nil so.front))) ∙ sym push) so.makes)

-- ---- white space

feed_is : (c : ℕ) → begins_with (codes "\n") (c ∷ []) ≡ (c == 10)
feed_is c = grind arith

white_part : (any first free : Bool) (c : ℕ) (rest : List ℕ) → ascii_white c ≡ true
    → IsFirstPart any first free (c ∷ rest) (White c) rest
white_part any first free c rest white =
    let is = (and_parts (nat_lt c 128) (is_white c) white).1 in
    record { whole = refl; stand = (inl (c, refl, is), tt); may = is; stays = λ _. tt }

keeps_run : (any : Bool) (source kept front rest out : List ℕ) (first free : Bool) (c : ℕ)
    → list_all ascii_white (c ∷ front) ≡ true → Keeps any source first free kept ((c ∷ front) ++ rest) out
    → Keeps any source false (free || ends_line (c ∷ front)) kept rest out
keeps_run any source kept [] rest out first free c all so =
    keeps_part any source kept (c ∷ rest) rest out first free (free || ends_line (c ∷ [])) (White c)
    (white_part any first free c rest (and_parts (ascii_white c) true all).0)
    (ap (λ b. free || b) (or-false (c == 10) ∙ sym (feed_is c))) refl so
keeps_run any source kept (d ∷ front) rest out first free c all so =
    let both = and_parts (ascii_white c) (list_all ascii_white (d ∷ front)) all in
    subst (λ b. Keeps any source false b kept rest out) (or_assoc free (c == 10) (ends_line (d ∷ front)))
    (keeps_run any source kept front rest out false (free || (c == 10)) d both.1
    (keeps_part any source kept (c ∷ ((d ∷ front) ++ rest)) ((d ∷ front) ++ rest) out first free (free || (c == 10))
    (White c) (white_part any first free c ((d ∷ front) ++ rest) both.0) (ap (λ b. free || b) (sym (feed_is c))) refl
    so))
  where
    or_assoc : (a b c : Bool) → ((a || b) || c) ≡ (a || (b || c))
    or_assoc true b c = refl
    or_assoc false b c = refl

pub keeps_white : (any : Bool) (source kept text rest out : List ℕ) (first free now : Bool) (count : ℕ)
    → (white : IsPastWhite text rest count) → 0 < count
    → ((front : List ℕ) → text ≡ front ++ rest → now ≡ (free || ends_line front))
    → Keeps any source first free kept text out → Keeps any source false now kept rest out
keeps_white any source kept text rest out first free now count white some after so =
    subst (λ b. Keeps any source false b kept rest out) (sym (after white.front white.whole))
    (by_front white.front white.whole white.stands.each (subst (λ n. 0 < n) white.chars some))
  where
    by_front : (front : List ℕ) → text ≡ front ++ rest → list_all ascii_white front ≡ true → 0 < length front
        → Keeps any source false (free || ends_line front) kept rest out
    by_front [] whole all few = absurd (omega (arith, few))
    by_front (c ∷ front) whole all few =
        keeps_run any source kept front rest out first free c all
        (subst (λ t. Keeps any source first free kept t out) whole so)

-- ---- an attribute

-- a text that begins with another character than `#` begins with no attribute
hash_first : (c : ℕ) (front whole : List ℕ) → begins_with (codes "#") (c ∷ whole) ≡ false
    → begins_with (35 ∷ front) (c ∷ whole) ≡ false
hash_first c front whole none = by_first (35 == c) none
  where
    by_first : (b : Bool) → (b && true) ≡ false → (b && begins_with front whole) ≡ false
    by_first true none = absurd (both_ways true none refl)
    by_first false none = refl

pub no_hash : (any : Bool) (whole : List ℕ) → begins_with (codes "#") whole ≡ false → HasNoAttribute any whole
no_hash any whole none = no_front any whole (λ inner. by_front inner whole none)
  where
    by_front : (inner : Bool) (whole : List ℕ) → begins_with (codes "#") whole ≡ false
        → begins_with (attribute_front inner) whole ≡ false
    by_front true [] none = refl
    by_front false [] none = refl
    by_front true (c ∷ whole) none = hash_first c (codes " ![doc = ") whole none
    by_front false (c ∷ whole) none = hash_first c (codes "[doc = ") whole none

pub becomes : (any : Bool) (kept whole literal doc_body rest out before front end a b c new : List ℕ) (inner : Bool)
    → IsAttribute any whole inner literal doc_body rest → CanHold any inner doc_body
    → ((front : List ℕ) → kept ≡ front ++ whole → before ≡ front)
    → front ++ (doc_body ++ end) ≡ doc_comment inner doc_body ++ (10 ∷ [])
    → a ≡ out ++ before → b ≡ a ++ front → c ≡ b ++ doc_body → new ≡ c ++ end
    → BecomesComment any kept whole rest out new
becomes any kept whole literal doc_body rest out before front end a b c new inner attribute can stands form keep second
    third last = record {
      inner = inner;
      literal = literal;
      text = doc_body;
      attribute = attribute;
      may = can;
      writes = λ skipped split.
          attribute_written a front doc_body end (doc_comment inner doc_body) b c new second third last form
          ∙ (ap (λ x. x ++ (doc_comment inner doc_body ++ (10 ∷ []))) (keep ∙ ap (λ x. out ++ x) (stands skipped split))
          ∙ append_assoc out skipped (doc_comment inner doc_body ++ (10 ∷ [])));
    }

-- an attribute that a comment replaces is the next part, and nothing is kept after it
pub keeps_comment : (any : Bool) (source kept text rest out new : List ℕ) (first free : Bool) → free ≡ true
    → BecomesComment any kept text rest out new → Keeps any source first free kept text out
    → Keeps any source false free rest rest new
keeps_comment any source kept text rest out new first free begins is so =
    let part = Attribute is.inner is.literal is.text in
    record {
      front = [];
      split = refl;
      makes = subst (Makes any source false free rest) (sym (append-nil new))
          (makes_part any source first free free text rest (out ++ so.front) new part
          (attribute_part any first free is.inner text is.literal is.text rest begins is.attribute is.may) begins
          (is.writes so.front so.split ∙ sym (append_assoc out so.front (onto (new_part part) [])))
          so.makes);
    }

-- ---- a line

-- if a search leaves no text, all characters pass
none_left : (passes : ℕ → Bool) (text : List ℕ) → while_rest passes text ≡ [] → list_all passes text ≡ true
none_left passes [] e = refl
none_left passes (c ∷ text) e = by_first (passes c) (none_left passes text) e
  where
    by_first : (b : Bool) → (while_rest passes text ≡ [] → list_all passes text ≡ true)
        → cond b (while_rest passes text) (c ∷ text) ≡ [] → (b && list_all passes text) ≡ true
    by_first true more e = more e
    by_first false more e = let clash : ◌≡◌ {A = List ℕ} (c ∷ text) [] = e in absurd (cc)

some_left : (passes : ℕ → Bool) (text : List ℕ) (d : ℕ) (left : List ℕ) → while_rest passes text ≡ d ∷ left
    → list_all passes text ≡ false
some_left passes [] d left e = let clash : ◌≡◌ {A = List ℕ} [] (d ∷ left) = e in absurd (cc)
some_left passes (c ∷ text) d left e = by_first (passes c) (some_left passes text d left) e
  where
    by_first : (b : Bool) → (while_rest passes text ≡ d ∷ left → list_all passes text ≡ false)
        → cond b (while_rest passes text) (c ∷ text) ≡ d ∷ left → (b && list_all passes text) ≡ false
    by_first true more e = more e
    by_first false more e = refl

-- the text that the search for LF or CR leaves
abbrev left_of : Answer → List ℕ
left_of None = []
left_of (Some x) = x.1

line_left : (passes : ℕ → Bool) (text front rest : List ℕ) → find (Run passes) text ≡ Some (front, rest)
    → while_rest passes text ≡ rest
unfolding find
line_left passes text front rest found = ap left_of found

pub line_ends : (passes : ℕ → Bool) (text front rest : List ℕ) → IsUtf8 rest
    → find (Run passes) text ≡ Some (front, chars rest) → (length rest == 0) ≡ list_all passes text
line_ends passes text front rest utf8 found = by_length (length rest == 0) refl
  where
    by_length : (b : Bool) → (length rest == 0) ≡ b → b ≡ list_all passes text
    by_length true none =
        sym (none_left passes text (line_left passes text front (chars rest) found ∙ no_chars rest none))
    by_length false none =
        let some = some_chars rest utf8 none in
        sym (some_left passes text some.0 some.1 (line_left passes text front (chars rest) found ∙ some.2))
