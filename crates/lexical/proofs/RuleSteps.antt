-- Steps that follow one another: one lemma for each constructor of `Rule`.
use Rattle.std.proofs.Common.{◌≡◌, ℕ, ◌+◌, ◌≤◌, Bool, true, false, not, cond, List, [], ◌∷◌, ◌++◌, length, Option, Some}
use Rattle.std.proofs.Common.{None, refl, sym, ap, ◌∙◌, subst, arith, length-append}
use Rattle.std.specs.Str.{chars}
use Rattle.std.proofs.lemmas.Bool.{both_ways, cond-true, cond-false, cond_both, or_from}
use Rattle.lexical.specs.Text.{begins_with, begins_any, first_passes}
use Rattle.lexical.specs.Finder.{and_find, or_find, if_passes, find_one}
use Rattle.lexical.specs.Rule.{Rule, One, Run, Exactly, Then, Either, Else, NotAt, NotBefore, Where, Stands, find}
use Rattle.lexical.specs.Rule.{nothing, perhaps}
use Rattle.lexical.specs.RuleMatch.{Passes, Reads}
use Rattle.lexical.specs.declared.cursor.TextCursor.{TextCursor}
use Rattle.lexical.proofs.TextLemmas.{begins_splits, begins_front}
use Rattle.lexical.proofs.FinderLemmas.{found_is}
use Rattle.lexical.proofs.RuleLemmas.{Clear, exact, none_found}

-- ---- what is found, by constructor

pub find_then : (a b : Rule) (text : List ℕ) → find (Then a b) text ≡ and_find (find b) (find a text)
unfolding find
find_then a b text = refl

pub find_either : (a b : Rule) (text : List ℕ) → find (Either a b) text ≡ or_find (find a text) (find b text)
unfolding find
find_either a b text = refl

pub find_else : (a b : Rule) (text : List ℕ) → find (Else a b) text ≡ or_find (find a text) (find b text)
unfolding find
find_else a b text = refl

pub find_not_before : (passes : ℕ → Bool) (a : Rule) (text : List ℕ)
    → find (NotBefore passes a) text ≡ if_passes (λ p r. not (first_passes passes r)) (find a text)
unfolding find
find_not_before passes a text = refl

pub find_where : (test : List ℕ → Bool) (a : Rule) (text : List ℕ)
    → find (Where test a) text ≡ if_passes (λ p r. test p) (find a text)
unfolding find
find_where test a text = refl

pub find_nothing : (text : List ℕ) → find nothing text ≡ Some ([], text)
unfolding find
find_nothing text = refl

-- ---- what was passed

-- the text that was passed is a piece at the cursor
pub passes_piece : (rule : Rule) → Clear rule → (at to : TextCursor) (h : Passes rule at to)
    → (chars at.rest.now ≡ h.front ++ chars to.rest.now) × Stands rule h.front (chars to.rest.now)
passes_piece rule clear at to h = found_is _ _ (exact rule clear) _ h.front _ h.found

-- a run never leads backwards
pub run_goes_on : (plain : ℕ → Bool) (at to : TextCursor) → Passes (Run plain) at to
    → length (chars to.rest.now) ≤ length (chars at.rest.now)
run_goes_on plain at to h = omega
    (arith, length-append h.front (chars to.rest.now), ap length (passes_piece (Run plain) tt at to h).0)

pub passes_whole : (rule : Rule) → Clear rule → (at to : TextCursor) → Passes rule at to
    → (front : List ℕ) × (chars at.rest.now ≡ front ++ chars to.rest.now)
passes_whole rule clear at to h = (h.front, (passes_piece rule clear at to h).0)

-- ---- `One`

pub one_found : (passes : ℕ → Bool) (c : ℕ) (text rest : List ℕ) → text ≡ c ∷ rest → passes c ≡ true
    → find (One passes) text ≡ Some (c ∷ [], rest)
unfolding find
one_found passes c text rest split e = ap (find_one passes) split ∙ cond-true _ _ _ e

pub one_passes : (passes : ℕ → Bool) (c : ℕ) (at to : TextCursor) → chars at.rest.now ≡ c ∷ chars to.rest.now
    → to.chars_before ≡ at.chars_before + 1 → passes c ≡ true → Passes (One passes) at to
one_passes passes c at to split count e =
    record { front = c ∷ []; found = one_found passes c _ _ split e; count = count }

pub one_lacks : (passes : ℕ → Bool) (c : ℕ) (text rest : List ℕ) → text ≡ c ∷ rest → passes c ≡ false
    → find (One passes) text ≡ None
unfolding find
one_lacks passes c text rest split e = ap (find_one passes) split ∙ cond-false _ _ _ e

pub one_ends : (passes : ℕ → Bool) (text : List ℕ) → text ≡ [] → find (One passes) text ≡ None
unfolding find
one_ends passes text e = ap (find_one passes) e

-- ---- `Exactly`

pub text_found : (front text rest : List ℕ) → text ≡ front ++ rest → find (Exactly front) text ≡ Some (front, rest)
text_found front text rest e = ap (find (Exactly front)) e ∙ (exact (Exactly front) tt).complete front rest refl

pub text_passes : (front : List ℕ) (at to : TextCursor) → chars at.rest.now ≡ front ++ chars to.rest.now
    → to.chars_before ≡ at.chars_before + length front → Passes (Exactly front) at to
text_passes front at to whole count = record { front = front; found = text_found front _ _ whole; count = count }

pub text_lacks : (front text : List ℕ) → begins_with front text ≡ false → find (Exactly front) text ≡ None
text_lacks front text h =
    none_found (Exactly front) tt text (λ p r e is. both_ways _ h (rw (e, is) (begins_front front r)))

-- if a text is not found, the rest does not begin with it
pub lacks_text : (front text : List ℕ) → find (Exactly front) text ≡ None → begins_with front text ≡ false
lacks_text front text none = grind (arith, none, begins_splits front text, text_found front text)

pub past_text : (front : List ℕ) (at to : TextCursor) → Passes (Exactly front) at to
    → (chars at.rest.now ≡ front ++ chars to.rest.now) × (to.chars_before ≡ at.chars_before + length front)
past_text front at to h =
    let is = passes_piece (Exactly front) tt at to h in
    (rw is.1 at is.0, rw is.1 at h.count)

-- ---- `Then`

pub then_passes : (a b : Rule) (at mid to : TextCursor) → Passes a at mid → Passes b mid to → Passes (Then a b) at to
then_passes a b at mid to h j =
    let long = length-append h.front j.front in
    record { front = h.front ++ j.front; found = rw (find_then, h.found, j.found); count = omega arith }

pub then_reads : (a b : Rule) (at mid : TextCursor) (result : Option TextCursor) → Passes a at mid → Reads b mid result
    → Reads (Then a b) at result
then_reads a b at mid None h none = rw (find_then, h.found, none)
then_reads a b at mid (Some to) h j = then_passes a b at mid to h j

pub then_lacks : (a b : Rule) (text : List ℕ) → find a text ≡ None → find (Then a b) text ≡ None
then_lacks a b text none = rw (find_then, none)

-- ---- `Either`, `Else`

-- a step of a rule is a step of each rule that finds the same
pub passes_same : (a b : Rule) (at to : TextCursor) → find b (chars at.rest.now) ≡ find a (chars at.rest.now)
    → Passes a at to → Passes b at to
passes_same a b at to e h = record { front = h.front; found = e ∙ h.found; count = h.count }

pub reads_same : (a b : Rule) (at : TextCursor) (result : Option TextCursor)
    → find b (chars at.rest.now) ≡ find a (chars at.rest.now)
    → Reads a at result → Reads b at result
reads_same a b at None e h = e ∙ h
reads_same a b at (Some to) e h = passes_same a b at to e h

pub either_first : (a b : Rule) (at to : TextCursor) → Passes a at to → Passes (Either a b) at to
either_first a b at to h = record { front = h.front; found = rw (find_either, h.found); count = h.count }

pub either_reads : (a b : Rule) (at : TextCursor) (result : Option TextCursor) → find a (chars at.rest.now) ≡ None
    → Reads b at result → Reads (Either a b) at result
either_reads a b at result none h = reads_same b (Either a b) at result (rw (find_either, none)) h

pub else_first : (a b : Rule) (at to : TextCursor) → Passes a at to → Passes (Else a b) at to
else_first a b at to h = record { front = h.front; found = rw (find_else, h.found); count = h.count }

pub else_reads : (a b : Rule) (at : TextCursor) (result : Option TextCursor) → find a (chars at.rest.now) ≡ None
    → Reads b at result → Reads (Else a b) at result
else_reads a b at result none h = reads_same b (Else a b) at result (rw (find_else, none)) h

-- the cursor itself is returned, if the piece is optional and not there
pub perhaps_stays : (a : Rule) (at : TextCursor) → find a (chars at.rest.now) ≡ None → Passes (perhaps a) at at
perhaps_stays a at none = record { front = []; found = rw (find_else, none, find_nothing); count = omega arith }

-- ---- `NotAt`

pub not_at_passes : (fronts : List (List ℕ)) (a : Rule) (at to : TextCursor)
    → begins_any fronts (chars at.rest.now) ≡ false
    → Passes a at to
    → Passes (NotAt fronts a) at to
unfolding find
not_at_passes fronts a at to e h = record { front = h.front; found = cond-false _ _ _ e ∙ h.found; count = h.count }

pub not_at_stops : (fronts : List (List ℕ)) (a : Rule) (text : List ℕ) → begins_any fronts text ≡ true
    → find (NotAt fronts a) text ≡ None
unfolding find
not_at_stops fronts a text e = cond-true _ _ _ e

pub not_at_lacks : (fronts : List (List ℕ)) (a : Rule) (text : List ℕ) → find a text ≡ None
    → find (NotAt fronts a) text ≡ None
unfolding find
not_at_lacks fronts a text none =
    cond_both (begins_any fronts text) None (find a text) (λ o. o ≡ None) (λ e. refl) (λ e. none)

-- `NotAt` with one prefix
pub apart_passes : (front : List ℕ) (a : Rule) (at to : TextCursor) → begins_with front (chars at.rest.now) ≡ false
    → Passes a at to
    → Passes (NotAt (front ∷ []) a) at to
apart_passes front a at to e h = not_at_passes (front ∷ []) a at to (or_from _ _ e refl) h

-- ---- `NotBefore`

pub before_passes : (passes : ℕ → Bool) (a : Rule) (at to : TextCursor) → Passes a at to
    → first_passes passes (chars to.rest.now) ≡ false
    → Passes (NotBefore passes a) at to
before_passes passes a at to h e = record { front = h.front; found = rw (find_not_before, h.found, e); count = h.count }

pub before_lacks : (passes : ℕ → Bool) (a : Rule) (at to : TextCursor) → Passes a at to
    → first_passes passes (chars to.rest.now) ≡ true
    → find (NotBefore passes a) (chars at.rest.now) ≡ None
before_lacks passes a at to h e = rw (find_not_before, h.found, e)

-- ---- `Where`

-- whether the text is the one between the cursors
abbrev pub IsBetween : List ℕ → TextCursor → TextCursor → Type 0
IsBetween text at to = (front : List ℕ) → chars at.rest.now ≡ front ++ chars to.rest.now → text ≡ front

pub where_passes : (test : List ℕ → Bool) (a : Rule) → Clear a → (at to : TextCursor) (text : List ℕ) → Passes a at to
    → IsBetween text at to → test text ≡ true → Passes (Where test a) at to
where_passes test a clear at to text h same e =
    let is : text ≡ h.front = same h.front (passes_piece a clear at to h).0 in
    record { front = h.front; found = rw (find_where, h.found, ← is, e); count = h.count }

pub where_lacks : (test : List ℕ → Bool) (a : Rule) → Clear a → (at to : TextCursor) (text : List ℕ) → Passes a at to
    → IsBetween text at to → test text ≡ false → find (Where test a) (chars at.rest.now) ≡ None
where_lacks test a clear at to text h same e =
    rw (find_where, h.found, ← same h.front (passes_piece a clear at to h).0, e)

-- ---- all steps

pub ruleset steps = (
  find_then,
  find_either,
  find_else,
  find_not_before,
  find_where,
  find_nothing,
  length-append,
  one_passes,
  one_lacks,
  one_ends,
  then_passes,
  then_reads,
  then_lacks,
  either_first,
  either_reads,
  else_first,
  else_reads,
  perhaps_stays,
  apart_passes,
  not_at_passes,
  not_at_stops,
  not_at_lacks,
  before_passes,
  before_lacks,
)
