-- Steps over the units of a string.
use Rattle.std.proofs.Common.{◌≡◌, ℕ, ◌<◌, Bool, true, List, [], ◌∷◌, ◌++◌, length, Option, Some, None, refl, sym, ap}
use Rattle.std.proofs.Common.{◌∙◌, subst, arith, length-append}
use Rattle.std.specs.Borrow.{Bor}
use Rattle.std.specs.Str.{chars}
use Rattle.std.specs.List.{list_all}
use Rattle.std.proofs.lemmas.Bool.{and_parts}
use Rattle.lexical.specs.Finder.{Answer, and_find, and_next, prepend, find_many}
use Rattle.lexical.specs.Rule.{Rule, Run, Exactly, Then, Next, UpTo, Stands, find}
use Rattle.lexical.specs.Quoted.{is_plain, unit as unit_of}
use Rattle.lexical.specs.declared.quoted.StringKind.{StringKind}
use Rattle.lexical.specs.RawString.{may_stand_raw, is_raw_plain, raw_unit}
use Rattle.lexical.specs.RuleMatch.{Leads, Passes, PassesText, Reads}
use Rattle.lexical.specs.declared.cursor.TextCursor.{TextCursor}
use Rattle.lexical.proofs.BlockLemmas.{prepend_nothing, prepend_prepend}
use Rattle.lexical.proofs.FinderLemmas.{found_is}
use Rattle.lexical.proofs.WordLemmas.{many_found, many_ends}
use Rattle.lexical.proofs.RuleLemmas.{some_holds, Clear, exact}
use Rattle.lexical.proofs.HashLemmas.{raw_one}
use Rattle.lexical.proofs.RuleSteps.{find_then, passes_piece}

pub leads_passes : (rule rest : Rule) (at mid to : TextCursor) → Leads rule at rest mid → Passes rest mid to
    → Passes rule at to
leads_passes rule rest at mid to h j =
    let long = length-append h.front j.front in
    record { front = h.front ++ j.front; found = rw (h.found, j.found); count = omega arith }

pub leads_fails : (rule rest : Rule) (at mid : TextCursor) (result : Option TextCursor) → result ≡ None
    → Leads rule at rest mid
    → find rest (chars mid.rest.now) ≡ None → Reads rule at result
leads_fails rule rest at mid result e h none = subst (Reads rule at) (sym e) (h.found ∙ ap (prepend h.front) none)

pub leads_far : (rule rest more : Rule) (at mid to : TextCursor) → Leads rule at rest mid → Leads rest mid more to
    → Leads rule at more to
leads_far rule rest more at mid to h j =
    let long = length-append h.front j.front in
    record { front = h.front ++ j.front; found = rw (h.found, j.found, prepend_prepend); count = omega arith }

-- a step past a piece that precedes what ends the units
pub leads_past : (rule : Rule) → Clear rule → (a b : Rule) (at to : TextCursor) → Passes rule at to
    → ((p r : List ℕ) → Stands rule p r → find a (p ++ r) ≡ prepend p (find b r)) → Leads a at b to
leads_past rule clear a b at to h step =
    let is = passes_piece rule clear at to h in
    record { front = h.front; found = ap (find a) is.0 ∙ step h.front (chars to.rest.now) is.1; count = h.count }

-- a step past a piece of the first rule
pub leads_then : (a b : Rule) (at mid : TextCursor) → Passes a at mid → Leads (Then a b) at b mid
leads_then a b at mid h = record { front = h.front; found = rw (find_then, h.found); count = h.count }

pub leads_on : (rule a b : Rule) (at mid to : TextCursor) → Leads rule at (Then a b) mid → Passes a mid to
    → Leads rule at b to
leads_on rule a b at mid to h j = leads_far rule (Then a b) b at mid to h (leads_then a b mid to j)

-- a step past a piece on which the second rule depends
pub leads_next : (rule a : Rule) (b : List ℕ → Rule) (at mid : TextCursor) (x : Bor (List ℕ) × TextCursor)
    → Leads rule at (Next a b) mid
    → PassesText a mid x → Leads rule at (b x.0.now) x.1
unfolding find
leads_next rule a b at mid x h j =
    leads_far rule (Next a b) (b x.0.now) at mid x.1 h
    (record { front = x.0.now; found = ap (and_next (λ front. find (b front))) j.found; count = j.count })

pub next_lacks : (a : Rule) (b : List ℕ → Rule) (text : List ℕ) → find a text ≡ None → find (Next a b) text ≡ None
unfolding find
next_lacks a b text none = ap (and_next (λ front. find (b front))) none

-- a text is its first character and then the others
pub found_cons : (c : ℕ) (front text : List ℕ)
    → find (Exactly (c ∷ front)) text ≡ find (Then (Exactly (c ∷ [])) (Exactly front)) text
unfolding find
found_cons c front [] = refl
found_cons c front (d ∷ text) = grind arith

-- a step past one unit
and_prepend : (f : List ℕ → Answer) (front : List ℕ) (o : Answer)
    → and_find f (prepend front o) ≡ prepend front (and_find f o)
and_prepend f front None = refl
and_prepend f front (Some x) = sym (prepend_prepend front x.0 (f x.1))

module _ (unit after : Rule) (clear : Clear (UpTo unit after)) where
  one_more : (p r : List ℕ) → Stands unit p r → find (UpTo unit after) (p ++ r) ≡ prepend p (find (UpTo unit after) r)
  unfolding find
  one_more p r is =
      let one = (exact unit clear.0).complete p r is in
      ap (and_find (find after)) (many_found _ _ (exact unit clear.0) (some_holds unit clear.2) (p ++ r) p r one)
      ∙ and_prepend (find after) p (find_many (find unit) r)

  pub leads_unit : (rule : Rule) (at mid to : TextCursor) → Leads rule at (UpTo unit after) mid → Passes unit mid to
      → Leads rule at (UpTo unit after) to
  leads_unit rule at mid to h j =
      leads_far rule _ _ at mid to h (leads_past unit clear.0 (UpTo unit after) (UpTo unit after) mid to j one_more)

  -- a step after the last unit
  pub leads_last : (rule : Rule) (at mid : TextCursor) → Leads rule at (UpTo unit after) mid
      → find unit (chars mid.rest.now) ≡ None → Leads rule at after mid
  unfolding find
  leads_last rule at mid h none =
      let ended = many_ends _ _ (exact unit clear.0) (some_holds unit clear.2) (chars mid.rest.now) none in
      leads_far rule (UpTo unit after) after at mid mid h
      (record { front = []; found = ap (and_find (find after)) ended; count = omega arith })

  -- a unit is not empty
  pub unit_shortens : (at to : TextCursor) → Passes unit at to → length (chars to.rest.now) < length (chars at.rest.now)
  unit_shortens at to h =
      let is = passes_piece unit clear.0 at to h in
      let long = some_holds unit clear.2 h.front (chars to.rest.now) is.1 in
      omega (arith, length-append h.front (chars to.rest.now), ap length is.0)

  -- a step past characters of which each is a unit
  module _ (plain : ℕ → Bool) (alone : (c : ℕ) (text : List ℕ) → plain c ≡ true
      → find unit (c ∷ text) ≡ Some (c ∷ [], text)) where
    units_over : (front rest : List ℕ) → list_all plain front ≡ true
        → find (UpTo unit after) (front ++ rest) ≡ prepend front (find (UpTo unit after) rest)
    units_over [] rest all = sym (prepend_nothing _)
    units_over (c ∷ front) rest all =
        let parts = and_parts _ _ all in
        let one = found_is _ _ (exact unit clear.0) _ (c ∷ []) (front ++ rest) (alone c (front ++ rest) parts.0) in
        rw (one_more (c ∷ []) (front ++ rest) one.1, units_over front rest parts.1, prepend_prepend)

    pub leads_run : (rule : Rule) (at mid to : TextCursor) → Leads rule at (UpTo unit after) mid
        → Passes (Run plain) mid to
        → Leads rule at (UpTo unit after) to
    leads_run rule at mid to h run = leads_far rule (UpTo unit after) (UpTo unit after) at mid to h
        (leads_past (Run plain) tt (UpTo unit after) (UpTo unit after) mid to run (λ p r is. units_over p r is.each))

-- a character that needs no escape is a unit of a string
pub plain_unit : (kind : StringKind) (c : ℕ) (text : List ℕ) → is_plain kind c ≡ true
    → find (unit_of kind) (c ∷ text) ≡ Some (c ∷ [], text)
unfolding find
plain_unit kind c text e = rw e

-- a character that ends nothing is a unit of a raw string
pub raw_plain_unit : (kind : StringKind) (hashes : List ℕ) (c : ℕ) (text : List ℕ) → is_raw_plain kind c ≡ true
    → find (raw_unit (may_stand_raw kind) (34 ∷ hashes)) (c ∷ text) ≡ Some (c ∷ [], text)
raw_plain_unit kind hashes c text e = grind (arith, e, raw_one (may_stand_raw kind) hashes (c ∷ text) text c refl)
