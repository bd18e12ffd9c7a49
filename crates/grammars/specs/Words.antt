-- What each constructor of `Grammar` finds. These equations prove a reader that has a function for each rule.
use Rattle.std.specs.Prelude.{◌≡◌, Bool, true, false, List, [], ◌∷◌}
use Rattle.grammars.specs.Grammar.{Grammar, Nothing, Sign, To, Mark, Then, Either, Many, Listed, One, Marked, further}
use Rattle.grammars.specs.Machine.{is_nullable, marks_of_nothing}
use Rattle.grammars.specs.First.{heads}
use Rattle.grammars.specs.Find.{Past, Stuck, front, and_then, find}

module _ (C N L : Type 0) where
  -- a grammar that does not begin with the first sign is an error there, if it must derive a sign
  abbrev pub LacksFinds : Type 0
  LacksFinds = (rules : N → Grammar C N L) (g : Grammar C N L) (signs : List C) → heads g signs ≡ false
      → is_nullable g ≡ false
      → find rules g signs ≡ Stuck signs

  -- a grammar that does not begin with the first sign finds only its marks, if it need not derive a sign
  abbrev pub SkipsFinds : Type 0
  SkipsFinds = (rules : N → Grammar C N L) (g : Grammar C N L) (signs : List C) → heads g signs ≡ false
      → is_nullable g ≡ true
      → find rules g signs ≡ Past (marks_of_nothing g) signs

  -- `Nothing` finds nothing, and leaves all signs
  abbrev pub NothingFinds : Type 0
  NothingFinds = (rules : N → Grammar C N L) (signs : List C) → find rules Nothing signs ≡ Past [] signs

  -- a mark is found before any signs
  abbrev pub MarkFinds : Type 0
  MarkFinds = (rules : N → Grammar C N L) (l : L) (signs : List C)
      → find rules (Mark l) signs ≡ Past (Marked l ∷ []) signs

  -- a sign that passes the test is found
  abbrev pub SignFinds : Type 0
  SignFinds = (rules : N → Grammar C N L) (passes : C → Bool) (c : C) (signs : List C) → passes c ≡ true
      → find rules (Sign passes) (c ∷ signs) ≡ Past (One c ∷ []) signs

  -- after a sign that passes the test, the rule is found
  abbrev pub ToFinds : Type 0
  ToFinds = (rules : N → Grammar C N L) (passes : C → Bool) (n : N) (c : C) (signs : List C) → passes c ≡ true
      → find rules (To passes n) (c ∷ signs) ≡ front (One c ∷ []) (find rules (rules n) signs)

  -- of two grammars in a row, the second is found after the first
  abbrev pub ThenFinds : Type 0
  ThenFinds = (rules : N → Grammar C N L) (a b : Grammar C N L) (signs : List C)
      → find rules (Then a b) signs ≡ and_then (find rules a signs) (find rules b)

  -- of two choices, the first is found if it begins with the first sign
  abbrev pub FirstFinds : Type 0
  FirstFinds = (rules : N → Grammar C N L) (a b : Grammar C N L) (signs : List C) → heads a signs ≡ true
      → find rules (Either a b) signs ≡ find rules a signs

  -- of two choices, the second is found if it begins with the first sign and the first choice does not
  abbrev pub SecondFinds : Type 0
  SecondFinds = (rules : N → Grammar C N L) (a b : Grammar C N L) (signs : List C) → heads a signs ≡ false
      → heads b signs ≡ true
      → find rules (Either a b) signs ≡ find rules b signs

  -- of two choices, the second is found if the first does not begin with the first sign and must derive a sign
  abbrev pub OtherFinds : Type 0
  OtherFinds = (rules : N → Grammar C N L) (a b : Grammar C N L) (signs : List C) → heads a signs ≡ false
      → is_nullable a ≡ false
      → find rules (Either a b) signs ≡ find rules b signs

  -- one more repetition is found if it begins with the first sign, and then any number of them
  abbrev pub MoreFinds : Type 0
  MoreFinds = (rules : N → Grammar C N L) (a : Grammar C N L) (signs : List C) → heads a signs ≡ true
      → find rules (Many a) signs ≡ and_then (find rules a signs) (find rules (Many a))

  -- an element of a list is found if it begins with the first sign, and then what may follow it
  abbrev pub ElementFinds : Type 0
  ElementFinds = (rules : N → Grammar C N L) (a s : Grammar C N L) (signs : List C) → heads a signs ≡ true
      → find rules (Listed a s) signs ≡ and_then (find rules a signs) (find rules (further a s))
