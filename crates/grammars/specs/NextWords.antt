-- Where the machine stops for each constructor of `Grammar`, and what can come next there. These equations prove a
-- function that explores a rule by cases on its constructor.
use Rattle.std.specs.Prelude.{◌≡◌, ◌<◌, ◌||◌, Bool, true, false, List, [], ◌∷◌, length}
use Rattle.grammars.specs.Grammar.{Grammar, Nothing, Sign, To, Mark, Then, Either, Many, Listed}
use Rattle.grammars.specs.Machine.{is_nullable}
use Rattle.grammars.specs.First.{may_begin}
use Rattle.grammars.specs.Next.{IsNext, Sees}

module _ (C N L : Type 0) where
  -- what is seen is the first set of what is left to read, after as many signs as can be read
  abbrev pub SeesIsNext : Type 0
  SeesIsNext = (rules : N → Grammar C N L) (k : List (Grammar C N L)) (signs left : List C) (next : C → Bool)
      (end : Bool)
      → Sees rules k signs left next end
      → IsNext rules k signs left next end

  -- and what can come next after as many signs as can be read is seen
  abbrev pub NextIsSeen : Type 0
  NextIsSeen = (rules : N → Grammar C N L) (k : List (Grammar C N L)) (signs left : List C) (next : C → Bool)
      (end : Bool)
      → IsNext rules k signs left next end
      → Sees rules k signs left next end

  -- ---- one sign

  -- a grammar that does not begin with the first sign stays there
  abbrev pub LacksSees : Type 0
  LacksSees = (rules : N → Grammar C N L) (g : Grammar C N L) (c : C) (signs : List C) → may_begin g c ≡ false
      → Sees rules (g ∷ []) (c ∷ signs) (c ∷ signs) (may_begin g) (is_nullable g)

  -- without signs a grammar stays
  abbrev pub EndSees : Type 0
  EndSees = (rules : N → Grammar C N L) (g : Grammar C N L) → Sees rules (g ∷ []) [] [] (may_begin g) (is_nullable g)

  -- `Nothing` and a mark read no sign, and need none
  abbrev pub NothingSees : Type 0
  NothingSees = (rules : N → Grammar C N L) (signs : List C)
      → Sees rules (Nothing ∷ []) signs signs (λ c. false) true

  abbrev pub MarkSees : Type 0
  MarkSees = (rules : N → Grammar C N L) (l : L) (signs : List C)
      → Sees rules (Mark l ∷ []) signs signs (λ c. false) true

  -- after a sign that passes the test, nothing is left to read
  abbrev pub SignSees : Type 0
  SignSees = (rules : N → Grammar C N L) (passes : C → Bool) (c : C) (signs : List C) → passes c ≡ true
      → Sees rules (Sign passes ∷ []) (c ∷ signs) signs (λ d. false) true

  -- after a sign that passes the test, the rule reads
  abbrev pub ToSees : Type 0
  ToSees = (rules : N → Grammar C N L) (passes : C → Bool) (n : N) (c : C) (signs left : List C) (next : C → Bool)
      (end : Bool)
      → passes c ≡ true → Sees rules (rules n ∷ []) signs left next end
      → Sees rules (To passes n ∷ []) (c ∷ signs) left next end

  -- ---- two grammars in a row

  -- nothing of the second is read if the first may not end where it stops
  abbrev pub ThenStuck : Type 0
  ThenStuck = (rules : N → Grammar C N L) (a b : Grammar C N L) (signs mid : List C) (first : C → Bool)
      → Sees rules (a ∷ []) signs mid first false
      → Sees rules (Then a b ∷ []) signs mid first false

  -- if the second reads a sign, it decides
  abbrev pub ThenMoves : Type 0
  ThenMoves = (rules : N → Grammar C N L) (a b : Grammar C N L) (signs mid left : List C) (first next : C → Bool)
      (end : Bool)
      → Sees rules (a ∷ []) signs mid first true → Sees rules (b ∷ []) mid left next end → length left < length mid
      → Sees rules (Then a b ∷ []) signs left next end

  -- if it reads none, both decide
  abbrev pub ThenStays : Type 0
  ThenStays = (rules : N → Grammar C N L) (a b : Grammar C N L) (signs mid : List C) (first next : C → Bool)
      (end : Bool)
      → Sees rules (a ∷ []) signs mid first true → Sees rules (b ∷ []) mid mid next end
      → Sees rules (Then a b ∷ []) signs mid (λ c. first c || next c) end

  -- ---- two choices

  -- the first that reads a sign decides
  abbrev pub FirstSees : Type 0
  FirstSees = (rules : N → Grammar C N L) (a b : Grammar C N L) (signs left : List C) (next : C → Bool) (end : Bool)
      → Sees rules (a ∷ []) signs left next end → length left < length signs
      → Sees rules (Either a b ∷ []) signs left next end

  abbrev pub SecondSees : Type 0
  SecondSees = (rules : N → Grammar C N L) (a b : Grammar C N L) (signs left : List C) (first next : C → Bool)
      (e end : Bool)
      → Sees rules (a ∷ []) signs signs first e → Sees rules (b ∷ []) signs left next end → length left < length signs
      → Sees rules (Either a b ∷ []) signs left next end

  -- if neither reads a sign, both decide
  abbrev pub NeitherSees : Type 0
  NeitherSees = (rules : N → Grammar C N L) (a b : Grammar C N L) (signs : List C) (first next : C → Bool)
      (e end : Bool)
      → Sees rules (a ∷ []) signs signs first e → Sees rules (b ∷ []) signs signs next end
      → Sees rules (Either a b ∷ []) signs signs (λ c. first c || next c) (e || end)

  -- ---- repetitions

  -- no more repetitions
  abbrev pub ManyStays : Type 0
  ManyStays = (rules : N → Grammar C N L) (a : Grammar C N L) (signs : List C) (next : C → Bool) (end : Bool)
      → Sees rules (a ∷ []) signs signs next end
      → Sees rules (Many a ∷ []) signs signs next true

  -- one more, which may not end where it stops
  abbrev pub ManyStuck : Type 0
  ManyStuck = (rules : N → Grammar C N L) (a : Grammar C N L) (signs mid : List C) (next : C → Bool)
      → Sees rules (a ∷ []) signs mid next false → length mid < length signs
      → Sees rules (Many a ∷ []) signs mid next false

  -- one more, and others that read a sign
  abbrev pub ManyMoves : Type 0
  ManyMoves = (rules : N → Grammar C N L) (a : Grammar C N L) (signs mid left : List C) (first next : C → Bool)
      (end : Bool)
      → Sees rules (a ∷ []) signs mid first true → length mid < length signs
      → Sees rules (Many a ∷ []) mid left next end → length left < length mid
      → Sees rules (Many a ∷ []) signs left next end

  -- one more, and no others
  abbrev pub ManyLast : Type 0
  ManyLast = (rules : N → Grammar C N L) (a : Grammar C N L) (signs mid : List C) (first next : C → Bool) (end : Bool)
      → Sees rules (a ∷ []) signs mid first true → length mid < length signs
      → Sees rules (Many a ∷ []) mid mid next end
      → Sees rules (Many a ∷ []) signs mid (λ c. first c || next c) end

  -- ---- lists

  -- no element
  abbrev pub ListStays : Type 0
  ListStays = (rules : N → Grammar C N L) (a s : Grammar C N L) (signs : List C) (next : C → Bool) (end : Bool)
      → Sees rules (a ∷ []) signs signs next end
      → Sees rules (Listed a s ∷ []) signs signs next true

  -- an element, which may not end where it stops
  abbrev pub ListStuck : Type 0
  ListStuck = (rules : N → Grammar C N L) (a s : Grammar C N L) (signs mid : List C) (next : C → Bool)
      → Sees rules (a ∷ []) signs mid next false → length mid < length signs
      → Sees rules (Listed a s ∷ []) signs mid next false

  -- an element, and no separator
  abbrev pub ListEnds : Type 0
  ListEnds = (rules : N → Grammar C N L) (a s : Grammar C N L) → is_nullable s ≡ false → (signs mid : List C)
      (first next : C → Bool) (end : Bool)
      → Sees rules (a ∷ []) signs mid first true → length mid < length signs → Sees rules (s ∷ []) mid mid next end
      → Sees rules (Listed a s ∷ []) signs mid (λ c. first c || next c) true

  -- an element, and a separator that may not end where it stops
  abbrev pub ListWaits : Type 0
  ListWaits = (rules : N → Grammar C N L) (a s : Grammar C N L) → is_nullable s ≡ false → (signs mid left : List C)
      (first next : C → Bool)
      → Sees rules (a ∷ []) signs mid first true → length mid < length signs
      → Sees rules (s ∷ []) mid left next false → length left < length mid
      → Sees rules (Listed a s ∷ []) signs left next false

  -- an element, a separator, and a list that reads a sign
  abbrev pub ListMoves : Type 0
  ListMoves = (rules : N → Grammar C N L) (a s : Grammar C N L) → is_nullable s ≡ false
      → (signs mid after left : List C) (first sep next : C → Bool) (end : Bool)
      → Sees rules (a ∷ []) signs mid first true → length mid < length signs
      → Sees rules (s ∷ []) mid after sep true → length after < length mid
      → Sees rules (Listed a s ∷ []) after left next end → length left < length after
      → Sees rules (Listed a s ∷ []) signs left next end

  -- an element, a separator, and a list that reads no sign
  abbrev pub ListLast : Type 0
  ListLast = (rules : N → Grammar C N L) (a s : Grammar C N L) → is_nullable s ≡ false → (signs mid after : List C)
      (first sep next : C → Bool) (end : Bool)
      → Sees rules (a ∷ []) signs mid first true → length mid < length signs
      → Sees rules (s ∷ []) mid after sep true → length after < length mid
      → Sees rules (Listed a s ∷ []) after after next end
      → Sees rules (Listed a s ∷ []) signs after (λ c. sep c || next c) end
