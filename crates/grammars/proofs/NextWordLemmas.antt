-- The laws of `specs/NextWords.antt`.
use Rattle.std.proofs.Common.{refl, ap, ◌<◌, ◌&&◌, ◌||◌, Bool, true, false, List, [], ◌∷◌, length, arith}
use Rattle.grammars.specs.Machine.{is_nullable}
use Rattle.grammars.specs.Grammar.{Grammar, Many, Listed, further}
use Rattle.grammars.specs.Next.{Sees, stop}
use Rattle.grammars.specs.NextWords as laws
use Rattle.grammars.proofs.StopLemmas as stops

module _ (C N L : Type 0) where
  pub is_next : laws.SeesIsNext C N L
  is_next rules k signs left next end s = stops.sees_next rules k signs left next end s

  pub is_seen : laws.NextIsSeen C N L
  is_seen rules k signs left next end n = stops.next_sees rules k signs left next end n

  pub lacks : laws.LacksSees C N L
  lacks rules g c signs h = stops.sees_lacks rules g c signs h

  pub at_end : laws.EndSees C N L
  at_end rules g = stops.sees_end rules g

  pub nothing : laws.NothingSees C N L
  nothing rules signs = stops.sees_nothing rules signs

  pub mark : laws.MarkSees C N L
  mark rules l signs = stops.sees_mark rules l signs

  pub sign : laws.SignSees C N L
  sign rules passes c signs h = stops.sees_sign rules passes c signs h

  pub to : laws.ToSees C N L
  to rules passes n c signs left next end h s = stops.sees_to rules passes n c signs left next end h s

  pub then_stuck : laws.ThenStuck C N L
  then_stuck rules a b signs mid first s =
      stops.sees_then rules a b signs mid first _ (stops.over_stuck rules (a ∷ []) (b ∷ []) signs mid first s)

  pub then_moves : laws.ThenMoves C N L
  then_moves rules a b signs mid left first next end s t m =
      stops.sees_then rules a b signs left next end (stops.over_moved rules (a ∷ []) (b ∷ []) signs mid first s t m)

  pub then_stays : laws.ThenStays C N L
  then_stays rules a b signs mid first next end s t =
      stops.sees_then rules a b signs mid _ end (stops.over_still rules (a ∷ []) (b ∷ []) signs mid first s t)

  pub first : laws.FirstSees C N L
  first rules a b signs left next end s m = stops.sees_first rules a b signs s m

  pub second : laws.SecondSees C N L
  second rules a b signs left first next e end s t m = stops.sees_second rules a b signs s t m

  pub neither : laws.NeitherSees C N L
  neither rules a b signs first next e end s t = stops.sees_neither rules a b signs s t

  -- the first grammar reads a sign
  fewer : (rules : N → Grammar C N L) (a : Grammar C N L) (signs mid : List C) {next : C → Bool} {end : Bool}
      → Sees rules (a ∷ []) signs mid next end → length mid < length signs
      → length (stop rules (a ∷ []) signs).0 < length signs
  fewer rules a signs mid s m = let lengths = ap length s.stops in omega arith

  pub many_stays : laws.ManyStays C N L
  many_stays rules a signs next end s =
      stops.sees_none rules a (Many a) (Many a ∷ []) (λ c. refl) (λ c. refl) s

  pub many_stuck : laws.ManyStuck C N L
  many_stuck rules a signs mid next s m =
      stops.sees_some rules a (Many a) (Many a ∷ []) (λ c. refl) (λ c. refl) (fewer rules a signs mid s m)
      (stops.over_stuck rules (a ∷ []) (Many a ∷ []) signs mid next s)

  pub many_moves : laws.ManyMoves C N L
  many_moves rules a signs mid left first next end s m t n =
      stops.sees_some rules a (Many a) (Many a ∷ []) (λ c. refl) (λ c. refl) (fewer rules a signs mid s m)
      (stops.over_moved rules (a ∷ []) (Many a ∷ []) signs mid first s t n)

  pub many_last : laws.ManyLast C N L
  many_last rules a signs mid first next end s m t =
      stops.sees_some rules a (Many a) (Many a ∷ []) (λ c. refl) (λ c. refl) (fewer rules a signs mid s m)
      (stops.over_still rules (a ∷ []) (Many a ∷ []) signs mid first s t)

  pub list_stays : laws.ListStays C N L
  list_stays rules a s signs next end t =
      stops.sees_none rules a (Listed a s) (further a s ∷ []) (λ c. refl) (λ c. refl) t

  pub list_stuck : laws.ListStuck C N L
  list_stuck rules a s signs mid next t m =
      stops.sees_some rules a (Listed a s) (further a s ∷ []) (λ c. refl) (λ c. refl) (fewer rules a signs mid t m)
      (stops.over_stuck rules (a ∷ []) (further a s ∷ []) signs mid next t)

  pub list_ends : laws.ListEnds C N L
  list_ends rules a s some signs mid first next end t m u =
      stops.sees_some rules a (Listed a s) (further a s ∷ []) (λ c. refl) (λ c. refl) (fewer rules a signs mid t m)
      (stops.over_still rules (a ∷ []) (further a s ∷ []) signs mid first t
      (may_end (is_nullable s) (stops.sees_none rules s (further a s) (Listed a s ∷ [])
      (stops.further_begins rules a s some) (stops.further_steps rules a s some) u)))
    where
      may_end : (b : Bool) → Sees rules (further a s ∷ []) mid mid next ((b && true) || true)
          → Sees rules (further a s ∷ []) mid mid next true
      may_end true x = x
      may_end false x = x

  pub list_waits : laws.ListWaits C N L
  list_waits rules a s some signs mid left first next t m u n =
      stops.sees_some rules a (Listed a s) (further a s ∷ []) (λ c. refl) (λ c. refl) (fewer rules a signs mid t m)
      (stops.over_moved rules (a ∷ []) (further a s ∷ []) signs mid first t
      (stops.sees_some rules s (further a s) (Listed a s ∷ []) (stops.further_begins rules a s some)
      (stops.further_steps rules a s some) (fewer rules s mid left u n)
      (stops.over_stuck rules (s ∷ []) (Listed a s ∷ []) mid left next u)) n)

  pub list_moves : laws.ListMoves C N L
  list_moves rules a s some signs mid after left first sep next end t m u n v o =
      stops.sees_some rules a (Listed a s) (further a s ∷ []) (λ c. refl) (λ c. refl) (fewer rules a signs mid t m)
      (stops.over_moved rules (a ∷ []) (further a s ∷ []) signs mid first t
      (stops.sees_some rules s (further a s) (Listed a s ∷ []) (stops.further_begins rules a s some)
      (stops.further_steps rules a s some) (fewer rules s mid after u n)
      (stops.over_moved rules (s ∷ []) (Listed a s ∷ []) mid after sep u v o)) (omega arith))

  pub list_last : laws.ListLast C N L
  list_last rules a s some signs mid after first sep next end t m u n v =
      stops.sees_some rules a (Listed a s) (further a s ∷ []) (λ c. refl) (λ c. refl) (fewer rules a signs mid t m)
      (stops.over_moved rules (a ∷ []) (further a s ∷ []) signs mid first t
      (stops.sees_some rules s (further a s) (Listed a s ∷ []) (stops.further_begins rules a s some)
      (stops.further_steps rules a s some) (fewer rules s mid after u n)
      (stops.over_still rules (s ∷ []) (Listed a s ∷ []) mid after sep u v)) n)
