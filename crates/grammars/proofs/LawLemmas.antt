-- The laws of `specs/Laws.antt` and `specs/Words.antt`.
use Rattle.std.proofs.Common.{◌≡◌, refl, sym, ◌∙◌, List, [], ◌∷◌, ◌++◌, Some, None}
use Rattle.std.proofs.Common.{append_assoc}
use Rattle.grammars.specs.Grammar.{Grammar}
use Rattle.grammars.specs.Machine.{run}
use Rattle.grammars.specs.Find.{Found, Past, Stuck, scan}
use Rattle.grammars.specs.Reading.{GoesOn, FaultAt}
use Rattle.grammars.specs.Laws as laws
use Rattle.grammars.specs.Words as words
use Rattle.grammars.proofs.SoundLemmas.{ReadsOf, run_sound}
use Rattle.grammars.proofs.StepLemmas.{if_some}
use Rattle.grammars.proofs.CompleteLemmas.{run_complete}
use Rattle.grammars.proofs.NextLemmas.{ends_reading, goes_on_next, next_goes_on, reading_ends}
use Rattle.grammars.proofs.ListLemmas.{listed_written, written_listed}
use Rattle.grammars.proofs.ReadingLemmas.{reading, found}
use Rattle.grammars.proofs.TestLemmas.{clear_holds, alive_holds}
use Rattle.grammars.proofs.WholeLemmas.{whole_read, stuck_fault, rest_fault}
use Rattle.grammars.proofs.WordLemmas as word

module _ (C N L : Type 0) where
  pub sound : laws.RunIsSound C N L
  sound rules k signs events e = if_some (run rules k signs) events (ReadsOf rules k signs) e (run_sound rules k signs)

  pub complete : laws.RunIsComplete C N L
  complete rules follows all k events clear r = run_complete rules follows all k events clear r

  pub one_reading : laws.OneReading C N L
  one_reading rules follows good k start signs events = (
    λ e. reading rules follows good k start.deterministic start.productive signs events e,
    λ r. found rules follows good k start.deterministic start.productive signs events r.reads r.whole,
  )

  -- ---- one error

  -- two prefixes of a list are equal if neither is longer
  same_front : (front left other rest : List C) → front ++ left ≡ other ++ rest
      → ((c : C) (more : List C) → other ≡ front ++ c ∷ more → left ≡ c ∷ (more ++ rest) → ⊥)
      → ((c : C) (more : List C) → front ≡ other ++ c ∷ more → rest ≡ c ∷ (more ++ left) → ⊥)
      → (front ≡ other) × (left ≡ rest)
  same_front [] left [] rest e f g = (refl, e)
  same_front [] left (c ∷ other) rest e f g = absurd (f c other refl e)
  same_front (c ∷ front) left [] rest e f g = absurd (g c front refl (sym e))
  same_front (a ∷ front) left (b ∷ other) rest e f g =
      let first : a ≡ b = cc in
      let same : front ++ left ≡ other ++ rest = cc in
      let at = same_front front left other rest same (λ c more h i. f c more (cons b a _ _ (sym first) h) i)
      (λ c more h i. g c more (cons a b _ _ first h) i) in
      (cons a b front other first at.0, at.1)
    where
      cons : (x y : C) (xs ys : List C) → x ≡ y → xs ≡ ys → x ∷ xs ≡ y ∷ ys
      cons x y xs ys e f = rw (e, f) refl

  -- if some signs can go on to a reading, each prefix of them can
  on_before : (rules : N → Grammar C N L) (k : List (Grammar C N L)) (front other : List C) (c : C) (more : List C)
      → other ≡ front ++ c ∷ more → GoesOn rules k other
      → GoesOn rules k (front ++ c ∷ [])
  on_before rules k front other c more e on = (
    on.0,
    more ++ on.1,
    on.2,
    on.3
        ∙ (rw e (append_assoc front (c ∷ more) on.1) ∙ sym (append_assoc front (c ∷ []) (more ++ on.1))),
  )

  pub one_fault : laws.OneFault C N L
  one_fault rules k signs front left other rest x y =
      same_front front left other rest (sym x.whole ∙ y.whole)
      (λ c more h i. x.longest c (more ++ rest) i (on_before rules k front other c more h y.goes_on))
      (λ c more h i. y.longest c (more ++ left) i (on_before rules k other front c more h x.goes_on))

  pub reads_or_fails : laws.ReadsOrFails C N L
  reads_or_fails rules follows good k start signs none = go (scan rules k signs) refl
    where
      go : (f : Found C L) → scan rules k signs ≡ f → (front left : List C) × FaultAt rules k signs front left
      go (Past events []) e =
          let read = whole_read rules follows good k start.deterministic start.productive signs events e in
          let some = found rules follows good k start.deterministic start.productive signs events read.reads
          read.whole in
          let both : Some events ≡ None = sym some ∙ none in
          absurd cc
      go (Past events (c ∷ left)) e =
          let at = rest_fault rules follows good k start.deterministic start.productive signs (c ∷ left) events e
          (λ h. cc) in
          (at.0, c ∷ left, at.1)
      go (Stuck left) e =
          let at = stuck_fault rules follows good k start.deterministic start.productive signs left e in
          (at.0, left, at.1)

  pub found_is_reading : laws.FoundIsReading C N L
  found_is_reading rules follows good k start signs events e =
      whole_read rules follows good k start.deterministic start.productive signs events e

  pub left_is_fault : laws.LeftIsFault C N L
  left_is_fault rules follows good k start signs left events e h =
      rest_fault rules follows good k start.deterministic start.productive signs left events e h

  pub stuck_is_fault : laws.StuckIsFault C N L
  stuck_is_fault rules follows good k start signs left e =
      stuck_fault rules follows good k start.deterministic start.productive signs left e

  -- ---- tests and lists

  pub test_is_deterministic : laws.TestIsDeterministic C N L
  test_is_deterministic every holds follows g follow h = clear_holds every holds follows g follow h

  pub test_is_productive : laws.TestIsProductive C N L
  test_is_productive any holds g h = alive_holds any holds g h

  pub list_is_written : laws.ListIsWritten C N L
  list_is_written rules a s events = (listed_written rules a s events, written_listed rules a s events)

  -- ---- constructors

  pub lacks_finds : words.LacksFinds C N L
  lacks_finds rules g signs h e = word.find_lacks rules g signs h e

  pub skips_finds : words.SkipsFinds C N L
  skips_finds rules g signs h e = word.find_skips rules g signs h e

  pub nothing_finds : words.NothingFinds C N L
  nothing_finds rules signs = word.find_nothing rules signs

  pub mark_finds : words.MarkFinds C N L
  mark_finds rules l signs = word.find_mark rules l signs

  pub sign_finds : words.SignFinds C N L
  sign_finds rules passes c signs h = word.find_sign rules passes c signs h

  pub to_finds : words.ToFinds C N L
  to_finds rules passes n c signs h = word.find_to rules passes n c signs h

  pub then_finds : words.ThenFinds C N L
  then_finds rules a b signs = word.find_then rules a b signs

  pub first_finds : words.FirstFinds C N L
  first_finds rules a b signs h = word.find_first rules a b signs h

  pub second_finds : words.SecondFinds C N L
  second_finds rules a b signs g h = word.find_second rules a b signs g h

  pub other_finds : words.OtherFinds C N L
  other_finds rules a b signs g h = word.find_other rules a b signs g h

  pub more_finds : words.MoreFinds C N L
  more_finds rules a signs h = word.find_more rules a signs h

  pub element_finds : words.ElementFinds C N L
  element_finds rules a s signs h = word.find_element rules a s signs h

  -- ---- what can come next

  pub next_is_exact : laws.NextGoesOn C N L
  next_is_exact rules follows good k start front c =
      (next_goes_on rules follows good k start front c, goes_on_next rules follows good k start front c)

  pub end_is_exact : laws.EndIsReading C N L
  end_is_exact rules follows good k start front = (
    ends_reading rules follows good k start front,
    λ r. reading_ends rules follows good k start front r.0 r.1,
  )
