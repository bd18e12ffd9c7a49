-- If the tests pass, a grammar is deterministic and productive.
use Rattle.std.proofs.Common.{◌≡◌, Bool, true, not, ◌&&◌, ◌||◌}
use Rattle.std.proofs.Common.{inl, inr}
use Rattle.std.proofs.lemmas.Bool.{both_ways, and_parts, and_from, or_cases, not-true}
use Rattle.grammars.specs.Grammar.{Grammar, Nothing, Sign, To, Mark, Then, Either, Many, Listed, further}
use Rattle.grammars.specs.Machine.{is_nullable}
use Rattle.grammars.specs.First.{may_begin, begins}
use Rattle.grammars.specs.Tests.{IsEvery, IsAny, apart, within, is_deterministic, is_productive}
use Rattle.grammars.specs.Deterministic.{Apart, Within, Deterministic, Productive}

module _ {C : Type 0} (every : (C → Bool) → Bool) (holds : IsEvery every) where
  apart_holds : (p q : C → Bool) → apart every p q ≡ true → Apart p q
  apart_holds p q h c x y =
      let at = not-true (p c && q c) (holds (λ c. not (p c && q c)) h c) in both_ways _ at (and_from _ _ x y)

  within_holds : (p q : C → Bool) → within every p q ≡ true → Within p q
  within_holds p q h c x = elim (or_cases (not (p c)) (q c) (holds (λ c. not (p c) || q c) h c)) [
    | inl out ↦ absurd (both_ways _ (not-true _ out) x)
    | inr y ↦ y
  ]

  pub clear_holds : {N L : Type 0} (follows : N → C → Bool) (g : Grammar C N L) (follow : C → Bool)
      → is_deterministic every follows g follow ≡ true
      → Deterministic follows g follow
  clear_holds follows Nothing follow h = tt
  clear_holds follows (Sign passes) follow h = tt
  clear_holds follows (To passes n) follow h = within_holds follow (follows n) h
  clear_holds follows (Mark l) follow h = tt
  clear_holds follows (Then a b) follow h =
      let x = and_parts (is_deterministic every follows a (begins b follow))
      (is_deterministic every follows b follow) h in
      (clear_holds follows a (begins b follow) x.0, clear_holds follows b follow x.1)
  clear_holds follows (Either a b) follow h =
      let x = and_parts (is_deterministic every follows a follow)
      (is_deterministic every follows b follow
      && (apart every (begins a follow) (begins b follow) && not (is_nullable a && is_nullable b))) h in
      let y = and_parts (is_deterministic every follows b follow)
      (apart every (begins a follow) (begins b follow) && not (is_nullable a && is_nullable b)) x.1 in
      let z = and_parts (apart every (begins a follow) (begins b follow)) _ y.1 in (
        clear_holds follows a follow x.0,
        clear_holds follows b follow y.0,
        apart_holds (begins a follow) (begins b follow) z.0,
        λ e f. both_ways _ (not-true _ z.1) (and_from _ _ e f),
      )
  clear_holds follows (Many a) follow h =
      let x = and_parts (is_deterministic every follows a (begins (Many a) follow))
      (not (is_nullable a) && apart every (may_begin a) follow) h in
      let y = and_parts (not (is_nullable a)) (apart every (may_begin a) follow) x.1 in
      (clear_holds follows a (begins (Many a) follow) x.0, not-true _ y.0, apart_holds (may_begin a) follow y.1)
  clear_holds follows (Listed a s) follow h =
      let x = and_parts (is_deterministic every follows a (begins (further a s) follow))
      (is_deterministic every follows s (begins (Listed a s) follow)
      && ((not (is_nullable a) && not (is_nullable s))
      && (apart every (may_begin a) follow && apart every (may_begin s) follow))) h in
      let y = and_parts (is_deterministic every follows s (begins (Listed a s) follow))
      ((not (is_nullable a) && not (is_nullable s))
      && (apart every (may_begin a) follow && apart every (may_begin s) follow)) x.1 in
      let z = and_parts (not (is_nullable a) && not (is_nullable s))
      (apart every (may_begin a) follow && apart every (may_begin s) follow) y.1 in
      let e = and_parts (not (is_nullable a)) (not (is_nullable s)) z.0 in
      let w = and_parts (apart every (may_begin a) follow) (apart every (may_begin s) follow) z.1 in (
        clear_holds follows a (begins (further a s) follow) x.0,
        clear_holds follows s (begins (Listed a s) follow) y.0,
        not-true _ e.0,
        not-true _ e.1,
        apart_holds (may_begin a) follow w.0,
        apart_holds (may_begin s) follow w.1,
      )

module _ {C N L : Type 0} (any : (C → Bool) → Bool) (passes_any : IsAny any) where
  pub alive_holds : (g : Grammar C N L) → is_productive any g ≡ true → Productive g
  alive_holds Nothing h = tt
  alive_holds (Sign passes) h = passes_any passes h
  alive_holds (To passes n) h = passes_any passes h
  alive_holds (Mark l) h = tt
  alive_holds (Then a b) h =
      let x = and_parts (is_productive any a) (is_productive any b) h in (alive_holds a x.0, alive_holds b x.1)
  alive_holds (Either a b) h =
      let x = and_parts (is_productive any a) (is_productive any b) h in (alive_holds a x.0, alive_holds b x.1)
  alive_holds (Many a) h = alive_holds a h
  alive_holds (Listed a s) h =
      let x = and_parts (is_productive any a) (is_productive any s) h in (alive_holds a x.0, alive_holds s x.1)
