-- The search for a CR with no LF after it goes from one CR to the next.
use Rattle.std.proofs.Common.{◌≡◌, ℕ, ◌==◌, Bool, true, false, not, ◌||◌, List, [], ◌∷◌, ◌++◌, codes, refl, sym, ap}
use Rattle.std.proofs.Common.{◌∙◌, ◌≤◌, arith, length, length-append, subst}
use Rattle.std.specs.List.{list_all}
use Rattle.std.proofs.lemmas.Bool.{not-false}
use Rattle.lexical.specs.Character.{carriage_return}
use Rattle.lexical.specs.Comment.{has_bare_return}
use Rattle.lexical.specs.Text.{begins_with, first_passes}
use Rattle.lexical.specs.Finder.{while_front, while_rest}
use Rattle.lexical.proofs.FinderLemmas.{finds_run}

-- whether the character is not CR
abbrev pub other : ℕ → Bool
other c = not (c == carriage_return)

none_in : (p r : List ℕ) → list_all other p ≡ true → has_bare_return (p ++ r) ≡ has_bare_return r
none_in [] r all = refl
none_in (c ∷ p) r all = grind (arith, all, none_in p r)

-- whether the rest begins with the next CR, or is empty
pub record AtReturn (text rest : List ℕ) : Type 0 where
  pub same : has_bare_return rest ≡ has_bare_return text
  pub stands : first_passes other rest ≡ false

pub at_next : (text at to : List ℕ) → has_bare_return at ≡ has_bare_return text → to ≡ while_rest other at
    → AtReturn text to
at_next text at to same rest =
    let run = (finds_run other).sound at in
    subst (AtReturn text) (sym rest) (record {
      same = sym (none_in (while_front other at) (while_rest other at) run.1.each)
          ∙ (ap has_bare_return (sym run.0) ∙ same);
      stands = run.1.stops;
    })

pub rest_within : (text : List ℕ) → length (while_rest other text) ≤ length text
rest_within text = omega (
  arith,
  ap length ((finds_run other).sound text).0,
  length-append (while_front other text) (while_rest other text),
)

-- whether a text that begins with a CR has a CR with no LF after it
pub at_return : (c : ℕ) (rest text : List ℕ) → text ≡ c ∷ rest → first_passes other text ≡ false
    → has_bare_return text ≡ (not (begins_with (codes "\n") rest) || has_bare_return rest)
at_return c rest text e stands = let is = not-false _ (rw e at stands) in rw (e, is) refl
