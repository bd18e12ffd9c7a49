-- Where the openers are that no closer matches.
use Rattle.std.proofs.Common.{◌≡◌, ℕ, List, [], ◌∷◌, ◌++◌, Option, Some, None, IfSome, reverse, sym, subst}
use Rattle.std.specs.List.{AllByRecursion}
use Rattle.std.proofs.lemmas.List.{reverse-append, reverse-reverse}
use Rattle.explain.specs.Explained.{IsOpenerOf}
use Rattle.explain.specs.Open.{Loses}
use Rattle.explain.specs.declared.explained.Explained.{Explained}
use Rattle.explain.specs.declared.explained.Opener.{Opener}

-- each opener in the explanation is in the text, with its own delimiter, bytes and span
abbrev pub AllStand : ℕ → List ℕ → Explained → Type 0
AllStand base source x =
    IfSome x.innermost (IsOpenerOf base source) × AllByRecursion (IsOpenerOf base source) x.outer.items

module _ (P : Opener → Type 0) where
  pub all_none : (openers : List Opener) → openers ≡ [] → AllByRecursion P openers
  all_none openers none = subst (AllByRecursion P) (sym none) tt

  all_more : (openers : List Opener) (x : Opener) → AllByRecursion P openers → P x
      → AllByRecursion P (openers ++ x ∷ [])
  all_more [] x all is = (is, tt)
  all_more (o ∷ openers) x all is = (all.0, all_more openers x all.1 is)

  all_less : (openers : List Opener) (x : Opener) → AllByRecursion P (openers ++ x ∷ [])
      → P x × AllByRecursion P openers
  all_less [] x all = (all.0, tt)
  all_less (o ∷ openers) x all = let more = all_less openers x all.1 in (more.0, (all.0, more.1))

  -- a property of all openers holds of the innermost one and of the others
  pub all_lost : (all : List Opener) (innermost : Option Opener) (outer : List Opener) → Loses all innermost outer
      → AllByRecursion P all → IfSome innermost P × AllByRecursion P outer
  all_lost all None outer lost is = (tt, all_none outer lost.1)
  all_lost all (Some x) outer lost is = all_less outer x (subst (AllByRecursion P) lost is)

  all_reversed : (openers : List Opener) → AllByRecursion P openers → AllByRecursion P (reverse openers)
  all_reversed [] all = tt
  all_reversed (x ∷ openers) all =
      subst (AllByRecursion P) (sym (reverse-append (x ∷ []) openers))
      (all_more (reverse openers) x (all_reversed openers all.1) all.0)

  pub all_reverse : (openers : List Opener) → AllByRecursion P (reverse openers) → AllByRecursion P openers
  all_reverse openers all =
      subst (AllByRecursion P) (reverse-reverse openers) (all_reversed (reverse openers) all)
