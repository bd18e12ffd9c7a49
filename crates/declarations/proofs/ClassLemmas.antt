-- What holds of all classes in the list holds of each class.
use Rattle.std.proofs.Common.{◌≡◌, refl, sym, ◌∙◌, ap, subst, eqb-true, ℕ, zero, suc, Bool, true, List, [], ◌∷◌}
use Rattle.std.proofs.Common.{Option, Some, None}
use Rattle.std.proofs.Common.{inl, inr}
use Rattle.std.proofs.lemmas.Bool.{and_parts, or_cases, both_ways}
use Rattle.grammars.specs.Deterministic.{Passes}
use Rattle.grammars.specs.Tests.{IsAny, IsEvery}
use Rattle.item_tables.specs.Classes.{code, classes, all_of, every, any_of, any, is}
use Rattle.item_tables.specs.declared.class.SignClass.{SignClass}
use Rattle.item_tables.specs.declared.class.SignClass.TheVariants as signs
use Rattle.item_tables.specs.declared.class.Word.TheVariants as words
use Rattle.item_tables.specs.declared.class.Keyword.TheVariants as keywords

-- the element of a list at an index
abbrev at : {T : Type 0} → List T → ℕ → Option T
at [] n = None
at (x ∷ xs) zero = Some x
at (x ∷ xs) (suc n) = at xs n

all_at : {T : Type 0} (p : T → Bool) (xs : List T) (n : ℕ) (x : T) → all_of p xs ≡ true → at xs n ≡ Some x → p x ≡ true
all_at p [] n x h e = cc
all_at p (y ∷ xs) zero x h e =
    let same : y ≡ x = cc in subst (λ z. p z ≡ true) same (and_parts (p y) (all_of p xs) h).0
all_at p (y ∷ xs) (suc n) x h e = all_at p xs n x (and_parts (p y) (all_of p xs) h).1 e

at_code : (c : SignClass) → at classes (code c) ≡ Some c
at_code (signs.Word words.Auto) = refl
at_code (signs.Word _) = refl
at_code (signs.Keyword keywords.Async) = refl
at_code (signs.Keyword _) = refl
at_code _ = refl

pub every_holds : IsEvery every
every_holds p h c = all_at p classes (code c) c h (at_code c)

some_of : (p : SignClass → Bool) (xs : List SignClass) → any_of p xs ≡ true → Passes p
some_of p [] h = absurd (both_ways _ refl h)
some_of p (x ∷ xs) h = elim (or_cases (p x) (any_of p xs) h) [ inl y ↦ (x, y) | inr z ↦ some_of p xs z ]

pub any_passes : IsAny any
any_passes p h = some_of p classes h

-- two classes with the same number are the same
pub same_class : (x c : SignClass) → is x c ≡ true → c ≡ x
same_class x c h =
    let numbers : code x ≡ code c = eqb-true (code x) (code c) h in
    let both : Some c ≡ Some x = sym (at_code c) ∙ (ap (at classes) (sym numbers) ∙ at_code x) in
    cc
