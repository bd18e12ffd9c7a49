-- Whether trees are built can be tested, so trees that are merely known to be built are built.
use Rattle.std.proofs.Common.{◌≡◌, ◌⊎◌, ℕ, Bool, true, false, List, [], ◌∷◌, Some, None, IsTrue, refl, sym}
use Rattle.std.proofs.Common.{ap, ◌∙◌, subst, append-nil, inl, inr}
use Rattle.std.proofs.Math.Logic.{∥∥₁_elim, ∥∥₁_map}
use Rattle.std.proofs.lemmas.Grind.{not_there}
use Rattle.std.proofs.lemmas.Option.{some_pair_parts}
use Rattle.std.specs.Coded.{Coded-set, coded_list, coded_ℕ, le_prop}
use Rattle.lexical.specs.Delimiter.{error_literal}
use Rattle.lexical.specs.Finder.{Answer, Finder, Finds}
use Rattle.lexical.specs.Form.{Form}
use Rattle.lexical.specs.Identifier as identifiers
use Rattle.lexical.specs.Literal as literals
use Rattle.lexical.specs.Literal.{IsLiteralToken}
use Rattle.lexical.specs.PieceFinder.{find_literal}
use Rattle.lexical.specs.Rule.{find}
use Rattle.lexical.specs.Token.{Token, Name, Mark, Literal}
use Rattle.lexical.proofs.FinderLemmas.{found_is}
use Rattle.lexical.proofs.LiteralFinderLemmas.{finds_literal}
use Rattle.lexical.proofs.RuleLemmas.{exact}
use Rattle.pm_token.specs.Built.{IsBuiltToken}
use Rattle.pm_stream.specs.Forest.{Forest, nil, leaf, group, IsBuilt}

-- the finder finds the whole text, or the text does not have the form
all_or_none : (f : Finder) (A : Form) → Finds f A → (text : List ℕ) (answer : Answer) → f text ≡ answer
    → (A text [] → ⊥) ⊎ A text []
all_or_none f A h text None e = inl (λ is.
    let clash : ◌≡◌ {A = Answer} (Some (text, [])) None
    = sym (h.complete text [] is) ∙ (ap f (append-nil text) ∙ e) in cc)
all_or_none f A h text (Some (p, [])) e =
    let found = found_is f A h text p [] e in
    inr (subst (λ q. A q []) (sym (found.0 ∙ append-nil p)) found.1)
all_or_none f A h text (Some (p, c ∷ r)) e = inl (λ is.
    let clash : [] ≡ c ∷ r
    = (some_pair_parts text p [] (c ∷ r) (sym (h.complete text [] is) ∙ (ap f (append-nil text) ∙ e))).1 in cc)

merely_found : (f : Finder) (A : Form) → Finds f A → (text : List ℕ) → ∥ A text [] ∥₁ → A text []
merely_found f A h text there = elim (all_or_none f A h text (f text) refl) [
  | inl none ↦ absurd (not_there there none)
  | inr is ↦ is
]

merely_true : (b : Bool) → ∥ IsTrue b ∥₁ → IsTrue b
merely_true true h = refl
merely_true false h = absurd (not_there h (λ e. cc))

merely_literal : (text : List ℕ) → ∥ IsLiteralToken text ∥₁ → IsLiteralToken text
unfolding IsLiteralToken
merely_literal text h =
    elim (all_or_none find_literal literals.Literal finds_literal text (find_literal text) refl) [
      | inl none ↦ inr (∥∥₁_elim h (Coded-set (coded_list coded_ℕ) text error_literal)
          (λ any. elim any [ inl is ↦ absurd (none is) | inr is ↦ is ]))
      | inr is ↦ inl is
    ]

merely_token : (token : Token) → ∥ IsBuiltToken token ∥₁ → IsBuiltToken token
merely_token (Name raw name) h = (
  merely_found (find identifiers.name) identifiers.Name (exact identifiers.name (tt, tt)) name
      (∥∥₁_map h (λ all. all.0)),
  merely_true _ (∥∥₁_map h (λ all. all.1)),
  merely_true _ (∥∥₁_map h (λ all. all.2)),
)
merely_token (Mark c joint) h = merely_true _ h
merely_token (Literal text) h =
    (merely_literal text (∥∥₁_map h (λ all. all.0)), merely_true _ (∥∥₁_map h (λ all. all.1)))

pub merely_built : (f : Forest) → ∥ IsBuilt f ∥₁ → IsBuilt f
merely_built nil h = tt
merely_built (leaf token lo hi f) h = (
  merely_token token (∥∥₁_map h (λ all. all.0)),
  ∥∥₁_elim h le_prop (λ all. all.1),
  merely_built f (∥∥₁_map h (λ all. all.2)),
)
merely_built (group d lo hi f k) h = (
  ∥∥₁_elim h le_prop (λ all. all.0),
  merely_built f (∥∥₁_map h (λ all. all.1)),
  merely_built k (∥∥₁_map h (λ all. all.2)),
)
