-- Trees that filling does not change.
use Rattle.std.proofs.Common.{◌≡◌, ℕ, Bool, true, false, not, ◌==◌, suc, None, Ok, List, [], ◌∷◌}
use Rattle.std.proofs.Common.{if◌then◌else◌, refl, sym, ap, ◌∙◌}
use Rattle.std.specs.List.{list_all}
use Rattle.std.proofs.lemmas.Bool.{and_parts}
use Rattle.proc_macro2.specs.Character.{hash_sign}
use Rattle.proc_macro2.specs.Forest.{Forest}
use Rattle.proc_macro2.specs.Leaf as leaves
use Rattle.proc_macro2.specs.Trees.{alone, before, forest}
use Rattle.proc_macro2.specs.declared.Group.{Group as Grouped}
use Rattle.proc_macro2.specs.declared.TokenTree.{TokenTree}
use Rattle.proc_macro2.specs.declared.TokenTree.TheVariants.{Group, Ident, Punct, Literal}
use Rattle.quoting.specs.Filled.{then_outcome, has_meaning, is_found, filled_by}
use Rattle.quoting.specs.Given.{apart, inside_at, interpolation_of, is_fixed}
use Rattle.quoting.specs.Interpolation.{after_hash}
use Rattle.quoting.proofs.FillLemmas.{Giving, token_alone}

-- a mark other than `#` begins neither a hole nor a repetition
begins_nothing : (p : leaves.Mark) (rest : Forest) → not (p.mark == hash_sign) ≡ true
    → interpolation_of (Punct p) rest ≡ None
begins_nothing p rest h = by_test (p.mark == hash_sign) h
  where
    by_test : (hash : Bool) → not hash ≡ true → (if hash then after_hash rest else None) ≡ None
    by_test true e = absurd (cc)
    by_test false e = refl

no_meaning : (trees : List TokenTree) → list_all is_fixed trees ≡ true → has_meaning (forest trees) ≡ false
no_meaning [] h = refl
no_meaning (Group g ∷ trees) h = refl
no_meaning (Ident i ∷ trees) h = refl
no_meaning (Punct p ∷ trees) h = ap is_found (begins_nothing p (forest trees) (and_parts _ _ h).0)
no_meaning (Literal l ∷ trees) h = refl

-- an unchanged tree before unchanged trees
stays : (t : TokenTree) (f : Forest) → then_outcome (Ok (alone t)) (Ok f) ≡ Ok (before t f)
stays (Group g) f = refl
stays (Ident i) f = refl
stays (Punct p) f = refl
stays (Literal l) f = refl

one_stays : (given : Giving) (depth : ℕ) (t : TokenTree) (rest : Forest) → ((g : Grouped) → t ≡ Group g → ⊥)
    → interpolation_of t rest ≡ None → has_meaning rest ≡ false → filled_by given depth 0 rest ≡ Ok rest
    → filled_by given depth 0 (before t rest) ≡ Ok (before t rest)
one_stays given depth t rest other nothing quiet filled =
    token_alone given depth t rest other nothing
    ∙ (ap (λ b. then_outcome (Ok (alone (apart b t))) (filled_by given depth 0 rest)) quiet
    ∙ (ap (then_outcome (Ok (alone (apart false t)))) filled ∙ stays t rest))

pub all_stay : (given : Giving) (depth : ℕ) (trees : List TokenTree) → list_all is_fixed trees ≡ true
    → filled_by given depth 0 (forest trees) ≡ Ok (forest trees)
all_stay given depth [] h = refl
all_stay given depth (Group g ∷ trees) h = absurd (cc)
all_stay given depth (Ident i ∷ trees) h =
    one_stays given depth (Ident i) (forest trees) (λ g e. absurd (cc)) refl (no_meaning trees h)
    (all_stay given depth trees h)
all_stay given depth (Punct p ∷ trees) h =
    let parts = and_parts (not (p.mark == hash_sign)) (list_all is_fixed trees) h in
    one_stays given depth (Punct p) (forest trees) (λ g e. absurd (cc)) (begins_nothing p (forest trees) parts.0)
    (no_meaning trees parts.1) (all_stay given depth trees parts.1)
all_stay given depth (Literal l ∷ trees) h =
    one_stays given depth (Literal l) (forest trees) (λ g e. absurd (cc)) refl (no_meaning trees h)
    (all_stay given depth trees h)

-- the contents of a group that filling does not change
pub inside_stays : (given : Giving) (depth inner : ℕ) (g : Grouped) (trees : List TokenTree) (inside : Forest)
    → depth ≡ suc inner → forest trees ≡ g.stream → list_all is_fixed trees ≡ true → inside ≡ g.stream
    → inside_at given depth g ≡ Ok inside
inside_stays given depth inner g trees inside deep same fixed copied =
    ap (λ n. inside_at given n g) deep
    ∙ (ap (filled_by given inner 0) (sym same)
    ∙ (all_stay given inner trees fixed ∙ ap Ok (same ∙ sym copied)))
