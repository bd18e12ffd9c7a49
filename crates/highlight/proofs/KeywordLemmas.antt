-- Keywords, by their first letter.
use Rattle.std.proofs.Common.{◌≡◌, ℕ, false, List, ◌∷◌, refl}
use Rattle.std.proofs.lemmas.Bool.{ne_eqb}
use Rattle.highlight.specs.Style.{is_keyword}

-- no keyword begins with a letter other than these
pub no_keyword : (c : ℕ) (rest : List ℕ) → (83 ≡ c → ⊥) → (97 ≡ c → ⊥) → (98 ≡ c → ⊥) → (99 ≡ c → ⊥) → (100 ≡ c → ⊥)
    → (101 ≡ c → ⊥) → (102 ≡ c → ⊥) → (103 ≡ c → ⊥) → (105 ≡ c → ⊥) → (108 ≡ c → ⊥) → (109 ≡ c → ⊥) → (111 ≡ c → ⊥)
    → (112 ≡ c → ⊥) → (114 ≡ c → ⊥) → (115 ≡ c → ⊥) → (116 ≡ c → ⊥) → (117 ≡ c → ⊥) → (118 ≡ c → ⊥) → (119 ≡ c → ⊥)
    → (121 ≡ c → ⊥) → is_keyword (c ∷ rest) ≡ false
unfolding is_keyword
no_keyword c rest s a b cc d e f g i l m o p r ss t u v w y =
    rw (
      ne_eqb 83 c s,
      ne_eqb 97 c a,
      ne_eqb 98 c b,
      ne_eqb 99 c cc,
      ne_eqb 100 c d,
      ne_eqb 101 c e,
      ne_eqb 102 c f,
      ne_eqb 103 c g,
      ne_eqb 105 c i,
      ne_eqb 108 c l,
      ne_eqb 109 c m,
      ne_eqb 111 c o,
      ne_eqb 112 c p,
      ne_eqb 114 c r,
      ne_eqb 115 c ss,
      ne_eqb 116 c t,
      ne_eqb 117 c u,
      ne_eqb 118 c v,
      ne_eqb 119 c w,
      ne_eqb 121 c y,
    ) refl
