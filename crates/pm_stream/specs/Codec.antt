-- A code for each forest, by which the logic can tell two forests apart.
use Rattle.std.proofs.Common.{◌≡◌, ◌≢◌, ℕ, List, ap, arith}
use Rattle.std.specs.Coded.{Coded, coded_ℕ, coded_bool, coded_list}
use base.Stored.{Gv, gnil, gnum, gcons}
use Rattle.lexical.specs.Token.{Token, Name, Mark, Literal}
use Rattle.pm_token.specs.contracts.delimiters.Delimiter as delimiter
use Rattle.pm_stream.specs.Forest.{Forest, nil, leaf, group}

-- the first part of a pair
abbrev head : Gv → Gv
head gnil = gnil
head (gnum n) = gnil
head (gcons a b) = a

-- the second part of a pair
abbrev tail : Gv → Gv
tail gnil = gnil
tail (gnum n) = gnil
tail (gcons a b) = b

-- pairs that begin with different numbers are different
apart : (m n : ℕ) {a b : Gv} → gcons (gnum m) a ≡ gcons (gnum n) b → m ≢ n → ⊥
apart m n p other = other (cc)

-- the code of a text
abbrev chars_code : Coded (List ℕ)
chars_code = coded_list coded_ℕ

-- the code of a token
abbrev pub token_code : Token → Gv
token_code (Name raw name) = gcons (gnum 0) (gcons (coded_bool.code raw) (chars_code.code name))
token_code (Mark c joint) = gcons (gnum 1) (gcons (gnum c) (coded_bool.code joint))
token_code (Literal text) = gcons (gnum 2) (chars_code.code text)

-- different tokens have different codes
pub token_inj : (x y : Token) → token_code x ≡ token_code y → x ≡ y
token_inj (Name r n) (Name s m) p =
    λ i. Name (coded_bool.inj r s (ap (λ v. head (tail v)) p) i) (chars_code.inj n m (ap (λ v. tail (tail v)) p) i)
token_inj (Name r n) (Mark d k) p = absurd (apart 0 1 p (omega arith))
token_inj (Name r n) (Literal u) p = absurd (apart 0 2 p (omega arith))
token_inj (Mark c j) (Name s m) p = absurd (apart 1 0 p (omega arith))
token_inj (Mark c j) (Mark d k) p =
    λ i. Mark (coded_ℕ.inj c d (ap (λ v. head (tail v)) p) i) (coded_bool.inj j k (ap (λ v. tail (tail v)) p) i)
token_inj (Mark c j) (Literal u) p = absurd (apart 1 2 p (omega arith))
token_inj (Literal t) (Name s m) p = absurd (apart 2 0 p (omega arith))
token_inj (Literal t) (Mark d k) p = absurd (apart 2 1 p (omega arith))
token_inj (Literal t) (Literal u) p = λ i. Literal (chars_code.inj t u (ap tail p) i)

-- the code of a forest
abbrev pub forest_code : Forest → Gv
forest_code nil = gcons (gnum 0) gnil
forest_code (leaf token lo hi rest) =
    gcons (gnum 1) (gcons (token_code token) (gcons (gnum lo) (gcons (gnum hi) (forest_code rest))))
forest_code (group d lo hi inside rest) =
    gcons (gnum 2) (gcons (delimiter.the_row.coded.code d)
    (gcons (gnum lo) (gcons (gnum hi) (gcons (forest_code inside) (forest_code rest)))))

-- different forests have different codes
pub forest_inj : (x y : Forest) → forest_code x ≡ forest_code y → x ≡ y
forest_inj nil nil p = λ i. nil
forest_inj nil (leaf u l h g) p = absurd (apart 0 1 p (omega arith))
forest_inj nil (group e l h g k) p = absurd (apart 0 2 p (omega arith))
forest_inj (leaf t lo hi f) nil p = absurd (apart 1 0 p (omega arith))
forest_inj (leaf t lo hi f) (leaf u l h g) p = λ i.
    leaf (token_inj t u (ap (λ v. head (tail v)) p) i)
    (coded_ℕ.inj lo l (ap (λ v. head (tail (tail v))) p) i)
    (coded_ℕ.inj hi h (ap (λ v. head (tail (tail (tail v)))) p) i)
    (forest_inj f g (ap (λ v. tail (tail (tail (tail v)))) p) i)
forest_inj (leaf t lo hi f) (group e l h g k) p = absurd (apart 1 2 p (omega arith))
forest_inj (group d lo hi f r) nil p = absurd (apart 2 0 p (omega arith))
forest_inj (group d lo hi f r) (leaf u l h g) p = absurd (apart 2 1 p (omega arith))
forest_inj (group d lo hi f r) (group e l h g k) p = λ i.
    group (delimiter.the_row.coded.inj d e (ap (λ v. head (tail v)) p) i)
    (coded_ℕ.inj lo l (ap (λ v. head (tail (tail v))) p) i)
    (coded_ℕ.inj hi h (ap (λ v. head (tail (tail (tail v)))) p) i)
    (forest_inj f g (ap (λ v. head (tail (tail (tail (tail v))))) p) i)
    (forest_inj r k (ap (λ v. tail (tail (tail (tail (tail v))))) p) i)

-- the code of forests, with the proof that it tells any two apart
abbrev pub coded_forest : Coded Forest
coded_forest = record { code = forest_code; inj = forest_inj }
