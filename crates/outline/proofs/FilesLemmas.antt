-- Several files, one after the other.
use Rattle.std.proofs.Common.{◌≡◌, ◌∙◌, ℕ, zero, suc, ◌+◌, ◌<◌, ◌≤◌, ◌==◌, ◌⊎◌, inl, inr, Bool, true, false, cond}
use Rattle.std.proofs.Common.{List, [], ◌∷◌, ◌++◌, refl, ap, arith, subst, sym, append_assoc, codes, drop, get_or}
use Rattle.std.proofs.Common.{length, map, max, string_bytes, String}
use Rattle.std.proofs.Math.Dec.{leb}
use Rattle.std.proofs.Math.ListN.{drop_of_length-le}
use Rattle.std.proofs.Math.Nat.{max-eq_left, max-eq_right, max-zero, zero-max}
use Rattle.std.proofs.lemmas.Bool.Decides.{leb_tells}
use Rattle.std.proofs.lemmas.List.{drop_more}
use Rattle.std.specs.Ordering.{is_lt, nat_cmp, ord_max}
use Rattle.std.specs.declared.alloc.Global.{Global}
use Rattle.std.specs.declared.cmp.Ordering.TheVariants.{Less, Equal, Greater}
use native.Mathlib.Numerals.{unary_clauses}
use Rattle.outline.specs.Files.{AreOf, IsOf, Outcome}
use Rattle.outline.specs.Tags.{lines_text}
use Rattle.outline.specs.declared.options.Form.{Form}

-- the outcomes of these files are that of the first file and those of the others
pub of_one : (form : Form) (paths : List (String Global)) (k : ℕ) (path : String Global) (outcome : Outcome)
    (more : List Outcome) → k < length paths → path ≡ get_or paths k path → IsOf form (string_bytes path) outcome
    → AreOf form (map string_bytes (drop (k + 1) paths)) more
    → AreOf form (map string_bytes (drop k paths)) (outcome ∷ more)
of_one form paths k path outcome more within is one rest =
    let split : drop k paths ≡ path ∷ drop (k + 1) paths =
    drop_more paths k path within ∙ ap (λ x. x ∷ drop (k + 1) paths) (sym is) in
    subst (λ l. AreOf form (map string_bytes l) (outcome ∷ more)) (sym split) (one, rest)

-- there are no outcomes if no file is left
pub of_none : (form : Form) (paths : List (String Global)) (k : ℕ) → length paths ≤ k
    → AreOf form (map string_bytes (drop k paths)) []
of_none form paths k past = subst (λ l. AreOf form (map string_bytes l) []) (sym (drop_of_length-le paths past)) tt

pub ended_append : (xs ys : List (List ℕ)) → lines_text xs ++ lines_text ys ≡ lines_text (xs ++ ys)
ended_append [] ys = refl
ended_append (x ∷ xs) ys =
    append_assoc x (codes "\n" ++ lines_text xs) (lines_text ys)
    ∙ ap (λ l. x ++ (codes "\n" ++ l)) (ended_append xs ys)

pub texts_append : (xs ys : List (String Global))
    → map string_bytes (xs ++ ys) ≡ map string_bytes xs ++ map string_bytes ys
texts_append [] ys = refl
texts_append (x ∷ xs) ys = ap (λ l. string_bytes x ∷ l) (texts_append xs ys)

-- the greatest of three numbers
pub max_assoc : (a b c : ℕ) → max (max a b) c ≡ max a (max b c)
max_assoc zero b c = ap (λ n. max n c) (zero-max b) ∙ sym (zero-max (max b c))
max_assoc (suc a) zero c = ap (λ n. max n c) (max-zero (suc a)) ∙ ap (max (suc a)) (sym (zero-max c))
max_assoc (suc a) (suc b) zero = max-zero (max (suc a) (suc b)) ∙ ap (max (suc a)) (sym (max-zero (suc b)))
max_assoc (suc a) (suc b) (suc c) = simp unary_clauses (ap suc (max_assoc a b c))

never_less : (a b : ℕ) (same : Bool) → cond (is_lt (cond same Equal Greater)) a b ≡ b
never_less a b true = refl
never_less a b false = refl

-- what `max` returns
pub greater_is : (a b : ℕ) → ord_max nat_cmp a b ≡ max a b
greater_is a b = by_test (leb_tells (suc b) a)
  where
    by_test : (((leb (suc b) a ≡ true) × (suc b ≤ a)) ⊎ ((leb (suc b) a ≡ false) × (a < suc b)))
        → ord_max nat_cmp a b ≡ max a b
    by_test (inl (is, above)) =
        ap (λ less. cond (is_lt (cond less Less (cond (b == a) Equal Greater))) a b) is
        ∙ sym (max-eq_left (omega arith))
    by_test (inr (is, within)) =
        ap (λ less. cond (is_lt (cond less Less (cond (b == a) Equal Greater))) a b) is
        ∙ (never_less a b (b == a) ∙ sym (max-eq_right (omega arith)))

pub max_onto : (a b more new : ℕ) → new ≡ ord_max nat_cmp a b → max new more ≡ max a (max b more)
max_onto a b more new is = ap (λ n. max n more) (is ∙ greater_is a b) ∙ max_assoc a b more
