-- The names in messages.
use Rattle.std.proofs.Common.{◌≡◌, ◌==◌, ◌+◌, ◌-◌, ◌<◌, ◌%◌, refl, sym, ◌∙◌, ap, subst, ℕ, zero, suc, Bool, true, false}
use Rattle.std.proofs.Common.{List, [], ◌∷◌, ◌++◌, Err, IsErr, IsOk, Ok, Result, arith, bit_and, codes}
use Rattle.std.proofs.Common.{if◌then◌else◌, min}
use Rattle.std.proofs.lemmas.Bool.{both_ways, eq-eqb, eqb-true, ne_eqb}
use Rattle.std.proofs.lemmas.Nat.Bits.{bit_at-lt, bit_at_and, bit_at_xor}
use Rattle.std.specs.Borrow.{Bor}
use Rattle.std.specs.Int.{bit_at}
use Rattle.std.specs.Int.RustNames.{bit_xor}
use Rattle.std.specs.declared.fmt.Error.{Error}
use Rattle.declarations.specs.Expected.{holds}
use Rattle.declarations.specs.ExpectedText.{Names, NamesOnly, more_listed, names_of, rows_of, separator}
use Rattle.item_tables.specs.declared.class.SignClass.{SignClass}
use Rattle.declarations.specs.declared.expected.Expected.{Expected}
use Rattle.item_tables.specs.Classes.{code}

-- one more name, and those after it
pub more_split : (count : ℕ) (names rest : List (List ℕ)) (name before : List ℕ) → (count ≡ 0 → ⊥)
    → names ≡ name ∷ rest → before ≡ separator (count - 1) rest
    → more_listed count names ≡ before ++ name ++ more_listed (count - 1) rest
more_split zero names rest name before h e f = absurd (h refl)
more_split (suc n) names rest name before h e f =
    let less : suc n - 1 ≡ n = omega arith in rw (e, f, less) refl

-- no more names are written
pub more_stopped : (count : ℕ) (names rest : List (List ℕ)) (name : List ℕ) → count ≡ 0 → names ≡ name ∷ rest
    → codes ", among others" ≡ more_listed count names
more_stopped count names rest name h e = rw (e, h) refl

-- there are no more names
pub more_none : (count : ℕ) → more_listed count [] ≡ []
more_none zero = refl
more_none (suc n) = refl

-- the first row whose bits are all left is named
pub names_first : (left : ℕ) (rows more : List (ℕ × Bor (List ℕ))) (row : ℕ × Bor (List ℕ)) → rows ≡ row ∷ more
    → bit_and left row.0 ≡ row.0
    → names_of left (rows_of rows) ≡ row.1.now ∷ names_of (bit_xor left row.0) (rows_of more)
names_first left rows more row e h = rw (e, eq-eqb (bit_and left row.0) row.0 h) refl

-- a row of which a bit is not left is passed over
pub names_other : (left : ℕ) (rows more : List (ℕ × Bor (List ℕ))) (row : ℕ × Bor (List ℕ)) → rows ≡ row ∷ more
    → (bit_and left row.0 ≡ row.0 → ⊥)
    → names_of left (rows_of rows) ≡ names_of left (rows_of more)
names_other left rows more row e h = rw (e, ne_eqb (bit_and left row.0) row.0 h) refl

-- what was written has no error
pub err_not_ok : (result : Result (Unit {0}) Error) → IsErr result → IsOk result → ⊥
err_not_ok (Ok x) is_err is_ok = cc
err_not_ok (Err x) is_err is_ok = cc

-- ---- each name is true

-- a bit of the mask is left
left_one : (a b : ℕ) → a < 2 → min a b ≡ b → b ≡ 1 → a ≡ 1
left_one a b h e f = go a h (subst (λ x. min a x ≡ x) f e)
  where
    go : (a : ℕ) → a < 2 → min a 1 ≡ 1 → a ≡ 1
    go zero h e = absurd (omega (arith, e))
    go (suc zero) h e = refl
    go (suc (suc a)) h e = absurd (omega arith)

-- a bit that is left without the mask was left before
still_one : (a b : ℕ) → a < 2 → b < 2 → min a b ≡ b → (a + b) % 2 ≡ 1 → a ≡ 1
still_one zero zero h j e f = absurd (omega (arith, f))
still_one zero (suc zero) h j e f = absurd (omega (arith, e))
still_one zero (suc (suc b)) h j e f = absurd (omega arith)
still_one (suc zero) b h j e f = refl
still_one (suc (suc a)) b h j e f = absurd (omega arith)

both_bits : (left mask k : ℕ) → bit_and left mask ≡ mask → min (bit_at left k) (bit_at mask k) ≡ bit_at mask k
both_bits left mask k e = sym (bit_at_and left mask k) ∙ ap (λ n. bit_at n k) e

abbrev Within : ℕ → ℕ → Type 0
Within left bits = (k : ℕ) → bit_at left k ≡ 1 → bit_at bits k ≡ 1

one_row : (set : Expected) (left : ℕ) (row : ℕ × List ℕ) (rows : Names) → Within left set.bits
    → ((next : ℕ) → Within next set.bits → NamesOnly set next rows) → NamesOnly set left (row ∷ rows)
one_row set left row rows within more = go (bit_and left row.0 == row.0) refl
  where
    go : (b : Bool) → (bit_and left row.0 == row.0) ≡ b
        → (b ≡ true → (class : SignClass) → bit_at row.0 (code class) ≡ 1 → holds set class ≡ true)
        × NamesOnly set (if b then bit_xor left row.0 else left) rows
    go true e =
        let all : bit_and left row.0 ≡ row.0 = eqb-true (bit_and left row.0) row.0 e in (
          λ same class h. ap (λ n. n == 1) (within (code class)
              (left_one (bit_at left (code class)) (bit_at row.0 (code class)) (bit_at-lt left (code class))
              (both_bits left row.0 (code class) all) h)),
          more (bit_xor left row.0) (λ k h. within k
              (still_one (bit_at left k) (bit_at row.0 k) (bit_at-lt left k) (bit_at-lt row.0 k)
              (both_bits left row.0 k all) (sym (bit_at_xor left row.0 k) ∙ h))),
        )
    go false e = (λ h. absurd (both_ways false refl h), more left within)

pub names_only : (set : Expected) (left : ℕ) (rows : Names) → Within left set.bits → NamesOnly set left rows
names_only set left [] within = tt
names_only set left (row ∷ rows) within =
    one_row set left row rows within (λ next h. names_only set next rows h)
