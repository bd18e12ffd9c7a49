-- How many decimal digits a number has.
use Rattle.std.proofs.Common.{◌≡◌, ℕ, zero, suc, ◌+◌, ◌*◌, ◌/◌, ◌%◌, ◌^◌, ◌<◌, ◌≤◌, List, [], ◌∷◌, ◌++◌, length, arith}
use Rattle.std.proofs.Common.{length-append}
use Rattle.std.specs.Fmt.{decimal}
use Rattle.std.proofs.lemmas.Fmt.{decimal_by_steps, length-decimal-le}

some : (k : ℕ) → 1 ≤ 10 ^ k
some zero = omega arith
some (suc k) = omega (arith, some k)

-- a number that reaches a power of ten has more digits than its exponent
reaches : (n : ℕ) → n < 2 ^ 64 → (k : ℕ) → 10 ^ k ≤ n → k < length (decimal n)
reaches = decimal_by_steps (λ m digits. (k : ℕ) → 10 ^ k ≤ m → k < length digits) one more
  where
    one : (m : ℕ) → m < 10 → (k : ℕ) → 10 ^ k ≤ m → k < 1
    one m small zero h = omega arith
    one m small (suc k) h = absurd (omega (arith, some k))

    more : (m : ℕ) (digits : List ℕ) → 10 ≤ m → ((k : ℕ) → 10 ^ k ≤ m / 10 → k < length digits)
        → (k : ℕ) → 10 ^ k ≤ m → k < length (digits ++ (48 + m % 10) ∷ [])
    more m digits large h zero fits = omega (arith, length-append digits ((48 + m % 10) ∷ []))
    more m digits large h (suc k) fits =
        omega (arith, length-append digits ((48 + m % 10) ∷ []), h k (omega arith))

pub digits_count : (n k : ℕ) → n < 2 ^ 64 → 10 ^ k ≤ n → n < 10 * 10 ^ k → k + 1 ≡ length (decimal n)
digits_count n k small reached below =
    omega (arith, reaches n small k reached, length-decimal-le (suc k) n (omega arith) (omega arith) small)
