-- Sets of signs.
use Rattle.std.proofs.Common.{◌≡◌, refl, sym, ◌∙◌, ap, subst, eqb-true, nat_lt, ℕ, zero, suc, ◌<◌, ◌≤◌, ◌^◌, ◌*◌, ◌%◌}
use Rattle.std.proofs.Common.{◌==◌, ◌&&◌, ◌||◌, Bool, true, false, List, [], ◌∷◌, ◌++◌, arith}
use Rattle.std.proofs.Common.{◌+◌, bit_and, bit_or, get_or, length, max, take}
use Rattle.std.proofs.lemmas.Bool.{eqb-false}
use Rattle.std.proofs.lemmas.Bool.Decides.{nat_tests}
use Rattle.std.proofs.lemmas.List.{take_all, take_more}
use Rattle.std.proofs.lemmas.Nat.Bits.{bit_at-lt, bit_at_or, bit_at_clear_other, bit_at_clear_same, bit_at_set_other}
use Rattle.std.proofs.lemmas.Nat.Bits.{bit_at_set_same}
use Rattle.std.specs.Int.{w128, bit_at}
use Rattle.item_tables.specs.declared.class.SignClass.{SignClass}
use Rattle.declarations.specs.declared.expected.Expected.{Expected}
use Rattle.declarations.specs.Expected.{HasSigns, holds, holds_end}
use Rattle.item_tables.specs.Classes.{any_of, classes, code, is}
use Rattle.declarations.proofs.ClassLemmas.{every_holds, same_class}

-- ---- bits

either_bit : (a b : ℕ) → a < 2 → b < 2 → (max a b == 1) ≡ ((a == 1) || (b == 1))
either_bit zero zero h j = refl
either_bit zero (suc zero) h j = refl
either_bit (suc zero) zero h j = refl
either_bit (suc zero) (suc zero) h j = refl
either_bit (suc (suc a)) b h j = absurd (omega arith)
either_bit a (suc (suc b)) h j = absurd (omega arith)

bit_or_is : (x y k : ℕ) → (bit_at (bit_or x y) k == 1) ≡ ((bit_at x k == 1) || (bit_at y k == 1))
bit_or_is x y k =
    ap (λ n. n == 1) (bit_at_or x y k) ∙ either_bit (bit_at x k) (bit_at y k) (bit_at-lt x k) (bit_at-lt y k)

pub joined : (a b : Expected) → HasSigns (record { bits = bit_or a.bits b.bits })
    (λ class. holds a class || holds b class)
    (holds_end a || holds_end b)
joined a b = record {
  classes = λ class. bit_or_is a.bits b.bits (code class);
  end = bit_or_is a.bits b.bits 127;
}

-- the number of each class is less than that of the end
code_small : (c : SignClass) → code c < 127
code_small c = grind (arith, nat_tests, every_holds (λ x. nat_lt (code x) 127) refl c)

set_bit : (n k i : ℕ) → k < 128
    → (bit_at (bit_or n (1 * 2 ^ k % 340282366920938463463374607431768211456)) i == 1) ≡ ((k == i) || (bit_at n i == 1))
set_bit n k i h = go (k == i) refl
  where
    go : (b : Bool) → (k == i) ≡ b
        → (bit_at (bit_or n (1 * 2 ^ k % 340282366920938463463374607431768211456)) i == 1) ≡ (b || (bit_at n i == 1))
    go true e =
        let same : k ≡ i = eqb-true k i e in
        subst (λ j. (bit_at (bit_or n (1 * 2 ^ k % 340282366920938463463374607431768211456)) j == 1) ≡ true) same
        (ap (λ m. m == 1) (bit_at_set_same w128 n k h))
    go false e = ap (λ m. m == 1) (bit_at_set_other w128 n k h i (λ same. eqb-false k i e (sym same)))

pub with_class : (set : Expected) (class : SignClass)
    → HasSigns (record { bits = bit_or set.bits (1 * 2 ^ code class % 340282366920938463463374607431768211456) })
    (λ other. is class other || holds set other) (holds_end set)
with_class set class = record {
  classes = λ other. set_bit set.bits (code class) (code other) (omega (arith, code_small class));
  end = set_bit set.bits (code class) 127 (omega (arith, code_small class)) ∙ other_end (code class) (code_small class);
}
  where
    other_end : (k : ℕ) → k < 127 → ((k == 127) || (bit_at set.bits 127 == 1)) ≡ holds_end set
    other_end k h = go (k == 127) refl
      where
        go : (b : Bool) → (k == 127) ≡ b → (b || (bit_at set.bits 127 == 1)) ≡ (bit_at set.bits 127 == 1)
        go true e = let same : k ≡ 127 = eqb-true k 127 e in absurd (omega arith)
        go false e = refl

pub with_the_end : (set : Expected)
    → HasSigns (record { bits = bit_or set.bits 170141183460469231731687303715884105728 }) (holds set) true
with_the_end set = record {
  classes = λ class. set_bit set.bits 127 (code class) (omega arith) ∙ other_class (code class) (code_small class);
  end = set_bit set.bits 127 127 (omega arith);
}
  where
    other_class : (k : ℕ) → k < 127 → ((127 == k) || (bit_at set.bits k == 1)) ≡ (bit_at set.bits k == 1)
    other_class k h = go (127 == k) refl
      where
        go : (b : Bool) → (127 == k) ≡ b → (b || (bit_at set.bits k == 1)) ≡ (bit_at set.bits k == 1)
        go true e = let same : 127 ≡ k = eqb-true 127 k e in absurd (omega arith)
        go false e = refl

pub without_the_end : (set : Expected)
    → HasSigns (record { bits = bit_and set.bits 170141183460469231731687303715884105727 }) (holds set) false
without_the_end set = record {
  classes = λ class.
      ap (λ m. m == 1)
      (bit_at_clear_other w128 set.bits 127 (omega arith) (code class) (omega (arith, code_small class))
      (λ same. let small = code_small class in omega arith));
  end = ap (λ m. m == 1) (bit_at_clear_same w128 set.bits 127 (omega arith));
}

-- ---- all classes that pass a test

any-snoc : (p : SignClass → Bool) (xs : List SignClass) (x : SignClass) → any_of p (xs ++ x ∷ []) ≡ (p x || any_of p xs)
any-snoc p [] x = go (p x)
  where
    go : (b : Bool) → (b || false) ≡ (b || false)
    go b = refl
any-snoc p (y ∷ xs) x = ap (λ b. p y || b) (any-snoc p xs x) ∙ swap (p y) (p x) (any_of p xs)
  where
    swap : (a b c : Bool) → (a || (b || c)) ≡ (b || (a || c))
    swap true true c = refl
    swap true false c = refl
    swap false b c = refl

any_same : (p : SignClass → Bool) (c : SignClass) (xs : List SignClass)
    → any_of (λ x. is x c && p x) xs ≡ (any_of (λ x. is x c) xs && p c)
any_same p c [] = refl
any_same p c (x ∷ xs) = rw (any_same p c xs) (go (is x c) refl)
  where
    go : (b : Bool) → is x c ≡ b
        → ((b && p x) || (any_of (λ x. is x c) xs && p c)) ≡ ((b || any_of (λ x. is x c) xs) && p c)
    go true e =
        subst (λ d. (p x || (any_of (λ y. is y c) xs && d)) ≡ d) (ap p (sym (same_class x c e)))
        (both (p x) (any_of (λ y. is y c) xs))
      where
        both : (a b : Bool) → (a || (b && a)) ≡ a
        both true b = refl
        both false true = refl
        both false false = refl
    go false e = refl

-- the classes of the whole list that pass the test are those that pass it
pub any_class : (p : SignClass → Bool) (c : SignClass) → any_of (λ x. is x c && p x) classes ≡ p c
any_class p c = any_same p c classes ∙ rw (every_holds (λ d. any_of (λ x. is x d) classes) refl c) refl

-- the set of those classes of the whole list that pass the test
pub all_steps : (p : SignClass → Bool) (set : Expected)
    → HasSigns set (λ class. any_of (λ x. is x class && p x) classes) false
    → HasSigns set p false
all_steps p set s = record { classes = λ c. s.classes c ∙ any_class p c; end = s.end }

-- ---- the classes so far that pass a test

-- the set has those of the first `n` classes that pass
abbrev SoFar : (SignClass → Bool) → List SignClass → ℕ → Expected → Type 0
SoFar p xs n set = HasSigns set (λ c. any_of (λ y. is y c && p y) (take n xs)) false

one_more : (p : SignClass → Bool) (xs : List SignClass) (n : ℕ) (d c : SignClass) (b : Bool) → n < length xs
    → p (get_or xs n d) ≡ b
    → any_of (λ y. is y c && p y) (take (n + 1) xs)
    ≡ ((is (get_or xs n d) c && b) || any_of (λ y. is y c && p y) (take n xs))
one_more p xs n d c b h e =
    ap (any_of (λ y. is y c && p y)) (take_more xs n d h)
    ∙ (any-snoc (λ y. is y c && p y) (take n xs) (get_or xs n d)
    ∙ ap (λ x. (is (get_or xs n d) c && x) || any_of (λ y. is y c && p y) (take n xs)) e)

-- one more class passes the test
pub so_far_with : (p : SignClass → Bool) (xs : List SignClass) (n : ℕ) (d : SignClass) (found made set : Expected)
    → n < length xs → p (get_or xs n d) ≡ true → SoFar p xs n found
    → HasSigns made (λ c. is (get_or xs n d) c || holds found c) (holds_end found) → set ≡ made
    → SoFar p xs (n + 1) set
so_far_with p xs n d found made set h e f s same = rw same (record {
  classes = λ c.
      s.classes c ∙ (ap (λ b. is (get_or xs n d) c || b) (f.classes c)
      ∙ sym (one_more p xs n d c true h e
      ∙ ap (λ b. b || any_of (λ y. is y c && p y) (take n xs)) (and_true (is (get_or xs n d) c))));
  end = s.end ∙ f.end;
})
  where
    and_true : (b : Bool) → (b && true) ≡ b
    and_true true = refl
    and_true false = refl

-- one more class does not pass the test
pub so_far_without : (p : SignClass → Bool) (xs : List SignClass) (n : ℕ) (d : SignClass) (found set : Expected)
    → n < length xs → p (get_or xs n d) ≡ false → SoFar p xs n found → set ≡ found
    → SoFar p xs (n + 1) set
so_far_without p xs n d found set h e f same = rw same (record {
  classes = λ c.
      f.classes c
      ∙ sym (one_more p xs n d c false h e
      ∙ ap (λ b. b || any_of (λ y. is y c && p y) (take n xs)) (and_false (is (get_or xs n d) c)));
  end = f.end;
})
  where
    and_false : (b : Bool) → (b && false) ≡ false
    and_false true = refl
    and_false false = refl

-- all classes of the list were tested
pub so_far_all : (p : SignClass → Bool) (xs : List SignClass) (n : ℕ) (set : Expected) → length xs ≤ n
    → SoFar p xs n set
    → HasSigns set (λ c. any_of (λ y. is y c && p y) xs) false
so_far_all p xs n set h f = record {
  classes = λ c. f.classes c ∙ ap (any_of (λ y. is y c && p y)) (take_all n xs h);
  end = f.end;
}
