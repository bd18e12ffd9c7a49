-- Line starts give the line and the column of an offset.
use Rattle.std.proofs.Common.{◌≡◌, ℕ, zero, suc, ◌+◌, ◌-◌, ◌<◌, ◌≤◌, true, false, cond, not, List, [], ◌∷◌, ◌++◌}
use Rattle.std.proofs.Common.{length, get_or, take, drop, reverse, refl, sym, ap, ap₂, ◌∙◌, arith, length-append}
use Rattle.std.proofs.Common.{append-nil, inl, inr}
use Rattle.std.specs.Prelude.{count_by, take_while}
use Rattle.std.specs.List.{All}
use Rattle.std.specs.List.Sorted.{IsNonDecreasing}
use Rattle.std.proofs.lemmas.Bool.{cases_lt}
use Rattle.std.proofs.lemmas.List.{length-take-le, take_more, reverse-append, get_or_append_left, get_or-append-add}
use Rattle.std.proofs.lemmas.List.{get_or_push, length_push, take-append-drop}
use Rattle.std.proofs.lemmas.List.Elements.{All-nil, All-cons, All-weaker}
use Rattle.std.proofs.lemmas.List.Sums.{sum_by-cons, take_while-cons}
use Rattle.pm_span.specs.LineIndex.{after_line_feeds_from, after_line_feeds}
use Rattle.pm_span.specs.CharOffset.{is_line_feed, column, line_column}
use Rattle.pm_span.specs.declared.location.LineColumn.{LineColumn}

pub after_line_feeds_from-append :
    (k : ℕ) (xs ys : List ℕ)
    → after_line_feeds_from k (xs ++ ys) ≡ after_line_feeds_from k xs ++ after_line_feeds_from (k + length xs) ys
after_line_feeds_from-append k [] ys = ap (λ n. after_line_feeds_from n ys) (omega arith)
after_line_feeds_from-append k (c ∷ xs) ys =
    let more : after_line_feeds_from (k + 1) (xs ++ ys) ≡ after_line_feeds_from (k + 1) xs
    ++ after_line_feeds_from (k + length (c ∷ xs)) ys =
    after_line_feeds_from-append (k + 1) xs ys
    ∙ ap (λ n. after_line_feeds_from (k + 1) xs ++ after_line_feeds_from n ys) (omega arith) in
    elim (is_line_feed c) as
    (λ b. cond b ((k + 1) ∷ after_line_feeds_from (k + 1) (xs ++ ys))
    (after_line_feeds_from (k + 1) (xs ++ ys)) ≡ cond b ((k + 1) ∷ after_line_feeds_from (k + 1) xs)
    (after_line_feeds_from (k + 1) xs) ++ after_line_feeds_from (k + length (c ∷ xs)) ys) [
      | true ↦ ap (λ starts. (k + 1) ∷ starts) more
      | false ↦ more
    ]

-- one more character is read
pub after_line_feeds-push :
    (xs : List ℕ) (c : ℕ)
    → after_line_feeds (xs ++ c ∷ []) ≡ after_line_feeds xs ++ cond (is_line_feed c) ((length xs + 1) ∷ []) []
after_line_feeds-push xs c =
    after_line_feeds_from-append 0 xs (c ∷ [])
    ∙ ap (λ n. after_line_feeds xs ++ cond (is_line_feed c) ((n + 1) ∷ []) []) (omega arith)

-- whether the offset is past k, by at most n characters
abbrev IsWithin : ℕ → ℕ → ℕ → Type 0
IsWithin k n start = (k < start) × (start ≤ k + n)

-- each line start is in the text, and past its start
after_line_feeds_from-within : (k : ℕ) (text : List ℕ) → All (IsWithin k (length text)) (after_line_feeds_from k text)
after_line_feeds_from-within k [] = All-nil (IsWithin k 0)
after_line_feeds_from-within k (c ∷ text) =
    let more : All (IsWithin k (length (c ∷ text))) (after_line_feeds_from (k + 1) text) =
    All-weaker (IsWithin (k + 1) (length text)) (IsWithin k (length (c ∷ text)))
    (λ start h. (omega arith, omega arith)) _ (after_line_feeds_from-within (k + 1) text) in
    elim (is_line_feed c) as
    (λ b. All (IsWithin k (length (c ∷ text)))
    (cond b ((k + 1) ∷ after_line_feeds_from (k + 1) text) (after_line_feeds_from (k + 1) text))) [
      | true ↦ All-cons (IsWithin k (length (c ∷ text))) (k + 1) _ (omega arith, omega arith) more
      | false ↦ more
    ]

-- there is one line start for each line feed
pub length-after_line_feeds_from : (k : ℕ) (text : List ℕ)
    → length (after_line_feeds_from k text) ≡ count_by is_line_feed text
length-after_line_feeds_from k [] = refl
length-after_line_feeds_from k (c ∷ text) =
    rw (sum_by-cons (λ x. cond (is_line_feed x) 1 0) c text, ← length-after_line_feeds_from (k + 1) text)
    (elim (is_line_feed c) as
    (λ b. length (cond b ((k + 1) ∷ after_line_feeds_from (k + 1) text) (after_line_feeds_from (k + 1) text))
    ≡ cond b 1 0 + length (after_line_feeds_from (k + 1) text)) [
      | true ↦ omega arith
      | false ↦ omega arith
    ])

-- the line starts in the first k characters, and in the rest
split : (text : List ℕ) (k : ℕ) → k ≤ length text
    → after_line_feeds text ≡ after_line_feeds (take k text) ++ after_line_feeds_from k (drop k text)
split text k h =
    ap after_line_feeds (sym (take-append-drop k text))
    ∙ (after_line_feeds_from-append 0 (take k text) (drop k text)
    ∙ ap (λ n. after_line_feeds (take k text) ++ after_line_feeds_from n (drop k text))
    (omega (arith, length-take-le k text h)))

-- the number of line feeds before an offset is the number of line starts at or before it
pub line_feeds_before :
    (text : List ℕ) (k n : ℕ) → k ≤ length text → n ≤ length (after_line_feeds text)
    → ((j : ℕ) → j < n → get_or (after_line_feeds text) j 0 ≤ k)
    → ((j : ℕ) → n ≤ j → j < length (after_line_feeds text) → k < get_or (after_line_feeds text) j 0)
    → count_by is_line_feed (take k text) ≡ n
line_feeds_before text k n within bound below above =
    let front = after_line_feeds (take k text) in
    let rest = after_line_feeds_from k (drop k text) in
    let whole : after_line_feeds text ≡ front ++ rest = split text k within in
    let long : length (after_line_feeds text) ≡ length front + length rest = ap length whole
    ∙ length-append front rest in
    let counts : length front ≡ count_by is_line_feed (take k text) = length-after_line_feeds_from 0 (take k text) in
    elim (cases_lt (length front) n) [
      | inl less ↦
          let here : get_or (after_line_feeds text) (length front) 0 ≡ get_or rest 0 0 =
          ap (λ xs. get_or xs (length front) 0) whole
          ∙ (ap (λ i. get_or (front ++ rest) i 0) (omega arith) ∙ get_or-append-add front rest 0 0) in
          let past = after_line_feeds_from-within k (drop k text) 0 0 (omega arith) in
          absurd (omega (arith, below (length front) less, past.0))
      | inr more ↦ elim (cases_lt n (length front)) [
        | inl less ↦
            let here : get_or (after_line_feeds text) n 0 ≡ get_or front n 0 =
            ap (λ xs. get_or xs n 0) whole ∙ get_or_append_left front rest 0 n less in
            let past = after_line_feeds_from-within 0 (take k text) n 0 less in
            absurd (omega (arith, above n (omega arith) (omega arith), past.1, length-take-le k text within))
        | inr same ↦ omega arith
      ]
    ]

-- the last line start, or the start of the text
abbrev pub last_start : List ℕ → ℕ
last_start starts = get_or starts (length starts - 1) 0

-- the characters after the last line feed
abbrev last_line : List ℕ → List ℕ
last_line front = take_while (λ c. not (is_line_feed c)) (reverse front)

last_line-push : (front : List ℕ) (c : ℕ)
    → last_line (front ++ c ∷ []) ≡ cond (not (is_line_feed c)) (c ∷ last_line front) []
last_line-push front c =
    ap (take_while (λ c. not (is_line_feed c))) (reverse-append front (c ∷ []))
    ∙ take_while-cons (λ c. not (is_line_feed c)) c (reverse front)

length-last_line-push :
    (front : List ℕ) (c : ℕ) → length (last_line front) + last_start (after_line_feeds front) ≡ length front
    → length (last_line (front ++ c ∷ [])) + last_start (after_line_feeds (front ++ c ∷ [])) ≡ length front + 1
length-last_line-push front c h =
    rw (last_line-push front c, after_line_feeds-push front c)
    (elim (is_line_feed c) as
    (λ b. length (cond (not b) (c ∷ last_line front) []) + last_start
    (after_line_feeds front ++ cond b ((length front + 1) ∷ []) [])
    ≡ length front + 1) [
      | true ↦
          let starts = after_line_feeds front ++ (length front + 1) ∷ [] in
          let last : get_or starts (length starts - 1) 0 ≡ length front + 1 =
          get_or_push (after_line_feeds front) (length front + 1) 0 (length starts - 1)
          (omega (arith, length_push (after_line_feeds front) (length front + 1))) in
          omega arith
      | false ↦ rw append-nil (omega arith)
    ])

-- the column is counted from the last line start at or before the offset
pub column_is : (text : List ℕ) (k : ℕ) → k ≤ length text
    → column text k + last_start (after_line_feeds (take k text)) ≡ k
column_is text zero h = refl
column_is text (suc k) h =
    let next : suc k ≡ k + 1 = omega arith in
    let e : take (suc k) text ≡ take k text ++ get_or text k 0 ∷ [] = ap (λ n. take n text) next
    ∙ take_more text k 0 (omega arith) in
    let step = length-last_line-push (take k text) (get_or text k 0)
    (column_is text k (omega arith) ∙ sym (length-take-le k text (omega arith))) in
    ap (λ xs. length (last_line xs) + last_start (after_line_feeds xs)) e
    ∙ (step ∙ omega (arith, length-take-le k text (omega arith)))

rising_cons : (x : ℕ) (xs : List ℕ) → All (λ y. x ≤ y) xs → IsNonDecreasing xs → IsNonDecreasing (x ∷ xs)
rising_cons x xs least h zero zero d le less = omega arith
rising_cons x xs least h zero (suc j) d le less = least j d (omega arith)
rising_cons x xs least h (suc i) zero d le less = absurd (omega arith)
rising_cons x xs least h (suc i) (suc j) d le less = h i j d (omega arith) (omega arith)

-- the line starts ascend
pub after_line_feeds_from-rising : (k : ℕ) (text : List ℕ) → IsNonDecreasing (after_line_feeds_from k text)
after_line_feeds_from-rising k [] = λ i j d le less. absurd (omega arith)
after_line_feeds_from-rising k (c ∷ text) =
    let more : IsNonDecreasing (after_line_feeds_from (k + 1) text) = after_line_feeds_from-rising (k + 1) text in
    let least : All (λ start. k + 1 ≤ start) (after_line_feeds_from (k + 1) text) =
    All-weaker (IsWithin (k + 1) (length text)) (λ start. k + 1 ≤ start) (λ start h. omega arith) _
    (after_line_feeds_from-within (k + 1) text) in
    elim (is_line_feed c) as (λ b. IsNonDecreasing
    (cond b ((k + 1) ∷ after_line_feeds_from (k + 1) text) (after_line_feeds_from (k + 1) text))) [
      | true ↦ rising_cons (k + 1) _ least more
      | false ↦ more
    ]

abbrev pair_of : ℕ → ℕ → LineColumn
pair_of l c = record { line = l; column = c }

-- the line and column follow from the number of line starts at or before the offset
pub line_column_found :
    (text : List ℕ) (k n start : ℕ) → k ≤ length text → n ≤ length (after_line_feeds text)
    → ((j : ℕ) → j < n → get_or (after_line_feeds text) j 0 ≤ k)
    → ((j : ℕ) → n ≤ j → j < length (after_line_feeds text) → k < get_or (after_line_feeds text) j 0)
    → start ≡ get_or (0 ∷ after_line_feeds text) n 0
    → (start ≤ k) × (line_column text k ≡ record { line = n + 1; column = k - start })
line_column_found text k n start within bound below above is =
    let counts : count_by is_line_feed (take k text) ≡ n = line_feeds_before text k n within bound below above in
    let front = after_line_feeds (take k text) in
    let rest = after_line_feeds_from k (drop k text) in
    let size : length front ≡ n = length-after_line_feeds_from 0 (take k text) ∙ counts in
    let last : start ≡ last_start front = is
    ∙ (ap (λ starts. get_or (0 ∷ starts) n 0) (split text k within) ∙ last_of front rest n size) in
    let col = column_is text k within in
    (omega arith, ap₂ pair_of (omega arith) (omega arith))
  where
    last_of : (front rest : List ℕ) (n : ℕ) → length front ≡ n → get_or (0 ∷ (front ++ rest)) n 0 ≡ last_start front
    last_of [] rest zero e = refl
    last_of [] rest (suc n) e = absurd (omega arith)
    last_of (x ∷ front) rest zero e = absurd (omega arith)
    last_of (x ∷ front) rest (suc n) e =
        let i : n ≡ length (x ∷ front) - 1 = omega arith in
        get_or_append_left (x ∷ front) rest 0 n (omega arith) ∙ ap (λ j. get_or (x ∷ front) j 0) i
