-- Which candidates are calls by what is open, and what a tree changes of that.
use Rattle.std.proofs.Common.{◌≡◌, ℕ, zero, suc, ◌+◌, ◌-◌, ◌^◌, ◌<◌, ◌≤◌, ◌==◌, Bool, true, false, not, ◌&&◌, ◌||◌}
use Rattle.std.proofs.Common.{List, [], ◌∷◌, ◌++◌, length, reverse, Option, Some, None, refl, sym, ap, ◌∙◌, arith}
use Rattle.std.proofs.Common.{if◌then◌else◌, ne_eqb, length-append, get_or, subst}
use Rattle.std.proofs.Math.ListN.{set}
use Rattle.std.proofs.lemmas.Bool.{lt-ltb}
use Rattle.std.proofs.lemmas.List.{reverse-append}
use Rattle.std.specs.Option.{option_to_list}
use Rattle.lexical.specs.Token.{Token}
use Rattle.pm_token.specs.declared.delimiters.Delimiter.{Delimiter}
use Rattle.pm_span.specs.Extent.{Extent}
use Rattle.pm_stream.specs.Forest.{Forest, nil, leaf, group}
use Rattle.token_buffer.specs.Arguments.{begins_arrow}
use Rattle.token_buffer.specs.Arguments.{is_token_mark, past_arguments}
use Rattle.token_buffer.specs.Reads.{left}
use Rattle.find_calls.specs.Calls.{has_arguments, has_arguments_there}
use Rattle.find_calls.specs.declared.calls.Candidate.{Candidate}
use Rattle.find_calls.specs.declared.calls.Open.{Open}
use Rattle.find_calls.specs.declared.calls.Open.TheVariants.{Group, Angle}
use Rattle.find_calls.specs.Opened.{put, call_spans, as_call, mark, close_angle, resolve, AreBelow}

-- ---- candidates

pub put_if : (is : Bool) (span : Extent) (xs : List Extent)
    → option_to_list (if is then Some span else None) ++ xs ≡ put is span xs
put_if true span xs = refl
put_if false span xs = refl

pub put-append : (is : Bool) (span : Extent) (xs ys : List Extent) → put is span xs ++ ys ≡ put is span (xs ++ ys)
put-append true span xs ys = refl
put-append false span xs ys = refl

pub kept-append : (xs ys : List Candidate) → call_spans (xs ++ ys) ≡ call_spans xs ++ call_spans ys
kept-append [] ys = refl
kept-append (x ∷ xs) ys =
    ap (put x.is_call x.span) (kept-append xs ys) ∙ sym (put-append x.is_call x.span (call_spans xs) (call_spans ys))

called-append : (k : ℕ) (xs ys : List Candidate) → k < length xs → as_call k (xs ++ ys) ≡ as_call k xs ++ ys
called-append k [] ys h = absurd (omega arith)
called-append zero (x ∷ xs) ys h = refl
called-append (suc k) (x ∷ xs) ys h = ap (λ zs. x ∷ zs) (called-append k xs ys (omega arith))

called-last : (xs : List Candidate) (x : Candidate)
    → as_call (length xs) (xs ++ (x ∷ [])) ≡ xs ++ (record { span = x.span; is_call = true } ∷ [])
called-last [] x = refl
called-last (y ∷ xs) x = ap (λ zs. y ∷ zs) (called-last xs x)

called-length : (k : ℕ) (xs : List Candidate) → length (as_call k xs) ≡ length xs
called-length k [] = refl
called-length zero (x ∷ xs) = refl
called-length (suc k) (x ∷ xs) = ap suc (called-length k xs)

mark-append : (k : ℕ) (is : Bool) (xs ys : List Candidate) → k < length xs → mark k is (xs ++ ys) ≡ mark k is xs ++ ys
mark-append k true xs ys h = called-append k xs ys h
mark-append k false xs ys h = refl

pub mark-length : (k : ℕ) (is : Bool) (xs : List Candidate) → length (mark k is xs) ≡ length xs
mark-length k true xs = called-length k xs
mark-length k false xs = refl

pub mark-last : (xs : List Candidate) (span : Extent) (is : Bool)
    → mark (length xs) is (xs ++ (record { span = span; is_call = false } ∷ []))
    ≡ xs ++ (record { span = span; is_call = is } ∷ [])
mark-last xs span true = called-last xs (record { span = span; is_call = false })
mark-last xs span false = refl

pub called-set : (k : ℕ) (xs : List Candidate) (one : Candidate) → k < length xs → one ≡ get_or xs k one
    → set xs k (record { span = one.span; is_call = true }) ≡ as_call k xs
called-set k [] one h is = absurd (omega arith)
called-set zero (x ∷ xs) one h is = ap (λ (o : Candidate). record { span = o.span; is_call = true } ∷ xs) is
called-set (suc k) (x ∷ xs) one h is = ap (λ zs. x ∷ zs) (called-set k xs one (omega arith) is)

pub called-past : (k : ℕ) (xs : List Candidate) → (k < length xs → ⊥) → xs ≡ as_call k xs
called-past k [] h = refl
called-past zero (x ∷ xs) h = absurd (h (omega arith))
called-past (suc k) (x ∷ xs) h = ap (λ zs. x ∷ zs) (called-past k xs (λ less. h (omega arith)))

-- ---- what is open

pub reverse-last : {A : Type 0} (xs : List A) (x : A) → reverse (xs ++ (x ∷ [])) ≡ x ∷ reverse xs
reverse-last xs x = reverse-append xs (x ∷ [])

below-more : (n m : ℕ) (opened : List Open) → n ≤ m → AreBelow n opened → AreBelow m opened
below-more n m [] h below = tt
below-more n m (Group after ∷ outer) h below = below-more n m outer h below
below-more n m (Angle None ∷ outer) h below = below-more n m outer h below
below-more n m (Angle (Some k) ∷ outer) h below =
    let fits : k < m = omega (arith, below.0) in (fits, below-more n m outer h below.1)

pub below-append : (xs ys : List Candidate) (opened : List Open) → AreBelow (length xs) opened
    → AreBelow (length (xs ++ ys)) opened
below-append xs ys opened h = below-more (length xs) (length (xs ++ ys)) opened (omega (arith, length-append xs ys)) h

pub below-outer : (n : ℕ) (opens : Option ℕ) (outer : List Open) → AreBelow n (Angle opens ∷ outer) → AreBelow n outer
below-outer n None outer h = h
below-outer n (Some k) outer h = h.1

-- another candidate at the end changes none of the others
pub resolve-append : (depth : ℕ) (arrow : Bool) (here : Forest) (opened : List Open) (slots more : List Candidate)
    → AreBelow (length slots) opened
    → resolve depth arrow here opened (slots ++ more) ≡ resolve depth arrow here opened slots ++ more
resolve-append depth arrow here [] slots more below = refl
resolve-append depth arrow here (Group after ∷ outer) slots more below =
    resolve-append 0 false (left after) outer slots more below
resolve-append depth arrow here (Angle None ∷ outer) slots more below =
    resolve-append (suc depth) arrow here outer slots more below
resolve-append depth arrow here (Angle (Some k) ∷ outer) slots more below =
    let is : Bool = has_arguments_there (past_arguments depth arrow here) in
    ap (resolve (suc depth) arrow here outer) (mark-append k is slots more below.0)
    ∙ resolve-append (suc depth) arrow here outer (mark k is slots) more
    (subst (λ n. AreBelow n outer) (sym (mark-length k is slots)) below.1)

-- generic arguments end at the same trees, whichever of the two is read
abbrev Agree : ℕ → ℕ → Bool → Bool → Forest → Forest → Type 0
Agree d e a b f g = (n : ℕ) → past_arguments (n + d) a f ≡ past_arguments (n + e) b g

agree-suc : (d e : ℕ) (a b : Bool) (f g : Forest) → Agree d e a b f g → Agree (suc d) (suc e) a b f g
agree-suc d e a b f g h n =
    let left_is : n + suc d ≡ suc n + d = omega arith in
    let right_is : suc n + e ≡ n + suc e = omega arith in
    ap (λ m. past_arguments m a f) left_is ∙ (h (suc n) ∙ ap (λ m. past_arguments m b g) right_is)

pub resolve-agree : (d e : ℕ) (a b : Bool) (f g : Forest) (opened : List Open) (slots : List Candidate)
    → Agree d e a b f g → resolve d a f opened slots ≡ resolve e b g opened slots
resolve-agree d e a b f g [] slots h = refl
resolve-agree d e a b f g (Group after ∷ outer) slots h = refl
resolve-agree d e a b f g (Angle None ∷ outer) slots h =
    resolve-agree (suc d) (suc e) a b f g outer slots (agree-suc d e a b f g h)
resolve-agree d e a b f g (Angle (Some k) ∷ outer) slots h =
    let left_is : d ≡ 0 + d = omega arith in
    let right_is : 0 + e ≡ e = omega arith in
    let same : past_arguments d a f ≡ past_arguments e b g
    = ap (λ m. past_arguments m a f) left_is ∙ (h 0 ∙ ap (λ m. past_arguments m b g) right_is) in
    ap (λ end. resolve (suc d) a f outer (mark k (has_arguments_there end) slots)) same
    ∙ resolve-agree (suc d) (suc e) a b f g outer (mark k (has_arguments_there (past_arguments e b g)) slots)
    (agree-suc d e a b f g h)

-- ---- one tree

-- whether the token opens or closes generic arguments
abbrev pub is_bracket : Bool → Token → Bool
is_bracket arrow token = is_token_mark 60 token || (is_token_mark 62 token && not arrow)

or_false : (x y : Bool) → (x || y) ≡ false → (x ≡ false) × (y ≡ false)
or_false true y h = (h, absurd (cc))
or_false false y h = (refl, h)

plain-agree : (a : Bool) (token : Token) (lo hi : ℕ) (f : Forest) → is_bracket a token ≡ false
    → Agree 0 0 a (begins_arrow token) (leaf token lo hi f) f
plain-agree a token lo hi f h n =
    let both = or_false (is_token_mark 60 token) (is_token_mark 62 token && not a) h in
    rw (both.0, both.1)

-- a token that opens and closes nothing
pub resolve-plain : (a : Bool) (token : Token) (lo hi : ℕ) (f : Forest) (opened : List Open) (slots : List Candidate)
    → is_bracket a token ≡ false
    → resolve 0 a (leaf token lo hi f) opened slots ≡ resolve 0 (begins_arrow token) f opened slots
resolve-plain a token lo hi f opened slots h =
    resolve-agree 0 0 a (begins_arrow token) (leaf token lo hi f) f opened slots (plain-agree a token lo hi f h)

-- a group
pub resolve-group : (a : Bool) (d : Delimiter) (lo hi : ℕ) (f k : Forest) (opened : List Open) (slots : List Candidate)
    → resolve 0 a (group d lo hi f k) opened slots ≡ resolve 0 false k opened slots
resolve-group a d lo hi f k opened slots =
    resolve-agree 0 0 a false (group d lo hi f k) k opened slots (λ n. refl)

-- the end of a list, where a `<` is still open
pub resolve-unclosed : (a : Bool) (opens : Option ℕ) (opened : List Open) (slots : List Candidate)
    → resolve 0 a nil (Angle opens ∷ opened) slots ≡ resolve 0 a nil opened slots
resolve-unclosed a None opened slots = resolve-agree 1 0 a a nil nil opened slots (λ n. refl)
resolve-unclosed a (Some k) opened slots = resolve-agree 1 0 a a nil nil opened slots (λ n. refl)

-- a `<` inside of others
pub resolve-opens : (d : ℕ) (a : Bool) (token : Token) (lo hi : ℕ) (f : Forest) (opened : List Open)
    (slots : List Candidate) → is_token_mark 60 token ≡ true → d + length opened < 2 ^ 32
    → resolve d a (leaf token lo hi f) opened slots ≡ resolve (suc d) (begins_arrow token) f opened slots
resolve-opens d a token lo hi f [] slots is few = refl
resolve-opens d a token lo hi f (Group after ∷ outer) slots is few = refl
resolve-opens d a token lo hi f (Angle None ∷ outer) slots is few =
    resolve-opens (suc d) a token lo hi f outer slots is (omega arith)
resolve-opens d a token lo hi f (Angle (Some k) ∷ outer) slots is few =
    let one : past_arguments d a (leaf token lo hi f) ≡ past_arguments (suc d) (begins_arrow token) f
    = rw (is, lt-ltb (suc d) (2 ^ 32) (omega arith)) in
    ap (λ end. resolve (suc d) a (leaf token lo hi f) outer (mark k (has_arguments_there end) slots)) one
    ∙ resolve-opens (suc d) a token lo hi f outer
    (mark k (has_arguments_there (past_arguments (suc d) (begins_arrow token) f)) slots) is (omega arith)

closes-agree : (a : Bool) (token : Token) (lo hi : ℕ) (f : Forest) → is_token_mark 60 token ≡ false
    → (is_token_mark 62 token && not a) ≡ true → Agree 1 0 a (begins_arrow token) (leaf token lo hi f) f
closes-agree a token lo hi f opens closes n =
    let more : (n + 1 == 0) ≡ false = ne_eqb (n + 1) 0 (λ clash. omega (arith, clash)) in
    let less : n + 1 - 1 ≡ n + 0 = omega arith in
    rw (opens, closes, more, less)

-- a `>` that closes the innermost one
pub resolve-closes : (a : Bool) (token : Token) (lo hi : ℕ) (f : Forest) (opens : Option ℕ) (opened : List Open)
    (slots : List Candidate) → is_token_mark 60 token ≡ false → (is_token_mark 62 token && not a) ≡ true
    → resolve 0 a (leaf token lo hi f) (Angle opens ∷ opened) slots
    ≡ resolve 0 (begins_arrow token) f opened (close_angle opens f slots)
resolve-closes a token lo hi f None opened slots opens closes =
    resolve-agree 1 0 a (begins_arrow token) (leaf token lo hi f) f opened slots (closes-agree a token lo hi f opens
    closes)
resolve-closes a token lo hi f (Some k) opened slots opens closes =
    let end : past_arguments 0 a (leaf token lo hi f) ≡ Some f = rw (opens, closes) in
    ap (λ o. resolve 1 a (leaf token lo hi f) opened (mark k (has_arguments_there o) slots)) end
    ∙ resolve-agree 1 0 a (begins_arrow token) (leaf token lo hi f) f opened (mark k (has_arguments f) slots)
    (closes-agree a token lo hi f opens closes)
