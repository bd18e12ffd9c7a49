-- Functions that find a piece of a form at the start of a text. There is one for each way to make a form.
use Rattle.std.specs.Prelude.{ℕ, Bool, ◌≡◌, zero, suc, List, [], ◌∷◌}
use Rattle.std.specs.Prelude.{◌++◌, length, Option, Some, None, IfSome, cond, not, ◌==◌}
use Rattle.lexical.specs.Text.{begins_any, first_passes}
use Rattle.lexical.specs.Form.{Form}

-- a piece and the text after it, or none
abbrev pub Answer : Type 0
Answer = Option (List ℕ × List ℕ)

-- a function that returns the piece at the start of a text, if there is one
abbrev pub Finder : Type 0
Finder = List ℕ → Answer

-- whether the finder finds every piece of the form, and nothing else
pub record Finds (find : Finder) (A : Form) : Type 0 where
  pub sound : (text : List ℕ) → IfSome (find text) (λ x. (text ≡ x.0 ++ x.1) × A x.0 x.1)
  pub complete : (p r : List ℕ) → A p r → find (p ++ r) ≡ Some (p, r)

-- the longest prefix whose characters all pass
abbrev pub while_front : (ℕ → Bool) → List ℕ → List ℕ
while_front passes [] = []
while_front passes (c ∷ text) = cond (passes c) (c ∷ while_front passes text) []

-- the text after the longest prefix whose characters all pass
abbrev pub while_rest : (ℕ → Bool) → List ℕ → List ℕ
while_rest passes [] = []
while_rest passes (c ∷ text) = cond (passes c) (while_rest passes text) (c ∷ text)

-- the answer with `front` put before its piece
abbrev pub prepend : List ℕ → Answer → Answer
prepend front None = None
prepend front (Some x) = Some (front ++ x.0, x.1)

-- the answer, continued by what the next finder finds after it. That finder may depend on the piece so far
abbrev pub and_next : (List ℕ → Finder) → Answer → Answer
and_next find None = None
and_next find (Some x) = prepend x.0 (find x.0 x.1)

-- finds a piece of the form `Next`
abbrev pub find_next : Finder → (List ℕ → Finder) → Finder
find_next f g text = and_next g (f text)

-- the answer, continued by what the next finder finds after it
abbrev pub and_find : Finder → Answer → Answer
and_find find = and_next (λ front. find)

-- finds a piece of the form `Then`
abbrev pub find_then : Finder → Finder → Finder
find_then f g = find_next f (λ front. g)

-- the first answer if it has a piece, and otherwise the other one
abbrev pub or_find : Answer → Answer → Answer
or_find None other = other
or_find (Some x) other = Some x

-- what the first finder finds, and otherwise what the second one finds
abbrev pub find_else : Finder → Finder → Finder
find_else f g text = or_find (f text) (g text)

-- what the finder finds if `holds` is true, and otherwise none
abbrev pub find_if : Bool → Finder → Finder
find_if holds f text = cond holds (f text) None

-- finds a piece of the form `NotAt`
abbrev pub find_not_at : List (List ℕ) → Finder → Finder
find_not_at fronts f text = cond (begins_any fronts text) None (f text)

-- the answer if its piece and the text after it pass the test, and otherwise none
abbrev pub if_passes : (List ℕ → List ℕ → Bool) → Answer → Answer
if_passes test None = None
if_passes test (Some x) = cond (test x.0 x.1) (Some x) None

-- what the finder finds if the piece and the text after it pass the test
abbrev pub find_where : (List ℕ → List ℕ → Bool) → Finder → Finder
find_where test f text = if_passes test (f text)

-- finds a piece of the form `NotBefore`
abbrev pub find_not_before : (ℕ → Bool) → Finder → Finder
find_not_before passes = find_where (λ p r. not (first_passes passes r))

-- finds a piece of the form `One`
abbrev pub find_one : (ℕ → Bool) → Finder
find_one passes [] = None
find_one passes (c ∷ text) = cond (passes c) (Some (c ∷ [], text)) None

-- finds the piece of the form `Run`
abbrev pub find_run : (ℕ → Bool) → Finder
find_run passes text = Some (while_front passes text, while_rest passes text)

-- finds a piece of the form `Exactly`
abbrev pub find_text : List ℕ → Finder
find_text [] text = Some ([], text)
find_text (c ∷ front) text = find_then (find_one (λ d. d == c)) (find_text front) text

-- the piece of the answer followed by what `go` finds after it, and the text after both. Without a piece it is the
-- empty text and `text`
abbrev pub or_stop : List ℕ → (List ℕ × List ℕ → List ℕ × List ℕ) → Answer → List ℕ × List ℕ
or_stop text go None = ([], text)
or_stop text go (Some x) = let more = go x in (x.0 ++ more.0, more.1)

-- the pieces that the finder finds one after another, at most n of them, and the text after them
abbrev pub some_of : Finder → ℕ → List ℕ → List ℕ × List ℕ
some_of f zero text = ([], text)
some_of f (suc n) text = or_stop text (λ x. some_of f n x.1) (f text)

-- finds pieces of a form one after another, as long as there is one
unfoldable pub find_many : Finder → Finder
find_many f text = Some (some_of f (length text) text)
