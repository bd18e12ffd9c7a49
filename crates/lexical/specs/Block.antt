-- Block comments, which nest.
use Rattle.std.specs.Prelude.{ℕ, ◌≡◌, zero, suc, List, [], ◌∷◌, ◌++◌, IsFalse, codes, Some, None, if◌then◌else◌}
use Rattle.lexical.specs.Text.{begins_with, begins_any}
use Rattle.lexical.specs.Form.{Form, Then, Exactly}
use Rattle.lexical.specs.Finder.{Finder, prepend}

-- the two signs `/*` and `*/`, with which a block comment begins and ends
abbrev pub block_signs : List (List ℕ)
block_signs = codes "/*" ∷ codes "*/" ∷ []

-- the text inside a block comment: empty, or a block comment and more, or one character and more. Neither sign begins
-- at that character, looked at in the whole text from there on. `after` is the text after the body
pub data BlockBody : List ℕ → List ℕ → Type 0 where
  Empty : {body after : List ℕ} → body ≡ [] → BlockBody body after
  Nested : {body after : List ℕ} (inner more : List ℕ) → body ≡ codes "/*" ++ (inner ++ (codes "*/" ++ more))
      → BlockBody inner (codes "*/" ++ (more ++ after)) → BlockBody more after → BlockBody body after
  Single : {body after : List ℕ} (c : ℕ) (more : List ℕ) → body ≡ c ∷ more
      → IsFalse (begins_any block_signs (c ∷ (more ++ after))) → BlockBody more after → BlockBody body after

-- the sign that ends a block comment, and then, for each comment around it, a body and the sign that ends that one
abbrev pub Closed : ℕ → Form
Closed zero = Exactly (codes "*/")
Closed (suc outer) = Then (Exactly (codes "*/")) (Then BlockBody (Closed outer))

-- the text up to the end of the outermost of this many open block comments
abbrev pub Ends : ℕ → Form
Ends zero = Exactly []
Ends (suc outer) = Then BlockBody (Closed outer)

-- finds, at the start of a text, the text up to the end of the outermost of this many open block comments
unfoldable pub find_ends : ℕ → Finder
find_ends zero text = Some ([], text)
find_ends (suc outer) [] = None
find_ends (suc outer) (c ∷ []) = None
find_ends (suc outer) (c ∷ (d ∷ text)) =
    let closed = prepend (c ∷ d ∷ []) (find_ends outer text) in
    let opened = prepend (c ∷ d ∷ []) (find_ends (suc (suc outer)) text) in
    let passed = prepend (c ∷ []) (find_ends (suc outer) (d ∷ text)) in
    if begins_with (codes "*/") (c ∷ (d ∷ text)) then closed
    else if begins_with (codes "/*") (c ∷ (d ∷ text)) then opened
    else passed
