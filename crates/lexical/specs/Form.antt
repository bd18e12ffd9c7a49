-- Forms of pieces, and the ways to make a form. `p` is a piece of text, and `r` is all the text after it in the source.
use Rattle.std.specs.Prelude.{ℕ, Bool, ◌≡◌, ◌⊎◌, List, [], ◌∷◌, ◌++◌, IsTrue, IsFalse}
use Rattle.std.specs.List.{list_all, concat}
use Rattle.lexical.specs.Text.{begins_any, first_passes}

-- a relation between a piece of text and the text after it
abbrev pub Form : Type 1
Form = List ℕ → List ℕ → Type 0

-- whether no piece of the form is at the start of the text
abbrev pub HasNone : Form → List ℕ → Type 0
HasNone A text = (p r : List ℕ) → text ≡ p ++ r → A p r → ⊥

-- a piece of the first form, and then one of the second, which depends on the first
pub record Next (A : Form) (B : List ℕ → Form) (p r : List ℕ) : Type 0 where
  pub front : List ℕ
  pub back : List ℕ
  pub whole : p ≡ front ++ back
  pub first : A front (back ++ r)
  pub second : B front back r

-- a piece of the first form, and then one of the second
abbrev pub Then : Form → Form → Form
Then A B = Next A (λ front. B)

-- a piece of the form, if the text there begins with none of `fronts`
abbrev pub NotAt : List (List ℕ) → Form → Form
NotAt fronts A p r = A p r × IsFalse (begins_any fronts (p ++ r))

-- a piece of the form, if the next character does not pass
abbrev pub NotBefore : (ℕ → Bool) → Form → Form
NotBefore passes A p r = A p r × IsFalse (first_passes passes r)

-- a piece of the form whose text passes
abbrev pub Where : (List ℕ → Bool) → Form → Form
Where passes A p r = A p r × IsTrue (passes p)

-- a piece of one of the forms
abbrev pub Either : Form → Form → Form
Either A B p r = A p r ⊎ B p r

-- a piece of the second form, if no piece of the first form is there
abbrev pub Unless : Form → Form → Form
Unless A B p r = HasNone A (p ++ r) × B p r

-- a piece of the first form if there is one, and otherwise a piece of the second
abbrev pub Else : Form → Form → Form
Else A B = Either A (Unless A B)

-- the empty text
abbrev pub Nothing : Form
Nothing p r = p ≡ []

-- whether each of the texts is a piece of the form, followed by the texts after it and then by r
abbrev pub Each : Form → List (List ℕ) → List ℕ → Type 0
Each A [] r = Unit {0}
Each A (unit ∷ units) r = A unit (concat units ++ r) × Each A units r

-- pieces of the form, any number of them
pub record Many (A : Form) (p r : List ℕ) : Type 0 where
  pub units : List (List ℕ)
  pub whole : p ≡ concat units
  pub each : Each A units r

-- exactly this text
abbrev pub Exactly : List ℕ → Form
Exactly text p r = p ≡ text

-- one character that passes
abbrev pub One : (ℕ → Bool) → Form
One passes p r = (c : ℕ) × (p ≡ c ∷ []) × IsTrue (passes c)

-- all the characters that pass, up to the first one that does not
pub record Run (passes : ℕ → Bool) (p r : List ℕ) : Type 0 where
  pub each : IsTrue (list_all passes p)
  pub stops : IsFalse (first_passes passes r)
