-- Rules of the grammar as data: which form a rule has, and how its pieces are found.
use Rattle.std.specs.Prelude.{ℕ, Bool, List, []}
use Rattle.lexical.specs.Block as blocks
use Rattle.lexical.specs.Block.{find_ends}
use Rattle.lexical.specs.Form as forms
use Rattle.lexical.specs.Form.{Form}
use Rattle.lexical.specs.Finder.{Finder, find_then, find_next, find_else, find_not_at, find_not_before}
use Rattle.lexical.specs.Finder.{find_where, find_one, find_run, find_text, find_many}

-- a rule, made in one of the ways in which forms are made
pub data Rule : Type 0 where
  -- one character that passes
  One : (ℕ → Bool) → Rule
  -- all the characters that pass, up to the first one that does not
  Run : (ℕ → Bool) → Rule
  -- exactly this text
  Exactly : List ℕ → Rule
  -- a piece of the first rule, and then one of the second
  Then : Rule → Rule → Rule
  -- a piece of the first rule, and then one of the second, which depends on the text of the first piece
  Next : Rule → (List ℕ → Rule) → Rule
  -- any number of pieces of the first rule, up to a piece of the second
  UpTo : Rule → Rule → Rule
  -- a piece of one of the rules. No text begins with a piece of each
  Either : Rule → Rule → Rule
  -- a piece of the first rule if there is one, and otherwise a piece of the second
  Else : Rule → Rule → Rule
  -- a piece of the rule, if the text there begins with none of these texts
  NotAt : List (List ℕ) → Rule → Rule
  -- a piece of the rule, if the next character does not pass
  NotBefore : (ℕ → Bool) → Rule → Rule
  -- a piece of the rule whose text passes
  Where : (List ℕ → Bool) → Rule → Rule
  -- the text up to the end of the outermost of this many open block comments
  Ends : ℕ → Rule

-- the form of the rule: whether the text p is a piece of the rule, if r follows it
abbrev pub Stands : Rule → Form
Stands (One passes) = forms.One passes
Stands (Run passes) = forms.Run passes
Stands (Exactly text) = forms.Exactly text
Stands (Then a b) = forms.Then (Stands a) (Stands b)
Stands (Next a b) = forms.Next (Stands a) (λ front. Stands (b front))
Stands (UpTo a b) = forms.Then (forms.Many (Stands a)) (Stands b)
Stands (Either a b) = forms.Either (Stands a) (Stands b)
Stands (Else a b) = forms.Else (Stands a) (Stands b)
Stands (NotAt fronts a) = forms.NotAt fronts (Stands a)
Stands (NotBefore passes a) = forms.NotBefore passes (Stands a)
Stands (Where test a) = forms.Where test (Stands a)
Stands (Ends depth) = blocks.Ends depth

-- finds the piece of the rule at the start of a text, and the text after it
unfoldable pub find : Rule → Finder
find (One passes) text = find_one passes text
find (Run passes) text = find_run passes text
find (Exactly front) text = find_text front text
find (Then a b) text = find_then (find a) (find b) text
find (Next a b) text = find_next (find a) (λ front. find (b front)) text
find (UpTo a b) text = find_then (find_many (find a)) (find b) text
find (Either a b) text = find_else (find a) (find b) text
find (Else a b) text = find_else (find a) (find b) text
find (NotAt fronts a) text = find_not_at fronts (find a) text
find (NotBefore passes a) text = find_not_before passes (find a) text
find (Where test a) text = find_where (λ p r. test p) (find a) text
find (Ends depth) text = find_ends depth text

-- the empty text
abbrev pub nothing : Rule
nothing = Exactly []

-- a piece of the rule if there is one, and otherwise the empty text
abbrev pub perhaps : Rule → Rule
perhaps a = Else a nothing
