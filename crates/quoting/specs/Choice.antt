-- Choices of the spacings of a stream's marks.
use Rattle.std.specs.Prelude.{Bool, false, ◌≡◌, List, [], ◌∷◌}
use Rattle.proc_macro2.specs.Forest.{Forest, nil, leaf, group}
use Rattle.proc_macro2.specs.Token.{Token, Name, Mark, Literal}
use Rattle.proc_macro2.specs.WellSpaced.{IsWellSpaced}
use Rattle.quoting.specs.declared.errors.QuoteError.{QuoteError}
use Rattle.quoting.specs.declared.errors.QuoteError.TheVariants.{NoneGroup, LoneQuote, Memory}

-- the token, which is Alone if it is a mark
abbrev pub unspaced_token : Token → Token
unspaced_token (Name raw name) = Name raw name
unspaced_token (Mark c joint) = Mark c false
unspaced_token (Literal text) = Literal text

-- the stream, in which each mark at any depth is Alone
abbrev pub all_alone : Forest → Forest
all_alone nil = nil
all_alone (leaf token lo hi rest) = leaf (unspaced_token token) lo hi (all_alone rest)
all_alone (group d lo hi inside rest) = group d lo hi (all_alone inside) (all_alone rest)

-- whether both streams have the same trees with the same spans, spacings of marks aside
abbrev pub IsChoiceFor : Forest → Forest → Type 0
IsChoiceFor stream chosen = all_alone chosen ≡ all_alone stream

-- whether no choice of spacings makes the stream well spaced
abbrev pub IsHopeless : Forest → Type 0
IsHopeless stream = (chosen : Forest) → IsChoiceFor stream chosen → IsWellSpaced chosen → ⊥

-- the error is `Memory`, or no choice of spacings makes the stream well spaced
abbrev pub HopelessIfNamed : Forest → QuoteError → Type 0
HopelessIfNamed stream NoneGroup = IsHopeless stream
HopelessIfNamed stream LoneQuote = IsHopeless stream
HopelessIfNamed stream (Memory error) = Unit {0}

-- adds at the front of the list whether the token is Joint, if it is a mark
abbrev pub spacing_onto : Token → List Bool → List Bool
spacing_onto (Name raw name) after = after
spacing_onto (Mark c joint) after = joint ∷ after
spacing_onto (Literal text) after = after

-- adds at the front of the list whether each mark is Joint, in reading order
abbrev pub spacings_onto : Forest → List Bool → List Bool
spacings_onto nil after = after
spacings_onto (leaf token lo hi rest) after = spacing_onto token (spacings_onto rest after)
spacings_onto (group d lo hi inside rest) after = spacings_onto inside (spacings_onto rest after)

-- whether each mark of the stream is Joint, in reading order
abbrev pub spacings : Forest → List Bool
spacings stream = spacings_onto stream []

-- a mark that has its old spacing in the chosen list also has it in the new one. The lists have the same length
abbrev pub KeepsThose : List Bool → List Bool → List Bool → Type 0
KeepsThose [] [] [] = Unit {0}
KeepsThose (old ∷ olds) (chosen ∷ chosens) (new ∷ news) = (chosen ≡ old → new ≡ old) × KeepsThose olds chosens news
KeepsThose [] [] (new ∷ news) = ⊥
KeepsThose [] (chosen ∷ chosens) news = ⊥
KeepsThose (old ∷ olds) [] news = ⊥
KeepsThose (old ∷ olds) (chosen ∷ chosens) [] = ⊥

-- if some well spaced choice of spacings keeps the spacing of a mark, the new stream keeps it too
abbrev pub KeepsAllItMay : Forest → Forest → Type 0
KeepsAllItMay old new =
    (chosen : Forest) → IsChoiceFor old chosen → IsWellSpaced chosen
    → KeepsThose (spacings old) (spacings chosen) (spacings new)
