-- Streams that are the same up to the spelling of their doc literals.
use Rattle.std.specs.Prelude.{ℕ, Bool, true, false, ◌≡◌, List, [], ◌∷◌, Ok, codes}
use Rattle.lexical.specs.Token.{Name, Literal}
use Rattle.pm_token.specs.Value.{str_value}
use Rattle.pm_token.specs.declared.delimiters.Delimiter.TheVariants.{Bracket}
use Rattle.pm_stream.specs.Events.{Event, One, Opens, Closes, hash, bang, equals}
use Rattle.pm_stream.specs.Forest.{Forest, flattening}
use Rattle.pm_stream.specs.Parsing.{ParsesTo}
use Rattle.pm_stream.specs.Same.{without_spans}

-- the events of the group `[doc = ".."]` with this literal, without spans, and then other events
abbrev pub spelled_group_onto : List ℕ → List Event → List Event
spelled_group_onto literal events =
    Opens Bracket 0
    ∷ One (Name false (codes "doc")) 0 0
    ∷ One equals 0 0
    ∷ One (Literal literal) 0 0
    ∷ Closes Bracket 0
    ∷ events

-- the events of a doc attribute with this literal, without spans, and then other events. An inner one has a `!`
abbrev pub spelled_onto : Bool → List ℕ → List Event → List Event
spelled_onto true literal events = One hash 0 0 ∷ One bang 0 0 ∷ spelled_group_onto literal events
spelled_onto false literal events = One hash 0 0 ∷ spelled_group_onto literal events

-- the events are equal, except that the literals of doc attributes may be different spellings of the same value
pub data AreAlike : List Event → List Event → Type 0 where
  Both : AreAlike [] []
  Equal : (event : Event) {es fs : List Event} → AreAlike es fs → AreAlike (event ∷ es) (event ∷ fs)
  Spelled : (inner : Bool) (one other value : List ℕ) {es fs : List Event} → str_value one ≡ Ok value
      → str_value other ≡ Ok value → AreAlike es fs → AreAlike (spelled_onto inner one es) (spelled_onto inner other fs)

-- `same-but-docs`: the streams are the same up to spans and the spelling of doc literals
abbrev pub SameButDocs : Forest → Forest → Type 0
SameButDocs s t = AreAlike (flattening (without_spans s)) (flattening (without_spans t))

-- whether the text parses to the stream, up to spans and the spelling of doc literals
pub record GivesDocs (base : ℕ) (text : List ℕ) (stream : Forest) : Type 0 where
  pub parsed : Forest
  pub parses : ParsesTo base text parsed
  pub same : SameButDocs stream parsed

-- whatever the source parses to, the text gives the same tokens up to spans and the spelling of doc literals
abbrev pub KeepsDocs : List ℕ → List ℕ → Type 0
KeepsDocs source text =
    (base first : ℕ) (stream : Forest) → ParsesTo first source stream → GivesDocs base text stream
