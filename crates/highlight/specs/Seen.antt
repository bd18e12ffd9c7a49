-- What is left of the output without a page's tags and escapes, or without a terminal's colour sequences.
use Rattle.std.specs.Prelude.{ℕ, Bool, false, true, not, ◌==◌, List, [], ◌∷◌, ◌++◌}
use Rattle.std.specs.Prelude.{codes, nat_eq, if◌then◌else◌}
use Rattle.std.specs.List.{list_all}
use lib.Pointwise.{pointwise}
use Rattle.highlight.specs.declared.format.Format.{Format}
use Rattle.highlight.specs.declared.format.Format.TheVariants.{Html, Term}

-- whether the byte begins a tag: `<` (60) in a page, ESC (27) for a terminal
abbrev pub opens_tag : Format → ℕ → Bool
opens_tag Html c = c == 60
opens_tag Term c = c == 27

-- whether the byte ends a tag: `>` (62) in a page, `m` (109) for a terminal
abbrev pub closes_tag : Format → ℕ → Bool
closes_tag Html c = c == 62
closes_tag Term c = c == 109

-- whether the byte begins an escape: `&` (38) in a page
abbrev pub opens_escape : Format → ℕ → Bool
opens_escape Html c = c == 38
opens_escape Term c = false

-- the text of an escape, by its name between `&` and `;`
abbrev pub escape_value : List ℕ → List ℕ
escape_value name =
    if pointwise nat_eq name (codes "lt") then codes "<"
    else (if pointwise nat_eq name (codes "gt") then codes ">"
    else (if pointwise nat_eq name (codes "amp") then codes "&"
    else (if pointwise nat_eq name (codes "quot") then codes "\"" else [])))

-- the state of a reader: in text, in a tag, or in an escape of which these bytes are read
pub data ReaderState : Type 0 where
  InText : ReaderState
  InTag : ReaderState
  InEscape : List ℕ → ReaderState

-- what is seen of a text from this state on: tags are left out, and an escape, which ends with `;` (59), is undone
abbrev pub visible_text : Format → ReaderState → List ℕ → List ℕ
visible_text format state [] = []
visible_text format InText (c ∷ rest) =
    if opens_tag format c then visible_text format InTag rest
    else (if opens_escape format c then visible_text format (InEscape []) rest else c ∷ visible_text format InText rest)
visible_text format InTag (c ∷ rest) =
    if closes_tag format c then visible_text format InText rest else visible_text format InTag rest
visible_text format (InEscape name) (c ∷ rest) =
    if c == 59 then escape_value name
    ++ visible_text format InText rest else visible_text format (InEscape (name ++ c ∷ [])) rest

-- what is seen of a whole output
abbrev pub plain : Format → List ℕ → List ℕ
plain format = visible_text format InText

-- whether none of the bytes ends a tag
abbrev pub stays_in_tag : Format → List ℕ → Bool
stays_in_tag format = list_all (λ c. not (closes_tag format c))

-- whether a text can be seen whole; for a terminal it must have no ESC, since nothing is escaped there
abbrev pub can_be_seen : Format → List ℕ → Bool
can_be_seen Html text = true
can_be_seen Term text = list_all (λ c. not (c == 27)) text
