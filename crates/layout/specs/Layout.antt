-- Layouts: the tokens of a stream with white space between them.
use Rattle.std.specs.Prelude.{ℕ, Bool, true, false, not, ◌&&◌, ◌||◌, ◌==◌, ◌≡◌, List, [], ◌∷◌, ◌++◌, IsTrue}
use Rattle.std.specs.Prelude.{codes, if◌then◌else◌}
use Rattle.std.specs.List.{list_all, list_any}
use Rattle.std.specs.Char.{is_ascii_digit}
use Rattle.lexical.specs.Class.{is_white, is_ident_continue}
use Rattle.lexical.specs.Text.{ends_with, first_passes}
use Rattle.lexical.specs.Token.{Token, Name, Mark, Literal, token_text}
use Rattle.lexical.specs.Mark.{is_mark}
use Rattle.lexical.specs.Number.{bars_dot, is_digit_or_underscore, is_sign}
use Rattle.pm_stream.specs.Delimited.{opening, closing}
use Rattle.pm_stream.specs.Events.{Event, One, Opens, Closes}
use Rattle.pm_stream.specs.Forest.{Forest, flattening}

-- ---- where white space is needed

-- whether the character right after a name would extend the name, or make a literal or a lifetime of it
abbrev pub parts_name : ℕ → Bool
parts_name c = is_ident_continue c || list_any (λ d. d == c) (codes "\"#'")

-- whether the character right after a number would extend the number
abbrev pub parts_number : ℕ → Bool
parts_number c = is_ident_continue c || ((c == 46) || is_sign c)

-- whether the character right after a literal would extend it; it may be the suffix of a literal in quotes
abbrev pub parts_literal : List ℕ → ℕ → Bool
parts_literal text = if first_passes is_ascii_digit text then parts_number else is_ident_continue

-- whether the character right after a token would extend the token; any mark extends a mark
abbrev pub parts_from : Token → ℕ → Bool
parts_from (Name raw name) = parts_name
parts_from (Mark c joint) = is_mark
parts_from (Literal text) = parts_literal text

-- the text of a token, an opener or a closer
abbrev pub event_text : Event → List ℕ
event_text (One token lo hi) = token_text token
event_text (Opens d lo) = opening d
event_text (Closes d hi) = closing d

-- whether the text right after the event would extend its token; nothing extends an opener or a closer
abbrev pub goes_on : Event → List ℕ → Bool
goes_on (One token lo hi) text = first_passes (parts_from token) text
goes_on (Opens d lo) text = false
goes_on (Closes d hi) text = false

-- whether the event is a Joint mark
abbrev pub is_joint : Event → Bool
is_joint (One (Name raw name) lo hi) = false
is_joint (One (Mark c joint) lo hi) = joint
is_joint (One (Literal text) lo hi) = false
is_joint (Opens d lo) = false
is_joint (Closes d hi) = false

-- whether the event is the mark `.`
abbrev pub is_dot : Event → Bool
is_dot (One (Name raw name) lo hi) = false
is_dot (One (Mark c joint) lo hi) = c == 46
is_dot (One (Literal text) lo hi) = false
is_dot (Opens d lo) = false
is_dot (Closes d hi) = false

-- whether the text is a digit and then only digits and `_`
abbrev pub is_digits : List ℕ → Bool
is_digits text = first_passes is_ascii_digit text && list_all is_digit_or_underscore text

-- whether a dot right after the literal does not extend it, where `later` is the text after the dot: digits take the
-- dot unless `later` bars it, and of the other literals only one that ends with a dot must not touch it
abbrev pub frees_dot : List ℕ → List ℕ → Bool
frees_dot text later = if is_digits text then first_passes bars_dot later else not (ends_with 46 text)

-- whether a dot right after the event does not extend its token, where `later` is the text after the dot
abbrev pub leaves_dot : Event → List ℕ → Bool
leaves_dot (One (Name raw name) lo hi) later = false
leaves_dot (One (Mark c joint) lo hi) later = false
leaves_dot (One (Literal text) lo hi) later = frees_dot text later
leaves_dot (Opens d lo) later = false
leaves_dot (Closes d hi) later = false

-- `must-part`: whether white space must be between `before` and `next`, where `later` is the text right after `next`
abbrev pub must_part : Event → Event → List ℕ → Bool
must_part before next later = goes_on before (event_text next) && not (is_dot next && leaves_dot before later)

-- whether the gap is allowed between `before` and `next`, where `later` is the text right after `next`: it is empty
-- after a Joint mark, and it is not empty where the two must be parted
abbrev pub may_part : Event → List ℕ → Event → List ℕ → Bool
may_part before [] next later = is_joint before || not (must_part before next later)
may_part before (c ∷ gap) next later = not (is_joint before)

-- ---- layouts

-- a token, an opener or a closer, with the gap before it
abbrev pub Laid : Type 0
Laid = List ℕ × Event

-- the text of the events with the gaps before them, and then `rest`
abbrev pub laid_onto : List Laid → List ℕ → List ℕ
laid_onto [] rest = rest
laid_onto (x ∷ xs) rest = x.0 ++ (event_text x.1 ++ laid_onto xs rest)

-- the text of the first event with the gap before it
abbrev pub laid_front : List Laid → List ℕ
laid_front [] = []
laid_front (x ∷ xs) = x.0 ++ event_text x.1

-- the events without the gaps
abbrev pub events_of : List Laid → List Event
events_of [] = []
events_of (x ∷ xs) = x.1 ∷ events_of xs

-- each character is white; there may be none
abbrev pub IsGap : List ℕ → Type 0
IsGap gap = IsTrue (list_all is_white gap)

-- each of the gaps has white characters only
abbrev pub AreGaps : List Laid → Type 0
AreGaps [] = Unit {0}
AreGaps (x ∷ xs) = IsGap x.0 × AreGaps xs

-- whether the gap right after `before` is allowed there
abbrev pub may_follow : Event → List Laid → Bool
may_follow before [] = true
may_follow before (x ∷ xs) = may_part before x.0 x.1 (laid_front xs)

-- whether each gap is allowed where it is
abbrev pub keeps_apart : List Laid → Bool
keeps_apart [] = true
keeps_apart (x ∷ xs) = may_follow x.1 xs && keeps_apart xs

-- `layout`: the text is the stream's tokens and delimiters in order, with an allowed gap before each, and a gap at the
-- end
pub record IsLayout (stream : Forest) (text : List ℕ) : Type 0 where
  pub laid : List Laid
  pub last : List ℕ
  pub whole : text ≡ laid_onto laid last
  pub events : events_of laid ≡ flattening stream
  pub gaps : AreGaps laid
  pub end : IsGap last
  pub apart : IsTrue (keeps_apart laid)
