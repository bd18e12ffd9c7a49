-- The loop over the content of a literal.
use Rattle.std.specs.Prelude.{ℕ, ◌≡◌, ◌+◌, ◌-◌, ◌≤◌, List, [], ◌∷◌, ◌++◌, codes, length, Option, Some, None, Result}
use Rattle.std.specs.Prelude.{Ok, Err}
use Rattle.std.specs.Prelude.{IsFalse}
use Rattle.std.specs.Str.{chars}
use Rattle.lexical.specs.Character.{carriage_return, double_quote}
use Rattle.lexical.specs.Comment.{has_bare_return}
use Rattle.lexical.specs.Quoted.{unit}
use Rattle.lexical.specs.Rule.{Rule, Exactly, Either}
use Rattle.lexical.specs.RuleMatch.{Passes}
use Rattle.lexical.specs.Text.{begins_any, begins_with}
use Rattle.lexical.specs.declared.cursor.TextCursor.{TextCursor}
use Rattle.lexical.specs.declared.quoted.StringKind.{StringKind}
use Rattle.lexical.specs.declared.quoted.StringKind.TheVariants.{Plain, Byte, C}
use Rattle.literal_escaper.specs.Items.{unit_front}
use Rattle.literal_escaper.specs.Kind.{Kind, byte_kind, c_kind, string_kind}
use Rattle.literal_escaper.specs.Text.{bytes}
use Rattle.literal_escaper.specs.declared.errors.EscapeError.{EscapeError}
use Rattle.literal_escaper.specs.Single.{single}
use Rattle.literal_escaper.specs.declared.mode.Mode.{Mode}
use Rattle.literal_escaper.specs.declared.mode.Mode.TheVariants as modes
use Rattle.explain.specs.declared.quotes.SingleKind.{SingleKind}
use Rattle.explain.specs.declared.quotes.SingleKind.TheVariants.{Character, Byte as SingleByte}
use Rattle.explain.specs.Content.{IsAtFault, StringFault, line_ends}
use Rattle.explain.specs.declared.contents.Front.{Front}
use Rattle.explain.specs.declared.contents.ContentItem.{ContentItem}
use Rattle.explain.specs.declared.contents.ContentItem.TheVariants.{Unit as IsUnit, Fault, End}
use Rattle.explain.specs.declared.reason.Reason.TheVariants.{Content}
use Rattle.explain.specs.declared.trouble.Trouble.{Trouble}

-- `part` is the text between the two cursors
pub record IsPast (at to : TextCursor) : Type 0 where
  pub part : List ℕ
  pub whole : chars at.rest.now ≡ part ++ chars to.rest.now
  pub count : to.chars_before ≡ at.chars_before + length part

-- `left` is the text from the first cursor up to the quote right before the second
abbrev pub IsLeft : ℕ → List ℕ → TextCursor → TextCursor → Type 0
IsLeft quote left at end = chars at.rest.now ≡ left ++ (quote ∷ chars end.rest.now)

-- the second cursor is right after a quote, and the first cursor is at that quote or before it
abbrev pub IsInside : ℕ → TextCursor → TextCursor → Type 0
IsInside quote at end = (left : List ℕ) × IsLeft quote left at end

-- the error of a result, if it is one
abbrev pub error_in : {U : Type 0} → Result U EscapeError → Option EscapeError
error_in (Ok unit) = None
error_in (Err e) = Some e

-- the size in bytes and the error of the first item that the escaper reads from the content
abbrev pub GivesFront : {U : Type 0} → Kind U → List ℕ → Front → Type 0
GivesFront kind [] x = ⊥
GivesFront kind (c ∷ text) x =
    (x.size ≡ bytes (c ∷ text) - bytes (unit_front kind c text).rest)
    × (x.error ≡ error_in (unit_front kind c text).unit)

-- the size in bytes and the error of the first item that the escaper reads from the content of a string of this kind
abbrev pub IsFront : StringKind → List ℕ → Front → Type 0
IsFront Plain = GivesFront string_kind
IsFront Byte = GivesFront byte_kind
IsFront C = GivesFront c_kind

-- the escaper reads this error in a string of this kind, between the cursors `at` and `after`
pub record IsFaultAt (kind : StringKind) (e : EscapeError) (at after end : TextCursor) : Type 0 where
  pub past : IsPast at after
  pub some : 1 ≤ length past.part
  pub left : List ℕ
  pub closes : IsLeft double_quote left after end
  pub apart : IsFalse (begins_any line_ends (chars at.rest.now))
  pub gives : StringFault kind e (past.part ++ left) left

-- the step passes a unit, or finds an error or the end of the content
abbrev pub IsStep : StringKind → TextCursor → TextCursor → ContentItem → Type 0
IsStep kind at end (IsUnit after) = Passes (unit kind) at after × IsInside double_quote after end
IsStep kind at end (Fault e after) = IsFaultAt kind e at after end
IsStep kind at end End = IsLeft double_quote [] at end

-- the trouble has this error, and the wrong part is all text between the cursors or its last character
pub record IsFaulty (e : EscapeError) (at after : TextCursor) (x : Trouble) : Type 0 where
  pub start : IsPast at x.at
  pub part : IsPast x.at x.after
  pub ends : x.after ≡ after
  pub reason : x.reason ≡ Content e
  pub fault : IsAtFault e start.part part.part

-- the third cursor is before the last character between the other two
pub record IsLast (at end last : TextCursor) : Type 0 where
  pub before : IsPast at last
  pub character : ℕ
  pub one : chars last.rest.now ≡ character ∷ chars end.rest.now
  pub count : end.chars_before ≡ last.chars_before + 1

-- a unit that the escaper reads in another way than the grammar: CR LF, or a backslash with a line end
abbrev pub line_end : Rule
line_end =
    Either (Exactly (codes "\r\n")) (Either (Exactly (codes "\\\n")) (Exactly (codes "\\\r\n")))

-- between the cursors `at` and `after` is the first CR from `inside` on that no LF follows
pub record IsFirstBare (inside at after : TextCursor) : Type 0 where
  pub before : IsPast inside at
  pub return : chars at.rest.now ≡ carriage_return ∷ chars after.rest.now
  pub count : after.chars_before ≡ at.chars_before + 1
  pub bare : IsFalse (begins_with (codes "\n") (chars after.rest.now))
  pub first : IsFalse (has_bare_return before.part)

-- ---- characters and bytes

-- the escaper's mode for this kind of literal
abbrev pub single_mode : SingleKind → Mode
single_mode Character = modes.Char
single_mode SingleByte = modes.Byte

-- the error in the content, after the number of bytes that were read for it, or nothing if there is no error
abbrev pub GivesSingle : {U : Type 0} → Kind U → List ℕ → Option (ℕ × EscapeError) → Type 0
GivesSingle {U = U} kind text None = (u : U) × ((single kind text).unit ≡ Ok u)
GivesSingle kind text (Some x) =
    (x.0 ≡ bytes text - bytes (single kind text).rest) × ((single kind text).unit ≡ Err x.1)

-- the error in the content of a literal of this kind, after the number of bytes that were read for it, or nothing
abbrev pub IsSingleFault : SingleKind → List ℕ → Option (ℕ × EscapeError) → Type 0
IsSingleFault Character = GivesSingle string_kind
IsSingleFault SingleByte = GivesSingle byte_kind
