-- The words that are compared, and the attribute that a doc comment is read as.
use Rattle.std.specs.Prelude.{ℕ, Bool, true, false, List, [], ◌∷◌, codes, Option, Some, None}
use Rattle.std.specs.Str.{chars, IsUtf8}
use Rattle.lexical.specs.Token as tokens
use Rattle.pm_token.specs.Escaped.{string_text}
use Rattle.pm_token.specs.declared.delimiters.Delimiter.TheVariants.{Bracket}
use Rattle.pm_stream.specs.Events.{Event, One, Opens, Closes, hash, bang, equals}
use Rattle.same.specs.declared.source_word.DocStep.{DocStep}
use Rattle.same.specs.declared.source_word.DocStep.TheVariants as steps
use Rattle.same.specs.declared.source_word.SourceWord.{SourceWord}
use Rattle.same.specs.declared.source_word.SourceWord.TheVariants as says

-- a word: a token, an opener or a closer, with the span 0..0, or a comment, by its text
pub data WordValue : Type 0 where
  Token : Event → WordValue
  Comment : List ℕ → WordValue

-- a word, and the text from the piece on from which the word comes
abbrev pub Placed : Type 0
Placed = WordValue × List ℕ

-- the word of the program's value
abbrev pub word_of : SourceWord → WordValue
word_of (says.Name raw name) = Token (One (tokens.Name raw (chars name.now)) 0 0)
word_of (says.Mark joint mark) = Token (One (tokens.Mark mark joint) 0 0)
word_of (says.Literal text) = Token (One (tokens.Literal (chars text.now)) 0 0)
word_of (says.DocText text) = Token (One (tokens.Literal (string_text (chars text.now))) 0 0)
word_of (says.Opener delimiter) = Token (Opens delimiter 0)
word_of (says.Closer delimiter) = Token (Closes delimiter 0)
word_of (says.Comment text) = Comment (chars text.now)

-- the texts in the word are UTF-8
abbrev pub HasText : SourceWord → Type 0
HasText (says.Name raw name) = IsUtf8 name.now
HasText (says.Mark joint mark) = Unit {0}
HasText (says.Literal text) = IsUtf8 text.now
HasText (says.DocText text) = IsUtf8 text.now
HasText (says.Opener delimiter) = Unit {0}
HasText (says.Closer delimiter) = Unit {0}
HasText (says.Comment text) = IsUtf8 text.now

-- ---- the attribute that a doc comment is read as

-- the tokens of the attribute from this step on
abbrev pub doc_from : DocStep → List ℕ → List Event
doc_from steps.Hash text =
    One hash 0 0 ∷ Opens Bracket 0 ∷ One (tokens.Name false (codes "doc")) 0 0 ∷ One equals 0 0
    ∷ One (tokens.Literal (string_text text)) 0 0 ∷ Closes Bracket 0 ∷ []
doc_from steps.InnerHash text =
    One hash 0 0 ∷ One bang 0 0 ∷ Opens Bracket 0 ∷ One (tokens.Name false (codes "doc")) 0 0 ∷ One equals 0 0
    ∷ One (tokens.Literal (string_text text)) 0 0 ∷ Closes Bracket 0 ∷ []
doc_from steps.Bang text =
    One bang 0 0 ∷ Opens Bracket 0 ∷ One (tokens.Name false (codes "doc")) 0 0 ∷ One equals 0 0
    ∷ One (tokens.Literal (string_text text)) 0 0 ∷ Closes Bracket 0 ∷ []
doc_from steps.Opener text =
    Opens Bracket 0 ∷ One (tokens.Name false (codes "doc")) 0 0 ∷ One equals 0 0
    ∷ One (tokens.Literal (string_text text)) 0 0 ∷ Closes Bracket 0 ∷ []
doc_from steps.Name text =
    One (tokens.Name false (codes "doc")) 0 0 ∷ One equals 0 0 ∷ One (tokens.Literal (string_text text)) 0 0
    ∷ Closes Bracket 0 ∷ []
doc_from steps.Equals text = One equals 0 0 ∷ One (tokens.Literal (string_text text)) 0 0 ∷ Closes Bracket 0 ∷ []
doc_from steps.Text text = One (tokens.Literal (string_text text)) 0 0 ∷ Closes Bracket 0 ∷ []
doc_from steps.Closer text = Closes Bracket 0 ∷ []

-- the tokens that are left of the attribute, if there is a next step
abbrev pub doc_left : Option DocStep → List ℕ → List Event
doc_left None text = []
doc_left (Some step) text = doc_from step text

abbrev pub step_after : DocStep → Option DocStep
step_after steps.Hash = Some steps.Opener
step_after steps.InnerHash = Some steps.Bang
step_after steps.Bang = Some steps.Opener
step_after steps.Opener = Some steps.Name
step_after steps.Name = Some steps.Equals
step_after steps.Equals = Some steps.Text
step_after steps.Text = Some steps.Closer
step_after steps.Closer = None

-- the first step of an inner or an outer doc comment
abbrev pub first_step : Bool → DocStep
first_step true = steps.InnerHash
first_step false = steps.Hash

-- an upper bound for the number of words that are left of a doc comment
abbrev pub steps_left : Option DocStep → ℕ
steps_left None = 0
steps_left (Some steps.Hash) = 7
steps_left (Some steps.InnerHash) = 7
steps_left (Some steps.Bang) = 6
steps_left (Some steps.Opener) = 5
steps_left (Some steps.Name) = 4
steps_left (Some steps.Equals) = 3
steps_left (Some steps.Text) = 2
steps_left (Some steps.Closer) = 1
