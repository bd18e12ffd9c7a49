-- The name and the message of each reason.
use Rattle.std.specs.Prelude.{ℕ, List, codes}
use Rattle.explain.specs.declared.reason.Reason.{Reason}
use Rattle.explain.specs.declared.reason.Reason.TheVariants.{UnclosedComment, UnclosedString}
use Rattle.explain.specs.declared.reason.Reason.TheVariants.{UnclosedRawString, TooManyHashes, HashesWithoutQuote}
use Rattle.explain.specs.declared.reason.Reason.TheVariants.{ReservedRawName, UnclosedCharacter}
use Rattle.explain.specs.declared.reason.Reason.TheVariants.{DigitLifetime, HashAfterLifetime, NoDigits, BadDigit}
use Rattle.explain.specs.declared.reason.Reason.TheVariants.{BadNumberEnd, MisplacedMark, NoToken, StrayCloser}
use Rattle.explain.specs.declared.reason.Reason.TheVariants.{MismatchedCloser, UnclosedOpener, BareReturnInDoc, Content}
use Rattle.explain.specs.declared.explained.ExplainError.{ExplainError}
use Rattle.explain.specs.declared.explained.ExplainError.TheVariants as errors
use Rattle.literal_escaper.specs.EscapeMessage.{escape_message}

-- the short name of a reason, in words with hyphens
unfoldable pub name_of : Reason → List ℕ
name_of UnclosedComment = codes "unclosed-comment"
name_of BareReturnInDoc = codes "bare-return-in-doc"
name_of UnclosedString = codes "unclosed-string"
name_of UnclosedRawString = codes "unclosed-raw-string"
name_of TooManyHashes = codes "too-many-hashes"
name_of HashesWithoutQuote = codes "hashes-without-quote"
name_of ReservedRawName = codes "reserved-raw-name"
name_of UnclosedCharacter = codes "unclosed-character"
name_of (Content error) = codes "literal-content"
name_of DigitLifetime = codes "digit-lifetime"
name_of HashAfterLifetime = codes "hash-after-lifetime"
name_of NoDigits = codes "no-digits"
name_of BadDigit = codes "bad-digit"
name_of BadNumberEnd = codes "bad-number-end"
name_of MisplacedMark = codes "misplaced-mark"
name_of NoToken = codes "no-token"
name_of StrayCloser = codes "stray-closer"
name_of MismatchedCloser = codes "mismatched-closer"
name_of UnclosedOpener = codes "unclosed-opener"

-- the message of a reason
unfoldable pub sentence_of : Reason → List ℕ
sentence_of UnclosedComment = codes "unclosed block comment"
sentence_of BareReturnInDoc = codes "CR in a doc comment that no LF follows"
sentence_of UnclosedString = codes "unclosed string"
sentence_of UnclosedRawString = codes "unclosed raw string"
sentence_of TooManyHashes = codes "more than 255 hash signs before a raw string"
sentence_of HashesWithoutQuote = codes "neither a quote nor a name follows the hash signs"
sentence_of ReservedRawName = codes "this name is never raw"
sentence_of UnclosedCharacter = codes "unclosed character"
sentence_of (Content error) = escape_message error
sentence_of DigitLifetime = codes "a lifetime begins with no digit"
sentence_of HashAfterLifetime = codes "a hash sign right after a lifetime"
sentence_of NoDigits = codes "no digit follows the prefix of the number"
sentence_of BadDigit = codes "this digit is too large for its number's base"
sentence_of BadNumberEnd = codes "this character is no part of the number before it"
sentence_of MisplacedMark = codes "U+FEFF that is not at the front of the text"
sentence_of NoToken = codes "no token begins with this character"
sentence_of StrayCloser = codes "no opener waits for this closer"
sentence_of MismatchedCloser = codes "the innermost opener waits for another closer"
sentence_of UnclosedOpener = codes "no closer matches this opener"

-- the message of an error of `explain`
abbrev pub error_message : ExplainError → List ℕ
error_message errors.MapFull = codes "map full"
error_message (errors.Memory error) = codes "no memory"
