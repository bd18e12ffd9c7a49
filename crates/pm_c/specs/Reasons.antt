-- Why a text doesn't parse, as numbers for C.
use Rattle.std.specs.Prelude.{ℕ, Option, None, Some}
use Rattle.explain.specs.declared.explained.Explained.{Explained}
use Rattle.explain.specs.declared.explained.Opener.{Opener}
use Rattle.explain.specs.declared.reason.Reason.{Reason}
use Rattle.explain.specs.declared.reason.Reason.TheVariants as reasons
use Rattle.pm_c.specs.Faults.{fault_number}
use Rattle.pm_c.specs.declared.codes.TheConstants.{DONE}
use Rattle.pm_c.specs.declared.records.PmExplanation.{PmExplanation}

-- the number of a reason; the reasons count from 1, in the order in which they are declared
abbrev pub reason_number : Reason → ℕ
reason_number reasons.UnclosedComment = 1
reason_number reasons.BareReturnInDoc = 2
reason_number reasons.UnclosedString = 3
reason_number reasons.UnclosedRawString = 4
reason_number reasons.TooManyHashes = 5
reason_number reasons.HashesWithoutQuote = 6
reason_number reasons.ReservedRawName = 7
reason_number reasons.UnclosedCharacter = 8
reason_number (reasons.Content error) = 9
reason_number reasons.DigitLifetime = 10
reason_number reasons.HashAfterLifetime = 11
reason_number reasons.NoDigits = 12
reason_number reasons.BadDigit = 13
reason_number reasons.BadNumberEnd = 14
reason_number reasons.MisplacedMark = 15
reason_number reasons.NoToken = 16
reason_number reasons.StrayCloser = 17
reason_number reasons.MismatchedCloser = 18
reason_number reasons.UnclosedOpener = 19

-- the number of the error for the content of a literal, and 0 for every other reason
abbrev pub detail_number : Reason → ℕ
detail_number (reasons.Content error) = fault_number error
detail_number other = 0

-- where an opener begins, and 0 if there is none
abbrev pub opener_start : Option Opener → ℕ
opener_start None = 0
opener_start (Some opener) = opener.at.start

-- where an opener ends, and 0 if there is none
abbrev pub opener_end : Option Opener → ℕ
opener_end None = 0
opener_end (Some opener) = opener.at.end

-- the record for C of an explanation
abbrev pub explanation_record : Explained → PmExplanation
explanation_record x = record {
  code = DONE;
  reason = reason_number x.reason;
  detail = detail_number x.reason;
  fault = x.before.start;
  start = x.at.start;
  end = x.at.end;
  opener_start = opener_start x.innermost;
  opener_end = opener_end x.innermost;
}
