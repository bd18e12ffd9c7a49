-- What each call returns, and how it changes the session.
use Rattle.std.specs.Prelude.{ℕ, Bool, ◌≡◌, ◌≢◌, ◌↔◌, ◌⊎◌, ◌≤◌, List, [], ◌∷◌, flat_map, length}
use Rattle.std.specs.Prelude.{Some, None, Result, Ok, Err, false}
use Rattle.std.specs.Char.{IsScalar}
use Rattle.std.specs.String.{string_bytes}
use Rattle.std.specs.Str.{chars, encode_utf8_all, IsUtf8}
use Rattle.slab.specs.Slab.{get, SameValues, Updates}
use Rattle.explain.specs.Explained.{IsExplained, Parses}
use Rattle.explain.specs.declared.explained.Explained.{Explained}
use Rattle.proc_macro2.specs.CString.{IsCStringText, has_no_zero}
use Rattle.proc_macro2.specs.Escaped.{character_text, string_text}
use Rattle.proc_macro2.specs.Extent.{Extent, nowhere}
use Rattle.proc_macro2.specs.Files.{Files, Fits, Holds, new_map, next_lo, with_file}
use Rattle.proc_macro2.specs.Forest.{Forest}
use Rattle.proc_macro2.specs.IdentFault.{ident_fault}
use Rattle.proc_macro2.specs.InOrder.{in_order}
use Rattle.proc_macro2.specs.LiteralText.{IsWholeLiteral}
use Rattle.proc_macro2.specs.Lookup.{AreInOneFile, HasBytes, HasName, IsTextOf, StartsAt, covering_span}
use Rattle.proc_macro2.specs.Parsing.{FaultAt, ParsesTo}
use Rattle.proc_macro2.specs.Printed.{printed}
use Rattle.proc_macro2.specs.PrintsText.{PrintsText}
use Rattle.proc_macro2.specs.declared.ConversionErrorKind.{ConversionErrorKind}
use Rattle.proc_macro2.specs.declared.ConversionErrorKind.TheVariants.{FailedToUnescape, InvalidLiteralKind}
use Rattle.proc_macro2.specs.declared.EscapeError.{EscapeError}
use Rattle.proc_macro2.specs.declared.IdentError.TheVariants as faults
use Rattle.proc_macro2.specs.declared.ParseError.{ParseError}
use Rattle.proc_macro2.specs.declared.ParseError.TheVariants.{Lex, MapFull, Memory}
use Rattle.pm_c.specs.Faults.{fault_number}
use Rattle.pm_c.specs.Listing.{IsTooLong, kept_text, records_from}
use Rattle.pm_c.specs.Pieces.{ListsPieces}
use Rattle.pm_c.specs.Reasons.{explanation_record}
use Rattle.pm_c.specs.declared.codes.TheConstants.{DONE, FAULT, MAP_FULL, NO_MEMORY, NOT_UTF8, NO_STREAM, NO_ROOM}
use Rattle.pm_c.specs.declared.codes.TheConstants.{TOO_LONG, NO_LITERAL, NOT_UNESCAPED, OTHER_KIND, NO_CHARACTER}
use Rattle.pm_c.specs.declared.codes.TheConstants.{NAME_EMPTY, NAME_NUMBER, NAME_INVALID, NAME_RESERVED}
use Rattle.pm_c.specs.declared.codes.TheConstants.{NOT_HELD, NOT_JOINED}
use Rattle.pm_c.specs.declared.records.PmAnswer.{PmAnswer}
use Rattle.pm_c.specs.declared.records.PmExplanation.{PmExplanation}
use Rattle.pm_c.specs.declared.records.PmLineColumn.{PmLineColumn}
use Rattle.pm_c.specs.declared.records.PmRange.{PmRange}
use Rattle.pm_c.specs.declared.session.Session.{Session}

-- the code is one of the list
abbrev pub IsAmong : List ℕ → ℕ → Type 0
IsAmong [] code = ⊥
IsAmong (one ∷ others) code = (code ≡ one) ⊎ IsAmong others code

-- the session has read nothing, and its results are empty
pub record IsNew (session : Session) : Type 0 where
  pub map : session.map ≡ new_map
  pub streams : session.streams.slots ≡ []
  pub trees : session.trees.items ≡ []
  pub pieces : session.pieces.items ≡ []
  pub text : string_bytes session.text ≡ []
  pub bytes : session.bytes.items ≡ []

-- only the session's records of trees and its text may differ
abbrev pub KeepsAllButListing : Session → Session → Type 0
KeepsAllButListing old new = new ≡ record old { trees = new.trees; text = new.text }

-- only the session's text may differ
abbrev pub KeepsAllButText : Session → Session → Type 0
KeepsAllButText old new = new ≡ record old { text = new.text }

-- only the session's bytes may differ
abbrev pub KeepsAllButBytes : Session → Session → Type 0
KeepsAllButBytes old new = new ≡ record old { bytes = new.bytes }

-- the bytes are UTF-8, but not a literal
abbrev pub IsOtherText : List ℕ → Type 0
IsOtherText bytes = IsUtf8 bytes × (IsWholeLiteral (chars bytes) → ⊥)

-- the bytes are a text with more characters than the map has positions left
abbrev pub Overflows : Files → List ℕ → Type 0
Overflows map bytes = IsUtf8 bytes × (Fits map (length (chars bytes)) → ⊥)

-- the session's text is `text`, and the answer has the number of its bytes
pub record HasText (session : Session) (text : List ℕ) (answer : PmAnswer) : Type 0 where
  pub value : chars (string_bytes session.text) ≡ text
  pub bytes : answer.bytes ≡ length (string_bytes session.text)

-- the code for an error of parsing
abbrev pub refusal_code : ParseError → ℕ
refusal_code (Lex fault) = FAULT
refusal_code MapFull = MAP_FULL
refusal_code (Memory error) = NO_MEMORY

-- the error is a syntax error at this position
abbrev pub IsFaultAt : ParseError → ℕ → Type 0
IsFaultAt (Lex fault) at = at ≡ fault.lo
IsFaultAt MapFull at = ⊥
IsFaultAt (Memory error) at = ⊥

-- ---- streams

-- the stream got this number, which no stream had before
pub record IsKept (old : Session) (stream : Forest) (new : Session) (number : ℕ) : Type 0 where
  pub vacant : get old.streams number ≡ None
  pub stands : Updates old.streams new.streams number (Some stream)
  pub map : new.map ≡ old.map

-- the bytes are a text that parses, it is a new file of the map, and its stream got this number
pub record IsRead (old : Session) (bytes : List ℕ) (new : Session) (number : ℕ) : Type 0 where
  pub utf8 : IsUtf8 bytes
  pub stream : Forest
  pub parses : ParsesTo (next_lo old.map) (chars bytes) stream
  pub vacant : get old.streams number ≡ None
  pub stands : Updates old.streams new.streams number (Some stream)
  pub map : new.map ≡ with_file old.map (chars bytes)

-- how the session changes if the text of `pm_parse` is not read into a stream
pub record LeavesRead (old : Session) (read : Files) (code : ℕ) (new : Session) : Type 0 where
  -- bytes that aren't UTF-8, and texts that don't fit, change nothing
  pub not_utf8 : code ≡ NOT_UTF8 → new ≡ old
  pub map_full : code ≡ MAP_FULL → new ≡ old
  -- a text with a syntax error changes only the map
  pub fault : code ≡ FAULT → new ≡ record old { map = read }
  -- memory may run out before the map has the text, or later
  pub memory : code ≡ NO_MEMORY → (new.map ≡ old.map) ⊎ (new.map ≡ read)
  pub too_long : code ≡ TOO_LONG → new.map ≡ read
  -- each stream keeps its number
  pub streams : (code ≡ DONE → ⊥) → SameValues old.streams new.streams
  pub rest : new ≡ record old { map = new.map; streams = new.streams }

-- the result of `pm_parse`, and how it changes the session
pub record ParseAnswer (old : Session) (bytes : List ℕ) (new : Session) (answer : PmAnswer) : Type 0 where
  pub codes : IsAmong (DONE ∷ FAULT ∷ MAP_FULL ∷ NO_MEMORY ∷ NOT_UTF8 ∷ TOO_LONG ∷ []) answer.code
  pub done : answer.code ≡ DONE → IsRead old bytes new answer.number
  pub fault : answer.code ≡ FAULT → FaultAt (next_lo old.map) (chars bytes) answer.number
  pub not_utf8 : (answer.code ≡ NOT_UTF8) ↔ (IsUtf8 bytes → ⊥)
  pub map_full : (answer.code ≡ MAP_FULL) ↔ Overflows old.map bytes
  -- the number that the stream would get doesn't fit in 32 bits
  pub too_long : answer.code ≡ TOO_LONG → 4294967296 ≤ old.streams.vacant_key
  pub left : LeavesRead old (with_file old.map (chars bytes)) answer.code new

-- a stream had this number and is gone; the others keep their numbers
pub record IsFreed (old : Session) (number : ℕ) (new : Session) : Type 0 where
  pub stream : Forest
  pub stood : get old.streams number ≡ Some stream
  pub gone : Updates old.streams new.streams number None

-- the result of `pm_stream_free`, and how it changes the session
pub record FreeAnswer (old : Session) (number : ℕ) (new : Session) (code : ℕ) : Type 0 where
  pub codes : IsAmong (DONE ∷ NO_STREAM ∷ []) code
  pub done : code ≡ DONE → IsFreed old number new
  pub no_stream : (code ≡ NO_STREAM) ↔ (get old.streams number ≡ None)
  pub unchanged : code ≡ NO_STREAM → new ≡ old
  pub rest : new ≡ record old { streams = new.streams }

-- the session's text is the printed stream of this number, and the answer has the number of its bytes
pub record IsPrinted (old : Session) (number : ℕ) (new : Session) (answer : PmAnswer) : Type 0 where
  pub stream : Forest
  pub stands : get old.streams number ≡ Some stream
  pub text : string_bytes new.text ≡ encode_utf8_all (printed stream)
  pub bytes : answer.bytes ≡ length (string_bytes new.text)

-- the result of `pm_print`, and how it changes the session
pub record PrintAnswer (old : Session) (number : ℕ) (new : Session) (answer : PmAnswer) : Type 0 where
  pub codes : IsAmong (DONE ∷ NO_MEMORY ∷ NO_STREAM ∷ []) answer.code
  pub done : answer.code ≡ DONE → IsPrinted old number new answer
  pub no_stream : (answer.code ≡ NO_STREAM) ↔ (get old.streams number ≡ None)
  pub unchanged : answer.code ≡ NO_STREAM → new ≡ old
  pub rest : KeepsAllButText old new

-- the session's text is the printed text of these bytes, and the answer has the number of its bytes
pub record IsReprinted (bytes : List ℕ) (new : Session) (answer : PmAnswer) : Type 0 where
  pub utf8 : IsUtf8 bytes
  pub prints : PrintsText (next_lo new_map) (chars bytes) (string_bytes new.text)
  pub count : answer.bytes ≡ length (string_bytes new.text)

-- the result of `pm_reprint`, and how it changes the session
pub record ReprintAnswer (old : Session) (bytes : List ℕ) (new : Session) (answer : PmAnswer) : Type 0 where
  pub codes : IsAmong (DONE ∷ FAULT ∷ MAP_FULL ∷ NO_MEMORY ∷ NOT_UTF8 ∷ []) answer.code
  pub done : answer.code ≡ DONE → IsReprinted bytes new answer
  pub fault : answer.code ≡ FAULT → FaultAt (next_lo new_map) (chars bytes) answer.number
  pub not_utf8 : (answer.code ≡ NOT_UTF8) ↔ (IsUtf8 bytes → ⊥)
  pub map_full : (answer.code ≡ MAP_FULL) ↔ Overflows new_map bytes
  pub unchanged : (answer.code ≡ DONE → ⊥) → new ≡ old
  pub rest : KeepsAllButText old new

-- the session's records and text are those of the stream of this number, and the answer counts them
pub record IsListed (old : Session) (number : ℕ) (new : Session) (answer : PmAnswer) : Type 0 where
  pub stream : Forest
  pub stands : get old.streams number ≡ Some stream
  pub trees : new.trees.items ≡ records_from 0 (in_order stream)
  pub text : string_bytes new.text ≡ flat_map kept_text (in_order stream)
  pub trees_count : answer.number ≡ length new.trees.items
  pub bytes : answer.bytes ≡ length (string_bytes new.text)

-- the stream of this number has too many trees, or too many bytes in its texts
pub record IsStreamTooLong (old : Session) (number : ℕ) : Type 0 where
  pub stream : Forest
  pub stands : get old.streams number ≡ Some stream
  pub too_long : IsTooLong stream

-- the result of `pm_list`, and how it changes the session
pub record ListAnswer (old : Session) (number : ℕ) (new : Session) (answer : PmAnswer) : Type 0 where
  pub codes : IsAmong (DONE ∷ NO_MEMORY ∷ NO_STREAM ∷ TOO_LONG ∷ []) answer.code
  pub done : answer.code ≡ DONE → IsListed old number new answer
  pub no_stream : (answer.code ≡ NO_STREAM) ↔ (get old.streams number ≡ None)
  pub too_long : answer.code ≡ TOO_LONG → IsStreamTooLong old number
  pub unchanged : answer.code ≡ NO_STREAM → new ≡ old
  pub rest : KeepsAllButListing old new

-- ---- pieces, and copies of results

-- the result of `pm_pieces`, and how it changes the session
pub record PiecesAnswer (old : Session) (bytes : List ℕ) (new : Session) (answer : PmAnswer) : Type 0 where
  pub codes : IsAmong (DONE ∷ NO_MEMORY ∷ NOT_UTF8 ∷ TOO_LONG ∷ []) answer.code
  pub done : answer.code ≡ DONE → ListsPieces bytes new.pieces.items answer.bytes
  pub count : answer.code ≡ DONE → answer.number ≡ length new.pieces.items
  pub not_utf8 : (answer.code ≡ NOT_UTF8) ↔ (IsUtf8 bytes → ⊥)
  pub too_long : (answer.code ≡ TOO_LONG) ↔ (IsUtf8 bytes × (4294967296 ≤ length bytes))
  pub unchanged : IsAmong (NOT_UTF8 ∷ TOO_LONG ∷ []) answer.code → new ≡ old
  pub rest : new ≡ record old { pieces = new.pieces }

-- `pm_copy_text`, `pm_copy_bytes`, `pm_copy_trees`, `pm_copy_pieces`: how the buffer changes
pub record CopyAnswer {T : Type 0} (lent old new : List T) (code : ℕ) : Type 0 where
  pub codes : IsAmong (DONE ∷ NO_ROOM ∷ []) code
  pub done : code ≡ DONE → new ≡ lent
  pub no_room : (code ≡ NO_ROOM) ↔ (length old ≢ length lent)
  pub unwritten : code ≡ NO_ROOM → new ≡ old

-- ---- why a text doesn't parse

-- the text doesn't parse, and the answer has the reason and where it is
pub record TellsReason (bytes : List ℕ) (answer : PmExplanation) : Type 0 where
  pub explained : Explained
  pub holds : IsExplained (next_lo new_map) (chars bytes) explained
  pub explanation : answer ≡ explanation_record explained

-- the result of `pm_explain`
pub record ExplainAnswer (bytes : List ℕ) (answer : PmExplanation) : Type 0 where
  pub codes : IsAmong (DONE ∷ MAP_FULL ∷ NO_MEMORY ∷ NOT_UTF8 ∷ []) answer.code
  pub parses : answer.code ≡ DONE → answer.reason ≡ 0 → Parses (next_lo new_map) (chars bytes)
  pub explanation : answer.code ≡ DONE → answer.reason ≢ 0 → TellsReason bytes answer
  pub not_utf8 : (answer.code ≡ NOT_UTF8) ↔ (IsUtf8 bytes → ⊥)
  pub map_full : (answer.code ≡ MAP_FULL) ↔ Overflows new_map bytes

-- ---- identifiers and literals

-- the result of `pm_ident_check`
pub record IdentAnswer (raw : Bool) (bytes : List ℕ) (code : ℕ) : Type 0 where
  pub codes : IsAmong (DONE ∷ NAME_EMPTY ∷ NAME_NUMBER ∷ NAME_INVALID ∷ NAME_RESERVED ∷ NOT_UTF8 ∷ NO_MEMORY ∷ []) code
  pub not_utf8 : (code ≡ NOT_UTF8) ↔ (IsUtf8 bytes → ⊥)
  pub done : code ≡ DONE → ident_fault raw (chars bytes) ≡ None
  pub empty : IsUtf8 bytes → ((code ≡ NAME_EMPTY) ↔ (ident_fault raw (chars bytes) ≡ Some faults.Empty))
  pub number : IsUtf8 bytes → ((code ≡ NAME_NUMBER) ↔ (ident_fault raw (chars bytes) ≡ Some faults.Number))
  pub invalid : IsUtf8 bytes → ((code ≡ NAME_INVALID) ↔ (ident_fault raw (chars bytes) ≡ Some faults.Invalid))
  pub reserved : IsUtf8 bytes → ((code ≡ NAME_RESERVED) ↔ (ident_fault raw (chars bytes) ≡ Some faults.Reserved))

-- the result of `pm_literal_check`
pub record LiteralAnswer (bytes : List ℕ) (code : ℕ) : Type 0 where
  pub codes : IsAmong (DONE ∷ NO_LITERAL ∷ NOT_UTF8 ∷ []) code
  pub done : (code ≡ DONE) ↔ (IsUtf8 bytes × IsWholeLiteral (chars bytes))
  pub not_utf8 : (code ≡ NOT_UTF8) ↔ (IsUtf8 bytes → ⊥)
  pub no_literal : (code ≡ NO_LITERAL) ↔ IsOtherText bytes

-- the text is a literal and the next file of the map, and the answer has its first position and its number of
-- characters
pub record IsReadLiteral (old : Session) (bytes : List ℕ) (new : Session) (answer : PmAnswer) : Type 0 where
  pub utf8 : IsUtf8 bytes
  pub whole : IsWholeLiteral (chars bytes)
  pub number : answer.number ≡ next_lo old.map
  pub count : answer.bytes ≡ length (chars bytes)
  pub map : new.map ≡ with_file old.map (chars bytes)

-- the result of `pm_read_literal`, and how it changes the session
pub record ReadLiteralAnswer (old : Session) (bytes : List ℕ) (new : Session) (answer : PmAnswer) : Type 0 where
  pub codes : IsAmong (DONE ∷ MAP_FULL ∷ NO_LITERAL ∷ NO_MEMORY ∷ NOT_UTF8 ∷ []) answer.code
  pub done : answer.code ≡ DONE → IsReadLiteral old bytes new answer
  pub not_utf8 : (answer.code ≡ NOT_UTF8) ↔ (IsUtf8 bytes → ⊥)
  pub no_literal : answer.code ≡ NO_LITERAL → IsOtherText bytes
  pub map_full : (answer.code ≡ MAP_FULL) ↔ Overflows old.map bytes
  pub kept : answer.code ≡ NO_LITERAL → new.map ≡ with_file old.map (chars bytes)
  pub unchanged : IsAmong (NOT_UTF8 ∷ MAP_FULL ∷ NO_MEMORY ∷ []) answer.code → new ≡ old
  pub rest : new ≡ record old { map = new.map }

-- a call that makes a literal with this text, and takes every value
pub record MakeAnswer (literal : List ℕ) (old new : Session) (answer : PmAnswer) : Type 0 where
  pub codes : IsAmong (DONE ∷ NO_MEMORY ∷ []) answer.code
  pub done : answer.code ≡ DONE → HasText new literal answer
  pub rest : KeepsAllButText old new

-- the result of `pm_string`, and how it changes the session
pub record StringAnswer (bytes : List ℕ) (old new : Session) (answer : PmAnswer) : Type 0 where
  pub codes : IsAmong (DONE ∷ NO_MEMORY ∷ NOT_UTF8 ∷ []) answer.code
  pub done : answer.code ≡ DONE → IsUtf8 bytes × HasText new (string_text (chars bytes)) answer
  pub not_utf8 : (answer.code ≡ NOT_UTF8) ↔ (IsUtf8 bytes → ⊥)
  pub unchanged : answer.code ≡ NOT_UTF8 → new ≡ old
  pub rest : KeepsAllButText old new

-- the result of `pm_character`, and how it changes the session
pub record CharacterAnswer (c : ℕ) (old new : Session) (answer : PmAnswer) : Type 0 where
  pub codes : IsAmong (DONE ∷ NO_CHARACTER ∷ NO_MEMORY ∷ []) answer.code
  pub done : answer.code ≡ DONE → HasText new (character_text c) answer
  pub no_character : (answer.code ≡ NO_CHARACTER) ↔ (IsScalar c → ⊥)
  pub unchanged : answer.code ≡ NO_CHARACTER → new ≡ old
  pub rest : KeepsAllButText old new

-- the session's text is a C string literal of these bytes
pub record MakesCString (bytes : List ℕ) (session : Session) (answer : PmAnswer) : Type 0 where
  pub text : IsCStringText bytes (chars (string_bytes session.text))
  pub count : answer.bytes ≡ length (string_bytes session.text)

-- the result of `pm_c_string`, and how it changes the session
pub record CStringAnswer (bytes : List ℕ) (old new : Session) (answer : PmAnswer) : Type 0 where
  pub codes : IsAmong (DONE ∷ NO_CHARACTER ∷ NO_MEMORY ∷ []) answer.code
  pub done : answer.code ≡ DONE → MakesCString bytes new answer
  pub no_character : (answer.code ≡ NO_CHARACTER) ↔ (has_no_zero bytes ≡ false)
  pub unchanged : answer.code ≡ NO_CHARACTER → new ≡ old
  pub rest : KeepsAllButText old new

-- the error is the one with this number in the content of a literal
pub record IsNumbered (error : ConversionErrorKind) (number : ℕ) : Type 0 where
  pub fault : EscapeError
  pub is : error ≡ FailedToUnescape fault
  pub numbered : number ≡ fault_number fault

-- there is no value, since the content of the literal has the error of this number
pub record IsFaulty (value : Result (List ℕ) ConversionErrorKind) (number : ℕ) : Type 0 where
  pub error : ConversionErrorKind
  pub is : value ≡ Err error
  pub numbered : IsNumbered error number

-- the literal's value is the session's text, and the answer has the number of its bytes
pub record HasTextValue (value : Result (List ℕ) ConversionErrorKind) (session : Session) (answer : PmAnswer) : Type 0
  where
    pub is : value ≡ Ok (chars (string_bytes session.text))
    pub count : answer.bytes ≡ length (string_bytes session.text)

-- the literal's value is the session's bytes, and the answer has their number
pub record HasBytesValue (value : Result (List ℕ) ConversionErrorKind) (session : Session) (answer : PmAnswer) : Type 0
  where
    pub is : value ≡ Ok session.bytes.items
    pub count : answer.bytes ≡ length session.bytes.items

-- `pm_str_value`, `pm_byte_str_value`, `pm_cstr_value`: why a literal has no value, and how the session changes
pub record ValueAnswer (value : Result (List ℕ) ConversionErrorKind) (bytes : List ℕ) (old new : Session)
    (answer : PmAnswer) : Type 0 where
  pub codes : IsAmong (DONE ∷ NO_LITERAL ∷ NO_MEMORY ∷ NOT_UNESCAPED ∷ NOT_UTF8 ∷ OTHER_KIND ∷ []) answer.code
  pub done : answer.code ≡ DONE → IsUtf8 bytes × IsWholeLiteral (chars bytes)
  pub kind : answer.code ≡ OTHER_KIND → value ≡ Err InvalidLiteralKind
  pub unescaped : answer.code ≡ NOT_UNESCAPED → IsFaulty value answer.number
  pub not_utf8 : (answer.code ≡ NOT_UTF8) ↔ (IsUtf8 bytes → ⊥)
  pub no_literal : (answer.code ≡ NO_LITERAL) ↔ IsOtherText bytes
  pub unchanged : (answer.code ≡ DONE → ⊥) → new ≡ old

-- ---- positions and spans

-- the span between two positions
abbrev pub span : ℕ → ℕ → Extent
span lo hi = record { lo = lo; hi = hi }

-- the positions are in order, and one file of the map has all from the first to the last
abbrev pub IsHeld : Files → ℕ → ℕ → Type 0
IsHeld map lo hi = (lo ≤ hi) × Holds map (span lo hi)

-- the result of `pm_line_column_of`
pub record LineColumnAnswer (map : Files) (position : ℕ) (answer : PmLineColumn) : Type 0 where
  pub codes : IsAmong (DONE ∷ NOT_HELD ∷ []) answer.code
  pub done : answer.code ≡ DONE
      → StartsAt map (span position position) (record { line = answer.line; column = answer.column })
  pub not_held : (answer.code ≡ NOT_HELD) ↔ (IsHeld map position position → ⊥)

-- the result of `pm_byte_range`
pub record ByteRangeAnswer (map : Files) (lo hi : ℕ) (answer : PmRange) : Type 0 where
  pub codes : IsAmong (DONE ∷ NOT_HELD ∷ []) answer.code
  pub done : answer.code ≡ DONE → HasBytes map (span lo hi) (record { start = answer.start; end = answer.end })
  pub not_held : (answer.code ≡ NOT_HELD) ↔ (IsHeld map lo hi → ⊥)

-- the session's text is the source text of the span
pub record LendsSource (old : Session) (span : Extent) (session : Session) (answer : PmAnswer) : Type 0 where
  pub text : IsTextOf old.map span (chars (string_bytes session.text))
  pub count : answer.bytes ≡ length (string_bytes session.text)

-- the result of `pm_source_text`, and how it changes the session
pub record SourceTextAnswer (old : Session) (lo hi : ℕ) (new : Session) (answer : PmAnswer) : Type 0 where
  pub codes : IsAmong (DONE ∷ NOT_HELD ∷ NO_MEMORY ∷ []) answer.code
  pub done : answer.code ≡ DONE → LendsSource old (span lo hi) new answer
  -- the span 0..0 has no text
  pub not_held : (answer.code ≡ NOT_HELD) ↔ ((IsHeld old.map lo hi → ⊥) ⊎ (span lo hi ≡ nowhere))
  pub unchanged : answer.code ≡ NOT_HELD → new ≡ old
  pub rest : KeepsAllButText old new

-- the session's text is the name of the file that has the span
pub record LendsName (old : Session) (span : Extent) (session : Session) (answer : PmAnswer) : Type 0 where
  pub text : HasName old.map span (chars (string_bytes session.text))
  pub count : answer.bytes ≡ length (string_bytes session.text)

-- the result of `pm_file_name`, and how it changes the session
pub record FileNameAnswer (old : Session) (lo hi : ℕ) (new : Session) (answer : PmAnswer) : Type 0 where
  pub codes : IsAmong (DONE ∷ NOT_HELD ∷ NO_MEMORY ∷ []) answer.code
  pub done : answer.code ≡ DONE → LendsName old (span lo hi) new answer
  pub not_held : (answer.code ≡ NOT_HELD) ↔ (IsHeld old.map lo hi → ⊥)
  pub unchanged : (answer.code ≡ DONE → ⊥) → new ≡ old
  pub rest : KeepsAllButText old new

-- the other positions are in order too, and one file of the map has both spans
abbrev pub AreJoined : Files → ℕ → ℕ → ℕ → ℕ → Type 0
AreJoined map lo hi other_lo other_hi =
    (other_lo ≤ other_hi) × AreInOneFile map (span lo hi) (span other_lo other_hi)

-- the result of `pm_join`
pub record JoinAnswer (map : Files) (lo hi other_lo other_hi : ℕ) (answer : PmRange) : Type 0 where
  pub codes : IsAmong (DONE ∷ NOT_HELD ∷ NOT_JOINED ∷ []) answer.code
  pub one_file : answer.code ≡ DONE → AreJoined map lo hi other_lo other_hi
  pub done : answer.code ≡ DONE → span answer.start answer.end ≡ covering_span (span lo hi) (span other_lo other_hi)
  pub not_held : (answer.code ≡ NOT_HELD) ↔ (IsHeld map lo hi → ⊥)
  pub not_joined : (answer.code ≡ NOT_JOINED)
      ↔ (IsHeld map lo hi × (AreJoined map lo hi other_lo other_hi → ⊥))
