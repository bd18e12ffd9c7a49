-- The ranges of a content's errors consist of whole characters.
use Rattle.std.proofs.Common.{◌≡◌, ℕ, ◌==◌, List, [], ◌∷◌, Result, Ok, Err, subst, arith}
use Rattle.std.specs.Str.{IsUtf8, chars}
use Rattle.std.specs.declared.ops.Range.{Range}
use Rattle.std.proofs.lemmas.Bool.{cond_both}
use Rattle.std.proofs.lemmas.List.Elements.{All-cons, All-head, All-nil, All-tail}
use Rattle.literal_escaper.specs.declared.errors.EscapeError.{EscapeError}
use Rattle.literal_escaper.specs.declared.mode.Mode.{Mode}
use Rattle.literal_escaper.specs.declared.mode.Mode.TheVariants.{Char, Byte, Str, RawStr, ByteStr, RawByteStr, CStr}
use Rattle.literal_escaper.specs.declared.mode.Mode.TheVariants.{RawCStr}
use Rattle.literal_escaper.specs.Character.{backslash}
use Rattle.literal_escaper.specs.Errors.{Error, at_most_one, error_at, errors_among, errors_in, read_range}
use Rattle.literal_escaper.specs.Errors.{single_error}
use Rattle.literal_escaper.specs.Escape.{Read}
use Rattle.literal_escaper.specs.Items.{Item, items, byte_offset, raw_items}
use Rattle.literal_escaper.specs.Kind.{Kind, any_char, ascii_byte, byte_kind, c_kind, string_kind}
use Rattle.literal_escaper.specs.Single.{only, single, single_front}
use Rattle.literal_escaper.specs.Text.{bytes}
use Rattle.literal_escaper.specs.Units.{raw_c_char}
use Rattle.literal_escaper.specs.Within.{AreWithin, IsRangeIn}
use Rattle.literal_escaper.proofs.FrontLemmas.{IsEnd, end_of_end, end_past, end_tail, end_whole, escape_end}
use Rattle.literal_escaper.proofs.RangeLemmas.{range_between}
use Rattle.literal_escaper.proofs.WithinLemmas.{items_are_within, raw_items_are_within, whole_content}

errors_within : {U : Type 0} (content : List ℕ) (items : List (Item U)) → AreWithin content items
    → AreWithin content (errors_among items)
unfolding errors_among
errors_within content [] h = All-nil (λ (x : Error). IsRangeIn content x.0)
errors_within {U = U} content ((range, Ok unit) ∷ items) h =
    errors_within content items (All-tail (λ (x : Item U). IsRangeIn content x.0) (range, Ok unit) items h)
errors_within {U = U} content ((range, Err e) ∷ items) h =
    All-cons (λ (x : Error). IsRangeIn content x.0) (range, e) (errors_among items)
    (All-head (λ (x : Item U). IsRangeIn content x.0) (range, Err e) items h)
    (errors_within content items (All-tail (λ (x : Item U). IsRangeIn content x.0) (range, Err e) items h))

only_end : {U : Type 0} (unit : Result U EscapeError) (rest : List ℕ) → IsEnd rest (only unit rest).rest
only_end (Ok unit) [] = end_whole []
only_end (Ok unit) (c ∷ rest) = end_tail c rest
only_end (Err e) rest = end_whole rest

single_front_end : {U : Type 0} (kind : Kind U) (c : ℕ) (text : List ℕ) → IsEnd text (single_front kind c text).rest
single_front_end {U = U} kind c text =
    cond_both (c == backslash) _ _ (λ (read : Read U). IsEnd text read.rest) (λ e. escape_end kind text)
    (λ e. end_whole text)

single_end : {U : Type 0} (kind : Kind U) (text : List ℕ) → IsEnd text (single kind text).rest
unfolding single
single_end kind [] = end_whole []
single_end kind (c ∷ text) =
    let read = single_front kind c text in
    end_past c text (only read.unit read.rest).rest
    (end_of_end text read.rest (only read.unit read.rest).rest (single_front_end kind c text)
    (only_end read.unit read.rest))

-- a range from the start of the content consists of whole characters
read_within : (content rest : List ℕ) → IsUtf8 content → IsEnd (chars content) rest
    → IsRangeIn content (read_range (bytes (chars content)) rest)
read_within content rest t e =
    let nothing : byte_offset (bytes (chars content)) (chars content) ≡ 0 = omega arith in
    subst (λ (n : ℕ). IsRangeIn content (record { start = n; end = byte_offset (bytes (chars content)) rest })) nothing
    (range_between content (chars content) rest (whole_content content t) e)

error_within : {U : Type 0} (content : List ℕ) (range : Range ℕ) (unit : Result U EscapeError)
    → IsRangeIn content range → AreWithin content (at_most_one (error_at range unit))
error_within content range (Ok unit) h = All-nil (λ (x : Error). IsRangeIn content x.0)
error_within content range (Err e) h =
    All-cons (λ (x : Error). IsRangeIn content x.0) (range, e) [] h (All-nil (λ (x : Error). IsRangeIn content x.0))

single_within : {U : Type 0} (kind : Kind U) (content : List ℕ) → IsUtf8 content
    → AreWithin content (at_most_one (single_error kind (chars content)))
single_within kind content t =
    error_within content (read_range (bytes (chars content)) (single kind (chars content)).rest)
    (single kind (chars content)).unit
    (read_within content (single kind (chars content)).rest t (single_end kind (chars content)))

pub errors_are_within : (mode : Mode) (content : List ℕ) → IsUtf8 content
    → AreWithin content (errors_in mode (chars content))
errors_are_within Char content t = single_within string_kind content t
errors_are_within Byte content t = single_within byte_kind content t
errors_are_within Str content t =
    errors_within content (items string_kind (chars content)) (items_are_within string_kind content t)
errors_are_within RawStr content t =
    errors_within content (raw_items any_char (chars content)) (raw_items_are_within any_char content t)
errors_are_within ByteStr content t =
    errors_within content (items byte_kind (chars content)) (items_are_within byte_kind content t)
errors_are_within RawByteStr content t =
    errors_within content (raw_items ascii_byte (chars content)) (raw_items_are_within ascii_byte content t)
errors_are_within CStr content t =
    errors_within content (items c_kind (chars content)) (items_are_within c_kind content t)
errors_are_within RawCStr content t =
    errors_within content (raw_items raw_c_char (chars content)) (raw_items_are_within raw_c_char content t)
