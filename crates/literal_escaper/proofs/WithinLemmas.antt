-- The ranges of a content's items consist of whole characters.
use Rattle.std.proofs.Common.{◌≡◌, ℕ, zero, suc, ◌&&◌, ◌==◌, List, [], ◌∷◌, ◌++◌, Option, Some, None, Result, Err}
use Rattle.std.proofs.Common.{length, drop, ap, ap₂, sym, ◌∙◌, subst}
use Rattle.std.specs.Char.{is_whitespace}
use Rattle.std.specs.List.{list_any}
use Rattle.std.specs.Str.{IsUtf8, chars}
use Rattle.std.specs.declared.ops.Range.{Range}
use Rattle.std.proofs.lemmas.Bool.{cond_both}
use Rattle.std.proofs.lemmas.List.Elements.{All-append, All-cons, All-nil}
use Rattle.literal_escaper.specs.declared.cooked.Cooked.{Cooked}
use Rattle.literal_escaper.specs.declared.errors.EscapeError.{EscapeError}
use Rattle.literal_escaper.specs.declared.errors.EscapeError.TheVariants.{MultipleSkippedLinesWarning}
use Rattle.literal_escaper.specs.declared.errors.EscapeError.TheVariants.{UnskippedWhitespaceWarning}
use Rattle.literal_escaper.specs.declared.content_cursor.ContentCursor.{ContentCursor}
use Rattle.literal_escaper.specs.Character.{backslash, is_blank, line_feed}
use Rattle.literal_escaper.specs.Items.{Front, Item, between, front, items, items_from, items_within, line_skip}
use Rattle.literal_escaper.specs.Items.{lines_range, raw_items, raw_items_from, raw_unit, unit_front, warning_at}
use Rattle.literal_escaper.specs.Items.{white_range}
use Rattle.literal_escaper.specs.Kind.{Kind}
use Rattle.literal_escaper.specs.Unescaping.{cooked_left, raw_left, text_at, white_items}
use Rattle.literal_escaper.specs.Text.{bytes, first_is, while_front, while_rest}
use Rattle.literal_escaper.specs.Within.{AreWithin, IsRangeIn}
use Rattle.literal_escaper.proofs.FrontLemmas.{IsEnd, drop_end, end_of_end, end_past, end_tail, end_whole, front_end}
use Rattle.literal_escaper.proofs.FrontLemmas.{line_end, unit_end}
use Rattle.literal_escaper.proofs.RangeLemmas.{EndsIn, ends_further, range_between}

one_within : {A : Type 0} (content : List ℕ) (item : Range ℕ × A) → IsRangeIn content item.0
    → AreWithin content (item ∷ [])
one_within {A = A} content item h =
    All-cons (λ (x : Range ℕ × A). IsRangeIn content x.0) item [] h
    (All-nil (λ (x : Range ℕ × A). IsRangeIn content x.0))

none_within : {A : Type 0} (content : List ℕ) → AreWithin {A = A} content []
none_within {A = A} content = All-nil (λ (x : Range ℕ × A). IsRangeIn content x.0)

both_within : {A : Type 0} (content : List ℕ) (xs ys : List (Range ℕ × A)) → AreWithin content xs → AreWithin content ys
    → AreWithin content (xs ++ ys)
both_within {A = A} content xs ys h k = All-append (λ (x : Range ℕ × A). IsRangeIn content x.0) xs ys h k

lines_within : {U : Type 0} (content text blanks rest : List ℕ) → EndsIn content text → IsEnd text rest
    → AreWithin {A = Result U EscapeError} content
    (warning_at MultipleSkippedLinesWarning (lines_range (bytes (chars content)) text blanks rest))
lines_within {U = U} content text blanks rest e f =
    cond_both (list_any (λ c. c == line_feed) blanks) (Some (between (bytes (chars content)) text rest)) None
    (λ (r : Option (Range ℕ)). AreWithin {A = Result U EscapeError} content (warning_at MultipleSkippedLinesWarning r))
    (λ _. one_within content (between (bytes (chars content)) text rest, Err MultipleSkippedLinesWarning)
    (range_between content text rest e f))
    (λ _. none_within content)

white_within : {U : Type 0} (content text rest : List ℕ) → EndsIn content text → IsEnd text rest
    → AreWithin {A = Result U EscapeError} content
    (warning_at UnskippedWhitespaceWarning (white_range (bytes (chars content)) text rest))
white_within content text [] e f = none_within content
white_within {U = U} content text (c ∷ rest) e f =
    cond_both (is_whitespace c) (Some (between (bytes (chars content)) text rest)) None
    (λ (r : Option (Range ℕ)). AreWithin {A = Result U EscapeError} content (warning_at UnskippedWhitespaceWarning r))
    (λ _. one_within content (between (bytes (chars content)) text rest, Err UnskippedWhitespaceWarning)
    (range_between content text rest e (end_of_end text (c ∷ rest) rest f (end_tail c rest))))
    (λ _. none_within content)

line_within : {U : Type 0} (content text line : List ℕ) → EndsIn content text → IsEnd text line
    → AreWithin {A = Result U EscapeError} content (line_skip (bytes (chars content)) text line).items
unfolding line_skip
line_within {U = U} content text line e f =
    let rest : List ℕ = while_rest is_blank line in
    let blank_end : IsEnd text (while_rest is_blank line) =
    end_of_end text line (while_rest is_blank line) f (line_end line) in
    both_within content
    (warning_at MultipleSkippedLinesWarning (lines_range (bytes (chars content)) text (while_front is_blank line) rest))
    (warning_at UnskippedWhitespaceWarning (white_range (bytes (chars content)) text rest))
    (lines_within {U = U} content text (while_front is_blank line) rest e blank_end)
    (white_within {U = U} content text rest e blank_end)

front_within : {U : Type 0} (kind : Kind U) (content : List ℕ) (c : ℕ) (text : List ℕ) → EndsIn content (c ∷ text)
    → AreWithin content (front kind (bytes (chars content)) (c ∷ text)).items
unfolding front
front_within {U = U} kind content c text e =
    cond_both ((c == backslash) && first_is line_feed text) _ _ (λ (x : Front U). AreWithin content x.items)
    (λ _. line_within content (c ∷ text) (drop 1 text) e (end_past c text (drop 1 text) (drop_end text)))
    (λ _. one_within content (
      between (bytes (chars content)) (c ∷ text) (unit_front kind c text).rest,
      (unit_front kind c text).unit,
    )
    (range_between content (c ∷ text) (unit_front kind c text).rest e
    (end_past c text (unit_front kind c text).rest (unit_end kind c text))))

within_items : {U : Type 0} (kind : Kind U) (content : List ℕ) (n : ℕ) (text : List ℕ) → EndsIn content text
    → AreWithin content (items_within kind (bytes (chars content)) n text)
unfolding items_within front
within_items kind content zero text e = none_within content
within_items kind content (suc n) [] e = within_items kind content n [] e
within_items kind content (suc n) (c ∷ text) e =
    let end : ℕ = bytes (chars content) in
    both_within content (front kind end (c ∷ text)).items (items_within kind end n (front kind end (c ∷ text)).rest)
    (front_within kind content c text e)
    (within_items kind content n (front kind end (c ∷ text)).rest
    (ends_further content (c ∷ text) (front kind end (c ∷ text)).rest e
    (end_past c text (front kind end (c ∷ text)).rest (front_end kind end c text))))

pub whole_content : (content : List ℕ) → IsUtf8 content → EndsIn content (chars content)
whole_content content t = record { utf8 = t; is_end = end_whole (chars content) }

pub items_are_within : {U : Type 0} (kind : Kind U) (content : List ℕ) → IsUtf8 content
    → AreWithin content (items kind (chars content))
items_are_within kind content t =
    within_items kind content (length (chars content)) (chars content) (whole_content content t)

within_raw : {U : Type 0} (of_char : ℕ → Result U EscapeError) (content text : List ℕ) → EndsIn content text
    → AreWithin content (raw_items_from of_char (bytes (chars content)) text)
unfolding raw_items_from
within_raw of_char content [] e = none_within content
within_raw {U = U} of_char content (c ∷ text) e =
    All-cons (λ (x : Item U). IsRangeIn content x.0)
    (between (bytes (chars content)) (c ∷ text) text, raw_unit of_char c)
    (raw_items_from of_char (bytes (chars content)) text)
    (range_between content (c ∷ text) text e (end_tail c text))
    (within_raw of_char content text (ends_further content (c ∷ text) text e (end_tail c text)))

pub raw_items_are_within : {U : Type 0} (of_char : ℕ → Result U EscapeError) (content : List ℕ) → IsUtf8 content
    → AreWithin content (raw_items of_char (chars content))
raw_items_are_within of_char content t = within_raw of_char content (chars content) (whole_content content t)

-- the items that are left at the start of a content with escapes have ranges of whole characters
pub cooked_within : {U : Type 0} (kind : Kind U) (content : List ℕ) (start : Cooked) → IsUtf8 content
    → text_at start.cursor ≡ chars content → start.cursor.end ≡ bytes (chars content) → start.warning ≡ None
    → AreWithin content (cooked_left kind start)
cooked_within {U = U} kind content start t text end warning =
    let whole : cooked_left kind start ≡ items kind (chars content) =
    ap (λ w. white_items w ++ items_from kind start.cursor.end (text_at start.cursor)) warning
    ∙ ap₂ (items_from kind) end text
    in
    subst (λ (xs : List (Item U)). AreWithin content xs) (sym whole) (items_are_within kind content t)

-- the items that are left at the start of a raw content have ranges of whole characters
pub raw_within : {U : Type 0} (of_char : ℕ → Result U EscapeError) (content : List ℕ) (start : ContentCursor)
    → IsUtf8 content
    → text_at start ≡ chars content → start.end ≡ bytes (chars content)
    → AreWithin content (raw_left of_char start)
raw_within {U = U} of_char content start t text end =
    let whole : raw_left of_char start ≡ raw_items of_char (chars content) = ap₂ (raw_items_from of_char) end text in
    subst (λ (xs : List (Item U)). AreWithin content xs) (sym whole) (raw_items_are_within of_char content t)
