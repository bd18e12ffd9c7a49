-- What is seen of the output, part by part.
use Rattle.std.proofs.Common.{◌-◌}
use Rattle.std.proofs.Common.{◌≡◌, ℕ, zero, suc, ◌%◌, ◌/◌, ◌+◌, ◌<◌, ◌⊎◌, inl, inr, Bool, true, false, not, ◌==◌, List}
use Rattle.std.proofs.Common.{[], ◌∷◌, ◌++◌, Option, Some, None, codes, drop, length, take, IsTrue}
use Rattle.std.proofs.Common.{refl, sym, ap, subst, ◌∙◌, arith, append_assoc, append-nil}
use Rattle.std.specs.Fmt.{decimal, digit_glyph, digits, digits_onto}
use Rattle.std.specs.Prelude.{encode_utf8, if◌then◌else◌}
use Rattle.std.specs.Str.{chars, encode_utf8_all, IsUtf8}
use Rattle.std.proofs.lemmas.Bool.{and_parts, and_from, cases_eq, lt-ltb, ne_eqb, not-true}
use Rattle.std.proofs.lemmas.List.{take-append-drop}
use Rattle.std.proofs.lemmas.List.Folds.{list_all-append}
use Rattle.std.proofs.lemmas.Str.{encodes-append, encodes-chars}
use Rattle.lexical.specs.Piece.{Piece}
use Rattle.literal_escaper.specs.declared.errors.EscapeError.{EscapeError}
use Rattle.literal_escaper.specs.declared.errors.EscapeError.TheVariants as faults
use Rattle.explain.specs.Words.{sentence_of}
use Rattle.literal_escaper.specs.EscapeMessage.{escape_message}
use Rattle.explain.specs.declared.explained.Explained.{Explained}
use Rattle.explain.specs.declared.reason.Reason.{Reason}
use Rattle.explain.specs.declared.reason.Reason.TheVariants as reasons
use Rattle.highlight.specs.Mark.{Mark, Styled, Faulty, class_of, colour_of}
use Rattle.highlight.specs.Style.{class, colour, depth_class, depth_colour}
use Rattle.highlight.specs.Pieces.{AreAllPieces, Shown, all_shown, fault_of, faulty, first_position, shown_from, stuck}
use Rattle.highlight.specs.Pieces.{unread}
use Rattle.highlight.specs.Page.{IsMarked, anchor, escape, escape_text, in_span, in_colour, line_past, marked_piece}
use Rattle.highlight.specs.Page.{marked_pieces, marked_text}
use Rattle.highlight.specs.Seen.{InTag, can_be_seen, closes_tag, plain, visible_text, stays_in_tag}
use Rattle.highlight.specs.declared.style.Style.{Style}
use Rattle.highlight.specs.declared.style.Style.TheVariants as styles
use Rattle.highlight.specs.declared.format.Format.{Format}
use Rattle.highlight.specs.declared.format.Format.TheVariants.{Html, Term}

-- this text is seen of what is written, whatever follows
pub record Shows (format : Format) (written text : List ℕ) : Type 0 where
  pub shows : IsTrue (can_be_seen format text) → (rest : List ℕ)
      → plain format (written ++ rest) ≡ text ++ plain format rest

-- ---- one part after another

seen_parts : (format : Format) (s t : List ℕ) → can_be_seen format (s ++ t) ≡ true
    → (can_be_seen format s ≡ true) × (can_be_seen format t ≡ true)
seen_parts Html s t h = (refl, refl)
seen_parts Term s t h = and_parts _ _ (sym (list_all-append (λ c. not (c == 27)) s t) ∙ h)

Shows-nil : (format : Format) → Shows format [] []
Shows-nil format = record { shows = λ can rest. refl }

Shows-append : (format : Format) (v w s t : List ℕ) → Shows format v s → Shows format w t
    → Shows format (v ++ w) (s ++ t)
Shows-append format v w s t first second = record {
  shows = λ can rest.
      let parts = seen_parts format s t can in
      rw (append_assoc v w rest, append_assoc s t (plain format rest))
      (first.shows parts.0 (w ++ rest) ∙ ap (λ l. s ++ l) (second.shows parts.1 rest));
}

-- ---- tags

-- this text is seen of what follows the beginning of a tag
record EndsTag (format : Format) (tail text : List ℕ) : Type 0 where
  pub ends : IsTrue (can_be_seen format text) → (rest : List ℕ)
      → visible_text format InTag (tail ++ rest) ≡ text ++ plain format rest

EndsTag-more : (format : Format) (front : List ℕ) {tail text : List ℕ} → stays_in_tag format front ≡ true
    → EndsTag format tail text
    → EndsTag format (front ++ tail) text
EndsTag-more format [] stays tail = tail
EndsTag-more format (c ∷ front) stays tail =
    let parts = and_parts _ _ stays in
    let stay : closes_tag format c ≡ false = not-true _ parts.0 in
    let more = EndsTag-more format front parts.1 tail in
    record { ends = λ can rest. rw stay (more.ends can rest) }

-- no digit is `>`
digit_stays : (n : ℕ) → not (digit_glyph false (n % 10) == 62) ≡ true
digit_stays n =
    let few : (n % 10 < 10) = omega arith in
    rw (lt-ltb (n % 10) 10 few) (ap not (ne_eqb (48 + n % 10) 62 (λ e. absurd (omega (arith, e)))))

digits_stay : (k n : ℕ) (after : List ℕ) → stays_in_tag Html after ≡ true
    → stays_in_tag Html (digits_onto k 10 false n after) ≡ true
digits_stay zero n after stays = stays
digits_stay (suc k) n after stays =
    let more = and_from _ _ (digit_stays n) stays in
    elim (n / 10 == 0) as (λ b. stays_in_tag Html (if b then digit_glyph false (n % 10) ∷ after
    else digits_onto k 10 false (n / 10) (digit_glyph false (n % 10) ∷ after)) ≡ true)
    [ true ↦ more | false ↦ digits_stay k (n / 10) _ more ]

decimal_stays : (n : ℕ) → stays_in_tag Html (decimal n) ≡ true
unfolding digits
decimal_stays n = digits_stay 64 n [] refl

-- ---- text

anchor_shows : (line : ℕ) → Shows Html (anchor line) []
anchor_shows line =
    let end : EndsTag Html (codes "></a>") [] = record { ends = λ can rest. refl } in
    let tag = EndsTag-more Html (codes "a id=L") refl (EndsTag-more Html (decimal line) (decimal_stays line) end) in
    record { shows = λ can rest. tag.ends can rest }

-- an escaped byte shows the byte
byte_by : (c : ℕ) (rest : List ℕ) → ((c ≡ 60) ⊎ (c ≡ 60 → ⊥)) → ((c ≡ 62) ⊎ (c ≡ 62 → ⊥)) → ((c ≡ 38) ⊎ (c ≡ 38 → ⊥))
    → ((c ≡ 34) ⊎ (c ≡ 34 → ⊥)) → plain Html (escape c ++ rest) ≡ c ∷ plain Html rest
byte_by c rest (inl is) more ampersand quote = rw is refl
byte_by c rest (inr less) (inl is) ampersand quote = rw is refl
byte_by c rest (inr less) (inr more) (inl is) quote = rw is refl
byte_by c rest (inr less) (inr more) (inr ampersand) (inl is) = rw is refl
byte_by c rest (inr less) (inr more) (inr ampersand) (inr quote) =
    rw (ne_eqb c 60 less, ne_eqb c 62 more, ne_eqb c 38 ampersand, ne_eqb c 34 quote)
    (rw (ne_eqb c 60 less, ne_eqb c 38 ampersand) refl)

byte_shows : (c : ℕ) (rest : List ℕ) → plain Html (escape c ++ rest) ≡ c ∷ plain Html rest
byte_shows c rest = byte_by c rest (cases_eq c 60) (cases_eq c 62) (cases_eq c 38) (cases_eq c 34)

-- an escaped byte shows the byte, also a line feed, which an anchor follows
byte_first : (line c : ℕ) (text rest : List ℕ) → ((c ≡ 10) ⊎ (c ≡ 10 → ⊥))
    → ((l : ℕ) → plain Html (escape_text l text ++ rest) ≡ text ++ plain Html rest)
    → plain Html (escape_text line (c ∷ text) ++ rest) ≡ c ∷ (text ++ plain Html rest)
byte_first line c text rest (inl is) more = rw is (ap (λ l. 10 ∷ l)
    (ap (plain Html) (append_assoc (anchor (line + 1)) (escape_text (line + 1) text) rest)
    ∙ (anchor_shows (line + 1)).shows refl (escape_text (line + 1) text ++ rest) ∙ more (line + 1)))
byte_first line c text rest (inr feed) more = rw (ne_eqb c 10 feed) (
    ap (plain Html) (append_assoc (escape c) (escape_text line text) rest)
    ∙ byte_shows c (escape_text line text ++ rest) ∙ ap (λ l. c ∷ l) (more line))

escaped_shows : (line : ℕ) (text rest : List ℕ) → plain Html (escape_text line text ++ rest) ≡ text ++ plain Html rest
escaped_shows line [] rest = refl
escaped_shows line (c ∷ text) rest =
    byte_first line c text rest (cases_eq c 10) (λ l. escaped_shows l text rest)

-- for a terminal a text without ESC shows itself
uncoloured_shows : (text : List ℕ) → can_be_seen Term text ≡ true → (rest : List ℕ)
    → plain Term (text ++ rest) ≡ text ++ plain Term rest
uncoloured_shows [] can rest = refl
uncoloured_shows (c ∷ text) can rest =
    let parts = and_parts _ _ can in
    let here : (c == 27) ≡ false = not-true _ parts.0 in
    rw here (ap (λ l. c ∷ l) (uncoloured_shows text parts.1 rest))

-- ---- marks around the text

depth_class_by : (a b c d e : Bool) → stays_in_tag Html (if a then codes "d0" else (if b then codes "d1"
    else (if c then codes "d2" else (if d then codes "d3" else (if e then codes "d4" else codes "d5"))))) ≡ true
depth_class_by true b c d e = refl
depth_class_by false true c d e = refl
depth_class_by false false true d e = refl
depth_class_by false false false true e = refl
depth_class_by false false false false true = refl
depth_class_by false false false false false = refl

depth_class_stays : (depth : ℕ) → stays_in_tag Html (depth_class depth) ≡ true
depth_class_stays depth =
    depth_class_by (depth % 6 == 0) (depth % 6 == 1) (depth % 6 == 2) (depth % 6 == 3) (depth % 6 == 4)

depth_colour_by : (a b c d e : Bool) → stays_in_tag Term (if a then codes "33" else (if b then codes "35"
    else (if c then codes "34" else (if d then codes "36" else (if e then codes "32" else codes "31"))))) ≡ true
depth_colour_by true b c d e = refl
depth_colour_by false true c d e = refl
depth_colour_by false false true d e = refl
depth_colour_by false false false true e = refl
depth_colour_by false false false false true = refl
depth_colour_by false false false false false = refl

depth_colour_stays : (depth : ℕ) → stays_in_tag Term (depth_colour depth) ≡ true
depth_colour_stays depth =
    depth_colour_by (depth % 6 == 0) (depth % 6 == 1) (depth % 6 == 2) (depth % 6 == 3) (depth % 6 == 4)

class_stays : (style : Style) → stays_in_tag Html (class style) ≡ true
class_stays styles.Bare = refl
class_stays styles.Keyword = refl
class_stays styles.Name = refl
class_stays styles.RawName = refl
class_stays styles.Lifetime = refl
class_stays styles.Str = refl
class_stays styles.RawStr = refl
class_stays styles.ByteStr = refl
class_stays styles.CStr = refl
class_stays styles.Character = refl
class_stays styles.Byte = refl
class_stays styles.Integer = refl
class_stays styles.Float = refl
class_stays styles.ErrorLiteral = refl
class_stays styles.LineComment = refl
class_stays styles.BlockComment = refl
class_stays styles.Doc = refl
class_stays styles.Mark = refl
class_stays (styles.Delimiter depth) = depth_class_stays depth
class_stays styles.StrayCloser = refl
class_stays styles.Unclosed = refl
class_stays styles.NoPiece = refl
class_stays styles.Unread = refl

colour_stays : (style : Style) → stays_in_tag Term (colour style) ≡ true
colour_stays styles.Bare = refl
colour_stays styles.Keyword = refl
colour_stays styles.Name = refl
colour_stays styles.RawName = refl
colour_stays styles.Lifetime = refl
colour_stays styles.Str = refl
colour_stays styles.RawStr = refl
colour_stays styles.ByteStr = refl
colour_stays styles.CStr = refl
colour_stays styles.Character = refl
colour_stays styles.Byte = refl
colour_stays styles.Integer = refl
colour_stays styles.Float = refl
colour_stays styles.ErrorLiteral = refl
colour_stays styles.LineComment = refl
colour_stays styles.BlockComment = refl
colour_stays styles.Doc = refl
colour_stays styles.Mark = refl
colour_stays (styles.Delimiter depth) = depth_colour_stays depth
colour_stays styles.StrayCloser = refl
colour_stays styles.Unclosed = refl
colour_stays styles.NoPiece = refl
colour_stays styles.Unread = refl

-- no message of an error ends a tag
content_stays : (e : EscapeError) → stays_in_tag Html (escape_message e) ≡ true
unfolding escape_message
content_stays faults.ZeroChars = refl
content_stays faults.MoreThanOneChar = refl
content_stays faults.LoneSlash = refl
content_stays faults.InvalidEscape = refl
content_stays faults.BareCarriageReturn = refl
content_stays faults.BareCarriageReturnInRawString = refl
content_stays faults.EscapeOnlyChar = refl
content_stays faults.TooShortHexEscape = refl
content_stays faults.InvalidCharInHexEscape = refl
content_stays faults.OutOfRangeHexEscape = refl
content_stays faults.NoBraceInUnicodeEscape = refl
content_stays faults.InvalidCharInUnicodeEscape = refl
content_stays faults.EmptyUnicodeEscape = refl
content_stays faults.UnclosedUnicodeEscape = refl
content_stays faults.LeadingUnderscoreUnicodeEscape = refl
content_stays faults.OverlongUnicodeEscape = refl
content_stays faults.LoneSurrogateUnicodeEscape = refl
content_stays faults.OutOfRangeUnicodeEscape = refl
content_stays faults.UnicodeEscapeInByte = refl
content_stays faults.NonAsciiCharInByte = refl
content_stays faults.NulInCStr = refl
content_stays faults.UnskippedWhitespaceWarning = refl
content_stays faults.MultipleSkippedLinesWarning = refl

sentence_stays : (reason : Reason) → stays_in_tag Html (sentence_of reason) ≡ true
unfolding sentence_of
sentence_stays reasons.UnclosedComment = refl
sentence_stays reasons.BareReturnInDoc = refl
sentence_stays reasons.UnclosedString = refl
sentence_stays reasons.UnclosedRawString = refl
sentence_stays reasons.TooManyHashes = refl
sentence_stays reasons.HashesWithoutQuote = refl
sentence_stays reasons.ReservedRawName = refl
sentence_stays reasons.UnclosedCharacter = refl
sentence_stays (reasons.Content e) = content_stays e
sentence_stays reasons.DigitLifetime = refl
sentence_stays reasons.HashAfterLifetime = refl
sentence_stays reasons.NoDigits = refl
sentence_stays reasons.BadDigit = refl
sentence_stays reasons.BadNumberEnd = refl
sentence_stays reasons.MisplacedMark = refl
sentence_stays reasons.NoToken = refl
sentence_stays reasons.StrayCloser = refl
sentence_stays reasons.MismatchedCloser = refl
sentence_stays reasons.UnclosedOpener = refl

class_of_stays : (mark : Mark) → stays_in_tag Html (class_of mark) ≡ true
class_of_stays (Styled style) = class_stays style
class_of_stays (Faulty reason) =
    list_all-append (λ c. not (closes_tag Html c)) (sentence_of reason) (codes "\"")
    ∙ and_from _ _ (sentence_stays reason) refl

colour_of_stays : (mark : Mark) → stays_in_tag Term (colour_of mark) ≡ true
colour_of_stays (Styled style) = colour_stays style
colour_of_stays (Faulty reason) = refl

span_shows : (class written text : List ℕ) → stays_in_tag Html class ≡ true → Shows Html written text
    → Shows Html (in_span class written) text
span_shows class written text stays shown =
    let closing : Shows Html (codes "</span>") [] = record { shows = λ can rest. refl } in
    let inside : Shows Html (written ++ codes "</span>") text =
    subst (Shows Html (written ++ codes "</span>")) (append-nil text) (Shows-append Html _ _ text [] shown closing) in
    let end : EndsTag Html (codes ">" ++ (written ++ codes "</span>")) text = record { ends = inside.shows } in
    let tag = EndsTag-more Html (codes "span class=") refl (EndsTag-more Html class stays end) in
    elim (length class == 0) as (λ b. Shows Html (if b then written
    else codes "<span class=" ++ (class ++ (codes ">" ++ (written ++ codes "</span>")))) text)
    [ true ↦ shown | false ↦ record { shows = tag.ends } ]

colour_shows : (colour text : List ℕ) → stays_in_tag Term colour ≡ true → Shows Term (in_colour colour text) text
colour_shows colour text stays =
    let shown : Shows Term text text = record { shows = uncoloured_shows text } in
    let closing : Shows Term (27 ∷ codes "[0m") [] = record { shows = λ can rest. refl } in
    let inside : Shows Term (text ++ (27 ∷ codes "[0m")) text =
    subst (Shows Term (text ++ (27 ∷ codes "[0m"))) (append-nil text) (Shows-append Term _ _ text [] shown closing) in
    let end : EndsTag Term (codes "m" ++ (text ++ (27 ∷ codes "[0m"))) text = record { ends = inside.shows } in
    let tag = EndsTag-more Term (codes "[") refl (EndsTag-more Term colour stays end) in
    elim (length colour == 0) as (λ b. Shows Term (if b then text
    else (27 ∷ codes "[") ++ (colour ++ (codes "m" ++ (text ++ (27 ∷ codes "[0m"))))) text)
    [ true ↦ shown | false ↦ record { shows = tag.ends } ]

text_shows : (format : Format) (line : ℕ) (mark : Mark) (text : List ℕ)
    → Shows format (marked_text format line (class_of mark) (colour_of mark) text) text
text_shows format line mark [] = Shows-nil format
text_shows Html line mark (c ∷ text) =
    span_shows (class_of mark) (escape_text line (c ∷ text)) (c ∷ text) (class_of_stays mark)
    (record { shows = λ can rest. escaped_shows line (c ∷ text) rest })
text_shows Term line mark (c ∷ text) = colour_shows (colour_of mark) (c ∷ text) (colour_of_stays mark)

piece_shows : (format : Format) (line : ℕ) (piece : Shown) → Shows format (marked_piece format line piece) piece.1
piece_shows format line piece = text_shows format line piece.0 piece.1

-- ---- all pieces

texts : List Shown → List ℕ
texts [] = []
texts (piece ∷ more) = piece.1 ++ texts more

pieces_show : (format : Format) (line : ℕ) (shown : List Shown)
    → Shows format (marked_pieces format line shown) (texts shown)
unfolding texts
pieces_show format line [] = record { shows = λ can rest. refl }
pieces_show format line (piece ∷ more) =
    Shows-append format _ _ piece.1 (texts more) (piece_shows format line piece)
    (pieces_show format (line_past format line piece.1) more)

stuck_texts : (rest : List ℕ) → texts (stuck rest) ≡ encode_utf8_all rest
unfolding texts
stuck_texts [] = refl
stuck_texts (c ∷ rest) = rw (append-nil (encode_utf8 c), append-nil (encode_utf8_all rest)) refl

faulty_texts : (reason : Reason) (before size : ℕ) (text : List ℕ)
    → texts (faulty reason before size text) ≡ encode_utf8_all text
unfolding texts
faulty_texts reason before size text =
    let front = take before text in
    let more = drop before text in
    let here = take size more in
    let after = drop size more in
    ap (λ l. encode_utf8_all front ++ (encode_utf8_all here ++ l)) (append-nil (encode_utf8_all after))
    ∙ ap (λ l. encode_utf8_all front ++ l)
    (sym (encodes-append here after) ∙ ap encode_utf8_all (take-append-drop size more))
    ∙ sym (encodes-append front more) ∙ ap encode_utf8_all (take-append-drop before text)

unread_texts : (answer : Option Explained) (rest : List ℕ) → texts (unread answer rest) ≡ encode_utf8_all rest
unread_texts None rest = stuck_texts rest
unread_texts (Some x) rest =
    let before = (fault_of x).span.lo - first_position in
    let size = (fault_of x).span.hi - (fault_of x).span.lo in
    elim (x.before.start == 0)
    as (λ b. texts (if b then faulty x.reason before size rest else stuck rest) ≡ encode_utf8_all rest)
    [ true ↦ faulty_texts x.reason before size rest | false ↦ stuck_texts rest ]

all_texts : (answer : Option Explained) (first : Bool) (source : List ℕ) (delimiters : List Style) (quote : Bool)
    (all : List Piece) (rest : List ℕ)
    → AreAllPieces first source all rest → texts (shown_from answer delimiters quote all rest) ≡ encode_utf8_all source
unfolding texts
all_texts answer first source delimiters quote [] rest are =
    unread_texts answer rest ∙ ap encode_utf8_all (sym are.0)
all_texts answer first source delimiters quote (piece ∷ more) rest are =
    ap (λ l. encode_utf8_all piece.1 ++ l) (all_texts answer false are.0 _ _ more rest are.3)
    ∙ sym (encodes-append piece.1 are.0) ∙ ap encode_utf8_all (sym are.1)

-- the text is seen of the marked text, once tags are left out and escapes are undone
pub marked_shows : (format : Format) (text body : List ℕ) → IsUtf8 text → IsMarked format text body
    → IsTrue (can_be_seen format text) → plain format body ≡ text
marked_shows format text body utf8 marked can =
    let shown = all_shown marked.answer marked.all marked.rest in
    let are : texts shown ≡ text =
    all_texts marked.answer true (chars text) _ false marked.all marked.rest marked.are ∙ encodes-chars text utf8 in
    ap (plain format) (marked.is ∙ sym (append-nil _))
    ∙ (pieces_show format 1 shown).shows (subst (λ l. IsTrue (can_be_seen format l)) (sym are) can) []
    ∙ append-nil (texts shown) ∙ are
