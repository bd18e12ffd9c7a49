-- The range of each item consists of whole characters of the content.
use Rattle.std.proofs.Common.{◌≡◌, ℕ, ◌+◌, true, List, [], ◌∷◌, ◌++◌, length, refl, ap, sym, ◌∙◌, subst, arith}
use Rattle.std.proofs.Common.{length-append}
use Rattle.std.specs.Str.{IsCharBoundary, IsUtf8, all_scalars as scalars, chars, encode_utf8_all}
use Rattle.std.proofs.lemmas.Bool.{and_from, and_parts}
use Rattle.std.proofs.lemmas.Str.{IsCharBoundary-at_seam, encodes-append, encodes-chars, scalars-chars}
use Rattle.literal_escaper.specs.Text.{bytes}
use Rattle.literal_escaper.specs.Items.{between, byte_offset}
use Rattle.literal_escaper.specs.Within.{IsRangeIn}
use Rattle.literal_escaper.proofs.FrontLemmas.{IsEnd, end_of_end}

-- whether the content is valid UTF-8 and the text is a suffix of its characters
pub record EndsIn (content text : List ℕ) : Type 0 where
  pub utf8 : IsUtf8 content
  pub is_end : IsEnd (chars content) text

split_scalars : (p r : List ℕ) → scalars (p ++ r) ≡ true → (scalars p ≡ true) × (scalars r ≡ true)
split_scalars [] r h = (refl, h)
split_scalars (c ∷ p) r h =
    let parts = and_parts _ _ h in
    let more = split_scalars p r parts.1 in
    (and_from _ _ parts.0 more.0, more.1)

bytes-append : (p r : List ℕ) → bytes (p ++ r) ≡ bytes p + bytes r
bytes-append p r = ap length (encodes-append p r) ∙ length-append (encode_utf8_all p) (encode_utf8_all r)

-- the byte offset of a suffix is the number of bytes before it
before_end : (content text : List ℕ) (e : EndsIn content text)
    → byte_offset (bytes (chars content)) text ≡ bytes e.is_end.0
before_end content text e =
    let whole : bytes (chars content) ≡ bytes e.is_end.0 + bytes text = ap bytes e.is_end.1
    ∙ bytes-append e.is_end.0 text in
    omega arith

boundary : (content text : List ℕ) → EndsIn content text
    → IsCharBoundary content (byte_offset (bytes (chars content)) text)
boundary content text e =
    let seam : content ≡ encode_utf8_all e.is_end.0 ++ encode_utf8_all text =
    sym (encodes-chars content e.utf8) ∙ (ap encode_utf8_all e.is_end.1 ∙ encodes-append e.is_end.0 text)
    in
    let rest : IsUtf8 (encode_utf8_all text) =
    (text, ((split_scalars e.is_end.0 text (ap scalars (sym e.is_end.1) ∙ scalars-chars content e.utf8)).1, refl))
    in
    subst (IsCharBoundary content) (sym (before_end content text e))
    (IsCharBoundary-at_seam content (encode_utf8_all e.is_end.0) (encode_utf8_all text) seam rest)

pub ends_further : (content text rest : List ℕ) → EndsIn content text → IsEnd text rest → EndsIn content rest
ends_further content text rest e f = record { utf8 = e.utf8; is_end = end_of_end (chars content) text rest e.is_end f }

-- the range from one suffix to a later one consists of whole characters
pub range_between : (content text rest : List ℕ) → EndsIn content text → IsEnd text rest
    → IsRangeIn content (between (bytes (chars content)) text rest)
range_between content text rest e f =
    let later = ends_further content text rest e f in
    let longer : bytes text ≡ bytes f.0 + bytes rest = ap bytes f.1 ∙ bytes-append f.0 rest in
    let last = boundary content rest later in record {
      ordered = omega arith;
      within = last.0;
      start = boundary content text e;
      end = last;
    }
