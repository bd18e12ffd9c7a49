-- Findings that are written one after the other.
use Rattle.std.proofs.Common.{◌≡◌, ◌∙◌, ◌+◌, ◌<◌, ◌≤◌, ◌||◌, ◌++◌, ℕ, Bool, true, false, List, [], ◌∷◌, Option}
use Rattle.std.proofs.Common.{refl, sym, ap, subst, arith, encode_utf8, append_assoc, append-nil}
use Rattle.std.proofs.Common.{length, length-append, ◌^◌, ◌==◌, if◌then◌else◌}
use Rattle.std.specs.Io.KnownBytes.{Appends}
use Rattle.std.proofs.KnownBytes.{Appends-nil, Appends-trans}
use Rattle.std.specs.Str.{chars, IsUtf8}
use Rattle.std.proofs.lemmas.List.{nil_from_length}
use Rattle.std.proofs.lemmas.Str.{chars-nil, chars_past_char, IsUtf8-past_char, len_utf8_bounds, length-encode}
use Rattle.rust_check.specs.Message.{Found, line_message}
use Rattle.rust_check.specs.TextPosition.{front, place_after, places_after}
use Rattle.rust_check.specs.Telling.{IsWithin, Tells, found_along, is_any, lines_of}
use Rattle.rust_check.specs.declared.finding.TextPosition.{TextPosition}
use Rattle.rust_check.specs.declared.options.Form.{Form}

lines_append : (form : Form) (path : List ℕ) (xs ys : List Found)
    → lines_of form path xs ++ lines_of form path ys ≡ lines_of form path (xs ++ ys)
lines_append form path [] ys = refl
lines_append form path (x ∷ xs) ys =
    append_assoc (line_message form path x) (lines_of form path xs) (lines_of form path ys)
    ∙ ap (λ l. line_message form path x ++ l) (lines_append form path xs ys)

any_append : (before : Bool) (xs ys : List Found) → ((before || is_any xs) || is_any ys) ≡ (before || is_any (xs ++ ys))
any_append true xs ys = refl
any_append false [] ys = refl
any_append false (x ∷ xs) ys = refl

or_false : (b : Bool) → b ≡ (b || false)
or_false true = refl
or_false false = refl

or_true : (b : Bool) → true ≡ (b || true)
or_true true = refl
or_true false = refl

-- no finding writes nothing
pub tells_none : (form : Form) (path : List ℕ) (old : Option (List ℕ)) (before : Bool)
    → Tells form path [] old old before before
tells_none form path old before = record { bytes = Appends-nil old; any = or_false before }

-- one finding is written as its line
pub tells_one : (form : Form) (path : List ℕ) (x : Found) (old new : Option (List ℕ)) (before : Bool)
    → Appends old new (line_message form path x) → Tells form path (x ∷ []) old new before true
tells_one form path x old new before line_written = record {
  bytes = subst (Appends old new) (sym (append-nil (line_message form path x))) line_written;
  any = or_true before;
}

-- the findings may be replaced by equal ones
pub tells_same : (form : Form) (path : List ℕ) (xs ys : List Found) (old new : Option (List ℕ)) (before after : Bool)
    → xs ≡ ys → Tells form path xs old new before after → Tells form path ys old new before after
tells_same form path xs ys old new before after same report =
    subst (λ l. Tells form path l old new before after) same report

-- more findings are written after the first ones
pub tells_more : (form : Form) (path : List ℕ) (xs ys : List Found) (old between new : Option (List ℕ))
    (before so_far after : Bool) → Tells form path xs old between before so_far
    → Tells form path ys between new so_far after
    → Tells form path (xs ++ ys) old new before after
tells_more form path xs ys old between new before so_far after first later = record {
  bytes = subst (Appends old new) (lines_append form path xs ys) (Appends-trans _ _ _ _ _ first.bytes later.bytes);
  any = later.any ∙ (ap (λ b. b || is_any ys) first.any ∙ any_append before xs ys);
}

-- the part of the text before `rest` is read, and what was found in it is written
pub record IsAlong {S : Type 0} (found : S → TextPosition → ℕ → List ℕ → List Found) (next : S → ℕ → List ℕ → S)
    (form : Form)
    (path text rest : List ℕ) (start known : S) (origin place : TextPosition) (first old : Option (List ℕ))
    (before after : Bool)
    : Type 0 where
  pub utf8 : IsUtf8 rest
  pub bytes : place.begin + length rest ≡ origin.begin + length text
  pub within : IsWithin place
  pub last : places_after place (chars rest) ≡ places_after origin (chars text)
  pub done : List Found
  pub report : Tells form path done first old before after
  pub all : done ++ found_along found next known place (chars rest) ≡ found_along found next start origin (chars text)

-- before the first character nothing is found
pub along_start : {S : Type 0} (found : S → TextPosition → ℕ → List ℕ → List Found) (next : S → ℕ → List ℕ → S)
    (form : Form)
    (path text rest : List ℕ) (start known : S) (origin place : TextPosition) (old : Option (List ℕ)) (before : Bool)
    → rest ≡ text → known ≡ start → place ≡ origin → IsUtf8 text → IsWithin origin
    → IsAlong found next form path text rest start known origin place old old before before
along_start found next form path text rest start known origin place old before at knows stands utf8 within =
    rw (at, knows, stands) (record {
      utf8 = utf8;
      bytes = refl;
      within = within;
      last = refl;
      done = [];
      report = tells_none form path old before;
      all = refl;
    })

within_after : (place : TextPosition) (c : ℕ) → IsWithin place → IsWithin (place_after place c)
within_after place c within = (let both = by_feed (c == 10) in record { line = both.0; column = both.1 })
  where
    by_feed : (is : Bool)
        → ((if is then place.line + 1 else place.line) ≤ place.begin + length (encode_utf8 c) + 1)
        × ((if is then 0 else place.column + 1) ≤ place.begin + length (encode_utf8 c))
    by_feed true = (omega (arith, within.line, length-encode c, len_utf8_bounds c), omega arith)
    by_feed false =
        (omega (arith, within.line), omega (arith, within.column, length-encode c, len_utf8_bounds c))

pub within_front : IsWithin front
within_front = record { line = omega arith; column = omega arith }

-- one more character keeps the invariant
pub along_one : {S : Type 0} (found : S → TextPosition → ℕ → List ℕ → List Found) (next : S → ℕ → List ℕ → S)
    (form : Form)
    (path text rest more : List ℕ) (start known knows : S) (origin place at : TextPosition)
    (first old new : Option (List ℕ))
    (before so_far after : Bool) (c : ℕ)
    → IsAlong found next form path text rest start known origin place first old before so_far
    → rest ≡ encode_utf8 c ++ more → knows ≡ next known c (chars more) → at ≡ place_after place c
    → Tells form path (found known place c (chars more)) old new so_far after
    → IsAlong found next form path text more start knows origin at first new before after
along_one found next form path text rest more start known knows origin place at first old new before so_far after c so
    split learns moves tells =
    let step : chars rest ≡ c ∷ chars more = chars_past_char rest more c so.utf8 split in
    let here = found known place c (chars more) in
    let later = found_along found next (next known c (chars more)) (place_after place c) (chars more) in
    rw (learns, moves) (record {
      utf8 = IsUtf8-past_char rest more c so.utf8 split;
      bytes = omega (arith, so.bytes, ap length split, length-append (encode_utf8 c) more);
      within = within_after place c so.within;
      last = ap (places_after place) (sym step) ∙ so.last;
      done = so.done ++ here;
      report = tells_more form path so.done here first old new before so_far after so.report tells;
      all = append_assoc so.done here later
          ∙ (ap (λ l. so.done ++ found_along found next known place l) (sym step) ∙ so.all);
    })

-- after the last character everything found is written
pub along_end : {S : Type 0} (found : S → TextPosition → ℕ → List ℕ → List Found) (next : S → ℕ → List ℕ → S)
    (form : Form)
    (path text rest : List ℕ) (start known : S) (origin place : TextPosition) (first old : Option (List ℕ))
    (before after : Bool)
    → IsAlong found next form path text rest start known origin place first old before after → length rest ≡ 0
    → Tells form path (found_along found next start origin (chars text)) first old before after
    × ((place ≡ places_after origin (chars text)) × (place.begin ≡ origin.begin + length text))
along_end found next form path text rest start known origin place first old before after so none =
    let nil : chars rest ≡ [] = ap chars (nil_from_length rest none) ∙ chars-nil in
    let whole : so.done ≡ found_along found next start origin (chars text) =
    sym (append-nil so.done) ∙ (ap (λ l. so.done ++ found_along found next known place l) (sym nil) ∙ so.all) in (
      subst (λ l. Tells form path l first old before after) whole so.report,
      (ap (places_after place) (sym nil) ∙ so.last, omega (arith, so.bytes, none)),
    )

-- a position in a text that is not too long can be counted on
pub room_for : {S : Type 0} (found : S → TextPosition → ℕ → List ℕ → List Found) (next : S → ℕ → List ℕ → S)
    (form : Form)
    (path text rest more : List ℕ) (start known : S) (origin place : TextPosition) (first old : Option (List ℕ))
    (before after : Bool) (c : ℕ)
    → IsAlong found next form path text rest start known origin place first old before after
    → rest ≡ encode_utf8 c ++ more → origin.begin + length text + 1 < 2 ^ 64
    → (place.line + 1 < 2 ^ 64) × ((place.column + 1 < 2 ^ 64) × (place.begin + length (encode_utf8 c) < 2 ^ 64))
room_for found next form path text rest more start known origin place first old before after c so split room =
    let sizes : length rest ≡ length (encode_utf8 c) + length more =
    ap length split ∙ length-append (encode_utf8 c) more in
    let one : 1 ≤ length (encode_utf8 c) = omega (arith, length-encode c, len_utf8_bounds c) in (
      omega (arith, so.within.line, so.bytes, sizes, one, room),
      (omega (arith, so.within.column, so.bytes, sizes, one, room), omega (arith, so.bytes, sizes, room)),
    )
