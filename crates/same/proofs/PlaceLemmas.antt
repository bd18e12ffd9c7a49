-- Lines and columns in a text, character by character.
use Rattle.std.proofs.Common.{◌≡◌, ◌∙◌, ◌+◌, ◌-◌, ◌<◌, ◌≤◌, ◌++◌, ◌⊎◌, ℕ, Bool, true, false, not, List, [], ◌∷◌}
use Rattle.std.proofs.Common.{refl, sym, ap}
use Rattle.std.proofs.Common.{append_assoc, append-nil, length, length-append, reverse, arith, encode_utf8, ◌==◌}
use Rattle.std.proofs.Common.{inl, inr}
use Rattle.std.specs.Prelude.{cond, take}
use Rattle.std.specs.Char.{len_utf8}
use Rattle.std.specs.List.{take_while, count_by}
use Rattle.std.specs.Str.{chars, IsUtf8, encode_utf8_all}
use Rattle.std.proofs.Math.Seq.{take-append_seam}
use Rattle.std.proofs.lemmas.List.{append_cancel_left, length-reverse, reverse-append}
use Rattle.std.proofs.lemmas.List.Sums.{count_by-le-length, sum_by-append, take_while-cons}
use Rattle.std.proofs.lemmas.Str.{chars_past_char, IsUtf8-past_char, encodes-chars, length-encode}
use Rattle.std.proofs.lemmas.Str.{length-le-encodes, len_utf8_bounds}
use Rattle.proc_macro2.specs.CharOffset.{is_line_feed, line_column}
use Rattle.proc_macro2.specs.declared.LineColumn.{LineColumn}

-- the number of the line that is reached after these characters
abbrev line_after : List ℕ → ℕ
line_after done = 1 + count_by is_line_feed done

-- the number of characters on that line so far
abbrev column_after : List ℕ → ℕ
column_after done = length (take_while (λ c. not (is_line_feed c)) (reverse done))

-- the part of the text before `rest` is read; `left` is how many of the `bytes` bytes are not read yet, if these end
-- with a character
pub record IsAt (text rest : List ℕ) (bytes left line column : ℕ) : Type 0 where
  pub done : List ℕ
  pub utf8 : IsUtf8 rest
  pub whole : chars text ≡ done ++ chars rest
  pub line_is : line ≡ line_after done
  pub column_is : column ≡ column_after done
  pub more : (front after : List ℕ) → chars text ≡ front ++ after → bytes ≡ length (encode_utf8_all front)
      → (more : List ℕ) × (front ≡ done ++ more) × (left ≡ length (encode_utf8_all more))

pub at_start : (text rest : List ℕ) (bytes : ℕ) → IsUtf8 text → rest ≡ text → IsAt text rest bytes bytes 1 0
at_start text rest bytes utf8 is = rw is (record {
  done = [];
  utf8 = utf8;
  whole = refl;
  line_is = refl;
  column_is = refl;
  more = λ front after whole count. (front, refl, count);
})

line_one : (done : List ℕ) (c : ℕ) → line_after (done ++ (c ∷ [])) ≡ line_after done + (cond (c == 10) 1 0)
line_one done c =
    let one = sum_by-append (λ x. cond (is_line_feed x) 1 0) done (c ∷ []) in omega (arith, one)

column_one : (done : List ℕ) (c : ℕ)
    → column_after (done ++ (c ∷ [])) ≡ cond (c == 10) 0 (column_after done + 1)
column_one done c =
    rw (reverse-append done (c ∷ []), take_while-cons (λ x. not (is_line_feed x)) c (reverse done)) (by_feed (c == 10))
  where
    by_feed : (is : Bool)
        → length (cond (not is) (c ∷ take_while (λ x. not (is_line_feed x)) (reverse done)) [])
        ≡ cond is 0 (column_after done + 1)
    by_feed true = refl
    by_feed false = omega arith

-- one more character is read
module _ (text rest after_c : List ℕ) (bytes left line column c : ℕ) (at : IsAt text rest bytes left line column)
    (split : rest ≡ encode_utf8 c ++ after_c) (some : 0 < left) where
  next : chars rest ≡ c ∷ chars after_c
  next = chars_past_char rest after_c c at.utf8 split

  whole_now : chars text ≡ (at.done ++ (c ∷ [])) ++ chars after_c
  whole_now = at.whole ∙ (ap (λ l. at.done ++ l) next ∙ sym (append_assoc at.done (c ∷ []) (chars after_c)))

  more_now : (front after : List ℕ) → chars text ≡ front ++ after → bytes ≡ length (encode_utf8_all front)
      → (more : List ℕ) × (front ≡ (at.done ++ (c ∷ [])) ++ more)
      × (left - len_utf8 c ≡ length (encode_utf8_all more))
  more_now front after whole count = by_more (at.more front after whole count)
    where
      by_more : (more : List ℕ) × (front ≡ at.done ++ more) × (left ≡ length (encode_utf8_all more))
          → (more : List ℕ) × (front ≡ (at.done ++ (c ∷ [])) ++ more)
          × (left - len_utf8 c ≡ length (encode_utf8_all more))
      by_more ([], is, size) = absurd (omega (arith, size, some))
      by_more (d ∷ more, is, size) =
          let rests : c ∷ chars after_c ≡ d ∷ (more ++ after) =
          append_cancel_left at.done _ _
          (ap (λ l. at.done ++ l) (sym next) ∙ (sym at.whole ∙ (whole ∙ (ap (λ l. l ++ after) is
          ∙ append_assoc at.done (d ∷ more) after)))) in
          let same : d ≡ c = cc in (
            more,
            is ∙ (ap (λ x. at.done ++ (x ∷ more)) same ∙ sym (append_assoc at.done (c ∷ []) more)),
            let sizes = length-append (encode_utf8 d) (encode_utf8_all more) in
                let first = length-encode d in
                rw (sym same) (omega (arith, size, sizes, first)),
          )

  pub at_feed : (c == 10) ≡ true → IsAt text after_c bytes (left - len_utf8 c) (line + 1) 0
  at_feed feed = record {
    done = at.done ++ (c ∷ []);
    utf8 = IsUtf8-past_char rest after_c c at.utf8 split;
    whole = whole_now;
    line_is = omega (arith, at.line_is, rw feed at (line_one at.done c));
    column_is = sym (rw feed at (column_one at.done c));
    more = more_now;
  }

  pub at_other : (c == 10) ≡ false → IsAt text after_c bytes (left - len_utf8 c) line (column + 1)
  at_other other = record {
    done = at.done ++ (c ∷ []);
    utf8 = IsUtf8-past_char rest after_c c at.utf8 split;
    whole = whole_now;
    line_is = omega (arith, at.line_is, rw other at (line_one at.done c));
    column_is = omega (arith, at.column_is, rw other at (column_one at.done c));
    more = more_now;
  }

-- the line and column are found when no bytes are left or the text ends
pub at_end : (text rest : List ℕ) (bytes left line column : ℕ) → IsAt text rest bytes left line column
    → (left ≡ 0) ⊎ (chars rest ≡ []) → (front after : List ℕ) → chars text ≡ front ++ after
    → bytes ≡ length (encode_utf8_all front)
    → ◌≡◌ {A = LineColumn} (record { line = line; column = column }) (line_column (chars text) (length front))
at_end text rest bytes left line column at none front after whole count =
    by_more (at.more front after whole count) none
  where
    result : front ≡ at.done
        → ◌≡◌ {A = LineColumn} (record { line = line; column = column }) (line_column (chars text) (length front))
    result is =
        let taken : take (length front) (chars text) ≡ at.done =
        ap (take (length front)) whole ∙ (take-append_seam front after ∙ is) in
        rw (taken, at.line_is, at.column_is) refl

    by_more : (more : List ℕ) × (front ≡ at.done ++ more) × (left ≡ length (encode_utf8_all more))
        → (left ≡ 0) ⊎ (chars rest ≡ [])
        → ◌≡◌ {A = LineColumn} (record { line = line; column = column }) (line_column (chars text) (length front))
    by_more ([], is, size) none = result (is ∙ append-nil at.done)
    by_more (d ∷ more, is, size) (inl zero) =
        let sizes = length-append (encode_utf8 d) (encode_utf8_all more) in
        let first = length-encode d in
        let least = len_utf8_bounds d in
        absurd (omega (arith, size, zero, sizes, first, least.0))
    by_more (d ∷ more, is, size) (inr nil) =
        let rests : [] ≡ d ∷ (more ++ after) =
        append_cancel_left at.done _ _
        (ap (λ l. at.done ++ l) (sym nil) ∙ (sym at.whole ∙ (whole ∙ (ap (λ l. l ++ after) is
        ∙ append_assoc at.done (d ∷ more) after)))) in
        absurd (cc)

by_first : (p : ℕ → Bool) (x : ℕ) (xs : List ℕ) (is : Bool) → length (take_while p xs) ≤ length xs
    → length (cond is (x ∷ take_while p xs) []) ≤ length (x ∷ xs)
by_first p x xs true shorter = omega (arith, shorter)
by_first p x xs false shorter = omega arith

take_while_short : (p : ℕ → Bool) (xs : List ℕ) → length (take_while p xs) ≤ length xs
take_while_short p [] = omega arith
take_while_short p (x ∷ xs) = rw (take_while-cons p x xs) (by_first p x xs (p x) (take_while_short p xs))

-- a text has no more lines and columns than bytes
pub few : (text rest more : List ℕ) (bytes left line column c : ℕ) → IsAt text rest bytes left line column
    → IsUtf8 text → rest ≡ encode_utf8 c ++ more → (line ≤ length text) × (column < length text)
few text rest more bytes left line column c at utf8 split =
    let next : chars rest ≡ c ∷ chars more = chars_past_char rest more c at.utf8 split in
    let count = ap length (at.whole ∙ ap (λ l. at.done ++ l) next) in
    let parts = length-append at.done (c ∷ chars more) in
    let feeds = count_by-le-length is_line_feed at.done in
    let bytes_of = length-le-encodes (chars text) in
    let spelled = ap length (encodes-chars text utf8) in
    let blank = take_while_short (λ c. not (is_line_feed c)) (reverse at.done) in
    let turned = length-reverse at.done in (
      omega (arith, at.line_is, feeds, bytes_of, spelled, count, parts),
      omega (arith, at.column_is, blank, turned, bytes_of, spelled, count, parts),
    )
