-- The line on which a text ends, character by character.
use Rattle.std.proofs.Common.{◌≡◌, ◌∙◌, ◌+◌, ◌||◌, ◌++◌, ℕ, Bool, true, false, not, List, [], ◌∷◌, refl, sym, ap}
use Rattle.std.proofs.Common.{append_assoc, append-nil, length, length-append, ◌≤◌, reverse, arith, encode_utf8, ◌==◌}
use Rattle.std.specs.Prelude.{if◌then◌else◌, cond}
use Rattle.std.specs.Str.{chars, IsUtf8}
use Rattle.std.specs.List.{take_while, count_by}
use Rattle.std.proofs.lemmas.List.{reverse-append, nil_from_length}
use Rattle.std.proofs.lemmas.Str.{chars-nil, chars_past_char, IsUtf8-past_char}
use Rattle.std.proofs.lemmas.List.Sums.{count_by-le-length, sum_by-append, take_while-cons}
use Rattle.pm_span.proofs.AsciiLemmas.{length_chars_le}
use Rattle.pm_span.specs.CharOffset.{is_line_feed}
use Rattle.rust_check.specs.TextPosition.{ends_line, first_line, last_line, last_number}

-- the part of the text before `rest` is read, and the line that is reached has this number and begins with `front`
pub record IsAt (text front rest : List ℕ) (number : ℕ) : Type 0 where
  pub done : List ℕ
  pub utf8 : IsUtf8 rest
  pub whole : chars text ≡ done ++ chars rest
  pub counted : number ≡ last_number done
  pub line : chars front ≡ last_line done ++ chars rest

count_one : (done : List ℕ) (c : ℕ)
    → count_by is_line_feed (done ++ (c ∷ [])) ≡ count_by is_line_feed done + (if c == 10 then 1 else 0)
count_one done c = sum_by-append _ done (c ∷ []) ∙ ap (λ n. count_by is_line_feed done + n) (by_feed (c == 10))
  where
    by_feed : (is : Bool) → 0 + cond is 1 0 ≡ (if is then 1 else 0)
    by_feed true = refl
    by_feed false = refl

line_one : (done : List ℕ) (c : ℕ)
    → last_line (done ++ (c ∷ [])) ≡ (if c == 10 then [] else last_line done ++ (c ∷ []))
line_one done c =
    rw (reverse-append done (c ∷ []), take_while-cons (λ c. not (is_line_feed c)) c (reverse done))
    (by_feed (c == 10))
  where
    by_feed : (is : Bool)
        → reverse (cond (not is) (c ∷ take_while (λ c. not (is_line_feed c)) (reverse done)) [])
        ≡ (if is then [] else last_line done ++ (c ∷ []))
    by_feed true = refl
    by_feed false = reverse-append (c ∷ []) (take_while (λ c. not (is_line_feed c)) (reverse done))

-- a character that is not LF stays on the line
pub at_other : (text front rest more : List ℕ) (number c : ℕ) → IsAt text front rest number
    → rest ≡ encode_utf8 c ++ more → (c == 10) ≡ false → IsAt text front more number
at_other text front rest more number c at split other =
    let next : chars rest ≡ c ∷ chars more = chars_past_char rest more c at.utf8 split in
    record {
      done = at.done ++ (c ∷ []);
      utf8 = IsUtf8-past_char rest more c at.utf8 split;
      whole = at.whole ∙ (ap (λ l. at.done ++ l) next ∙ sym (append_assoc at.done (c ∷ []) (chars more)));
      counted = omega (arith, at.counted, rw other at (count_one at.done c));
      line = at.line ∙ (ap (λ l. last_line at.done ++ l) next
          ∙ (sym (append_assoc (last_line at.done) (c ∷ []) (chars more))
          ∙ ap (λ l. l ++ chars more) (sym (rw other at (line_one at.done c)))));
    }

-- LF begins the next line
pub at_feed : (text front rest more : List ℕ) (number c : ℕ) → IsAt text front rest number
    → rest ≡ encode_utf8 c ++ more → (c == 10) ≡ true → IsAt text more more (number + 1)
at_feed text front rest more number c at split feed =
    let next : chars rest ≡ c ∷ chars more = chars_past_char rest more c at.utf8 split in
    record {
      done = at.done ++ (c ∷ []);
      utf8 = IsUtf8-past_char rest more c at.utf8 split;
      whole = at.whole ∙ (ap (λ l. at.done ++ l) next ∙ sym (append_assoc at.done (c ∷ []) (chars more)));
      counted = omega (arith, at.counted, rw feed at (count_one at.done c));
      line = ap (λ l. l ++ chars more) (sym (rw feed at (line_one at.done c)));
    }

-- at the start of the text, line 1 is reached
pub at_start : (text : List ℕ) → IsUtf8 text → IsAt text text text 1
at_start text utf8 = record { done = []; utf8 = utf8; whole = refl; counted = refl; line = refl }

-- at the end of the text, the line that is reached is the last one
pub at_end : (text front rest : List ℕ) (number : ℕ) → IsAt text front rest number → length rest ≡ 0
    → (number ≡ last_number (chars text)) × (chars front ≡ last_line (chars text))
at_end text front rest number at none =
    let nil : chars rest ≡ [] = ap chars (nil_from_length rest none) ∙ chars-nil in
    let whole : chars text ≡ at.done = at.whole ∙ (ap (λ l. at.done ++ l) nil ∙ append-nil at.done) in (
      at.counted ∙ ap last_number (sym whole),
      at.line ∙ (ap (λ l. last_line at.done ++ l) nil ∙ (append-nil (last_line at.done) ∙ ap last_line (sym whole))),
    )

-- a text has no more lines than bytes, if a character is left
pub few_lines : (text front rest more : List ℕ) (number c : ℕ) → IsAt text front rest number → IsUtf8 text
    → rest ≡ encode_utf8 c ++ more → number ≤ length text
few_lines text front rest more number c at utf8 split =
    let next : chars rest ≡ c ∷ chars more = chars_past_char rest more c at.utf8 split in
    omega (
      arith,
      at.counted,
      count_by-le-length is_line_feed at.done,
      length_chars_le text utf8,
      ap length (at.whole ∙ ap (λ l. at.done ++ l) next),
      length-append at.done (c ∷ chars more),
    )

-- the part of the text's first line before `rest` is read
pub record IsWithin (text left rest : List ℕ) : Type 0 where
  pub done : List ℕ
  pub utf8 : IsUtf8 rest
  pub same : chars left ≡ chars rest
  pub whole : chars text ≡ done ++ chars rest
  pub line : first_line (chars text) ≡ done ++ first_line (chars rest)

pub within_start : (text : List ℕ) → IsUtf8 text → IsWithin text text text
within_start text utf8 = record { done = []; utf8 = utf8; same = refl; whole = refl; line = refl }

pub within_one : (text left rest more : List ℕ) (c : ℕ) → IsWithin text left rest
    → rest ≡ encode_utf8 c ++ more → ends_line c ≡ false → IsWithin text more more
within_one text left rest more c at split goes =
    let next : chars rest ≡ c ∷ chars more = chars_past_char rest more c at.utf8 split in
    record {
      done = at.done ++ (c ∷ []);
      utf8 = IsUtf8-past_char rest more c at.utf8 split;
      same = refl;
      whole = at.whole ∙ (ap (λ l. at.done ++ l) next ∙ sym (append_assoc at.done (c ∷ []) (chars more)));
      line = at.line ∙ (ap (λ l. at.done ++ first_line l) next
          ∙ (ap (λ l. at.done ++ l) (goes_on c (chars more) goes)
          ∙ sym (append_assoc at.done (c ∷ []) (first_line (chars more)))));
    }
  where
    goes_on : (c : ℕ) (more : List ℕ) → ends_line c ≡ false → first_line (c ∷ more) ≡ c ∷ first_line more
    goes_on c more goes =
        take_while-cons (λ d. not (ends_line d)) c more ∙ ap (λ b. cond (not b) (c ∷ first_line more) []) goes

-- the first line ends before LF or CR
pub within_stop : (text left rest more : List ℕ) (c : ℕ) → IsWithin text left rest
    → rest ≡ encode_utf8 c ++ more → ends_line c ≡ true
    → (front : List ℕ) × (chars text ≡ front ++ chars left) × (first_line (chars text) ≡ front)
within_stop text left rest more c at split ends =
    let next : chars rest ≡ c ∷ chars more = chars_past_char rest more c at.utf8 split in (
      at.done,
      at.whole ∙ ap (λ l. at.done ++ l) (sym at.same),
      at.line ∙ (ap (λ l. at.done ++ first_line l) next
          ∙ (ap (λ l. at.done ++ l) (stops c (chars more) ends) ∙ append-nil at.done)),
    )
  where
    stops : (c : ℕ) (more : List ℕ) → ends_line c ≡ true → first_line (c ∷ more) ≡ []
    stops c more ends =
        take_while-cons (λ d. not (ends_line d)) c more ∙ ap (λ b. cond (not b) (c ∷ first_line more) []) ends

pub within_end : (text left rest : List ℕ) → IsWithin text left rest → length rest ≡ 0
    → chars text ≡ first_line (chars text)
within_end text left rest at none =
    let nil : chars rest ≡ [] = ap chars (nil_from_length rest none) ∙ chars-nil in
    at.whole ∙ (ap (λ l. at.done ++ l) nil ∙ sym (at.line ∙ ap (λ l. at.done ++ first_line l) nil))

-- a character that is neither LF nor CR ends no line
pub goes_past : (c : ℕ) → (c == 10) ≡ false → (c == 13) ≡ false → ends_line c ≡ false
goes_past c feed return = ap (λ b. b || (c == 13)) feed ∙ return
