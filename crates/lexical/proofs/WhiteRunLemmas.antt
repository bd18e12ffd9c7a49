-- Runs of white characters, found among the bytes of a text.
use Rattle.std.proofs.Common.{Bool, Some, append-nil, ◌≡◌, ℕ, ◌≤◌, ◌<◌, true, false, List, [], ◌∷◌, ◌++◌, ◌&&◌, length}
use Rattle.std.proofs.Common.{length-append, get_or, ◌+◌, codes, eqb, take, drop, refl, sym, ap, ap₂, subst, ◌∙◌, arith}
use Rattle.std.proofs.Common.{length-drop}
use Rattle.std.specs.List.{list_all, starts_with}
use Rattle.std.specs.Str.{chars, encode_utf8_all, IsUtf8, IsCharBoundary}
use Rattle.std.proofs.lemmas.Bool.{and_parts, and_from, lt-ltb}
use Rattle.std.proofs.lemmas.List.{length-take-le, take-append-drop, get_or-drop, take-take, drop-take, take_more}
use Rattle.std.proofs.lemmas.List.{drop_at, take_at}
use Rattle.std.proofs.lemmas.List.Folds.{list_all-append}
use Rattle.std.proofs.Math.Seq.{take-append_seam}
use Rattle.std.proofs.lemmas.Option.{some_pair_parts}
use Rattle.std.proofs.lemmas.Str.{IsCharBoundary-from_take, IsUtf8-drop, IsUtf8-from_ascii, IsUtf8-take}
use Rattle.std.proofs.lemmas.Str.{chars-IsAscii, chars-nil, encodes-append, encodes-chars}
use Rattle.lexical.specs.Ascii.{all_ascii}
use Rattle.lexical.specs.Class.{is_white}
use Rattle.lexical.specs.Finder.{while_front, while_rest}
use Rattle.lexical.specs.Form.{Run}
use Rattle.lexical.specs.Rule as rules
use Rattle.lexical.specs.Rule.{find}
use Rattle.lexical.specs.RuleMatch.{Passes}
use Rattle.lexical.specs.Text.{first_passes}
use Rattle.lexical.specs.WhiteRun.{ascii_white, IsPastWhite, SplitsWhite}
use Rattle.lexical.specs.declared.bytes.Class.TheVariants.{White}
use Rattle.lexical.specs.declared.cursor.TextCursor.{TextCursor}
use Rattle.lexical.proofs.ByteLemmas.{ascii_past}
use Rattle.lexical.proofs.FinderLemmas.{finds_run, while_more, while_passes, while_rest_none, while_whole}
use Rattle.lexical.proofs.FastPathLemmas.{ascii_split, get_after}
use Rattle.lexical.proofs.Scan.{bytes_of, run_rest}
use Rattle.lexical.proofs.TextLemmas.{all_pass, ascii_bytes, begins_splits, encode_all_ascii, is_ascii}
use Rattle.lexical.proofs.TextLemmas.{seam_boundary, seam_drop, seam_take, starts_with_is}

pub all_white : (cs : List ℕ) → list_all ascii_white cs ≡ true → list_all is_white cs ≡ true
all_white = all_pass _ _ (λ c is. (and_parts _ _ is).1)

pub white_ascii : (cs : List ℕ) → list_all ascii_white cs ≡ true → all_ascii cs ≡ true
white_ascii = all_pass _ _ (λ c is. (and_parts _ _ is).0)

-- n white bytes and k white bytes after them are n + k white bytes
pub white_more : (bytes : List ℕ) (n k : ℕ) → list_all ascii_white (take n bytes) ≡ true
    → list_all ascii_white (take k (drop n bytes)) ≡ true → list_all ascii_white (take (n + k) bytes) ≡ true
white_more bytes n k first more =
    let front = take (n + k) bytes in
    ap (list_all ascii_white) (sym (take-append-drop n front))
    ∙ (list_all-append ascii_white (take n front) (drop n front)
    ∙ and_from _ _ (ap (list_all ascii_white) (take-take n (n + k) bytes (omega arith)) ∙ first)
    (ap (list_all ascii_white) (drop-take n k bytes) ∙ more))

-- n white bytes and one more are n + 1 white bytes
pub white_next : (bytes : List ℕ) (n : ℕ) → ascii_white (get_or bytes n 0) ≡ true → n < length bytes
    → list_all ascii_white (take n bytes) ≡ true → list_all ascii_white (take (n + 1) bytes) ≡ true
white_next bytes n white within first =
    ap (list_all ascii_white) (take_more bytes n 0 within)
    ∙ (list_all-append ascii_white (take n bytes) (get_or bytes n 0 ∷ [])
    ∙ and_from _ _ first (and_from _ _ white refl))

-- n white bytes and four spaces are n + 4 white bytes
pub four_spaces : (bytes : List ℕ) (n : ℕ) → starts_with eqb (drop n bytes) (codes "    ") ≡ true
    → list_all ascii_white (take n bytes) ≡ true → list_all ascii_white (take (n + 4) bytes) ≡ true
four_spaces bytes n starts first =
    let split = begins_splits (codes "    ") (drop n bytes)
    (sym (starts_with_is (drop n bytes) (codes "    ")) ∙ starts) in
    white_more bytes n 4 first (ap (λ xs. list_all ascii_white (take 4 xs)) split.1)

-- a text may be cut after its first n bytes, if they are white
pub white_boundary : (bytes : List ℕ) (n : ℕ) → IsUtf8 bytes → n ≤ length bytes
    → list_all ascii_white (take n bytes) ≡ true → IsCharBoundary bytes n
white_boundary bytes n utf8 within white =
    IsCharBoundary-from_take bytes n utf8 within
    (IsUtf8-from_ascii (take n bytes) (is_ascii (take n bytes) (white_ascii (take n bytes) white)))

-- a text whose first byte does not pass begins with no byte that passes
first_stops : (test : ℕ → Bool) (bytes : List ℕ) → (0 < length bytes → test (get_or bytes 0 0) ≡ false)
    → first_passes test bytes ≡ false
first_stops test [] h = refl
first_stops test (b ∷ bytes) h = h (omega arith)

-- the first n bytes are a run, if they are white and the next byte is not
pub white_run : (bytes : List ℕ) (n : ℕ) → IsUtf8 bytes → n ≤ length bytes → list_all ascii_white (take n bytes) ≡ true
    → (n < length bytes → ascii_white (get_or bytes n 0) ≡ false) → IsPastWhite (chars bytes) (chars (drop n bytes)) n
white_run bytes n utf8 within white stops =
    let next = first_stops ascii_white (drop n bytes) (λ more.
    ap ascii_white (get_or-drop n bytes 0 0 ∙ ap (λ i. get_or bytes i 0) (omega arith))
    ∙ stops (omega (arith, length-drop n bytes))) in
    let more = (while_more ascii_white (take n bytes) (drop n bytes) white).0 in
    let none = (while_rest_none ascii_white (drop n bytes) next).0 in
    let run : while_front ascii_white bytes ≡ take n bytes =
    ap (while_front ascii_white) (sym (take-append-drop n bytes))
    ∙ (more ∙ (ap (λ x. take n bytes ++ x) none ∙ append-nil (take n bytes))) in
    let size : n ≡ length (while_front ascii_white bytes) = sym (length-take-le n bytes within) ∙ ap length (sym run) in
    let front = while_front ascii_white (chars bytes) in
    let rest = run_rest ascii_white false (ascii_past White) bytes utf8 n size in
    record {
      front = front;
      whole = sym (while_whole ascii_white (chars bytes)) ∙ ap (λ x. front ++ x) (sym rest);
      stands = subst (Run ascii_white front) (sym rest) ((finds_run ascii_white).sound (chars bytes)).1;
      chars = bytes_of ascii_white false (ascii_past White) bytes utf8 n size
          ∙ ascii_bytes front (white_ascii front (while_passes ascii_white (chars bytes)));
    }

-- ASCII white characters are their own bytes
pub white_bytes : (text rest : List ℕ) (count : ℕ) → IsUtf8 text → IsUtf8 rest
    → (white : IsPastWhite (chars text) (chars rest) count) → text ≡ white.front ++ rest
white_bytes text rest count utf8 after_utf8 white =
    sym (encodes-chars text utf8) ∙ (ap encode_utf8_all white.whole ∙ (encodes-append white.front (chars rest)
    ∙ ap₂ (λ p r. p ++ r) (encode_all_ascii white.front (white_ascii white.front white.stands.each))
    (encodes-chars rest after_utf8)))

-- a text may be cut after its ASCII white characters
pub white_cut : (text rest : List ℕ) (count : ℕ) → IsUtf8 text → IsUtf8 rest
    → IsPastWhite (chars text) (chars rest) count → (count ≤ length text) × IsCharBoundary text count
white_cut text rest count utf8 after_utf8 white =
    let same = white_bytes text rest count utf8 after_utf8 white in
    let within : count ≤ length text = omega (arith, white.chars, ap length same, length-append white.front rest) in
    let front : take count text ≡ white.front =
    ap₂ take white.chars same ∙ take-append_seam white.front rest in
    (within, white_boundary text count utf8 within (ap (list_all ascii_white) front ∙ white.stands.each))

-- if the first byte of a text is ASCII and not white, the first character is not white
low_stops : (text : List ℕ) → get_or text 0 32 < 128 → first_passes ascii_white (chars text) ≡ false
    → first_passes is_white (chars text) ≡ false
low_stops [] low stops = ap (first_passes is_white) chars-nil
low_stops (b ∷ text) low stops =
    let first : chars (b ∷ text) ≡ b ∷ chars text =
    ascii_split (b ∷ text) 1 (and_from _ _ (lt-ltb b 128 low) refl) in
    ap (first_passes is_white) first
    ∙ (ap (λ t. t && is_white b) (sym (lt-ltb b 128 low)) ∙ (ap (first_passes ascii_white) (sym first) ∙ stops))

-- the ASCII white characters are all white characters, if an ASCII byte follows them
pub splits_low : (text white rest past : List ℕ) (n : ℕ) → IsUtf8 text → IsUtf8 past
    → IsPastWhite (chars text) (chars past) n → get_or text n 32 < 128 → white ≡ take n text → rest ≡ drop n text
    → SplitsWhite text white rest
splits_low text white rest past n utf8 after_utf8 run low front back =
    let ascii = is_ascii run.front (white_ascii run.front run.stands.each) in
    let same = white_bytes text past n utf8 after_utf8 run in
    let is : white ≡ run.front = front ∙ (ap (take n) same ∙ take_at run.front past n (sym run.chars)) in
    let after : rest ≡ past = back ∙ (ap (drop n) same ∙ drop_at run.front past n (sym run.chars)) in
    let points : chars white ≡ run.front = ap chars is ∙ chars-IsAscii run.front ascii in
    let first : get_or past 0 32 < 128 =
    omega (arith, ap (λ t. get_or t 0 32) (sym back ∙ after), get_after text n, low) in
    record {
      joined = same ∙ sym (ap₂ (λ p r. p ++ r) is after);
      whole = run.whole ∙ sym (ap₂ (λ p r. p ++ chars r) points after);
      stands = rw (points, after) (record {
        each = all_white run.front run.stands.each;
        stops = low_stops past first run.stands.stops;
      });
      white_utf8 = subst IsUtf8 (sym is) (IsUtf8-from_ascii run.front ascii);
      rest_utf8 = subst IsUtf8 (sym after) after_utf8;
    }

-- the lexer's step over white characters skips exactly their run
pub run_found : (text : List ℕ) (at to : TextCursor) → at.rest.now ≡ text → Passes (rules.Run is_white) at to
    → chars text ≡ while_front is_white (chars text) ++ chars to.rest.now
unfolding find
run_found text at to same passes =
    let found : Some (while_front is_white (chars text), while_rest is_white (chars text))
    ≡ Some (passes.front, chars to.rest.now) = rw same at passes.found in
    let parts = some_pair_parts _ _ _ _ found in
    sym (while_whole is_white (chars text)) ∙ ap (λ r. while_front is_white (chars text) ++ r) parts.1

-- facts about n bytes that are all the white characters at the start
module _ (text : List ℕ) (utf8 : IsUtf8 text) (n : ℕ)
    (size : n ≡ length (encode_utf8_all (while_front is_white (chars text)))) where
  whole : chars text ≡ while_front is_white (chars text) ++ while_rest is_white (chars text)
  whole = sym (while_whole is_white (chars text))

  pub wide_cut : IsCharBoundary text n
  wide_cut = seam_boundary text _ _ n utf8 whole size

  pub splits_wide : (white rest : List ℕ) → white ≡ take n text → rest ≡ drop n text → SplitsWhite text white rest
  splits_wide white rest front back =
      let run = while_front is_white (chars text) in
      let same : chars (take n text) ≡ run = seam_take text _ _ n utf8 whole size in
      let after : chars (drop n text) ≡ while_rest is_white (chars text) = seam_drop text _ _ n utf8 whole size in
      rw (front, back) (record {
        joined = sym (take-append-drop n text);
        whole = whole ∙ sym (ap₂ (λ p r. p ++ r) same after);
        stands = rw (same, after) ((finds_run is_white).sound (chars text)).1;
        white_utf8 = IsUtf8-take text n utf8 wide_cut;
        rest_utf8 = IsUtf8-drop text n utf8 wide_cut;
      })
