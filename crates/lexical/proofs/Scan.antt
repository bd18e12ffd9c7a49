-- A run over characters is a run over bytes, if all characters past ASCII pass or none does.
use Rattle.std.proofs.Common.{◌≡◌, ℕ, suc, ◌+◌, ◌<◌, ◌≤◌, Bool, true, false, inl, inr, List, [], ◌∷◌, ◌++◌, length}
use Rattle.std.proofs.Common.{get_or, take, drop, refl, sym, ap, ◌∙◌, arith, append-nil}
use Rattle.std.specs.Prelude.{encode_utf8}
use Rattle.std.specs.List.{list_all}
use Rattle.std.specs.Str.{chars, IsUtf8, IsCharBoundary, encode_utf8_all}
use Rattle.std.proofs.lemmas.Bool.{cases_lt, and_from, cond_both}
use Rattle.std.proofs.lemmas.Str.{encode_ascii, inside_one, encodes-chars}
use Rattle.lexical.specs.Text.{first_passes}
use Rattle.lexical.specs.Finder.{while_front, while_rest}
use Rattle.lexical.specs.Rule.{Run, find}
use Rattle.lexical.specs.RuleMatch.{Passes}
use Rattle.lexical.specs.declared.cursor.TextCursor.{TextCursor}
use Rattle.lexical.proofs.FinderLemmas.{while_rest_none, while_whole, while_more}
use Rattle.lexical.proofs.TextLemmas.{first_byte, seam_boundary, seam_take, seam_drop}

-- each byte of a character past ASCII is past ASCII
byte_high : (c : ℕ) → 128 ≤ c → (k : ℕ) → k < length (encode_utf8 c) → 128 ≤ get_or (encode_utf8 c) k 0
byte_high c h k within = grind (arith, inside_one c [] (encode_utf8 c) k (sym (append-nil (encode_utf8 c))) within)

all_from : (test : ℕ → Bool) (bs : List ℕ) → ((b : ℕ) → 128 ≤ b → test b ≡ true)
    → ((k : ℕ) → k < length bs → 128 ≤ get_or bs k 0) → list_all test bs ≡ true
all_from test [] each high = refl
all_from test (b ∷ bs) each high =
    and_from _ _ (each b (high 0 (omega arith))) (all_from test bs each (λ k within. high (suc k) (omega arith)))

-- one test for characters and bytes, with the same result for all past ASCII
module _ (test : ℕ → Bool) (beyond : Bool) (high : (c : ℕ) → 128 ≤ c → test c ≡ beyond) where
  char_on : (c : ℕ) → test c ≡ true → list_all test (encode_utf8 c) ≡ true
  char_on c is = elim (cases_lt c 128) [
    | inl ascii ↦ rw (encode_ascii c ascii) (and_from _ _ is refl)
    | inr past ↦ all_from test (encode_utf8 c) (λ b h. high b h ∙ (sym (high c past) ∙ is)) (byte_high c past)
  ]

  char_off : (c : ℕ) (t : List ℕ) → test c ≡ false → first_passes test (encode_utf8 c ++ t) ≡ false
  char_off c t is = elim (cases_lt c 128) [
    | inl ascii ↦ rw (encode_ascii c ascii) is
    | inr past ↦ let cell = first_byte c past in rw cell.2 (high cell.0 cell.3 ∙ (sym (high c past) ∙ is))
  ]

  -- the run over the bytes is the encoded run over the characters
  scan : (cs : List ℕ) → while_front test (encode_utf8_all cs) ≡ encode_utf8_all (while_front test cs)
  scan [] = refl
  scan (c ∷ cs) =
      cond_both (test c) (c ∷ while_front test cs) []
      (λ x. while_front test (encode_utf8 c ++ encode_utf8_all cs) ≡ encode_utf8_all x)
      (λ on. rw ((while_more test (encode_utf8 c) (encode_utf8_all cs) (char_on c on)).0, scan cs))
      (λ off. (while_rest_none test (encode_utf8 c ++ encode_utf8_all cs) (char_off c (encode_utf8_all cs) off)).0)

  -- facts about a run of n bytes
  module _ (text : List ℕ) (utf8 : IsUtf8 text) (n : ℕ) (size : n ≡ length (while_front test text)) where
    whole : chars text ≡ while_front test (chars text) ++ while_rest test (chars text)
    whole = sym (while_whole test (chars text))

    pub bytes_of : n ≡ length (encode_utf8_all (while_front test (chars text)))
    bytes_of = size ∙ ap length (ap (while_front test) (sym (encodes-chars text utf8)) ∙ scan (chars text))

    pub run_boundary : IsCharBoundary text n
    run_boundary = seam_boundary text _ _ n utf8 whole bytes_of

    pub run_front : chars (take n text) ≡ while_front test (chars text)
    run_front = seam_take text _ _ n utf8 whole bytes_of

    pub run_rest : chars (drop n text) ≡ while_rest test (chars text)
    run_rest = seam_drop text _ _ n utf8 whole bytes_of

  -- the cursor after n bytes is the cursor after the run
  pub run_over : (at to : TextCursor) → IsUtf8 at.rest.now → (n : ℕ) → n ≡ length (while_front test at.rest.now)
      → to.rest.now ≡ drop n at.rest.now
      → to.chars_before ≡ at.chars_before + length (chars (take n at.rest.now)) → Passes (Run test) at to
  unfolding find
  run_over at to utf8 n size rest count =
      let front = run_front at.rest.now utf8 n size in
      record {
        front = while_front test (chars at.rest.now);
        found = rw (rest, run_rest at.rest.now utf8 n size);
        count = omega (arith, count, ap length front);
      }
