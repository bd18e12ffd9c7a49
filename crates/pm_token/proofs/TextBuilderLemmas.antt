-- The characters of a text while it is written.
use Rattle.std.proofs.Common.{◌≡◌, ℕ, ◌≤◌, ◌<◌, true, false, List, [], ◌∷◌, ◌++◌, if◌then◌else◌, Result, Ok, Err, OnOk}
use Rattle.std.proofs.Common.{refl, sym, ap, ap₂, ◌∙◌, subst}
use Rattle.std.proofs.Common.{append-nil, append_assoc, length, length-append, arith, ne_eqb, take, drop, leb-true}
use Rattle.std.proofs.Common.{ltb-true, nat_le, nat_lt, ◌&&◌, ◌==◌, not}
use Rattle.std.specs.Prelude.{encode_utf8, is_ok}
use Rattle.std.specs.Char.{IsScalar}
use Rattle.std.specs.List.{list_all}
use Rattle.std.specs.Str.{chars, IsCharBoundary, IsUtf8}
use Rattle.std.proofs.lemmas.Str.{chars-nil, chars-append, chars-IsAscii, chars_past_char, IsUtf8-encode}
use Rattle.std.proofs.lemmas.Str.Ascii.{IsAscii-from_all}
use Rattle.std.proofs.lemmas.Bool.{and_left, and_right, and_parts, and_from, cond-true, cond-false, lt-ltb, le-ltb}
use Rattle.std.proofs.lemmas.Bool.{not-true}
use Rattle.std.proofs.lemmas.List.Elements.{All-cons, All-nil}
use Rattle.lexical.specs.Finder.{while_front, while_rest}
use Rattle.lexical.specs.Form.{Run}
use Rattle.lexical.proofs.FinderLemmas.{finds_run}
use Rattle.lexical.proofs.Scan.{run_boundary, run_front, run_rest}
use Rattle.pm_token.specs.Escaped.{is_plain_ascii, written_char, char_text, content}

-- the bytes of one character are that character
chars-encode : (c : ℕ) → IsScalar c → chars (encode_utf8 c) ≡ c ∷ []
chars-encode c is = chars_past_char (encode_utf8 c) [] c (IsUtf8-encode c is) (sym (append-nil (encode_utf8 c)))
    ∙ ap (λ cs. c ∷ cs) chars-nil

-- `push` adds a character
pub chars_pushed : {E : Type 0} (r : Result (Unit {0}) E) (new old : List ℕ) (c : ℕ) → IsUtf8 old → IsScalar c
    → new ≡ (if is_ok r then old ++ encode_utf8 c else old) → OnOk r (chars new ≡ chars old ++ c ∷ [])
chars_pushed (Ok v) new old c utf8 is e = ap chars e
    ∙ (chars-append old (encode_utf8 c) utf8 ∙ ap (λ cs. chars old ++ cs) (chars-encode c is))
chars_pushed (Err v) new old c utf8 is e = tt

-- `push_str` adds the characters of a text
pub chars_texted : {E : Type 0} (r : Result (Unit {0}) E) (new old text : List ℕ) → IsUtf8 old
    → new ≡ (if is_ok r then old ++ text else old) → OnOk r (chars new ≡ chars old ++ chars text)
chars_texted (Ok v) new old text utf8 e = ap chars e ∙ chars-append old text utf8
chars_texted (Err v) new old text utf8 e = tt

-- ---- the content of a literal, one character after another

pub content_more : (quote c : ℕ) (old new text rest : List ℕ) → IsUtf8 text → text ≡ encode_utf8 c ++ rest
    → new ≡ old ++ char_text quote written_char c (chars rest)
    → new ++ content quote written_char (chars rest) ≡ old ++ content quote written_char (chars text)
content_more quote c old new text rest utf8 split e =
    ap (λ cs. cs ++ content quote written_char (chars rest)) e
    ∙ (append_assoc old (char_text quote written_char c (chars rest)) (content quote written_char (chars rest))
    ∙ ap (λ cs. old ++ content quote written_char cs) (sym (chars_past_char text rest c utf8 split)))

pub content_end : (quote : ℕ) (old text : List ℕ) → length text ≡ 0
    → old ++ content quote written_char (chars text) ≡ old
content_end quote old [] e = ap (λ cs. old ++ content quote written_char cs) chars-nil ∙ append-nil old
content_end quote old (b ∷ text) e = absurd (omega arith)

-- ---- characters that need no escape

-- no such character is past ASCII
pub plain_past : (quote c : ℕ) → 128 ≤ c → is_plain_ascii quote c ≡ false
plain_past quote c high = and_right (nat_le 32 c) _ (and_left _ _ (le-ltb c 127 (omega arith)))

-- each such character is written as itself
pub plain_written : (quote c : ℕ) (rest : List ℕ) → is_plain_ascii quote c ≡ true
    → char_text quote written_char c rest ≡ c ∷ []
plain_written quote c rest is =
    let low = and_parts (nat_le 32 c) (nat_lt c 127 && (not (c == 92) && not (c == quote))) is in
    let high = and_parts (nat_lt c 127) (not (c == 92) && not (c == quote)) low.1 in
    let signs = and_parts (not (c == 92)) (not (c == quote)) high.1 in
    let above : 32 ≤ c = leb-true 32 c low.0 in
    let below : c < 127 = ltb-true c 127 high.0 in
    let other : (n : ℕ) → n < 32 → (c == n) ≡ false = λ n few. ne_eqb c n (λ e. omega arith) in
    cond-false _ _ _ (and_left _ _ (other 0 (omega arith)))
    ∙ (cond-false _ _ _ (other 0 (omega arith))
    ∙ (cond-false _ _ _ (other 9 (omega arith))
    ∙ (cond-false _ _ _ (other 13 (omega arith))
    ∙ (cond-false _ _ _ (other 10 (omega arith))
    ∙ (cond-false _ _ _ (not-true _ signs.0)
    ∙ (cond-false _ _ _ (not-true _ signs.1)
    ∙ cond-true _ _ _ (cond-true _ _ _ (lt-ltb c 128 (omega arith))
    ∙ and_from _ _ low.0 (ap not (ne_eqb c 127 (λ e. omega arith))))))))))

-- the literal of such a character, between single quotes
pub plain_between : (c : ℕ) → is_plain_ascii 39 c ≡ true
    → chars (39 ∷ c ∷ 39 ∷ []) ≡ 39 ∷ (char_text 39 written_char c [] ++ 39 ∷ [])
plain_between c is =
    let low = and_parts (nat_le 32 c) (nat_lt c 127 && (not (c == 92) && not (c == 39))) is in
    let high = and_parts (nat_lt c 127) (not (c == 92) && not (c == 39)) low.1 in
    let below : c < 127 = ltb-true c 127 high.0 in
    let ascii : c < 128 = omega (arith, below) in
    let below_128 : ℕ → Type 0 = λ b. b < 128 in
    let quote : 39 < 128 = omega arith in
    let all = All-cons below_128 39 (c ∷ 39 ∷ []) quote (All-cons below_128 c (39 ∷ []) ascii
    (All-cons below_128 39 [] quote (All-nil below_128))) in
    chars-IsAscii (39 ∷ c ∷ 39 ∷ []) (IsAscii-from_all (39 ∷ c ∷ 39 ∷ []) all)
    ∙ ap (λ x. 39 ∷ (x ++ 39 ∷ [])) (sym (plain_written 39 c [] is))

pub content_plain : (quote : ℕ) (front rest : List ℕ) → list_all (is_plain_ascii quote) front ≡ true
    → content quote written_char (front ++ rest) ≡ front ++ content quote written_char rest
content_plain quote [] rest all = refl
content_plain quote (c ∷ front) rest all =
    let parts = and_parts _ _ all in
    ap₂ (λ x y. x ++ y) (plain_written quote c (front ++ rest) parts.0) (content_plain quote front rest parts.1)

-- the text so far and that of the remaining characters make up the result
pub content_past : (quote : ℕ) (old new front text rest : List ℕ) → text ≡ front ++ rest → new ≡ old ++ front
    → list_all (is_plain_ascii quote) front ≡ true
    → new ++ content quote written_char rest ≡ old ++ content quote written_char text
content_past quote old new front text rest split wrote plain =
    ap (λ x. x ++ content quote written_char rest) wrote
    ∙ (append_assoc old front (content quote written_char rest)
    ∙ ap (λ x. old ++ x) (sym (ap (content quote written_char) split ∙ content_plain quote front rest plain)))

-- the rest of a text is no longer than the text
pub past_shorter : (front text rest : List ℕ) → text ≡ front ++ rest → length rest ≤ length text
past_shorter front text rest split = omega (arith, ap length split, length-append front rest)

-- lemmas on the first n bytes, if they need no escape
module _ (quote n : ℕ) (text : List ℕ) (utf8 : IsUtf8 text)
    (size : n ≡ length (while_front (is_plain_ascii quote) text)) where
  pub plain_boundary : IsCharBoundary text n
  plain_boundary = run_boundary (is_plain_ascii quote) false (plain_past quote) text utf8 n size

  -- the first n bytes are written
  pub plain_pushed : (old new back : List ℕ) → IsUtf8 old → new ≡ old ++ take n text → back ≡ drop n text
      → (front : List ℕ) × (chars text ≡ front ++ chars back) × (chars new ≡ chars old ++ front)
      × Run (is_plain_ascii quote) front (chars back)
  plain_pushed old new back is wrote rest =
      let run = (finds_run (is_plain_ascii quote)).sound (chars text) in
      let same : while_rest (is_plain_ascii quote) (chars text) ≡ chars back =
      sym (ap chars rest ∙ run_rest (is_plain_ascii quote) false (plain_past quote) text utf8 n size) in (
        while_front (is_plain_ascii quote) (chars text),
        subst (λ x. chars text ≡ while_front (is_plain_ascii quote) (chars text) ++ x) same run.0,
        ap chars wrote
            ∙ (chars-append old (take n text) is
            ∙ ap (λ x. chars old ++ x) (run_front (is_plain_ascii quote) false (plain_past quote) text utf8 n size)),
        subst (Run (is_plain_ascii quote) (while_front (is_plain_ascii quote) (chars text))) same run.1,
      )
