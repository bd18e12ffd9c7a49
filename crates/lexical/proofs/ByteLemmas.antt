-- Counts the ASCII characters of a class among the bytes of a text.
use Rattle.std.proofs.Common.{◌≡◌, ℕ, ◌+◌, ◌<◌, ◌≤◌, Bool, true, false, List, [], ◌∷◌, ◌++◌, length, take, drop, refl}
use Rattle.std.proofs.Common.{sym, ap, ◌∙◌, subst, arith, length-append, Some, None}
use Rattle.std.specs.List.{list_all}
use Rattle.std.specs.Str.{chars, IsUtf8, IsCharBoundary}
use Rattle.std.proofs.lemmas.Bool.{agree_below_at, agree_below, and_left, and_parts, and_from, false_from_ne_true}
use Rattle.std.proofs.lemmas.Bool.{le-ltb, cond-true}
use Rattle.lexical.specs.Ascii.{all_ascii}
use Rattle.lexical.specs.Bytes.{ascii_in, has_kind, is_in}
use Rattle.lexical.specs.Text.{first_passes}
use Rattle.lexical.specs.Finder.{Answer, while_front, while_rest}
use Rattle.lexical.specs.Rule.{One, Run, find}
use Rattle.lexical.specs.RuleMatch.{Passes}
use Rattle.lexical.specs.declared.bytes.Class.{Class}
use Rattle.lexical.specs.declared.cursor.TextCursor.{TextCursor}
use Rattle.lexical.proofs.CountLemmas.{chars_cut}
use Rattle.lexical.proofs.FinderLemmas.{while_passes, while_more}
use Rattle.lexical.proofs.RuleSteps.{passes_piece, run_goes_on}
use Rattle.lexical.proofs.RunLemmas.{GoesOn, run_stop}
use Rattle.lexical.proofs.Scan.{run_boundary, run_front, bytes_of, run_over}
use Rattle.lexical.proofs.TextLemmas.{all_pass, ascii_bytes}

-- `kinds` are those of the class, if both agree on all bytes, which computes
pub same_class : {given class : Class} (kinds : ℕ) → given ≡ class
    → agree_below (has_kind kinds) (ascii_in class) 256 ≡ true
    → (byte : ℕ) → byte < 256 → has_kind kinds byte ≡ ascii_in given byte
same_class {given} {class} kinds is h byte low =
    agree_below_at (has_kind kinds) (ascii_in class) 256 byte h low ∙ ap (λ x. ascii_in x byte) (sym is)

-- ---- a run of ASCII characters

pub ascii_past : (class : Class) (c : ℕ) → 128 ≤ c → ascii_in class c ≡ false
ascii_past class c high = and_left _ _ (le-ltb c 128 high)

pub all_low : (class : Class) (cs : List ℕ) → list_all (ascii_in class) cs ≡ true → all_ascii cs ≡ true
all_low class = all_pass _ _ (λ c is. (and_parts _ _ is).0)

-- facts about the n bytes of the run
module _ (class : Class) (at : TextCursor) (bytes : List ℕ) (same : bytes ≡ at.rest.now) (utf8 : IsUtf8 bytes)
    (n : ℕ) (is_length : n ≡ length (while_front (ascii_in class) bytes)) where
  text_utf8 : IsUtf8 at.rest.now
  text_utf8 = subst IsUtf8 same utf8

  size : n ≡ length (while_front (ascii_in class) at.rest.now)
  size = is_length ∙ ap (λ x. length (while_front (ascii_in class) x)) same

  pub ascii_boundary : IsCharBoundary at.rest.now n
  ascii_boundary = run_boundary (ascii_in class) false (ascii_past class) at.rest.now text_utf8 n size

  -- these bytes are as many characters
  pub ascii_count : length (chars (take n at.rest.now)) ≡ n
  ascii_count =
      let front = while_front (ascii_in class) (chars at.rest.now) in
      ap length (run_front (ascii_in class) false (ascii_past class) at.rest.now text_utf8 n size)
      ∙ (sym (ascii_bytes front (all_low class front (while_passes (ascii_in class) (chars at.rest.now))))
      ∙ sym (bytes_of (ascii_in class) false (ascii_past class) at.rest.now text_utf8 n size))

  pub ascii_whole : n + length (chars (drop n at.rest.now)) ≡ length (chars at.rest.now)
  ascii_whole = omega (arith, ascii_count, chars_cut at.rest.now n text_utf8 ascii_boundary)

  pub ascii_run : (to : TextCursor) → to.rest.now ≡ drop n at.rest.now → to.chars_before ≡ at.chars_before + n
      → Passes (Run (ascii_in class)) at to
  ascii_run to rest count =
      run_over (ascii_in class) false (ascii_past class) at to text_utf8 n size rest (omega (arith, count, ascii_count))

-- ---- a run that continues

goes_past : (test : ℕ → Bool) (at end to : TextCursor) (p : List ℕ) → GoesOn test at end
    → chars end.rest.now ≡ p ++ chars to.rest.now
    → to.chars_before ≡ end.chars_before + length p → list_all test p ≡ true → GoesOn test at to
goes_past test at end to p goes whole count all =
    let more = while_more test p (chars to.rest.now) all in (
      sym more.1 ∙ (ap (while_rest test) (sym whole) ∙ goes.0),
      omega (
        arith,
        goes.1,
        count,
        ap length (ap (while_front test) whole ∙ more.0),
        length-append p (while_front test (chars to.rest.now)),
      ),
    )

pub past_ascii : (class : Class) (at end to : TextCursor) → GoesOn (is_in class) at end
    → Passes (Run (ascii_in class)) end to → GoesOn (is_in class) at to
past_ascii class at end to goes h =
    let is = passes_piece (Run (ascii_in class)) tt end to h in
    goes_past (is_in class) at end to h.front goes is.0 h.count
    (all_pass _ _ (λ c on. (and_parts _ _ on).1) h.front is.1.each)

pub past_one : (class : Class) (at end to : TextCursor) → GoesOn (is_in class) at end
    → Passes (One (is_in class)) end to
    → GoesOn (is_in class) at to
past_one class at end to goes h =
    let is = passes_piece (One (is_in class)) tt end to h in
    goes_past (is_in class) at end to h.front goes is.0 h.count
    (ap (list_all (is_in class)) is.1.1 ∙ and_from _ _ is.1.2 refl)

-- if no character of the class is next, the run ends
none_stands : (test : ℕ → Bool) (text : List ℕ) → find (One test) text ≡ None → first_passes test text ≡ false
unfolding find
none_stands test [] none = refl
none_stands test (c ∷ text) none = false_from_ne_true _ (λ on.
    let clash : ◌≡◌ {A = Answer} (Some (c ∷ [], text)) None = sym (cond-true _ _ _ on) ∙ none in cc)

pub past_all : (class : Class) (at end : TextCursor) → GoesOn (is_in class) at end
    → find (One (is_in class)) (chars end.rest.now) ≡ None → Passes (Run (is_in class)) at end
past_all class at end goes none =
    run_stop (is_in class) at end goes (none_stands (is_in class) (chars end.rest.now) none)

-- after one character and a run of others, less text is left
pub less_left : (class : Class) (end mid to : TextCursor) → Passes (One (is_in class)) end mid
    → Passes (Run (ascii_in class)) mid to
    → length (chars to.rest.now) < length (chars end.rest.now)
less_left class end mid to h j =
    let one = passes_piece (One (is_in class)) tt end mid h in
    omega (arith, ap length (one.0 ∙ ap (λ x. x ++ chars mid.rest.now) one.1.1), run_goes_on (ascii_in class) mid to j)
