-- Whole literals.
use Rattle.std.proofs.Common.{◌≡◌, ◌≢◌, ◌↔◌, ℕ, Bool, true, false, ◌==◌, Result, Ok, Err, IfOk, IfErr, MatchResult, ◌+◌}
use Rattle.std.proofs.Common.{List, [], ◌∷◌, ◌++◌, length, Option, Some, None, IfSome, IfNone, MatchOption, Bor, IsTrue}
use Rattle.std.proofs.Common.{eqb, refl, sym, ap, ◌∙◌, subst, arith, inl, inr, drop, append-nil, length-append}
use Rattle.std.proofs.Common.{eqb-true, codes, if◌then◌else◌}
use Rattle.std.specs.Option.{option_eq}
use Rattle.std.specs.Char.{is_ascii_digit}
use Rattle.std.specs.Str.{chars, IsUtf8, encode_utf8_all}
use Rattle.std.proofs.lemmas.Bool.{both_ways, false_from_ne_true, eq-eqb}
use Rattle.std.proofs.lemmas.Str.{encodes-chars, encodes-append, encode_ascii, chars_past_char, length-le-encodes}
use Rattle.lexical.specs.Form.{HasNone}
use Rattle.lexical.specs.Found.{IsAt}
use Rattle.lexical.specs.Literal.{Literal, IsLiteralToken}
use Rattle.lexical.specs.Quoted.{is_one_of}
use Rattle.lexical.specs.Text.{first_passes}
use Rattle.lexical.specs.Token as tokens
use Rattle.lexical.specs.PieceFinder.{find_literal}
use Rattle.lexical.proofs.FinderLemmas.{one_split}
use Rattle.lexical.proofs.LiteralFinderLemmas.{finds_literal, literal_front, literal_fronts}
use Rattle.pm_span.specs.Extent.{Extent}
use Rattle.pm_span.specs.Files.{Files, Holds, all_texts, next_lo, with_file}
use Rattle.pm_span.proofs.FileLemmas.{holds_nowhere}
use Rattle.pm_token.specs.Built.{IsBuiltToken}
use Rattle.pm_token.specs.Leaf.{Text}
use Rattle.pm_token.specs.LiteralText.{IsNegative, IsWholeLiteral, IsLiteralText}
use Rattle.pm_token.specs.Negative.{has_minus}
use Rattle.pm_token.specs.Outcome.{IfLex, IsRefusalOf}
use Rattle.pm_token.specs.Text.{IsText}
use Rattle.pm_token.specs.declared.errors.ParseError.{ParseError}
use Rattle.pm_token.specs.declared.errors.ParseError.TheVariants.{Lex, MapFull, Memory}
use Rattle.pm_token.proofs.TextLemmas.{text_split}

-- a whole literal is a text that a `Literal` may have
pub literal_text : (text : List ℕ) → IsText text → IsWholeLiteral text → IsLiteralText text
unfolding IsLiteralToken
literal_text text all (inl literal) = (inl (inl literal), all)
literal_text text all (inr negative) = (inr negative, all)

-- every map holds the span of the error of a text that isn't whole
pub refused_held : (map : Files) (whole : Type 0) (result : Result Text ParseError)
    → IfErr result (IsRefusalOf whole) → IfErr result (λ error. IfLex error (Holds map))
refused_held map whole (Ok literal) h = tt
refused_held map whole (Err (Lex fault)) h = subst (Holds map) (sym h.0) (holds_nowhere map)
refused_held map whole (Err MapFull) h = tt
refused_held map whole (Err (Memory error)) h = tt

-- the map with the text as its last file holds the span of the literal or of the error
pub answer_held : (old new : Files) (source : List ℕ) (whole : Type 0) (span : Extent) (result : Result Text ParseError)
    → new ≡ with_file old source → span.lo ≡ next_lo old → span.hi ≡ span.lo + length source
    → IfOk result (λ literal. literal ≡ record { text = source; span = span }) → IfErr result (IsRefusalOf whole)
    → MatchResult result (λ literal. Holds new literal.span) (λ error. IfLex error (Holds new))
answer_held old new source whole span (Ok literal) added begins ends is refused =
    let held : Holds (with_file old source) span = record {
      text = source;
      lo = next_lo old;
      file = record { before = all_texts old; after = []; whole = refl; begins = refl };
      from = omega (arith, begins);
      to = omega (arith, begins, ends);
    } in
    subst (λ map. Holds map literal.span) (sym added)
    (subst (λ (l : Text). Holds (with_file old source) l.span) (sym is) held)
answer_held old new source whole span (Err error) added begins ends is refused =
    refused_held new whole (Err error) refused

-- ---- a literal that is the whole text

no_bytes : (rest : List ℕ) → length (encode_utf8_all rest) ≡ 0 → rest ≡ []
no_bytes [] e = refl
no_bytes (c ∷ rest) e = absurd (omega (arith, length-le-encodes (c ∷ rest)))

-- the literal at the start of a text is the whole text, or the text is no literal
pub whole_literal : (text : List ℕ) (found : Option ℕ) → IsUtf8 text
    → IfSome found (IsAt Literal (chars text)) → IfNone found (HasNone Literal (chars text))
    → IsTrue (option_eq eqb found (Some (length text))) ↔ Literal (chars text) []
whole_literal text None utf8 some none =
    (λ h. absurd (both_ways _ refl h), λ is. absurd (none (chars text) [] (sym (append-nil (chars text))) is))
whole_literal text (Some n) utf8 at none = (from_all, to_all)
  where
    bytes : encode_utf8_all at.front ++ encode_utf8_all at.rest ≡ text
    bytes = sym (encodes-append at.front at.rest) ∙ (ap encode_utf8_all (sym at.whole) ∙ encodes-chars text utf8)

    from_all : IsTrue (n == length text) → Literal (chars text) []
    from_all h =
        let all : n ≡ length text = eqb-true n (length text) h in
        let nothing : at.rest ≡ [] =
        let sum = length-append (encode_utf8_all at.front) (encode_utf8_all at.rest) in
        no_bytes at.rest (omega (arith, all, at.size, ap length bytes, sum)) in
        let front : chars text ≡ at.front = at.whole ∙ (ap (λ r. at.front ++ r) nothing ∙ append-nil at.front) in
        subst (λ p. Literal p []) (sym front) (subst (Literal at.front) nothing at.stands)

    to_all : Literal (chars text) [] → IsTrue (n == length text)
    to_all is =
        let same = one_split find_literal Literal finds_literal (chars text) at.front [] at.rest is at.stands
        (append-nil (chars text) ∙ at.whole) in
        eq-eqb n (length text) (at.size
        ∙ (ap (λ p. length (encode_utf8_all p)) (sym same.0) ∙ ap length (encodes-chars text utf8)))

-- ---- the sign before a literal

begins_minus : (cs : List ℕ) → first_passes (λ c. c == 45) cs ≡ true → (rest : List ℕ) × (cs ≡ 45 ∷ rest)
begins_minus [] h = absurd (both_ways _ refl h)
begins_minus (c ∷ cs) h = (cs, ap (λ d. d ∷ cs) (eqb-true c 45 h))

-- the text after the `-`, in bytes and in characters
pub minus_stripped : (text : List ℕ) (r : Option (Bor (List ℕ))) → IsUtf8 text
    → MatchOption r ((rest : List ℕ) → text ≢ 45 ∷ rest) (λ x. text ≡ 45 ∷ x.now)
    → MatchOption r (first_passes (λ c. c == 45) (chars text) ≡ false) (λ x. chars text ≡ 45 ∷ chars x.now)
minus_stripped text None utf8 none = false_from_ne_true _ (λ h.
    let at = begins_minus (chars text) h in
    none (encode_utf8_all at.0) (sym (encodes-chars text utf8)
    ∙ (ap encode_utf8_all at.1 ∙ ap (λ bytes. bytes ++ encode_utf8_all at.0) (encode_ascii 45 (omega arith)))))
minus_stripped text (Some x) utf8 e =
    chars_past_char text x.now 45 utf8 (e ∙ ap (λ bytes. bytes ++ x.now) (sym (encode_ascii 45 (omega arith))))

-- no literal of the grammar begins with `-`
no_minus : (number : List ℕ) → Literal (45 ∷ number) [] → ⊥
no_minus number is =
    let at = literal_front (45 ∷ number) [] is in
    let head : 45 ≡ at.0 = cc in
    both_ways (is_one_of literal_fronts 45) refl (ap (is_one_of literal_fronts) head ∙ at.3)

-- a whole literal with a `-` has a literal after it
negative_of : (text number : List ℕ) → text ≡ 45 ∷ number → IsWholeLiteral text
    → Literal number [] × (first_passes is_ascii_digit number ≡ true)
negative_of text number split (inl other) = absurd (no_minus number (subst (λ p. Literal p []) split other))
negative_of text number split (inr negative) =
    let same : negative.number ≡ number = ap (drop 1) (sym negative.whole ∙ split) in
    (subst (λ p. Literal p []) same negative.literal, ap (first_passes is_ascii_digit) (sym same) ∙ negative.digit)

-- a digit follows the `-`
pub minus_digit : (text number : List ℕ) (literal : Bool) → text ≡ 45 ∷ number
    → first_passes is_ascii_digit number ≡ true → (IsTrue literal ↔ Literal number [])
    → IsTrue literal ↔ IsWholeLiteral text
minus_digit text number literal split digit is = (
  λ h. inr (record { number = number; whole = split; literal = is.0 h; digit = digit }),
  λ whole. is.1 (negative_of text number split whole).0,
)

-- no digit follows the `-`
pub minus_other : (text number : List ℕ) (digit : Bool) → text ≡ 45 ∷ number
    → first_passes is_ascii_digit number ≡ false → digit ≡ false → IsTrue digit ↔ IsWholeLiteral text
minus_other text number digit split other e = (
  λ h. absurd (both_ways _ e h),
  λ whole.
      absurd (both_ways _ other (negative_of text number split whole).1),
)

-- ---- a negative literal in two parts

-- of the texts of literals, those that begin with `-` are negative
negative_text : (text : List ℕ) → has_minus text ≡ true → IsLiteralText text → IsNegative text
unfolding IsLiteralToken
negative_text text minus (inl (inl literal), all) =
    let at = begins_minus text minus in
    absurd (no_minus at.0 (subst (λ p. Literal p []) at.1 literal))
negative_text text minus (inl (inr error), all) = absurd (both_ways (has_minus text) (ap has_minus error) minus)
negative_text text minus (inr negative, all) = negative

-- the text after the `-` is a valid token
pub number_built : (text : List ℕ) → has_minus text ≡ true → IsLiteralText text
    → IsBuiltToken (tokens.Literal (drop 1 text))
unfolding IsLiteralToken
number_built text minus is =
    let negative = negative_text text minus is in
    let rest : negative.number ≡ drop 1 text = ap (drop 1) (sym negative.whole) in (
      subst IsLiteralToken rest (inl negative.literal),
      subst IsText rest (text_split (codes "-") negative.number (subst IsText negative.whole is.1)).1,
    )

-- the text after the `-` is that of a literal
pub number_text : (text new : List ℕ) (found : Bool) → found ≡ true → found ≡ has_minus text
    → new ≡ (if found then drop 1 text else text) → IsLiteralText text → IsLiteralText new
number_text text new found is_found minus stripped is =
    let built = number_built text (sym minus ∙ is_found) is in
    subst IsLiteralText (sym (stripped ∙ ap (λ b. if b then drop 1 text else text) is_found)) (inl built.0, built.1)

-- a literal without `-` is a valid token
pub plain_built : (text : List ℕ) → has_minus text ≡ false → IsLiteralText text → IsBuiltToken (tokens.Literal text)
plain_built text plain (inl token, all) = (token, all)
plain_built text plain (inr negative, all) = absurd (both_ways (has_minus text) plain (ap has_minus negative.whole))
