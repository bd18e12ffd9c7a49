-- The hash signs of raw strings.
use Rattle.std.proofs.Common.{◌≡◌, ◌≢◌, ℕ, Bool, ◌==◌, true, false, Some, List, [], ◌∷◌, refl, sym, ap, ◌∙◌, arith}
use Rattle.std.proofs.Common.{nat_lt, eqb-true}
use Rattle.std.specs.Str.{chars, IsUtf8, encode_utf8_all}
use Rattle.std.proofs.lemmas.Str.{encodes-chars}
use Rattle.lexical.specs.Ascii.{all_ascii}
use Rattle.lexical.specs.Text.{begins_with}
use Rattle.lexical.specs.RawString.{raw_unit}
use Rattle.lexical.specs.Rule.{Rule, Run, find}
use Rattle.lexical.specs.RuleMatch.{Passes}
use Rattle.lexical.specs.declared.cursor.TextCursor.{TextCursor}
use Rattle.lexical.proofs.RuleSteps.{passes_piece, IsBetween}
use Rattle.lexical.proofs.TextLemmas.{all_pass, encode_all_ascii}

-- all hash signs there
abbrev pub signs : Rule
signs = Run (λ c. c == 35)

-- the bytes of the hash signs that were passed are their characters
pub signs_text : (at to : TextCursor) (h : Passes signs at to) (bytes : List ℕ) → IsUtf8 bytes
    → IsBetween (chars bytes) at to
    → (chars bytes ≡ bytes) × (bytes ≡ h.front) × (all_ascii bytes ≡ true)
signs_text at to h bytes utf8 between =
    let run = passes_piece signs tt at to h in
    let is = between h.front run.0 in
    let ascii = all_pass (λ c. c == 35) (λ b. nat_lt b 128) (λ c is. rw (eqb-true c 35 is) refl) h.front run.1.each in
    let whole : bytes ≡ h.front = sym (encodes-chars bytes utf8)
    ∙ (ap encode_utf8_all is ∙ encode_all_ascii h.front ascii) in
    (is ∙ sym whole, whole, ap all_ascii whole ∙ ascii)

-- ---- units

-- a character that is allowed is a unit, if the text that closes the string does not begin there
pub raw_one : (allowed : ℕ → Bool) (hashes text rest : List ℕ) (c : ℕ) → text ≡ c ∷ rest
    → (c ≡ 34 → begins_with hashes rest ≡ false)
    → c ≢ 13 → allowed c ≡ true → find (raw_unit allowed (34 ∷ hashes)) text ≡ Some (c ∷ [], rest)
unfolding find
raw_one allowed hashes text rest c e closes other may = grind (arith, e, closes, other, may)
