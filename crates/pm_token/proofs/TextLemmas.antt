-- Texts: joined ones, and the literals of texts.
use Rattle.std.proofs.Common.{ℕ, true, ◌&&◌, ◌==◌, String, List, [], ◌∷◌, ◌++◌, codes, refl, sym, subst}
use Rattle.std.specs.Prelude.{string_bytes}
use Rattle.std.specs.Char.{IsScalar, digit_char}
use Rattle.std.specs.Char.Escape.{escape_unicode}
use Rattle.std.specs.Str.{chars}
use Rattle.std.proofs.Math.Utf8.{scalar}
use Rattle.std.proofs.lemmas.Bool.{agree_below_at, and_parts, and_from, cond_both}
use Rattle.std.proofs.lemmas.Str.{IsUtf8-string_bytes, scalars-chars}
use Rattle.lexical.specs.Quoted.{is_octal_digit}
use Rattle.lexical.specs.Text.{first_passes}
use Rattle.pm_token.specs.Escaped.{is_bare, written_char, char_text, content, string_text}
use Rattle.pm_token.specs.Text.{IsText}
use Rattle.pm_token.proofs.HexLemmas.{AreHex, digits_of, escape_is_coded}

pub text_append : (p r : List ℕ) → IsText p → IsText r → IsText (p ++ r)
text_append [] r h k = k
text_append (c ∷ p) r h k = let parts = and_parts _ _ h in and_from _ _ parts.0 (text_append p r parts.1 k)

pub text_split : (p r : List ℕ) → IsText (p ++ r) → IsText p × IsText r
text_split [] r h = (refl, h)
text_split (c ∷ p) r h =
    let parts = and_parts _ _ h in
    let more = text_split p r parts.1 in
    (and_from _ _ parts.0 more.0, more.1)

pub text_one : (c : ℕ) → IsScalar c → IsText (c ∷ [])
text_one c is = and_from _ _ is refl

-- the characters of a string are a text
pub text_string : {Z : Type 0} (s : String Z) → IsText (chars (string_bytes s))
text_string s = scalars-chars (string_bytes s) (IsUtf8-string_bytes s)

-- ---- what the constructors write is a text

text_digits : (ds : List ℕ) → AreHex ds → IsText (digits_of ds)
text_digits [] all = refl
text_digits (d ∷ ds) all =
    and_from _ _ (agree_below_at (λ x. scalar (digit_char x)) (λ x. true) 16 d refl all.0) (text_digits ds all.1)

text_unicode : (c : ℕ) → IsScalar c → IsText (escape_unicode c)
text_unicode c is =
    let code = escape_is_coded c is in
    let values = code.first ∷ code.others in
    let digits = text_append (digits_of values) (codes "}") (text_digits values code.hex) refl in
    subst IsText (sym code.whole) (text_append (codes "\\u{") (digits_of values ++ codes "}") refl digits)

text_written : (quote c : ℕ) (rest : List ℕ) → IsScalar quote → IsScalar c
    → IsText (char_text quote written_char c rest)
text_written quote c rest own is =
    cond_both ((c == 0) && first_passes is_octal_digit rest) _ _ IsText (λ e. refl)
    (λ e. cond_both (c == 0) _ _ IsText (λ e. refl)
    (λ e. cond_both (c == 9) _ _ IsText (λ e. refl)
    (λ e. cond_both (c == 13) _ _ IsText (λ e. refl)
    (λ e. cond_both (c == 10) _ _ IsText (λ e. refl)
    (λ e. cond_both (c == 92) _ _ IsText (λ e. refl)
    (λ e. cond_both (c == quote) _ _ IsText (λ e. text_append (codes "\\") (quote ∷ []) refl (text_one quote own))
    (λ e. cond_both (is_bare c) _ _ IsText (λ e. text_one c is) (λ e. text_unicode c is))))))))

text_content : (quote : ℕ) (text : List ℕ) → IsScalar quote → IsText text → IsText (content quote written_char text)
text_content quote [] own all = refl
text_content quote (c ∷ rest) own all =
    let parts = and_parts _ _ all in
    text_append (char_text quote written_char c rest) (content quote written_char rest)
    (text_written quote c rest own parts.0) (text_content quote rest own parts.1)

pub text_literal : (text : List ℕ) → IsText text → IsText (string_text text)
text_literal text all =
    text_append (codes "\"") (content 34 written_char text ++ codes "\"") refl
    (text_append (content 34 written_char text) (codes "\"") (text_content 34 text refl all) refl)
