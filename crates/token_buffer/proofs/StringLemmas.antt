-- String literals of texts.
use Rattle.std.proofs.Common.{◌≡◌, ◌↔◌, ℕ, List, [], ◌∷◌, ◌++◌, codes, length, refl, sym}
use Rattle.std.proofs.Common.{Bool, IsTrue, nat_eq, ap, ◌∙◌, append_assoc, arith}
use Rattle.std.specs.Prelude.{encode_utf8}
use Rattle.std.specs.Cmp.Lexicographic.{pointwise}
use Rattle.std.specs.Str.{chars, encode_utf8_all, IsUtf8}
use Rattle.std.proofs.lemmas.Str.{chars-nil, chars_past_char, encodes-chars, scalars-chars}
use Rattle.std.proofs.lemmas.Slice.Eq.{bytes_eq-Decides}
use Rattle.pm_token.specs.Escaped.{content, string_text, char_text, written_char}
use Rattle.pm_token.specs.Text.{IsText}
use Rattle.pm_token.proofs.ValueLawLemmas.{strings_come_back}
use Rattle.token_buffer.specs.Strings.{escape_text}
use Rattle.token_buffer.specs.declared.string.Escape.{Escape}

-- texts with the same string literal are the same
string_text-inj : (s t : List ℕ) → IsText s → IsText t → string_text s ≡ string_text t → s ≡ t
string_text-inj s t is also same =
    let one = strings_come_back s is in
    let other = strings_come_back t also in
    cc

pub same_literals : (s t : List ℕ) → IsUtf8 s → IsUtf8 t → string_text (chars s) ≡ string_text (chars t)
    → chars s ≡ chars t
same_literals s t utf8 utf8-other same =
    string_text-inj (chars s) (chars t) (scalars-chars s utf8) (scalars-chars t utf8-other) same

-- ---- a text, character by character

pub content_past : (text rest : List ℕ) (c : ℕ) → IsUtf8 text → text ≡ encode_utf8 c ++ rest
    → content 34 written_char (chars text)
    ≡ char_text 34 written_char c (chars rest) ++ content 34 written_char (chars rest)
content_past text rest c utf8 split = ap (content 34 written_char) (chars_past_char text rest c utf8 split)

-- the remaining text is written as its first character and then the rest
pub string_on : (text rest doc_body : List ℕ) (c : ℕ) (escape : Escape) → IsUtf8 text → text ≡ encode_utf8 c ++ rest
    → doc_body ≡ rest → escape_text escape ≡ char_text 34 written_char c (chars doc_body)
    → content 34 written_char (chars text) ++ codes "\""
    ≡ escape_text escape ++ (content 34 written_char (chars rest) ++ codes "\"")
string_on text rest doc_body c escape utf8 split same is =
    ap (λ x. x ++ codes "\"") (content_past text rest c utf8 split)
    ∙ (append_assoc (char_text 34 written_char c (chars rest)) (content 34 written_char (chars rest)) (codes "\"")
    ∙ ap (λ x. x ++ (content 34 written_char (chars rest) ++ codes "\""))
    (sym (is ∙ ap (λ s. char_text 34 written_char c (chars s)) same)))

-- at the end only the quote is left
pub string_end : (rest : List ℕ) → length rest ≡ 0
    → content 34 written_char (chars rest) ++ codes "\"" ≡ codes "\""
string_end [] none = ap (λ x. content 34 written_char x ++ codes "\"") chars-nil
string_end (b ∷ rest) none = absurd (omega (arith, none))

chars-quote : chars (34 ∷ []) ≡ 34 ∷ []
unfolding chars
chars-quote = refl

-- ---- equal texts

pub same_texts : (s t : List ℕ) (r : Bool) → IsUtf8 s → IsUtf8 t → r ≡ pointwise nat_eq s t
    → IsTrue r ↔ (chars s ≡ chars t)
same_texts s t r utf8 utf8-other is =
    let bytes = bytes_eq-Decides s t in (
      λ h. ap chars (bytes.0 (sym is ∙ h)),
      λ e. is ∙ bytes.1 (sym (encodes-chars s utf8) ∙ (ap encode_utf8_all e ∙ encodes-chars t utf8-other)),
    )

pub same_strings : (s t : List ℕ) (r : Bool) → IsUtf8 s → IsUtf8 t → r ≡ pointwise nat_eq s t
    → IsTrue r ↔ (string_text (chars s) ≡ string_text (chars t))
same_strings s t r utf8 utf8-other is =
    let same = same_texts s t r utf8 utf8-other is in
    (λ h. ap string_text (same.0 h), λ e. same.1 (same_literals s t utf8 utf8-other e))

-- only the quote is left
pub quote_left : (left rest : List ℕ) (r : Bool) → IsUtf8 left → length rest ≡ 0 → r ≡ pointwise nat_eq left (34 ∷ [])
    → IsTrue r ↔ (chars left ≡ content 34 written_char (chars rest) ++ codes "\"")
unfolding lib.Utf8.encode
quote_left left rest r utf8 none is =
    let bytes = bytes_eq-Decides left (34 ∷ []) in (
      λ h. ap chars (bytes.0 (sym is ∙ h)) ∙ (chars-quote ∙ sym (string_end rest none)),
      λ e. is ∙ bytes.1 (sym (encodes-chars left utf8) ∙ ap encode_utf8_all (e ∙ string_end rest none)),
    )
