-- The text after what one step reads is a suffix of the text.
use Rattle.std.proofs.Common.{◌≡◌, ℕ, ◌-◌, ◌≤◌, Bool, ◌&&◌, ◌==◌, List, [], ◌∷◌, ◌++◌, length, drop, refl, ap, ◌∙◌}
use Rattle.std.proofs.Common.{arith, append_assoc, length-append, sym}
use Rattle.std.specs.Prelude.{filter}
use Rattle.std.specs.Char.{digit_value}
use Rattle.std.proofs.lemmas.Bool.{cond_both}
use Rattle.literal_escaper.specs.Character.{backslash, close_brace, is_blank, letter_u, letter_x, line_feed, open_brace}
use Rattle.literal_escaper.specs.Character.{underscore}
use Rattle.literal_escaper.specs.Escape.{Read, read_braced, read_closing, read_code, escape, hex_escape}
use Rattle.literal_escaper.specs.Escape.{is_code_character, is_hex}
use Rattle.literal_escaper.specs.Escape.{second_digit, unicode_escape}
use Rattle.literal_escaper.specs.Items.{Front, front, line_skip, unit_front}
use Rattle.literal_escaper.specs.Kind.{Kind}
use Rattle.literal_escaper.specs.Text.{first_is, while_front, while_rest}

-- whether the rest is a suffix of the text
abbrev pub IsEnd : List ℕ → List ℕ → Type 0
IsEnd text rest = (before : List ℕ) × (text ≡ before ++ rest)

pub end_whole : (text : List ℕ) → IsEnd text text
end_whole text = ([], refl)

pub end_past : (c : ℕ) (text rest : List ℕ) → IsEnd text rest → IsEnd (c ∷ text) rest
end_past c text rest e = (c ∷ e.0, ap (λ xs. c ∷ xs) e.1)

pub end_tail : (c : ℕ) (text : List ℕ) → IsEnd (c ∷ text) text
end_tail c text = end_past c text text (end_whole text)

pub end_of_end : (text middle rest : List ℕ) → IsEnd text middle → IsEnd middle rest → IsEnd text rest
end_of_end text middle rest e f = (e.0 ++ f.0, e.1 ∙ (ap (λ xs. e.0 ++ xs) f.1 ∙ sym (append_assoc e.0 f.0 rest)))

pub end_shorter : (text rest : List ℕ) → IsEnd text rest → length rest ≤ length text
end_shorter text rest e = omega (arith, ap length e.1, length-append e.0 rest)

while_end : (passes : ℕ → Bool) (text : List ℕ) → IsEnd text (while_rest passes text)
while_end passes [] = end_whole []
while_end passes (c ∷ text) = cond_both (passes c) (while_rest passes text) (c ∷ text) (λ rest. IsEnd (c ∷ text) rest)
    (λ e. end_past c text (while_rest passes text) (while_end passes text))
    (λ e. end_whole (c ∷ text))

closed_end : {U : Type 0} (kind : Kind U) (digits text : List ℕ) → IsEnd text (read_closing kind digits text).rest
closed_end kind digits [] = end_whole []
closed_end {U = U} kind digits (c ∷ text) =
    cond_both (c == close_brace) _ _ (λ (read : Read U). IsEnd (c ∷ text) read.rest) (λ e. end_tail c text)
    (λ e. end_tail c text)

coded_end : {U : Type 0} (kind : Kind U) (text : List ℕ) → IsEnd text (read_code kind text).rest
unfolding read_code
coded_end kind text =
    end_of_end text (while_rest is_code_character text) _ (while_end is_code_character text)
    (closed_end kind (filter is_hex (while_front is_code_character text)) (while_rest is_code_character text))

braced_end : {U : Type 0} (kind : Kind U) (text : List ℕ) → IsEnd text (read_braced kind text).rest
braced_end kind [] = end_whole []
braced_end {U = U} kind (c ∷ text) =
    cond_both (c == underscore) _ _ (λ (read : Read U). IsEnd (c ∷ text) read.rest) (λ e. end_tail c text)
    (λ e. cond_both (c == close_brace) _ _ (λ (read : Read U). IsEnd (c ∷ text) read.rest) (λ e. end_tail c text)
    (λ e. cond_both (is_hex c) _ _ (λ (read : Read U). IsEnd (c ∷ text) read.rest) (λ e. coded_end kind (c ∷ text))
    (λ e. end_tail c text)))

unicode_end : {U : Type 0} (kind : Kind U) (text : List ℕ) → IsEnd text (unicode_escape kind text).rest
unfolding unicode_escape
unicode_end kind [] = end_whole []
unicode_end {U = U} kind (c ∷ text) =
    cond_both (c == open_brace) _ _ (λ (read : Read U). IsEnd (c ∷ text) read.rest)
    (λ e. end_past c text (read_braced kind text).rest (braced_end kind text))
    (λ e. end_tail c text)

second_end : {U : Type 0} (kind : Kind U) (high : ℕ) (text : List ℕ) → IsEnd text (second_digit kind high text).rest
second_end kind high [] = end_whole []
second_end {U = U} kind high (c ∷ text) =
    cond_both (is_hex c) _ _ (λ (read : Read U). IsEnd (c ∷ text) read.rest) (λ e. end_tail c text)
    (λ e. end_tail c text)

hex_end : {U : Type 0} (kind : Kind U) (text : List ℕ) → IsEnd text (hex_escape kind text).rest
unfolding hex_escape
hex_end kind [] = end_whole []
hex_end {U = U} kind (c ∷ text) =
    cond_both (is_hex c) _ _ (λ (read : Read U). IsEnd (c ∷ text) read.rest)
    (λ e. end_past c text (second_digit kind (digit_value c) text).rest (second_end kind (digit_value c) text))
    (λ e. end_tail c text)

pub escape_end : {U : Type 0} (kind : Kind U) (text : List ℕ) → IsEnd text (escape kind text).rest
unfolding escape
escape_end kind [] = end_whole []
escape_end {U = U} kind (c ∷ text) =
    cond_both (c == letter_x) _ _ (λ (read : Read U). IsEnd (c ∷ text) read.rest)
    (λ e. end_past c text (hex_escape kind text).rest (hex_end kind text))
    (λ e. cond_both (c == letter_u) _ _ (λ (read : Read U). IsEnd (c ∷ text) read.rest)
    (λ e. end_past c text (unicode_escape kind text).rest (unicode_end kind text))
    (λ e. end_tail c text))

pub unit_end : {U : Type 0} (kind : Kind U) (c : ℕ) (text : List ℕ) → IsEnd text (unit_front kind c text).rest
unit_end {U = U} kind c text =
    cond_both (c == backslash) _ _ (λ (read : Read U). IsEnd text read.rest) (λ e. escape_end kind text)
    (λ e. end_whole text)

pub drop_end : (text : List ℕ) → IsEnd text (drop 1 text)
drop_end [] = end_whole []
drop_end (c ∷ text) = end_tail c text

pub line_end : (line : List ℕ) → IsEnd line (while_rest is_blank line)
line_end line = while_end is_blank line

-- if the text is not empty, the text after one step is a suffix of the text after its first character
pub front_end : {U : Type 0} (kind : Kind U) (end c : ℕ) (text : List ℕ) → IsEnd text (front kind end (c ∷ text)).rest
unfolding front line_skip
front_end {U = U} kind end c text =
    cond_both ((c == backslash) && first_is line_feed text) _ _ (λ (x : Front U). IsEnd text x.rest)
    (λ e. end_of_end text (drop 1 text) _ (drop_end text) (line_end (drop 1 text)))
    (λ e. unit_end kind c text)

-- the text after one step is shorter by at least one character
pub front_shrinks : {U : Type 0} (kind : Kind U) (end : ℕ) (text : List ℕ)
    → length (front kind end text).rest ≤ length text - 1
unfolding front
front_shrinks kind end [] = omega arith
front_shrinks kind end (c ∷ text) = let less =
    end_shorter text (front kind end (c ∷ text)).rest (front_end kind end c text) in omega arith
