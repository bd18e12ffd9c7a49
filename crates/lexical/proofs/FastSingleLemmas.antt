-- A literal between single quotes, decided by a few bytes.
use Rattle.std.proofs.Common.{◌≡◌, ℕ, ◌+◌, ◌<◌, true, inl, inr, List, [], ◌∷◌}
use Rattle.std.proofs.Common.{get_or, drop, codes, length, refl, sym, ap, ap₂, ◌∙◌, subst, arith, drop-cons, suc}
use Rattle.std.specs.Str.{chars}
use Rattle.unicode_ident.proofs.Computing.{unicode_ident}
use Rattle.std.proofs.lemmas.Bool.{and_from, lt-ltb}
use Rattle.lexical.specs.Form.{Exactly}
use Rattle.lexical.specs.Quick.{Anywhere, IsAsciiAt, IsLiteralAt, Single, byte_starts}
use Rattle.lexical.specs.Quoted.{close, escape}
use Rattle.lexical.specs.Rule.{Stands}
use Rattle.lexical.specs.SingleQuoted.{Byte, Character, is_plain, unit}
use Rattle.lexical.specs.declared.class.PieceStart.TheVariants as starts
use Rattle.lexical.specs.declared.piece.PieceKind.TheVariants as kinds
use Rattle.lexical.specs.declared.fast_path.Extent.{Extent}
use Rattle.lexical.specs.declared.quoted.StringKind.{StringKind}
use Rattle.lexical.specs.declared.quoted.StringKind.TheVariants as strings
use Rattle.lexical.proofs.FastEscapeLemmas.{after_backslash}
use Rattle.lexical.proofs.FastPathLemmas.{ascii_piece, at_other, get_after}
use Rattle.lexical.proofs.FastLiteralLemmas.{ascii_at, character_literal, closes, ends, literal_piece}
use Rattle.lexical.proofs.FastNumberLemmas.{byte_within, then_at}

-- the closing quote of the literal is one byte
close_at : (text : List ℕ) (n : ℕ) → get_or text n 32 ≡ 39 → ends (get_or text (n + 1) 32) ≡ true
    → IsAsciiAt (Stands (close (codes "'"))) (drop n text) 1
close_at text n quote ended =
    let next : suc n ≡ n + 1 = omega arith in
    let within = byte_within text n _ 39 refl quote (λ e. omega (arith, e)) in
    ascii_at (Stands (close (codes "'"))) (drop n text) (39 ∷ []) (drop (n + 1) text) 1
    (drop-cons text n 32 within ∙ ap₂ (λ c m. c ∷ drop m text) quote next) refl refl
    (closes 39 (drop (n + 1) text) (ap ends (get_after text (n + 1)) ∙ ended))

pub single_escaped : (kind : StringKind) (inside rest : List ℕ) (n : ℕ) → get_or inside 0 32 ≡ 92
    → rest ≡ drop 1 inside → IsAsciiAt (Anywhere (Stands (escape kind))) rest n → get_or inside (n + 1) 32 ≡ 39
    → ends (get_or inside (n + 1 + 1) 32) ≡ true → IsAsciiAt (Single kind) inside (n + 1 + 1)
single_escaped kind inside rest n slash same at quote ended =
    then_at (Stands (unit (is_plain kind) (escape kind))) (Stands (close (codes "'"))) inside (n + 1) 1
    (at_other _ _ inside (n + 1) (λ p r h. inr (h r))
    (after_backslash (Stands (escape kind)) inside rest n slash same at))
    (close_at inside (n + 1) quote ended)

pub single_bare : (kind : StringKind) (inside : List ℕ) → get_or inside 0 32 < 128
    → is_plain kind (get_or inside 0 32) ≡ true → get_or inside 1 32 ≡ 39 → ends (get_or inside 2 32) ≡ true
    → IsAsciiAt (Single kind) inside 2
single_bare kind [] low plain quote ended = absurd (omega (arith, quote))
single_bare kind (b ∷ rest) low plain quote ended =
    then_at (Stands (unit (is_plain kind) (escape kind))) (Stands (close (codes "'"))) (b ∷ rest) 1 1
    (ascii_at _ (b ∷ rest) (b ∷ []) rest 1 refl refl (and_from _ _ (lt-ltb b 128 low) refl) (inl (b, refl, plain)))
    (close_at (b ∷ rest) 1 quote ended)

-- ---- the opening quote

pub character_read : (text inside : List ℕ) (n : ℕ) → get_or text 0 32 ≡ 39 → inside ≡ drop 1 text
    → IsAsciiAt (Single strings.Plain) inside n → IsAsciiAt Character text (n + 1)
character_read [] inside n quote same at = absurd (omega (arith, quote))
character_read (a ∷ text) inside n quote same at =
    let total : 1 + n ≡ n + 1 = omega arith in
    subst (IsAsciiAt Character (a ∷ text)) total
    (then_at (Exactly (codes "'")) (Single strings.Plain) (a ∷ text) 1 n
    (ascii_at (Exactly (codes "'")) (a ∷ text) (a ∷ []) text 1 refl refl
    (and_from _ _ (lt-ltb a 128 (omega (arith, quote))) refl) (ap (λ x. x ∷ []) quote))
    (subst (λ t. IsAsciiAt (Single strings.Plain) t n) same at))

pub byte_read : (text inside : List ℕ) (n : ℕ) → get_or text 0 32 ≡ 98 → get_or text 1 32 ≡ 39
    → inside ≡ drop 2 text → IsAsciiAt (Single strings.Byte) inside n → IsAsciiAt Byte text (n + 2)
byte_read [] inside n letter quote same at = absurd (omega (arith, letter))
byte_read (a ∷ []) inside n letter quote same at = absurd (omega (arith, quote))
byte_read (a ∷ (b ∷ text)) inside n letter quote same at =
    let total : 2 + n ≡ n + 2 = omega arith in
    subst (IsAsciiAt Byte (a ∷ (b ∷ text))) total
    (then_at (Exactly (codes "b'")) (Single strings.Byte) (a ∷ (b ∷ text)) 2 n
    (ascii_at (Exactly (codes "b'")) (a ∷ (b ∷ text)) (a ∷ (b ∷ [])) text 2 refl refl
    (and_from _ _ (lt-ltb a 128 (omega (arith, letter))) (and_from _ _ (lt-ltb b 128 (omega (arith, quote))) refl))
    (ap₂ (λ x y. x ∷ (y ∷ [])) letter quote))
    (subst (λ t. IsAsciiAt (Single strings.Byte) t n) same at))

-- ---- as a piece

pub quote_front : (text : List ℕ) → get_or text 0 32 ≡ 39 → (0 < length text) × (get_or text 0 0 ≡ 39)
quote_front [] quote = absurd (omega (arith, quote))
quote_front (a ∷ text) quote = (omega arith, quote)

pub quote_starts : starts.Quote ≡ byte_starts 39
unfolding unicode_ident
quote_starts = refl

-- the bytes after the first quote decide the extent of a character literal
pub character_extent : (text bytes inside : List ℕ) (n : ℕ) (first_byte : ℕ) (extent : Extent) → bytes ≡ text
    → first_byte ≡ get_or bytes 0 32 → first_byte ≡ 39 → inside ≡ drop 1 bytes
    → IsAsciiAt (Single strings.Plain) inside n → extent.bytes ≡ n + 1 → extent.chars ≡ n + 1
    → IsLiteralAt (chars text) extent
character_extent text bytes inside n first_byte extent same byte quote rest at size count first =
    ascii_piece first text kinds.Literal _ (n + 1)
    (literal_piece Character first text (n + 1) character_literal
    (character_read text inside n (ap (λ t. get_or t 0 32) (sym same) ∙ (sym byte ∙ quote))
    (rest ∙ ap (drop 1) same) at))
    tt refl size count
