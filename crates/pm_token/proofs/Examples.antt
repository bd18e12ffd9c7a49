-- Examples of what the constructors write, by evaluation.
use Rattle.std.proofs.Common.{◌≡◌, [], ◌∷◌, codes, refl}
use Rattle.ucd_category.proofs.Computing.{ucd_category}
use Rattle.pm_token.specs.Escaped.{written_char, char_text, string_text}

-- a zero is written long only before the digits 0 to 7
zeros : string_text (97 ∷ 0 ∷ 48 ∷ 98 ∷ 0 ∷ 55 ∷ 99 ∷ 0 ∷ 56 ∷ 100 ∷ 0 ∷ 101 ∷ 0 ∷ [])
    ≡ codes "\"a\\x000b\\x007c\\08d\\0e\\0\""
zeros = refl

-- line ends are escaped
line_end : string_text (codes "\r\n") ≡ codes "\"\\r\\n\""
line_end = refl

-- only the literal's own quote is escaped
quotes : string_text (codes "'\"") ≡ codes "\"'\\\"\""
quotes = refl

quotes_of_characters : char_text 39 written_char 39 [] ≡ codes "\\'"
quotes_of_characters = refl

-- a no-break space
no_break_space : written_char 0xA0 ≡ codes "\\u{a0}"
unfolding ucd_category
no_break_space = refl

-- a letter that isn't ASCII
letter : written_char 0xE9 ≡ 0xE9 ∷ []
unfolding ucd_category
letter = refl

-- a private-use character, and an accent
private_character : written_char 0xE000 ≡ codes "\\u{e000}"
unfolding ucd_category
private_character = refl

accent : written_char 0x301 ≡ codes "\\u{301}"
unfolding ucd_category
accent = refl
