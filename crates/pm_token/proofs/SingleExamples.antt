-- Examples of the values of characters and bytes, by evaluation.
use Rattle.std.proofs.Common.{◌≡◌, codes, Ok, Err, refl}
use Rattle.literal_escaper.specs.Escape.{escape, hex_escape}
use Rattle.literal_escaper.specs.Single.{single}
use Rattle.pm_token.specs.declared.literals.conversion.ConversionErrorKind.TheVariants.{InvalidLiteralKind}
use Rattle.pm_token.specs.Content.{strip_front, before}
use Rattle.pm_token.specs.SingleValue.{byte_value, char_value}

-- the value is that of the escape, and not its backslash
escaped_quote : char_value (codes "'\\''") ≡ Ok 39
unfolding strip_front before single escape
escaped_quote = refl

space : char_value (codes "' '") ≡ Ok 32
unfolding strip_front before single
space = refl

greatest_byte : byte_value (codes "b'\\xFF'") ≡ Ok 255
unfolding strip_front before single escape hex_escape
greatest_byte = refl

-- rejected: a suffix, a string, and characters and bytes for each other
suffix_example : char_value (codes "'a'u8") ≡ Err InvalidLiteralKind
unfolding strip_front before
suffix_example = refl

string : char_value (codes "\"a\"") ≡ Err InvalidLiteralKind
unfolding strip_front before
string = refl

byte : char_value (codes "b'a'") ≡ Err InvalidLiteralKind
unfolding strip_front before
byte = refl

character : byte_value (codes "'a'") ≡ Err InvalidLiteralKind
unfolding strip_front before
character = refl
