-- Words of 8 bytes.
use Rattle.std.specs.Prelude.{ℕ, ◌+◌, ◌*◌, Bool, not, ◌&&◌, nat_lt, cond, List, [], ◌∷◌}
use Rattle.memchr.specs.Find.{is_byte2, is_byte3}
use Rattle.lexical.specs.Bytes.{ascii_in}
use Rattle.lexical.specs.Character.{backslash, carriage_return, double_quote, line_feed}
use Rattle.lexical.specs.declared.bytes.Class.TheVariants.{IdentifierContinue}

-- the number whose bytes are `f` of each of these bytes. The first is the lowest
abbrev pub word_of : (ℕ → ℕ) → List ℕ → ℕ
word_of f [] = 0
word_of f (b ∷ bytes) = word_of f bytes * 256 + f b

-- the highest bit if no ASCII name continues with the byte, and otherwise 0
abbrev pub name_stop : ℕ → ℕ
name_stop b = cond (ascii_in IdentifierContinue b) 0 128

-- whether the byte is ASCII and needs no escape in a string
abbrev pub is_plain_ascii : ℕ → Bool
is_plain_ascii b = nat_lt b 128 && not (is_byte3 double_quote backslash carriage_return b)

-- whether the byte is ASCII and neither LF nor CR
abbrev pub is_line_ascii : ℕ → Bool
is_line_ascii b = nat_lt b 128 && not (is_byte2 line_feed carriage_return b)
