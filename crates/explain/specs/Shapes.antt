-- The shapes of the texts for which the reasons hold, as rules.
use Rattle.std.specs.Prelude.{ℕ, Bool, true, not, ◌&&◌, ◌||◌, ◌==◌, List, [], ◌∷◌, codes, length, nat_lt}
use Rattle.std.specs.Char.{is_ascii_digit}
use Rattle.lexical.specs.Character.{double_quote, hash_sign, line_feed, single_quote}
use Rattle.lexical.specs.Class.{is_white, is_ident_start, is_ident_continue}
use Rattle.lexical.specs.Delimiter.{is_opener, is_closer}
use Rattle.lexical.specs.Mark.{is_mark, comment_fronts}
use Rattle.lexical.specs.Number.{is_digit_or_underscore_in, is_underscore, base_digits}
use Rattle.lexical.specs.Quoted.{front, is_one_of}
use Rattle.lexical.specs.RawString.{raw_front}
use Rattle.lexical.specs.SingleQuoted.{byte, character}
use Rattle.lexical.specs.Identifier.{name, is_reserved}
use Rattle.lexical.specs.Rule.{Rule, One, Run, Exactly, Then, Next, UpTo, Either, Else, NotAt, NotBefore, Where}
use Rattle.lexical.specs.Rule.{perhaps}
use Rattle.lexical.specs.declared.bytes.Base.{Base}
use Rattle.lexical.specs.declared.bytes.Base.TheVariants.{Binary, Octal, Hexadecimal}
use Rattle.lexical.specs.declared.quoted.StringKind.{StringKind}
use Rattle.lexical.specs.Bytes.{radix}
use Rattle.explain.specs.declared.quotes.SingleKind.{SingleKind}
use Rattle.explain.specs.declared.quotes.SingleKind.TheVariants.{Character, Byte}

-- any character
abbrev pub any : ℕ → Bool
any c = true

-- whether the character is `#`
abbrev pub is_hash : ℕ → Bool
is_hash c = c == hash_sign

-- whether the character is `'`
abbrev pub is_quote : ℕ → Bool
is_quote c = c == single_quote

-- ---- strings

-- a pair: a character except `"` and backslash, or a backslash and any character
abbrev pub pair : Rule
pair = Either (One (λ c. not (is_one_of (codes "\"\\") c))) (Then (Exactly (codes "\\")) (One any))

-- the body of a string, up to the first `"` that is in no pair, and that `"`
abbrev pub closed_body : Rule
closed_body = UpTo pair (Exactly (codes "\""))

-- a string that is closed, whatever is in it
abbrev pub closed_string : StringKind → Rule
closed_string kind = Then (Exactly (front kind)) closed_body

-- a character at which the closing quote and hash signs of a raw string don't begin
abbrev pub raw_unit : List ℕ → Rule
raw_unit hashes = NotAt ((double_quote ∷ hashes) ∷ []) (One any)

-- everything up to the first `"` with these hash signs after it, and both of these
abbrev pub closed_raw_body : List ℕ → Rule
closed_raw_body hashes = UpTo (raw_unit hashes) (Exactly (double_quote ∷ hashes))

-- a raw string that is closed, whatever is in it and however many hash signs it has
abbrev pub closed_raw : StringKind → Rule
closed_raw kind =
    Then (Exactly (raw_front kind)) (Next (Run is_hash) (λ hashes. Then (Exactly (codes "\""))
    (closed_raw_body hashes)))

-- what opens a raw string
abbrev pub raw_opening : StringKind → Rule
raw_opening kind = Then (Exactly (raw_front kind)) (Then (Run is_hash) (Exactly (codes "\"")))

-- what opens a raw string with more than 255 hash signs
abbrev pub long_opening : StringKind → Rule
long_opening kind =
    Then (Exactly (raw_front kind))
    (Then (Where (λ hashes. nat_lt 255 (length hashes)) (Run is_hash)) (Exactly (codes "\"")))

-- the letters of a raw string, and at least one hash sign
abbrev pub hashed_front : StringKind → Rule
hashed_front kind = Then (Exactly (raw_front kind)) (Then (One is_hash) (Run is_hash))

-- a character except `"`, or nothing at the end of the text
abbrev pub no_double_quote : Rule
no_double_quote = NotAt (codes "\"" ∷ []) (perhaps (One any))

-- `r#` and the first character of a name
abbrev pub raw_name_start : Rule
raw_name_start = Then (Exactly (codes "r#")) (One is_ident_start)

-- ---- names

-- a reserved name after `r#`, or after `'r#` as a lifetime
abbrev pub reserved_raw : Rule
reserved_raw =
    Either (Then (Exactly (codes "r#")) (Where is_reserved name))
    (NotBefore is_quote (Then (Exactly (codes "'r#")) (Where is_reserved name)))

-- ---- characters and lifetimes

-- whether the character after a `'` begins a name or is a digit, so that this `'` doesn't open a character literal
abbrev pub bars_character : ℕ → Bool
bars_character c = is_ident_start c || is_ascii_digit c

-- the `b'` that opens a byte literal, or a `'` with no name or digit after it, which opens a character literal
abbrev pub single_opening : Rule
single_opening = Either (NotBefore bars_character (Exactly (codes "'"))) (Exactly (codes "b'"))

-- a pair, where no comment begins: a character except `'`, backslash and LF, or a backslash and a character except LF
abbrev pub single_pair : Rule
single_pair =
    NotAt comment_fronts
    (Either (One (λ c. not (is_one_of (codes "'\\\n") c)))
    (Then (Exactly (codes "\\")) (One (λ c. not (c == line_feed)))))

-- what is in a character literal and the `'` that closes it: one `'` or LF, or else pairs
abbrev pub closed_single_body : Rule
closed_single_body =
    Else (Then (One (is_one_of (codes "'\n"))) (Exactly (codes "'"))) (UpTo single_pair (Exactly (codes "'")))

-- a character or byte literal that is closed, whatever is in it
abbrev pub closed_single : Rule
closed_single = Then single_opening closed_single_body

-- a character literal that is closed, and has a name, a raw name, or a digit and name characters in it
abbrev pub closed_named : Rule
closed_named =
    Either (Then (Exactly (codes "'r#")) (Then name (Exactly (codes "'"))))
    (Then (Exactly (codes "'"))
    (Then (Either name (Then (One is_ascii_digit) (Run is_ident_continue))) (Exactly (codes "'"))))

-- a character or byte literal that is closed, whatever is in it, names and digits included
abbrev pub closed_character : Rule
closed_character = Either closed_single closed_named

-- what opens a character or a byte literal
abbrev pub single_front : SingleKind → List ℕ
single_front Character = codes "'"
single_front Byte = codes "b'"

-- the rule of a character or a byte literal
abbrev pub single_rule : SingleKind → Rule
single_rule Character = character
single_rule Byte = byte

-- a lifetime that begins with a digit, and has no `'` after it
abbrev pub digit_lifetime : Rule
digit_lifetime = NotBefore is_quote (Then (Exactly (codes "'")) (Then (One is_ascii_digit) (Run is_ident_continue)))

-- a lifetime
abbrev pub lifetime : Rule
lifetime = Then (Exactly (codes "'")) name

-- `'r#` and the first character of a name
abbrev pub raw_lifetime_start : Rule
raw_lifetime_start = Then (Exactly (codes "'r#")) (One is_ident_start)

-- ---- numbers

-- the prefix of the numbers of this base
abbrev pub base_prefix : Base → List ℕ
base_prefix Binary = codes "0b"
base_prefix Octal = codes "0o"
base_prefix Hexadecimal = codes "0x"

-- whether the character is a digit of the base, an ASCII digit or `_`
abbrev pub goes_on_base : Base → ℕ → Bool
goes_on_base base c = is_digit_or_underscore_in (radix base) c || is_ascii_digit c

-- the prefix of a base and all `_` after it, if no digit follows
abbrev pub bare_prefix : Base → Rule
bare_prefix base = NotBefore (goes_on_base base) (Then (Exactly (base_prefix base)) (Run is_underscore))

-- the prefix of a base, all `_` after it, and then all digits of the base and `_`
abbrev pub base_front : Base → Rule
base_front base =
    Then (Exactly (base_prefix base)) (Then (Run is_underscore) (perhaps (base_digits (radix base))))

-- whether the character can't follow a number: it can be inside a name, but it begins no name and is no digit
abbrev pub ends_badly : ℕ → Bool
ends_badly c = is_ident_continue c && not (is_ident_start c || is_ascii_digit c)

-- ---- others

-- whether no token, comment or white space begins with the character
abbrev pub begins_nothing : ℕ → Bool
begins_nothing c =
    not (is_white c || is_ident_start c || is_ascii_digit c || is_opener c || is_closer c || is_mark c
    || (c == double_quote) || (c == 0xFEFF))
