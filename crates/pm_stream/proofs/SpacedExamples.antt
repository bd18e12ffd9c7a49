-- Streams that are well spaced, and streams that are not.
use Rattle.std.proofs.Common.{◌≡◌, true, false, List, [], ◌∷◌, codes, refl}
use Rattle.lexical.specs.Token.{Token, Name, Mark, Literal}
use Rattle.pm_token.specs.declared.delimiters.Delimiter.TheVariants.{Parenthesis, Brace, Bracket, None}
use Rattle.pm_stream.specs.Forest.{Forest, nil, leaf, group}
use Rattle.pm_stream.specs.Printed.{printed}
use Rattle.pm_stream.specs.Same.{Same}
use Rattle.pm_stream.specs.WellSpaced.{well_spaced}

-- a stream of tokens with empty spans
abbrev tokens : List Token → Forest
tokens [] = nil
tokens (t ∷ ts) = leaf t 0 0 (tokens ts)

abbrev quote : Token
quote = Mark 39 true

abbrev a : Token
a = Name false (codes "a")

-- ---- after `'`

quote_name : well_spaced (tokens (quote ∷ a ∷ [])) ≡ true
quote_name = refl

quote_raw_name : well_spaced (tokens (quote ∷ Name true (codes "a") ∷ [])) ≡ true
quote_raw_name = refl

quote_byte_string : well_spaced (tokens (quote ∷ Literal (codes "b\"x\"") ∷ [])) ≡ true
quote_byte_string = refl

quote_raw_string : well_spaced (tokens (quote ∷ Literal (codes "cr\"\"") ∷ [])) ≡ true
quote_raw_string = refl

quote_hashes : well_spaced (tokens (quote ∷ Literal (codes "r#\"\"#") ∷ [])) ≡ false
quote_hashes = refl

quote_byte : well_spaced (tokens (quote ∷ Literal (codes "b'x'") ∷ [])) ≡ false
quote_byte = refl

quote_string : well_spaced (tokens (quote ∷ Literal (codes "\"x\"") ∷ [])) ≡ false
quote_string = refl

quote_quote : well_spaced (tokens (quote ∷ quote ∷ a ∷ [])) ≡ false
quote_quote = refl

quote_last : well_spaced (tokens (quote ∷ [])) ≡ false
quote_last = refl

quote_group : well_spaced (leaf quote 0 0 (group Parenthesis 0 0 (tokens (a ∷ [])) nil)) ≡ false
quote_group = refl

quote_alone : well_spaced (tokens (Mark 39 false ∷ a ∷ [])) ≡ false
quote_alone = refl

-- ---- after other Joint marks

plus_quote_name : well_spaced (tokens (Mark 43 true ∷ quote ∷ a ∷ [])) ≡ true
plus_quote_name = refl

plus_character : well_spaced (tokens (Mark 43 true ∷ Literal (codes "'a'") ∷ [])) ≡ true
plus_character = refl

plus_byte : well_spaced (tokens (Mark 43 true ∷ Literal (codes "b'a'") ∷ [])) ≡ false
plus_byte = refl

plus_name : well_spaced (tokens (Mark 43 true ∷ a ∷ [])) ≡ false
plus_name = refl

plus_alone : well_spaced (tokens (Mark 43 false ∷ a ∷ [])) ≡ true
plus_alone = refl

colons : well_spaced (tokens (Mark 58 true ∷ Mark 58 false ∷ [])) ≡ true
colons = refl

colon_last : well_spaced (tokens (Mark 58 true ∷ [])) ≡ false
colon_last = refl

colon_group : well_spaced (leaf (Mark 58 true) 0 0 (group Bracket 0 0 nil nil)) ≡ false
colon_group = refl

slash_star : well_spaced (tokens (Mark 47 true ∷ Mark 42 false ∷ [])) ≡ false
slash_star = refl

slash_slash : well_spaced (tokens (Mark 47 true ∷ Mark 47 false ∷ [])) ≡ false
slash_slash = refl

slash_alone : well_spaced (tokens (Mark 47 false ∷ Mark 42 false ∷ [])) ≡ true
slash_alone = refl

star_slash : well_spaced (tokens (Mark 42 true ∷ Mark 47 false ∷ [])) ≡ true
star_slash = refl

-- ---- groups

none_group : well_spaced (group None 0 0 (tokens (a ∷ [])) nil) ≡ false
none_group = refl

deep_none : well_spaced (group Brace 0 0 (group None 0 0 nil nil) nil) ≡ false
deep_none = refl

deep_last : well_spaced (group Brace 0 0 (tokens (Mark 58 true ∷ [])) (tokens (Mark 58 false ∷ []))) ≡ false
deep_last = refl

deep : well_spaced (group Brace 0 0 (tokens (quote ∷ a ∷ [])) (tokens (Mark 58 false ∷ []))) ≡ true
deep = refl

-- ---- spans don't matter

other_spans : Same (leaf a 1 2 (group Brace 2 9 (leaf a 3 4 nil) nil))
    (leaf a 7 8 (group Brace 0 0 (leaf a 1 1 nil) nil))
other_spans = refl

-- ---- what is printed

printed_quote : printed (tokens (Mark 43 true ∷ quote ∷ a ∷ a ∷ [])) ≡ codes "+'a a"
printed_quote = refl
