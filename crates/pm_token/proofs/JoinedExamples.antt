-- Examples of the values of units, by evaluation.
use Rattle.std.proofs.Common.{◌≡◌, [], ◌∷◌, codes, refl, inl, inr}
use lib.Utf8.{encode}
use Rattle.lexical.specs.Form.{Many}
use Rattle.lexical.specs.Quoted.{StringUnit}
use Rattle.pm_token.specs.Joined.{c_joined, string_joined}

-- a backslash and LF give nothing, nor do the blanks after them
skips_blanks : string_joined (codes "a" ∷ codes "\\\n" ∷ codes " " ∷ codes "\t" ∷ codes "\n" ∷ codes " " ∷ codes "b"
    ∷ codes " " ∷ []) ≡ codes "ab "
skips_blanks = refl

-- a line end without a backslash is kept, with the blanks after it
keeps_line_end : string_joined (codes "a" ∷ codes "\n" ∷ codes " " ∷ codes "b" ∷ []) ≡ codes "a\n b"
keeps_line_end = refl

-- an escape is not a blank, even if it gives one
tab : string_joined (codes "\\\n" ∷ codes " " ∷ codes "\\t" ∷ codes " " ∷ []) ≡ codes "\t "
tab = refl

letters : string_joined (codes "\\n" ∷ codes "\\r" ∷ codes "\\t" ∷ codes "\\\\" ∷ codes "\\0" ∷ codes "\\'"
    ∷ codes "\\\"" ∷ [])
    ≡ 10 ∷ 13 ∷ 9 ∷ 92 ∷ 0 ∷ 39 ∷ 34 ∷ []
letters = refl

code : string_joined (codes "\\u{1F_600}" ∷ codes "\\x7e" ∷ []) ≡ 0x1F600 ∷ 0x7E ∷ []
code = refl

byte : string_joined (codes "\\xFf" ∷ []) ≡ 255 ∷ []
byte = refl

-- in a C string two hex digits are a byte, and a character is its UTF-8
c_units : c_joined (codes "\\xe9" ∷ (0xE9 ∷ []) ∷ codes "\\u{e9}" ∷ codes "e" ∷ [])
    ≡ 0xE9 ∷ 0xC3 ∷ 0xA9 ∷ 0xC3 ∷ 0xA9 ∷ 101 ∷ []
unfolding encode
c_units = refl

-- a content, divided into units of the grammar
division : Many StringUnit (codes "a\\\n b") (codes "\"")
division = record {
  units = codes "a" ∷ codes "\\\n" ∷ codes " " ∷ codes "b" ∷ [];
  whole = refl;
  each = (inl (97, refl, refl), (continued, (inl (32, refl, refl), (inl (98, refl, refl), tt))));
}
  where
    continued : StringUnit (codes "\\\n") (codes " b\"")
    continued = inr (inr (record {
      front = codes "\\";
      back = codes "\n";
      whole = refl;
      first = refl;
      second =
          inl (inl refl);
    }))

division_value : string_joined division.units ≡ codes "ab"
unfolding division
division_value = refl
