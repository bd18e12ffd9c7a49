-- Identifiers as they are written. Equality, order and hash depend on this.
use Rattle.std.specs.Prelude.{ℕ, Bool, List, ◌∷◌, cond, codes, drop, nat_eq, ◌≡◌, IsTrue}
use Rattle.std.specs.Str.{chars, encode_utf8_all}
use Rattle.std.specs.Hash as fed
use Rattle.std.specs.Cmp.Lexicographic.{pointwise, slice_cmp, same_text}
use Rattle.std.proofs.Common.{ap, sym}
use Rattle.std.specs.Ordering.{nat_cmp}
use Rattle.std.specs.declared.cmp.Ordering.{Ordering}
use Rattle.lexical.specs.Ascii.{all_ascii}
use Rattle.lexical.specs.Text.{begins_with}
use Rattle.lexical.specs.Token.{token_text}
use Rattle.pm_token.specs.Leaf.{Name, name_token}

-- the characters of the identifier as it is written, with `r#` if it is raw
abbrev pub name_text : Name → List ℕ
name_text ident = token_text (name_token ident)

-- the characters of a text, equal to `chars` of it. For an ASCII text they are its bytes, so they compute if the text
-- is a constant
abbrev pub spelled : List ℕ → List ℕ
spelled text = cond (all_ascii text) text (chars text)

-- the bytes of the identifier as it is written
abbrev pub spelling : Name → List ℕ
spelling ident = encode_utf8_all (name_text ident)

-- `identifier-equality`: whether two identifiers are written alike
abbrev pub name_eq : Name → Name → Bool
name_eq a b = pointwise nat_eq (spelling a) (spelling b)

-- `identifier-order`: the order of the bytes of both identifiers
abbrev pub name_cmp : Name → Name → Ordering
name_cmp a b = slice_cmp nat_cmp (spelling a) (spelling b)

-- `identifier-hash`: the writes that feed these bytes to a hasher: `r#` by itself, and the rest like a text
abbrev pub fed_for : List ℕ → List (List ℕ)
fed_for bytes = cond (begins_with (codes "r#") bytes) (codes "r#" ∷ fed.str (drop 2 bytes)) (fed.str bytes)

-- identifiers that are written alike feed a hasher alike
pub fed_alike : (a b : Name) → IsTrue (name_eq a b) → fed_for (spelling a) ≡ fed_for (spelling b)
fed_alike a b h = ap fed_for (same_text (spelling a) (spelling b) (sym h))
