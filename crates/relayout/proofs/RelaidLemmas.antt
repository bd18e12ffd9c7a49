-- Texts without characters, and covers.
use Rattle.std.proofs.Common.{◌≡◌, ℕ, Bool, true, false, ◌==◌, List, [], ◌∷◌, refl, sym, ap, ◌∙◌, length}
use Rattle.std.specs.Str.{chars, IsUtf8, encode_utf8_all}
use Rattle.std.proofs.lemmas.Bool.{both_ways, eqb-true}
use Rattle.std.proofs.lemmas.List.{nil_from_length}
use Rattle.std.proofs.lemmas.Str.{chars-nil, encodes-chars, encodes_same, IsUtf8-string_bytes}
use Rattle.std.specs.Prelude.{String, string_bytes}
use Rattle.lexical.specs.Cover.{onto, StandBefore}
use Rattle.lexical.specs.Piece.{Piece, HasNoPiece}

-- ---- empty texts

pub no_chars : (text : List ℕ) → (length text == 0) ≡ true → chars text ≡ []
no_chars text none = ap chars (nil_from_length text (eqb-true (length text) 0 none)) ∙ chars-nil

pub some_chars : (text : List ℕ) → IsUtf8 text → (length text == 0) ≡ false
    → (c : ℕ) × (more : List ℕ) × (chars text ≡ c ∷ more)
some_chars text utf8 some = by_cases (chars text) refl
  where
    by_cases : (cs : List ℕ) → chars text ≡ cs → (c : ℕ) × (more : List ℕ) × (chars text ≡ c ∷ more)
    by_cases [] e =
        let nil : text ≡ [] = sym (encodes-chars text utf8) ∙ ap encode_utf8_all e in
        absurd (both_ways _ some (ap (λ t. length t == 0) nil))
    by_cases (c ∷ more) e = (c, more, e)

-- ---- covers

-- the pieces cover the text; `first` says that it is the whole source
pub record Cover (first : Bool) (text : List ℕ) : Type 0 where
  pub pieces : List Piece
  pub whole : text ≡ onto pieces []
  pub stand : StandBefore first pieces []

-- a text that is not empty has no cover if no piece begins it
pub cover_none : (first : Bool) (text : List ℕ) → HasNoPiece first text → (text ≡ [] → ⊥) → Cover first text → ⊥
cover_none first text none more cover = by_pieces cover.pieces cover.whole cover.stand
  where
    by_pieces : (ps : List Piece) → text ≡ onto ps [] → StandBefore first ps [] → ⊥
    by_pieces [] e stand = more e
    by_pieces (x ∷ ps) e stand = none x.0 x.1 (onto ps []) e stand.0

-- the characters of a string are those of the text that it encodes
pub string_chars : {Z : Type 0} (s : String Z) (text : List ℕ) → string_bytes s ≡ encode_utf8_all text
    → chars (string_bytes s) ≡ text
string_chars s text e = encodes_same _ _ (encodes-chars (string_bytes s) (IsUtf8-string_bytes s) ∙ e)
