-- Texts that are written character by character.
use Rattle.std.proofs.Common.{◌≡◌, ◌∙◌, ◌++◌, ℕ, List, [], ◌∷◌, refl, sym, ap, append_assoc, append-nil, encode_utf8}
use Rattle.std.proofs.Common.{length}
use Rattle.std.specs.Str.{chars, IsUtf8}
use Rattle.std.proofs.lemmas.List.{nil_from_length}
use Rattle.std.proofs.lemmas.Str.{chars-nil, chars_past_char, IsUtf8-past_char}
use Rattle.messages.specs.Each.{each}

-- what was written, and then the rest of the text, is all of the text
pub record IsEach (give : ℕ → List ℕ) (text rest old out : List ℕ) : Type 0 where
  pub utf8 : IsUtf8 rest
  pub all : out ++ each give (chars rest) ≡ old ++ each give (chars text)

pub each_start : (give : ℕ → List ℕ) (text out : List ℕ) → IsUtf8 text → IsEach give text text out out
each_start give text out utf8 = record { utf8 = utf8; all = refl }

pub each_one : (give : ℕ → List ℕ) (text rest more old out new : List ℕ) (c : ℕ) → IsEach give text rest old out
    → rest ≡ encode_utf8 c ++ more → new ≡ out ++ give c → IsEach give text more old new
each_one give text rest more old out new c so split pushed =
    let next : chars rest ≡ c ∷ chars more = chars_past_char rest more c so.utf8 split in
    record {
      utf8 = IsUtf8-past_char rest more c so.utf8 split;
      all = ap (λ l. l ++ each give (chars more)) pushed ∙ (append_assoc out (give c) (each give (chars more))
          ∙ (ap (λ l. out ++ each give l) (sym next) ∙ so.all));
    }

pub each_end : (give : ℕ → List ℕ) (text rest old out : List ℕ) → IsEach give text rest old out → length rest ≡ 0
    → out ≡ old ++ each give (chars text)
each_end give text rest old out so none =
    let nil : chars rest ≡ [] = ap chars (nil_from_length rest none) ∙ chars-nil in
    sym (append-nil out) ∙ (ap (λ l. out ++ each give l) (sym nil) ∙ so.all)
