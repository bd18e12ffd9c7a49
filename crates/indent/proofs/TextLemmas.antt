-- Two texts are equal exactly if their bytes are.
use Rattle.std.proofs.Common.{◌≡◌, ◌↔◌, ◌∙◌, Bool, IsTrue, List, nat_eq, sym, ap, ℕ}
use Rattle.std.specs.Cmp.Lexicographic.{pointwise}
use Rattle.std.specs.Prelude.{String, string_bytes}
use Rattle.std.specs.Str.{chars, IsUtf8, encode_utf8_all}
use Rattle.std.proofs.lemmas.Slice.Eq.{bytes_eq-Decides}
use Rattle.std.proofs.lemmas.Str.{IsUtf8-string_bytes, encodes-chars}

pub string_same : {Z : Type 0} (s : String Z) (lent text : List ℕ) (same : Bool)
    → lent ≡ string_bytes s → IsUtf8 text → same ≡ pointwise nat_eq lent text
    → IsTrue same ↔ (chars (string_bytes s) ≡ chars text)
string_same s lent text same is utf8 decides =
    let bytes = bytes_eq-Decides lent text in (
      λ h. ap chars (sym is ∙ bytes.0 (sym decides ∙ h)),
      λ e. decides ∙ bytes.1 (is ∙ (sym (encodes-chars (string_bytes s) (IsUtf8-string_bytes s))
          ∙ (ap encode_utf8_all e ∙ encodes-chars text utf8))),
    )
