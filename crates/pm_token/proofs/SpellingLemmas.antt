-- How identifiers are written.
use Rattle.std.proofs.Common.{◌≡◌, ℕ, Bool, true, false, List, ◌++◌, codes, refl, sym, ap}
use Rattle.std.specs.Str.{chars}
use Rattle.std.proofs.lemmas.Bool.{both_ways, cond_both}
use Rattle.std.proofs.lemmas.Str.{chars-IsAscii}
use Rattle.lexical.specs.Ascii.{all_ascii}
use Rattle.lexical.specs.Text.{begins_with}
use Rattle.lexical.specs.Token.{raw_front}
use Rattle.lexical.proofs.TextLemmas.{is_ascii}
use Rattle.pm_token.specs.Leaf.{Name}
use Rattle.pm_token.specs.Spelling.{name_text, spelled}

-- `spelled` equals `chars`
pub spelled_is : (text : List ℕ) → spelled text ≡ chars text
spelled_is text =
    cond_both (all_ascii text) text (chars text) (λ x. x ≡ chars text)
    (λ ascii. sym (chars-IsAscii text (is_ascii text ascii))) (λ other. refl)

-- if an identifier is written without `r#`, it is plain and has that name
pub plain_as_written : (ident : Name) (text : List ℕ) → begins_with (codes "r#") text ≡ false → name_text ident ≡ text
    → (ident.name ≡ text) × (ident.raw ≡ false)
plain_as_written ident text front is = by_raw ident.raw ident.name is
  where
    by_raw : (raw : Bool) (name : List ℕ) → raw_front raw ++ name ≡ text → (name ≡ text) × (raw ≡ false)
    by_raw true name e = absurd (both_ways _ front (sym (ap (begins_with (codes "r#")) e)))
    by_raw false name e = (e, refl)
