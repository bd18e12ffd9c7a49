use Rattle.std.proofs.Common.{◌≡◌, ◌≢◌, ℕ, false, List, ◌∷◌, ◌∙◌, ap, get_or, nat_eq, ne_eqb, sym}
use Rattle.std.specs.Cmp.Lexicographic.{pointwise}
use Rattle.std.specs.Str.{IsUtf8, encode_utf8_all}
use Rattle.std.proofs.lemmas.Bool.{false_from_ne_true}
use Rattle.std.proofs.lemmas.Slice.Eq.{bytes_eq-Decides}
use Rattle.std.proofs.lemmas.Str.{encodes-chars}
use Rattle.pm_token.specs.Leaf.{Name}
use Rattle.pm_token.specs.Spelling.{name_text, spelled, spelling}
use Rattle.pm_token.proofs.SpellingLemmas.{spelled_is}
use Rattle.declarations.proofs.signs.is_written.Goals as goal

-- no identifier has the text of one that begins with another byte
begins_otherwise : (ident : Name) (text rest : List ℕ) (byte first : ℕ) → IsUtf8 text → text ≡ byte ∷ rest
    → first ≡ get_or (spelling ident) 0 0 → byte ≢ first
    → pointwise nat_eq (name_text ident) (spelled text) ≡ false
begins_otherwise ident text rest byte first utf8 begins own differs = false_from_ne_true _ (λ same.
    let written : name_text ident ≡ spelled text = (bytes_eq-Decides (name_text ident) (spelled text)).0 same in
    let bytes : spelling ident ≡ text = ap encode_utf8_all (written ∙ spelled_is text) ∙ encodes-chars text utf8 in
    differs (sym (own ∙ ap (λ s. get_or s 0 0) (bytes ∙ begins))))

pub returns-else-byte-first : goal.returns-else-byte-first
returns-else-byte-first c = ne_eqb _ _ c.if-byte-first.false
    ∙ sym (begins_otherwise c.args.ident.now c.args.text.now c.in-Some.field-0-1.now c.in-Some.byte.now c.args.first
    c.utf8.text (sym c.as_bytes.ensures.value ∙ c.in-Some.ensures.cases.0) c.requires c.if-byte-first.false)
