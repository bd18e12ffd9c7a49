-- The values of raw literals.
use Rattle.std.proofs.Common.{◌≡◌, ℕ, true, false, List, ◌++◌, codes, None, Some, refl, ap, ap₂, ◌∙◌}
use Rattle.std.specs.Prelude.{option_and_then}
use Rattle.std.specs.List.{list_all}
use Rattle.std.specs.Option.{option_map}
use Rattle.std.specs.Str.{encode_utf8_all}
use Rattle.lexical.specs.Text.{begins_with}
use Rattle.literal_escaper.specs.Kind.{byte_kind, c_kind, string_kind}
use Rattle.pm_token.specs.Content.{before, cooked_content, hashed_content, is_hash, raw_content}
use Rattle.pm_token.specs.Value.{c_bytes, with_zero, units, value_from}
use Rattle.pm_token.specs.ValueLaws.{RawByteStringsHaveBodies, RawCStringsHaveBodies, RawStringsHaveBodies, raw_text}
use Rattle.pm_token.proofs.ContentLemmas.{strip_front_of, strip_front_none, hashed_within}

body_is : (front signs body : List ℕ) → list_all is_hash signs ≡ true
    → raw_content front (raw_text front signs body) ≡ Some body
body_is front signs body all =
    ap (option_and_then hashed_content)
    (strip_front_of front ((signs ++ codes "\"") ++ (body ++ (codes "\"" ++ signs))))
    ∙ hashed_within ((signs ++ codes "\"") ++ (body ++ (codes "\"" ++ signs))) body
    (record { signs = signs; all = all; whole = refl })

-- a text with another prefix has no content with escapes
no_cooked : (front text : List ℕ) → begins_with front text ≡ false → cooked_content front text ≡ None
no_cooked front text other = ap (option_and_then (before (codes "\""))) (strip_front_none front text other)

pub raw_strings : RawStringsHaveBodies
raw_strings signs body all =
    ap₂ (λ cooked raw. value_from (option_map (units string_kind) cooked) raw)
    (no_cooked (codes "\"") (raw_text (codes "r") signs body) refl) (body_is (codes "r") signs body all)

pub raw_byte_strings : RawByteStringsHaveBodies
raw_byte_strings signs body all =
    ap₂ (λ cooked raw. value_from (option_map (units byte_kind) cooked) (option_map encode_utf8_all raw))
    (no_cooked (codes "b\"") (raw_text (codes "br") signs body) refl) (body_is (codes "br") signs body all)

pub raw_c_strings : RawCStringsHaveBodies
raw_c_strings signs body all =
    ap₂ (λ cooked raw. value_from (option_map (λ content. c_bytes (units c_kind content)) cooked)
    (option_map (λ content. with_zero (encode_utf8_all content)) raw))
    (no_cooked (codes "c\"") (raw_text (codes "cr") signs body) refl) (body_is (codes "cr") signs body all)
