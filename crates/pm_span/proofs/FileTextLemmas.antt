-- If a text has as many bytes as characters, each offset is the same in both.
use Rattle.std.proofs.Common.{◌≡◌, ℕ, ◌≤◌, List, length, refl, sym, ap, subst, ◌∙◌, arith}
use Rattle.std.specs.Prelude.{String}
use Rattle.std.specs.declared.alloc.Global.{Global}
use Rattle.std.specs.Str.{chars}
use Rattle.std.specs.String.{string_bytes}
use Rattle.std.proofs.lemmas.Str.{IsUtf8-string_bytes}
use Rattle.pm_span.specs.CharOffset.{byte_offset}
use Rattle.pm_span.specs.ByteIndex.{IsByteOffset}
use Rattle.pm_span.specs.FileInfo.{HasItsSize, text_of}
use Rattle.pm_span.specs.declared.file_info.FileText.{FileText}
use Rattle.pm_span.specs.declared.file_info.FileText.TheVariants.{Ascii}
use Rattle.pm_span.proofs.ByteOffsetLemmas.{narrow_between, text_end}

pub ascii_offset :
    {kept : FileText} {text : String Global} {own : List ℕ} (k : ℕ) → kept ≡ Ascii text → HasItsSize kept
    → text_of kept ≡ own → k ≤ length own → k ≡ byte_offset own k
ascii_offset {kept} {text} {own} k is size same within =
    let count : length (string_bytes text) ≡ length (chars (string_bytes text)) = subst HasItsSize is size in
    let whole : chars (string_bytes text) ≡ own = ap text_of (sym is) ∙ same in
    let start : IsByteOffset own 0 0 = record { within = omega arith; value = refl } in
    let end : IsByteOffset own (length own) (length (string_bytes text)) =
    text_end (length own) (IsUtf8-string_bytes text) whole refl in
    omega (arith, narrow_between start end (omega arith) within (omega (arith, count, ap length whole)))
