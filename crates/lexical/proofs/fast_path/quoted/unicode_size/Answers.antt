use Rattle.std.proofs.Common.{◌-◌, ◌≤◌, ℕ, List, length, take, drop, sym, ap, arith, ◌∙◌}
use Rattle.std.proofs.Common.{◌≡◌, length-take}
use Rattle.std.proofs.lemmas.List.{take_rest}
use Rattle.lexical.specs.Bytes.{ascii_in}
use Rattle.lexical.specs.declared.bytes.Class.TheVariants as classes
use Rattle.lexical.proofs.FastEscapeLemmas.{unicode_read, code_digits}
use Rattle.lexical.proofs.FastNumberLemmas.{byte_followed, run_within}
use Rattle.lexical.proofs.fast_path.quoted.unicode_size.Goals as goal

pub writes_character-requires : goal.writes_character-requires
writes_character-requires c =
    let bytes = c.args.bytes.now in
    code_digits (take (length bytes - 2) (drop 2 bytes)) _ c.count_ascii-digits.ensures

pub returns : goal.returns
returns c =
    let bytes = c.args.bytes.now in
    unicode_read c.args.kind bytes (take (length bytes - 2) (drop 2 bytes)) c.count_ascii-digits.result
    (sym c.byte_at.ensures ∙ c.if-byte_at-ne117.false)
    (sym c.byte_at-else-byte_at-ne117.ensures ∙ c.if-byte_at-ne123.false)
    (take_rest bytes 2)
    (ap (ascii_in classes.HexDigit) (sym c.byte_at-2.ensures) ∙ sym c.if-not-holds_ascii.ensures)
    c.count_ascii-digits.ensures
    (sym c.byte_at-3.ensures ∙ c.if-byte_at-ne125.false)
    (sym c.writes_character.ensures ∙ c.if-not-writes_character.false)

front_length : (n : ℕ) (items : List ℕ) → n ≤ length items → n ≡ length (take n items)
front_length n items h = omega (arith, length-take n items)

pub slice_bounds-code-count : goal.slice_bounds-code-count
slice_bounds-code-count c =
    byte_followed c.args.bytes.now 1 _ 123 c.byte_at-else-byte_at-ne117.ensures c.if-byte_at-ne123.false
    (λ e. omega (arith, e))

pub slice_bounds-writes_character-end : goal.slice_bounds-writes_character-end
slice_bounds-writes_character-end c =
    let bytes = c.args.bytes.now in
    let code = take (length bytes - 2) (drop 2 bytes) in
    front_length c.count_ascii-digits.result code
    (run_within classes.CodeDigit code c.count_ascii-digits.result c.count_ascii-digits.ensures)
