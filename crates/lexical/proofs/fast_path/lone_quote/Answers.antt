use Rattle.std.proofs.Common.{◌≡◌, ◌∙◌, drop, get_or, sym, ap, subst}
use Rattle.lexical.specs.Quick.{IsAsciiAt, UnbarredName}
use Rattle.lexical.proofs.FastPathLemmas.{ascii_piece, quote_at, quote_cut}
use Rattle.lexical.proofs.FastSingleLemmas.{quote_front, quote_starts}
use Rattle.lexical.proofs.fast_path.lone_quote.Goals as goal

pub range_from-requires : goal.range_from-requires
range_from-requires c =
    let text = c.args.text.now in
    let is : get_or text 0 32 ≡ 39 =
    sym (c.byte_at.ensures ∙ ap (λ t. get_or t 0 32) c.as_bytes.ensures.value) ∙ c.if-byte_at-ne39.false in
    let front = quote_front text is in
    λ some. quote_cut text 39 c.utf8.text front.0 front.1 quote_starts

pub returns : goal.returns
returns c first =
    let text = c.args.text.now in
    let is : get_or text 0 32 ≡ 39 =
    sym (c.byte_at.ensures ∙ ap (λ t. get_or t 0 32) c.as_bytes.ensures.value) ∙ c.if-byte_at-ne39.false in
    let front = quote_front text is in
    let name : IsAsciiAt UnbarredName (drop 1 text) c.in_ok-short_name_size.field-0 =
    subst (λ t. IsAsciiAt UnbarredName t c.in_ok-short_name_size.field-0) c.range_from.ensures.value
    c.in_ok-short_name_size.ensures in
    let quote = quote_at first text 39 c.utf8.text front.0 front.1 quote_starts _ name in
    ascii_piece first _ _ _ 1 quote tt c.ascii.ensures.kind c.ascii.ensures.bytes c.ascii.ensures.chars
