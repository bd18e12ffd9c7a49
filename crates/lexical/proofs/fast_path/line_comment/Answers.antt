use Rattle.std.proofs.Common.{◌≡◌, ◌∙◌, get_or, sym, ap, arith}
use Rattle.lexical.specs.Quick.{Line}
use Rattle.lexical.proofs.CountLemmas.{front_range}
use Rattle.lexical.proofs.FastPathLemmas.{ascii_piece, fast_cut}
use Rattle.lexical.proofs.FastCommentLemmas.{gap_read, outer_read, three_cut, two_cut}
use Rattle.lexical.proofs.fast_path.line_comment.Goals as goal

pub range_from-requires : goal.range_from-requires
range_from-requires c =
    let same = c.as_bytes-bytes.ensures.value in
    λ _. two_cut c.args.text.now c.utf8.text
    (sym (c.byte_at.ensures ∙ ap (λ t. get_or t 0 32) same) ∙ c.if-byte_at-ne47.false)
    (sym (c.byte_at-else-byte_at-ne47.ensures ∙ ap (λ t. get_or t 1 32) same) ∙ c.if-byte_at-ne47-2.false)

pub returns-then-third-ne47 : goal.returns-then-third-ne47
returns-then-third-ne47 c first =
    let same = c.as_bytes-bytes.ensures.value in
    let third = c.byte_at-third.ensures ∙ ap (λ t. get_or t 2 32) same in
    let gap = gap_read first c.args.text.now c.range_from.result.now c.in_ok-size.size
    (sym (c.byte_at.ensures ∙ ap (λ t. get_or t 0 32) same) ∙ c.if-byte_at-ne47.false)
    (sym (c.byte_at-else-byte_at-ne47.ensures ∙ ap (λ t. get_or t 1 32) same) ∙ c.if-byte_at-ne47-2.false)
    c.range_from.ensures.value (λ e. c.if-third-ne47.true (third ∙ e)) (λ e. c.if-third-eq33.false (third ∙ e))
    c.in_ok-size.ensures in
    ascii_piece first _ _ _ _ gap tt c.ascii.ensures.kind c.ascii.ensures.bytes c.ascii.ensures.chars

pub range_from-doc_body-requires : goal.range_from-doc_body-requires
range_from-doc_body-requires c =
    let same = c.as_bytes-bytes.ensures.value in
    let third : get_or c.args.text.now 2 32 ≡ 47 =
    sym (c.byte_at-third.ensures ∙ ap (λ t. get_or t 2 32) same) ∙ c.if-third-ne47.false in
    λ _. three_cut c.args.text.now c.utf8.text
    (sym (c.byte_at.ensures ∙ ap (λ t. get_or t 0 32) same) ∙ c.if-byte_at-ne47.false)
    (sym (c.byte_at-else-byte_at-ne47.ensures ∙ ap (λ t. get_or t 1 32) same) ∙ c.if-byte_at-ne47-2.false)
    (omega (arith, third)) (λ e. omega (arith, third, e))

pub range-requires-clause-end_boundary : goal.range-requires-clause-end_boundary
range-requires-clause-end_boundary c = fast_cut Line _ _ c.range_from-doc_body.utf8 c.in_ok-doc_size.ensures

pub returns : goal.returns
returns c first =
    let same = c.as_bytes-bytes.ensures.value in
    let doc = outer_read first c.range.result c.args.text.now c.range_from-doc_body.result.now c.in_ok-doc_size.doc_size
    (sym (c.byte_at.ensures ∙ ap (λ t. get_or t 0 32) same) ∙ c.if-byte_at-ne47.false)
    (sym (c.byte_at-else-byte_at-ne47.ensures ∙ ap (λ t. get_or t 1 32) same) ∙ c.if-byte_at-ne47-2.false)
    (sym (c.byte_at-third.ensures ∙ ap (λ t. get_or t 2 32) same) ∙ c.if-third-ne47.false)
    (λ e. c.if-byte_at-eq47.false (c.byte_at-2.ensures ∙ (ap (λ t. get_or t 3 32) same ∙ e)))
    c.range_from-doc_body.ensures.value (c.range.ensures.value ∙ front_range _ _) c.in_ok-doc_size.ensures in
    ascii_piece first _ _ _ _ doc c.range.utf8 c.ascii-2.ensures.kind c.ascii-2.ensures.bytes c.ascii-2.ensures.chars
