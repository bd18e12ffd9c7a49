use Rattle.std.proofs.Common.{get_or, ap, ◌∙◌}
use Rattle.lexical.specs.Quick.{UnbarredName}
use Rattle.lexical.specs.Bytes.{ascii_in}
use Rattle.lexical.specs.declared.bytes.Class.TheVariants as classes
use Rattle.lexical.proofs.CountLemmas.{front_range}
use Rattle.lexical.proofs.FastPathLemmas.{ascii_piece, closer_at, literal_at, mark_at, name_piece_at, opener_at}
use Rattle.lexical.proofs.FastPathLemmas.{fast_cut}
use Rattle.lexical.proofs.FastPathLemmas.{front_byte, white_at}
use Rattle.lexical.proofs.fast_path.fast_piece.Goals as goal

pub range-requires-clause-end_boundary : goal.range-requires-clause-end_boundary
range-requires-clause-end_boundary c = fast_cut UnbarredName _ _ c.utf8.text c.in_ok-size-in-Letter.ensures

pub returns-in_ok-size-in-Letter : goal.returns-in_ok-size-in-Letter
returns-in_ok-size-in-Letter c first =
    let name = c.in_ok-size-in-Letter.ensures in
    ascii_piece first _ _ _ _ (name_piece_at first _ c.range.result _
    (c.range.ensures.value ∙ front_range _ _) name) c.range.utf8 c.ascii.ensures.kind
    c.ascii.ensures.bytes c.ascii.ensures.chars

pub returns-else-next-eq47 : goal.returns-else-next-eq47
returns-else-next-eq47 c first =
    let same = c.as_bytes-bytes.ensures.value in
    let front = front_byte _ _ same c.if-is_empty.ensures in
    let next = c.byte_at-next.ensures ∙ ap (λ x. get_or x 1 32) same in
    let mark = mark_at first c.args.text.now _ c.utf8.text front.0 front.1 _
    c.in-Mark.ensures (λ e. c.if-next-eq47.false (next ∙ e))
    (c.holds_ascii-joint.ensures ∙ ap (ascii_in classes.Mark) next) in
    ascii_piece first _ _ _ 1 mark tt c.ascii-in-Mark.ensures.kind c.ascii-in-Mark.ensures.bytes
    c.ascii-in-Mark.ensures.chars

pub returns-else-byte_at-eq47 : goal.returns-else-byte_at-eq47
returns-else-byte_at-eq47 c first =
    let same = c.as_bytes-bytes.ensures.value in
    let front = front_byte _ _ same c.if-is_empty.ensures in
    let next = c.byte_at.ensures ∙ ap (λ x. get_or x 1 32) same in
    let opener = opener_at first c.args.text.now _ c.utf8.text front.0 front.1
    c.in-Opener.ensures (λ e. c.if-byte_at-eq47.false (next ∙ e)) in
    ascii_piece first _ _ _ 1 opener tt c.ascii-in-Opener.ensures.kind c.ascii-in-Opener.ensures.bytes
    c.ascii-in-Opener.ensures.chars

pub returns-in-Closer : goal.returns-in-Closer
returns-in-Closer c first =
    let same = c.as_bytes-bytes.ensures.value in
    let front = front_byte _ _ same c.if-is_empty.ensures in
    let closer = closer_at first c.args.text.now _ c.utf8.text front.0 front.1
    c.in-Closer.ensures in
    ascii_piece first _ _ _ 1 closer tt c.ascii-in-Closer.ensures.kind c.ascii-in-Closer.ensures.bytes
    c.ascii-in-Closer.ensures.chars

pub returns-in-White : goal.returns-in-White
returns-in-White c first =
    let same = c.as_bytes-bytes.ensures.value in
    let front = front_byte _ _ same c.if-is_empty.ensures in
    let white = white_at first c.args.text.now _ c.utf8.text front.0 front.1
    c.in-White.ensures in
    ascii_piece first _ _ _ 1 white tt c.ascii-in-White.ensures.kind c.ascii-in-White.ensures.bytes
    c.ascii-in-White.ensures.chars

pub returns-in_ok-number_size-in-Digit : goal.returns-in_ok-number_size-in-Digit
returns-in_ok-number_size-in-Digit c first =
    ascii_piece first _ _ _ _ (literal_at first _ _ c.in_ok-number_size-in-Digit.ensures) tt
    c.ascii-in-Digit.ensures.kind c.ascii-in-Digit.ensures.bytes c.ascii-in-Digit.ensures.chars
