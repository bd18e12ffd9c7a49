use Rattle.std.proofs.Common.{◌≡◌, ◌∙◌, ap, drop, sym, take}
use Rattle.std.specs.Str.{chars, encode_utf8_all}
use Rattle.std.proofs.lemmas.Str.{encodes-chars}
use Rattle.highlight.proofs.PieceLemmas.{faulty_parts}
use Rattle.highlight.proofs.unread.push_faulty.Goals as goal

pub returns : goal.returns
returns c =
    let rest = c.split_chars.ensures.rest in
    let front = ap encode_utf8_all (sym c.split_chars.ensures.front)
    ∙ encodes-chars _ c.split_chars.ensures.utf8_front in
    let here = ap encode_utf8_all (sym (c.split_chars-2.ensures.front ∙ ap (take c.args.size) rest))
    ∙ encodes-chars _ c.split_chars-2.ensures.utf8_front in
    let after : chars c.split_chars-2.result.1.now ≡ drop c.args.size (drop c.args.before (chars c.args.text.now)) =
    c.split_chars-2.ensures.rest ∙ ap (drop c.args.size) rest in
    faulty_parts _ _ _ _ _ _ _ _ _ _ _ _ _ _ _ _ _ front here
    (ap encode_utf8_all (sym after) ∙ encodes-chars _ c.split_chars-2.ensures.utf8_rest)
    c.in_ok-push_piece.ensures.shown c.in_ok-push_piece.ensures.kept c.in_ok-push_piece.ensures.line
    c.in_ok-push_faulty.ensures.shown c.in_ok-push_faulty.ensures.kept c.in_ok-push_faulty.ensures.line
    c.in_ok-push_piece-2.ensures.shown
