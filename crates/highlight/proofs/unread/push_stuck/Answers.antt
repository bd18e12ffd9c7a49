use Rattle.std.proofs.Common.{◌≡◌, ◌++◌, ◌∙◌, ap, encode_utf8, sym}
use Rattle.highlight.proofs.PieceLemmas.{rest_parts}
use Rattle.highlight.proofs.unread.push_stuck.Goals as goal

pub returns : goal.returns
returns c =
    let split : c.args.text.now ≡ encode_utf8 c.in-Some.first ++ c.as_str.result.now =
    sym c.chars-after.ensures.rest ∙ c.in-Some.ensures.steps.0
    ∙ ap (λ l. encode_utf8 c.in-Some.first ++ l) (sym c.as_str.ensures) in
    rest_parts _ _ _ _ _ _ _ _ _ _ c.utf8.text split c.as_str.utf8
    (rw c.encode_utf8.ensures.value at c.in_ok-push_piece.ensures.shown) c.in_ok-push_piece.ensures.kept
    (rw c.encode_utf8.ensures.value at c.in_ok-push_piece.ensures.line) c.in_ok-push_piece-2.ensures.shown
