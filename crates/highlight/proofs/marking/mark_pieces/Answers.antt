use Rattle.std.proofs.Common.{◌≡◌, ◌++◌, ◌∙◌, [], ◌∷◌, ap, refl, reverse, string_bytes}
use Rattle.std.specs.Str.{chars}
use Rattle.std.proofs.lemmas.Str.{encodes-chars}
use Rattle.lexical.specs.Found.{kind_of}
use Rattle.highlight.proofs.PieceLemmas.{marked_end, marked_step}
use Rattle.lexical.proofs.SpacedLemmas.{gaps, next_there, piece_of}
use Rattle.highlight.proofs.WhiteLemmas.{all_end, all_past, marked_white}
use Rattle.highlight.proofs.marking.mark_pieces.Goals as goal

pub loop-piece-preserved : goal.loop-piece-preserved
loop-piece-preserved c = record {
  format =
      c.in_ok-push_piece-3.ensures.kept ∙ (c.in_ok-push_piece-2.ensures.kept ∙ c.loop-piece.invariant.format);
  shown = λ answer more rest are.
      let spaced = c.next_after_white-next.result in
      let next = c.next_after_white-next.ensures in
      let splits = next.passes.splits in
      let piece = c.in-Some.piece in
      let words = chars piece.text.now in
      let there = next_there c.loop-piece.walk spaced c.next_after_white-next.new.self next piece c.in-Some.is in
      let before = c.loop-piece.invariant.shown answer (gaps (chars spaced.white.now) ++ (piece_of piece ∷ more)) rest
      (all_past c.loop-piece.walk spaced c.next_after_white-next.new.self next piece c.in-Some.is more rest are) in (
        before.0,
        before.1,
        marked_step c.args.format c.push_piece-in-loop-piece.new.self.format answer
            c.push_piece-in-loop-piece.new.self.line c.push_piece-in-loop-piece-2.new.self.line
            (string_bytes c.push_piece-in-loop-piece.new.self.out)
            (string_bytes c.push_piece-in-loop-piece-2.new.self.out) _ piece.text.now words c.style_of-style.result
            (reverse c.loop-piece.styling.delimiters.items) (reverse c.style_of-style.new.self.delimiters.items) _
            c.style_of-style.new.self.is_after_quote (kind_of piece.piece.kind words) more rest
            (encodes-chars _ there.utf8) (rw c.is_empty.ensures at c.style_of-style.ensures.style)
            c.style_of-style.ensures.delimiters c.style_of-style.ensures.quote
            (c.in_ok-push_piece-2.ensures.kept ∙ c.loop-piece.invariant.format) c.in_ok-push_piece-3.ensures.shown
            c.in_ok-push_piece-3.ensures.line
            (marked_white c.args.format c.loop-piece.sheet.format answer c.loop-piece.sheet.line
            c.push_piece-in-loop-piece.new.self.line (string_bytes c.loop-piece.sheet.out)
            (string_bytes c.push_piece-in-loop-piece.new.self.out) _ (reverse c.loop-piece.styling.delimiters.items)
            c.loop-piece.styling.is_after_quote spaced.white.now (piece_of piece ∷ more) rest splits.white_utf8
            splits.stands.each c.loop-piece.invariant.format c.in_ok-push_piece-2.ensures.shown
            c.in_ok-push_piece-2.ensures.line before.2),
      );
}

pub returns-in_default : goal.returns-in_default
returns-in_default c =
    let spaced = c.next_after_white-next.result in
    let next = c.next_after_white-next.ensures in
    let splits = next.passes.splits in
    let answer = c.in_ok-answer.answer in
    let delimiters = c.in_ok-styles_of_delimiters.ensures in
    let all = c.loop-piece.invariant.shown answer (gaps (chars spaced.white.now) ++ []) (chars spaced.rest.now)
    (all_end c.loop-piece.walk spaced c.next_after_white-next.new.self next c.in_default.is) in
    marked_end c.args.format c.push_piece.new.self.format answer c.args.text.now
    (string_bytes c.push_piece.new.self.out) (string_bytes c.push_unread.new.sheet.out) c.push_piece.new.self.line
    (reverse c.in_ok-styles_of_delimiters.field-0.items) (chars spaced.rest.now) delimiters.1 all.0 delimiters.0 all.1
    delimiters.2 c.in_ok-answer.ensures delimiters.3 (c.in_ok-push_piece.ensures.kept ∙ c.loop-piece.invariant.format)
    c.in_ok-push_unread.ensures
    (marked_white c.args.format c.loop-piece.sheet.format answer c.loop-piece.sheet.line c.push_piece.new.self.line
    (string_bytes c.loop-piece.sheet.out) (string_bytes c.push_piece.new.self.out) _
    (reverse c.loop-piece.styling.delimiters.items) c.loop-piece.styling.is_after_quote spaced.white.now []
    (chars spaced.rest.now) splits.white_utf8 splits.stands.each c.loop-piece.invariant.format
    c.in_ok-push_piece.ensures.shown c.in_ok-push_piece.ensures.line all.2)
