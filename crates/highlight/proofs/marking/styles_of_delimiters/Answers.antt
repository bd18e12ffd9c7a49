use Rattle.std.proofs.Common.{◌≡◌, ◌∙◌, ◌++◌, [], ◌∷◌, ap, refl, reverse, sym}
use Rattle.std.specs.Str.{chars}
use Rattle.std.proofs.lemmas.List.{reverse-reverse}
use Rattle.highlight.specs.Pieces.{is_nil}
use Rattle.highlight.proofs.PieceLemmas.{is_nil_chars}
use Rattle.lexical.proofs.SpacedLemmas.{gaps, none_rest, piece_of}
use Rattle.highlight.proofs.WhiteLemmas.{all_end, all_past, styles_past_gaps}
use Rattle.highlight.proofs.marking.styles_of_delimiters.Goals as goal

pub loop-next-preserved : goal.loop-next-preserved
loop-next-preserved c = record {
  awaited = c.in_ok-take.ensures.awaited;
  styles = λ more rest are.
      let spaced = c.next_after_white.result in
      let white = chars spaced.white.now in
      let words = chars c.in-Some.next.text.now in
      let piece = piece_of c.in-Some.next in
      let before = c.loop-next.invariant.styles (gaps white ++ (piece ∷ more)) rest
      (all_past c.loop-next.walk spaced c.next_after_white.new.self c.next_after_white.ensures c.in-Some.next
      c.in-Some.is more rest are) in (
        before.0,
        before.1,
        rw (c.in_ok-take.ensures.styles words, c.in_ok-take.ensures.waiting words)
            (sym (styles_past_gaps (is_nil rest) _ _ white (piece ∷ more)) ∙ before.2),
      );
}

pub returns : goal.returns
returns c =
    let spaced = c.next_after_white.result in
    let next = c.next_after_white.ensures in
    let white = chars spaced.white.now in
    let all = c.loop-next.invariant.styles (gaps white ++ []) (chars spaced.rest.now)
    (all_end c.loop-next.walk spaced c.next_after_white.new.self next c.in_default.is) in
    let same : c.rest.result.now ≡ spaced.rest.now =
    c.rest.ensures.rest ∙ none_rest c.loop-next.walk spaced c.next_after_white.new.self next c.in_default.is in
    let whole : c.is_empty.result ≡ is_nil (chars spaced.rest.now) =
    c.is_empty.ensures ∙ (is_nil_chars c.rest.result.now c.rest.ensures.utf8 ∙ ap (λ l. is_nil (chars l)) same) in (
      all.0,
      chars spaced.rest.now,
      all.1,
      ap reverse c.reverse.ensures.items ∙ (reverse-reverse c.into_styles-styles.result.items
          ∙ ((rw whole at c.into_styles-styles.ensures)
          ∙ (sym (styles_past_gaps (is_nil (chars spaced.rest.now)) _ _ white []) ∙ all.2))),
    )
