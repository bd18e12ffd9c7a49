use Rattle.std.proofs.Common.{◌≡◌, [], ◌++◌, refl, sym, ap, ap₂, ◌∙◌}
use Rattle.std.specs.Str.{chars}
use Rattle.lexical.specs.Found.{kind_of}
use Rattle.lexical.proofs.PieceFacts.{piece_boundary, piece_front, piece_rest}
use Rattle.relayout.proofs.PartLemmas.{piece_part}
use Rattle.relayout.proofs.comments.past_piece.Goals as goal

pub split_at-requires : goal.split_at-requires
split_at-requires c =
    piece_boundary _ c.args.text.now c.in-Some.piece c.utf8.text c.in-Some.ensures.found

pub returns-clause-found : goal.returns-clause-found
returns-clause-found c =
    let found = c.in-Some.ensures.found in
    let own = chars c.split_at.result.0.now in
    let after = chars c.split_at.result.1.now in
    let front : own ≡ found.front =
    ap chars c.split_at.ensures.front
    ∙ piece_front c.args.first c.args.text.now c.in-Some.piece c.utf8.text found in
    let rest : after ≡ found.rest =
    ap chars c.split_at.ensures.back
    ∙ piece_rest c.args.first c.args.text.now c.in-Some.piece c.utf8.text found in
    let whole : chars c.args.text.now ≡ own ++ after = found.whole ∙ sym (ap₂ (λ p r. p ++ r) front rest) in
    let part = piece_part c.args._any c.args.first c.args.free _ (chars c.args.text.now) own after [] own
    (kind_of c.in-Some.piece.kind own) whole (rw (front, rest) found.stands) c.requires c.is_free.ensures refl in
    (part.0, part.1, part.2, whole ∙ ap (λ p. p ++ after) part.3)
