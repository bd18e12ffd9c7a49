-- The next piece of a walk.
use Rattle.std.proofs.Common.{◌≡◌, ◌+◌, ◌<◌, ◌++◌, ◌∙◌, false, length, take}
use Rattle.std.proofs.Common.{drop, sym, ap, ap₂}
use Rattle.std.proofs.Common.{arith}
use Rattle.std.proofs.Common.{length-append}
use Rattle.std.proofs.lemmas.List.{take-append-drop}
use Rattle.std.proofs.lemmas.Str.{length-le-encodes}
use Rattle.std.specs.Str.{chars, IsUtf8}
use Rattle.lexical.specs.Found.{IsPieceAt}
use Rattle.lexical.specs.Walk.{IsNext}
use Rattle.lexical.specs.declared.walk.PlacedPiece.{PlacedPiece}
use Rattle.lexical.specs.declared.walk.PieceWalk.{PieceWalk}
use Rattle.lexical.proofs.PieceFacts.{piece_front, piece_rest, piece_shortens}

-- the text that a piece takes off the rest is the next piece of the walk
pub next_is : (at : PieceWalk) (next : PlacedPiece) (to : PieceWalk) → IsUtf8 at.rest.now
    → IsPieceAt at.at_front (chars at.rest.now) next.piece
    → next.text.now ≡ take next.piece.bytes at.rest.now → to.rest.now ≡ drop next.piece.bytes at.rest.now
    → next.piece.bytes ≡ length next.text.now → IsUtf8 next.text.now
    → next.byte_offset ≡ at.byte_offset → to.byte_offset ≡ at.byte_offset + next.piece.bytes → to.at_front ≡ false
    → IsNext at next to
next_is at next to utf8 found cut left size text byte_offset past front_after =
    let front : chars next.text.now ≡ found.front =
    ap chars cut ∙ piece_front at.at_front at.rest.now next.piece utf8 found in
    let rest : chars to.rest.now ≡ found.rest =
    ap chars left ∙ piece_rest at.at_front at.rest.now next.piece utf8 found in
    let joined : at.rest.now ≡ next.text.now ++ to.rest.now =
    sym (ap₂ (λ p r. p ++ r) cut left ∙ take-append-drop next.piece.bytes at.rest.now) in
    let more = piece_shortens at.at_front _ found.front found.rest found.stands in
    let some : 0 < length found.front = omega (arith, more, length-append found.front found.rest) in
    let bytes : 0 < length next.text.now = omega (arith, some, size, found.bytes, length-le-encodes found.front) in
    record {
      whole = found.whole ∙ sym (ap₂ (λ p r. p ++ r) front rest);
      stands = rw (front, rest) found.stands;
      joined = joined;
      shorter = omega (arith, bytes, ap length joined, length-append next.text.now to.rest.now);
      bytes = size;
      count = found.chars ∙ sym (ap length front);
      lends = found.lends;
      utf8 = text;
      byte_offset = byte_offset;
      past = past ∙ ap (λ n. at.byte_offset + n) size;
      front_after = front_after;
    }
