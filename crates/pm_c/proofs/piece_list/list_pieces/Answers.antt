use Rattle.std.proofs.Common.{◌≡◌, ◌∙◌, [], ◌∷◌, ap, refl, sym, arith, length, length-append, append-nil, rules}
use Rattle.lexical.specs.declared.walk.PieceWalk.{PieceWalk}
use Rattle.std.specs.Str.{chars, encode_utf8_all}
use Rattle.std.proofs.lemmas.Str.{encodes-chars}
use Rattle.lexical.specs.Found.{kind_of}
use Rattle.pm_c.proofs.PieceLemmas.{all_from, one_more, record_is}
use Rattle.pm_c.proofs.piece_list.list_pieces.Goals as goal

pub loop-next-preserved : goal.loop-next-preserved
loop-next-preserved c =
    let found = c.in-Some.ensures.found in
    let joined = ap length found.joined in
    let split = length-append c.in-Some.next.text.now c.next_piece.new.self.rest.now in
    record {
      offset = omega (arith, c.loop-next.invariant.offset, joined, split, found.past);
      few = omega (
        arith,
        c.loop-next.invariant.few,
        ap length c.in_ok-push.ensures.items,
        joined,
        split,
        found.past,
        found.shorter,
      );
      listed = λ more rest are.
          let words = chars c.in-Some.next.text.now in
          let kind = kind_of c.in-Some.next.piece.kind words in
          let before =
          c.loop-next.invariant.listed ((kind, words) ∷ more) rest (all_from _ _ _ more rest found are) in (
            before.0,
            before.1,
            one_more _ _ _ _ _ _ c.in-Some.next.text.now words kind more (encodes-chars _ found.utf8)
                (record_is _ _ _ _ kind c.in-Some.next.text.now c.kind_numbers-kind.ensures found.byte_offset
                (search rules))
                found.past c.in_ok-push.ensures.items before.2,
          );
    }

pub returns-clause-lists : goal.returns-clause-lists
returns-clause-lists c =
    let walk = c.loop-next.walk in
    let all = c.loop-next.invariant.listed [] (chars walk.rest.now) (refl, c.in_default.ensures.none) in
    let same : c.rest.result.now ≡ walk.rest.now =
    c.rest.ensures.rest ∙ ap (λ (w : PieceWalk). w.rest.now) c.in_default.ensures.unchanged in
    record {
      all = all.0;
      rest = chars walk.rest.now;
      are = all.1;
      records = sym (append-nil _) ∙ all.2;
      bytes = omega (
        arith,
        c.loop-next.invariant.offset,
        ap length same,
        ap (λ bytes. length (encode_utf8_all (chars bytes))) same,
        ap length (encodes-chars c.rest.result.now c.rest.ensures.utf8),
      );
    }
