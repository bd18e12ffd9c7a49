use Rattle.std.proofs.Common.{[], ◌∙◌, ap, arith, false, length, length-append}
use Rattle.std.specs.Str.{chars}
use Rattle.lexical.specs.declared.walk.PieceWalk.{PieceWalk}
use Rattle.rust_check.specs.Report.{found_in_piece}
use Rattle.rust_check.proofs.PieceLemmas.{front_on, none_left, piece_on}
use Rattle.rust_check.proofs.ReportLemmas.{tells_more, tells_none, tells_same, within_front}
use Rattle.rust_check.proofs.report.tell_pieces.Goals as goal

pub loop-next-init : goal.loop-next-init
loop-next-init g c =
    let walk = c.pieces-walk.ensures in
    let place = c.front-place.ensures in
    record {
      within = rw place within_front;
      begin = rw (place, walk.rest) (omega arith);
      done = [];
      before = [];
      names = c.new-forms.ensures;
      report = tells_none _ _ _ _;
      goes = λ more rest left.
          front_on _ _ (chars c.args.text.now) _ more rest walk.front (ap chars walk.rest) place left;
    }

pub loop-next-preserved : goal.loop-next-preserved
loop-next-preserved g c =
    let so = c.loop-next.invariant in
    let step = c.in-Some.ensures.found in
    let next = c.in-Some.next in
    let piece = c.in_ok-place.ensures in
    let named = c.in_ok-tell_name.ensures (chars next.text.now) so.before so.names in
    record {
      within = piece.within;
      begin = omega (
        arith,
        so.begin,
        piece.begin,
        ap length step.joined,
        length-append next.text.now c.next_piece.new.self.rest.now,
      );
      done = _;
      before = _;
      names = named.1;
      report = tells_more _ _ _ _ _ _ _ _ _ _ so.report
          (tells_more _ _ _ _ _ _ _ _ _ _ named.0 piece.report);
      goes = λ more rest left.
          piece_on _ _ _ so.before (chars c.args.text.now) _ _ _ _ more rest step
          (c.is_literal-literal.ensures (chars next.text.now))
          piece.place so.goes left;
    }

pub returns : goal.returns
returns g c =
    let so = c.loop-next.invariant in
    let rest = chars c.loop-next.walk.rest.now in
    let on = so.goes [] rest (none_left _ _ (rw c.in_default.is at c.next_piece.ensures.none)) in
    let same = ap (λ (walk : PieceWalk). walk.rest.now) (rw c.in_default.is at c.next_piece.ensures.unchanged) in
    record {
      all = on.pieces;
      rest = rest;
      are = on.are;
      tells = tells_same _ _ _ _ _ _ _ _ on.all
          (tells_more _ _ _ _ _ _ _ _ _ _ so.report
          (tells_same _ _ _ _ _ _ _ _
          (ap (λ words. found_in_piece false c.loop-next.place (chars words)) (c.rest.ensures.rest ∙ same))
          c.in_ok-tell_piece.ensures.report));
    }
