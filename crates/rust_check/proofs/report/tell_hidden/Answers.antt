use Rattle.rust_check.proofs.ReportLemmas.{tells_more}
use Rattle.rust_check.proofs.report.tell_hidden.Goals as goal

pub returns : goal.returns
returns g c =
    let pieces = c.in_ok-tell_pieces.ensures in
    record {
      all = pieces.all;
      rest = pieces.rest;
      are = pieces.are;
      tells = tells_more _ _ _ _ _ _ _ _ _ _ pieces.tells c.in_ok-tell_line_ends.ensures;
    }
