use Rattle.lexical.proofs.WhiteRunLemmas.{run_found}
use Rattle.lexical.proofs.gaps.white_size.Goals as goal

pub bytes_in-requires : goal.bytes_in-requires
bytes_in-requires c =
    let found = run_found c.args.text.now c.new.result c.skip.result c.new.ensures.rest c.skip.ensures in
    (_, found)

pub returns : goal.returns
returns c =
    c.bytes_in.ensures _ (run_found c.args.text.now c.new.result c.skip.result c.new.ensures.rest c.skip.ensures)
