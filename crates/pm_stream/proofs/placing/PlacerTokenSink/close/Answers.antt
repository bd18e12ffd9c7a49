use Rattle.std.proofs.Common.{refl, rules}
use Rattle.pm_stream.proofs.PlaceLemmas.{closing_line, placed_close, placed_within}
use Rattle.pm_stream.proofs.placing.PlacerTokenSink.close.Goals as goal

pub index_mut-requires : goal.index_mut-requires
index_mut-requires c =
    let within = placed_within c.args.group c.requires.outer c.requires.innermost c.requires.to.takes in
    search (rules, within)

pub returns : goal.returns
returns c = λ can.
    placed_close can.to (c.along-end.ensures can.to.is (closing_line c.args._delimiter _ can.front)) c.args._delimiter
    c.args.group can.outer can.innermost can.fits can.one refl
