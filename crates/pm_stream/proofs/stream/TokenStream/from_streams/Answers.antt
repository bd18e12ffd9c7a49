use Rattle.std.proofs.lemmas.Result.{err_from_is_err_and}
use Rattle.pm_stream.specs.Forest.{Forest}
use Rattle.pm_stream.proofs.BuildingLemmas.{gives_all}
use Rattle.pm_stream.proofs.stream.TokenStream.from_streams.Goals as goal

pub extend_streams-requires : goal.extend_streams-requires
extend_streams-requires g c = c.requires

pub returns-in_err-extend_streams-clause-ok : goal.returns-in_err-extend_streams-clause-ok
returns-in_err-extend_streams-clause-ok g c =
    let p = err_from_is_err_and c.from_residual.result c.from_residual.ensures.1 in rw p.1 tt

pub returns-in_err-extend_streams-clause-memory : goal.returns-in_err-extend_streams-clause-memory
returns-in_err-extend_streams-clause-memory g c =
    let p = err_from_is_err_and c.from_residual.result c.from_residual.ensures.1 in
    rw p.1 c.in_err-extend_streams.ensures.memory

pub returns-clause-ok : goal.returns-clause-ok
returns-clause-ok g c =
    gives_all g.I.IntoIterator.into_iter_gives g.I.IntoIter.Iterator.next_gives (λ (s : Forest). s) c.args.streams
    c.new-stream.result c.extend_streams.new.self c.new-stream.ensures c.in_ok-extend_streams.ensures.ran
