use Rattle.std.proofs.Common.{◌∙◌, sym}
use Rattle.std.proofs.lemmas.Result.{err_from_is_err_and}
use Rattle.pm_stream.proofs.BuildingLemmas.{joined_nil, puts_more, refused_item}
use Rattle.pm_stream.proofs.stream.TokenStream.extend_streams.Goals as goal

pub loop-stream-init : goal.loop-stream-init
loop-stream-init g c = sym (joined_nil c.args.self.now)

pub next-requires : goal.next-requires
next-requires g c = c.loop-stream.iterator.0

pub loop-stream-smaller : goal.loop-stream-smaller
loop-stream-smaller g c = (c.in-Some.ensures.goes.on c.loop-stream.iterator.1).2

pub loop-stream-preserved : goal.loop-stream-preserved
loop-stream-preserved g c =
    puts_more (λ stream. stream) c.args.self.now c.loop-stream.self
    c.append.new.self c.loop-stream.yielded c.in-Some.stream
    c.loop-stream.invariant c.in_ok-append.ensures.ok

pub returns-in_err-append-clause-ran : goal.returns-in_err-append-clause-ran
returns-in_err-append-clause-ran g c =
    let start = c.into_iter-stream-iterator in
    let p = err_from_is_err_and c.from_residual.result c.from_residual.ensures.1 in (
      start.result,
      c.loop-stream.yielded,
      start.ensures.into_iter_gives,
      c.in_err-append.ensures.err ∙ c.loop-stream.invariant,
      rw p.1 (c.loop-stream.stream-iterator, c.loop-stream.yielded_by),
    )

pub returns-in_err-append-clause-memory : goal.returns-in_err-append-clause-memory
returns-in_err-append-clause-memory g c =
    let start = c.into_iter-stream-iterator in
    refused_item g.I.IntoIterator.into_iter_gives g.I.IntoIter.Iterator.next_gives c.args.streams start.result
    c.loop-stream.stream-iterator c.next.new.self c.loop-stream.yielded c.in-Some.stream c.from_residual.result
    start.ensures.into_iter_gives c.loop-stream.yielded_by c.in-Some.ensures.steps

pub returns-in_err-append-clause-refused : goal.returns-in_err-append-clause-refused
returns-in_err-append-clause-refused g c =
    let start = c.into_iter-stream-iterator in
    let p = err_from_is_err_and c.from_residual.result c.from_residual.ensures.1 in
    rw p.1 (
      start.result,
      c.loop-stream.yielded,
      c.in-Some.stream,
      c.loop-stream.stream-iterator,
      c.next.new.self,
      start.ensures.into_iter_gives,
      c.loop-stream.yielded_by,
      c.in-Some.ensures.steps,
      c.in_err-append.ensures.err ∙ c.loop-stream.invariant,
    )

pub returns-clause-ran : goal.returns-clause-ran
returns-clause-ran g c =
    let start = c.into_iter-stream-iterator in (
      start.result,
      c.loop-stream.yielded,
      start.ensures.into_iter_gives,
      c.loop-stream.invariant,
      (c.next.new.self, (c.loop-stream.stream-iterator, c.loop-stream.yielded_by, c.in-None.ensures.steps)),
    )
