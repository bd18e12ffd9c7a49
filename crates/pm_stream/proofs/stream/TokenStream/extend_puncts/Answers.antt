use Rattle.std.proofs.Common.{◌∙◌, sym}
use Rattle.std.proofs.lemmas.Result.{err_from_is_err_and}
use Rattle.pm_stream.specs.Building.{split}
use Rattle.pm_stream.specs.declared.stream.TokenTree.TheVariants.{Punct}
use Rattle.pm_stream.proofs.BuildingLemmas.{joined_nil, puts_more, refused_item}
use Rattle.pm_stream.proofs.stream.TokenStream.extend_puncts.Goals as goal

pub loop-punct-init : goal.loop-punct-init
loop-punct-init g c = sym (joined_nil c.args.self.now)

pub next-requires : goal.next-requires
next-requires g c = c.loop-punct.iterator.0

pub loop-punct-smaller : goal.loop-punct-smaller
loop-punct-smaller g c = (c.in-Some.ensures.goes.on c.loop-punct.iterator.1).2

pub loop-punct-preserved : goal.loop-punct-preserved
loop-punct-preserved g c =
    puts_more (λ punct. split (Punct punct)) c.args.self.now c.loop-punct.self
    c.put_punct.new.self c.loop-punct.yielded c.in-Some.punct
    c.loop-punct.invariant c.in_ok-put_punct.ensures.ok

pub returns-in_err-put_punct-clause-ran : goal.returns-in_err-put_punct-clause-ran
returns-in_err-put_punct-clause-ran g c =
    let start = c.into_iter-punct-iterator in
    let p = err_from_is_err_and c.from_residual.result c.from_residual.ensures.1 in (
      start.result,
      c.loop-punct.yielded,
      start.ensures.into_iter_gives,
      c.in_err-put_punct.ensures.err ∙ c.loop-punct.invariant,
      rw p.1 (c.loop-punct.punct-iterator, c.loop-punct.yielded_by),
    )

pub returns-in_err-put_punct-clause-memory : goal.returns-in_err-put_punct-clause-memory
returns-in_err-put_punct-clause-memory g c =
    let start = c.into_iter-punct-iterator in
    refused_item g.I.IntoIterator.into_iter_gives g.I.IntoIter.Iterator.next_gives c.args.puncts start.result
    c.loop-punct.punct-iterator c.next.new.self c.loop-punct.yielded c.in-Some.punct c.from_residual.result
    start.ensures.into_iter_gives c.loop-punct.yielded_by c.in-Some.ensures.steps

pub returns-in_err-put_punct-clause-refused : goal.returns-in_err-put_punct-clause-refused
returns-in_err-put_punct-clause-refused g c =
    let start = c.into_iter-punct-iterator in
    let p = err_from_is_err_and c.from_residual.result c.from_residual.ensures.1 in
    rw p.1 (
      start.result,
      c.loop-punct.yielded,
      c.in-Some.punct,
      c.loop-punct.punct-iterator,
      c.next.new.self,
      start.ensures.into_iter_gives,
      c.loop-punct.yielded_by,
      c.in-Some.ensures.steps,
      c.in_err-put_punct.ensures.err ∙ c.loop-punct.invariant,
    )

pub returns-clause-ran : goal.returns-clause-ran
returns-clause-ran g c =
    let start = c.into_iter-punct-iterator in (
      start.result,
      c.loop-punct.yielded,
      start.ensures.into_iter_gives,
      c.loop-punct.invariant,
      (c.next.new.self, (c.loop-punct.punct-iterator, c.loop-punct.yielded_by, c.in-None.ensures.steps)),
    )
