use Rattle.std.proofs.Common.{◌∙◌, sym}
use Rattle.std.proofs.lemmas.Result.{err_from_is_err_and}
use Rattle.pm_stream.specs.Building.{split}
use Rattle.pm_stream.specs.declared.stream.TokenTree.TheVariants.{Literal}
use Rattle.pm_stream.proofs.BuildingLemmas.{joined_nil, puts_more, refused_item}
use Rattle.pm_stream.proofs.stream.TokenStream.extend_literals.Goals as goal

pub loop-literal-init : goal.loop-literal-init
loop-literal-init g c = sym (joined_nil c.args.self.now)

pub next-requires : goal.next-requires
next-requires g c = c.loop-literal.iterator.0

pub loop-literal-smaller : goal.loop-literal-smaller
loop-literal-smaller g c = (c.in-Some.ensures.goes.on c.loop-literal.iterator.1).2

pub loop-literal-preserved : goal.loop-literal-preserved
loop-literal-preserved g c =
    puts_more (λ literal. split (Literal literal)) c.args.self.now c.loop-literal.self
    c.put_literal.new.self c.loop-literal.yielded c.in-Some.literal
    c.loop-literal.invariant c.in_ok-put_literal.ensures.ok

pub returns-in_err-put_literal-clause-ran : goal.returns-in_err-put_literal-clause-ran
returns-in_err-put_literal-clause-ran g c =
    let start = c.into_iter-literal-iterator in
    let p = err_from_is_err_and c.from_residual.result c.from_residual.ensures.1 in (
      start.result,
      c.loop-literal.yielded,
      start.ensures.into_iter_gives,
      c.in_err-put_literal.ensures.err ∙ c.loop-literal.invariant,
      rw p.1 (c.loop-literal.literal-iterator, c.loop-literal.yielded_by),
    )

pub returns-in_err-put_literal-clause-memory : goal.returns-in_err-put_literal-clause-memory
returns-in_err-put_literal-clause-memory g c =
    let start = c.into_iter-literal-iterator in
    refused_item g.I.IntoIterator.into_iter_gives g.I.IntoIter.Iterator.next_gives c.args.literals start.result
    c.loop-literal.literal-iterator c.next.new.self c.loop-literal.yielded c.in-Some.literal c.from_residual.result
    start.ensures.into_iter_gives c.loop-literal.yielded_by c.in-Some.ensures.steps

pub returns-in_err-put_literal-clause-refused : goal.returns-in_err-put_literal-clause-refused
returns-in_err-put_literal-clause-refused g c =
    let start = c.into_iter-literal-iterator in
    let p = err_from_is_err_and c.from_residual.result c.from_residual.ensures.1 in
    rw p.1 (
      start.result,
      c.loop-literal.yielded,
      c.in-Some.literal,
      c.loop-literal.literal-iterator,
      c.next.new.self,
      start.ensures.into_iter_gives,
      c.loop-literal.yielded_by,
      c.in-Some.ensures.steps,
      c.in_err-put_literal.ensures.err ∙ c.loop-literal.invariant,
    )

pub returns-clause-ran : goal.returns-clause-ran
returns-clause-ran g c =
    let start = c.into_iter-literal-iterator in (
      start.result,
      c.loop-literal.yielded,
      start.ensures.into_iter_gives,
      c.loop-literal.invariant,
      (c.next.new.self, (c.loop-literal.literal-iterator, c.loop-literal.yielded_by, c.in-None.ensures.steps)),
    )
