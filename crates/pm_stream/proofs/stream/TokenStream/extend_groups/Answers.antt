use Rattle.std.proofs.Common.{◌∙◌, sym}
use Rattle.std.proofs.lemmas.Result.{err_from_is_err_and}
use Rattle.pm_stream.specs.Building.{split}
use Rattle.pm_stream.specs.declared.stream.TokenTree.TheVariants.{Group}
use Rattle.pm_stream.proofs.BuildingLemmas.{joined_nil, puts_more, refused_item}
use Rattle.pm_stream.proofs.stream.TokenStream.extend_groups.Goals as goal

pub loop-group-init : goal.loop-group-init
loop-group-init g c = sym (joined_nil c.args.self.now)

pub next-requires : goal.next-requires
next-requires g c = c.loop-group.iterator.0

pub loop-group-smaller : goal.loop-group-smaller
loop-group-smaller g c = (c.in-Some.ensures.goes.on c.loop-group.iterator.1).2

pub loop-group-preserved : goal.loop-group-preserved
loop-group-preserved g c =
    puts_more (λ group. split (Group group)) c.args.self.now c.loop-group.self
    c.put_group.new.self c.loop-group.yielded c.in-Some.group
    c.loop-group.invariant c.in_ok-put_group.ensures.ok

pub returns-in_err-put_group-clause-ran : goal.returns-in_err-put_group-clause-ran
returns-in_err-put_group-clause-ran g c =
    let start = c.into_iter-group-iterator in
    let p = err_from_is_err_and c.from_residual.result c.from_residual.ensures.1 in (
      start.result,
      c.loop-group.yielded,
      start.ensures.into_iter_gives,
      c.in_err-put_group.ensures.err ∙ c.loop-group.invariant,
      rw p.1 (c.loop-group.group-iterator, c.loop-group.yielded_by),
    )

pub returns-in_err-put_group-clause-memory : goal.returns-in_err-put_group-clause-memory
returns-in_err-put_group-clause-memory g c =
    let start = c.into_iter-group-iterator in
    refused_item g.I.IntoIterator.into_iter_gives g.I.IntoIter.Iterator.next_gives c.args.groups start.result
    c.loop-group.group-iterator c.next.new.self c.loop-group.yielded c.in-Some.group c.from_residual.result
    start.ensures.into_iter_gives c.loop-group.yielded_by c.in-Some.ensures.steps

pub returns-in_err-put_group-clause-refused : goal.returns-in_err-put_group-clause-refused
returns-in_err-put_group-clause-refused g c =
    let start = c.into_iter-group-iterator in
    let p = err_from_is_err_and c.from_residual.result c.from_residual.ensures.1 in
    rw p.1 (
      start.result,
      c.loop-group.yielded,
      c.in-Some.group,
      c.loop-group.group-iterator,
      c.next.new.self,
      start.ensures.into_iter_gives,
      c.loop-group.yielded_by,
      c.in-Some.ensures.steps,
      c.in_err-put_group.ensures.err ∙ c.loop-group.invariant,
    )

pub returns-clause-ran : goal.returns-clause-ran
returns-clause-ran g c =
    let start = c.into_iter-group-iterator in (
      start.result,
      c.loop-group.yielded,
      start.ensures.into_iter_gives,
      c.loop-group.invariant,
      (c.next.new.self, (c.loop-group.group-iterator, c.loop-group.yielded_by, c.in-None.ensures.steps)),
    )
