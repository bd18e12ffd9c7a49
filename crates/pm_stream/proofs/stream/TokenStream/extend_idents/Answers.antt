use Rattle.std.proofs.Common.{◌∙◌, sym}
use Rattle.std.proofs.lemmas.Result.{err_from_is_err_and}
use Rattle.pm_stream.specs.Building.{split}
use Rattle.pm_stream.specs.declared.stream.TokenTree.TheVariants.{Ident}
use Rattle.pm_stream.proofs.BuildingLemmas.{joined_nil, puts_more, refused_item}
use Rattle.pm_stream.proofs.stream.TokenStream.extend_idents.Goals as goal

pub loop-ident-init : goal.loop-ident-init
loop-ident-init g c = sym (joined_nil c.args.self.now)

pub next-requires : goal.next-requires
next-requires g c = c.loop-ident.iterator.0

pub loop-ident-smaller : goal.loop-ident-smaller
loop-ident-smaller g c = (c.in-Some.ensures.goes.on c.loop-ident.iterator.1).2

pub loop-ident-preserved : goal.loop-ident-preserved
loop-ident-preserved g c =
    puts_more (λ ident. split (Ident ident)) c.args.self.now c.loop-ident.self
    c.put_ident.new.self c.loop-ident.yielded c.in-Some.ident
    c.loop-ident.invariant c.in_ok-put_ident.ensures.ok

pub returns-in_err-put_ident-clause-ran : goal.returns-in_err-put_ident-clause-ran
returns-in_err-put_ident-clause-ran g c =
    let start = c.into_iter-ident-iterator in
    let p = err_from_is_err_and c.from_residual.result c.from_residual.ensures.1 in (
      start.result,
      c.loop-ident.yielded,
      start.ensures.into_iter_gives,
      c.in_err-put_ident.ensures.err ∙ c.loop-ident.invariant,
      rw p.1 (c.loop-ident.ident-iterator, c.loop-ident.yielded_by),
    )

pub returns-in_err-put_ident-clause-memory : goal.returns-in_err-put_ident-clause-memory
returns-in_err-put_ident-clause-memory g c =
    let start = c.into_iter-ident-iterator in
    refused_item g.I.IntoIterator.into_iter_gives g.I.IntoIter.Iterator.next_gives c.args.idents start.result
    c.loop-ident.ident-iterator c.next.new.self c.loop-ident.yielded c.in-Some.ident c.from_residual.result
    start.ensures.into_iter_gives c.loop-ident.yielded_by c.in-Some.ensures.steps

pub returns-in_err-put_ident-clause-refused : goal.returns-in_err-put_ident-clause-refused
returns-in_err-put_ident-clause-refused g c =
    let start = c.into_iter-ident-iterator in
    let p = err_from_is_err_and c.from_residual.result c.from_residual.ensures.1 in
    rw p.1 (
      start.result,
      c.loop-ident.yielded,
      c.in-Some.ident,
      c.loop-ident.ident-iterator,
      c.next.new.self,
      start.ensures.into_iter_gives,
      c.loop-ident.yielded_by,
      c.in-Some.ensures.steps,
      c.in_err-put_ident.ensures.err ∙ c.loop-ident.invariant,
    )

pub returns-clause-ran : goal.returns-clause-ran
returns-clause-ran g c =
    let start = c.into_iter-ident-iterator in (
      start.result,
      c.loop-ident.yielded,
      start.ensures.into_iter_gives,
      c.loop-ident.invariant,
      (c.next.new.self, (c.loop-ident.ident-iterator, c.loop-ident.yielded_by, c.in-None.ensures.steps)),
    )
