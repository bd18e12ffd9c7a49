use Rattle.std.proofs.Common.{◌≡◌, ◌+◌, ◌∷◌, drop, subst}
use Rattle.std.proofs.KnownBytes.{Appends-trans}
use Rattle.std.specs.Io.KnownBytes.{Appends}
use Rattle.std.specs.List.{AllByRecursion as Each}
use Rattle.pm_span.specs.Files.{Holds}
use Rattle.find_calls.specs.Answer.{StartsIn, line_of}
use Rattle.find_calls.proofs.CallLemmas.{drop_first, written_nothing}
use Rattle.find_calls.proofs.answer.print_lines.Goals as goal

pub loop-span-preserved : goal.loop-span-preserved
loop-span-preserved g c =
    let at : drop c.loop-span.span-index c.args.spans.now
    ≡ c.span-item.result ∷ drop (c.loop-span.span-index + 1) c.args.spans.now
    = drop_first c.args.spans.now c.loop-span.span-index c.span-item.result c.loop-span-test.true c.span-item.is in
    let held = subst (Each (Holds c.args.map.now)) at c.loop-span.invariant.0 in (
      held.1,
      λ text all.
          let was = c.loop-span.invariant.1 text all in
          let starts = subst (Each (StartsIn c.args.map.now text)) at was.0 in (
            starts.1,
            λ new more. was.1 new (rw at (Appends-trans _ _ _ _ _
                (subst (λ start. Appends (g.W.Write.contents c.loop-span.to)
                (g.W.Write.contents c.writeln.new.self) (line_of c.args.path.now start))
                (starts.0 _ c.start-start.ensures) c.in_ok-writeln.ensures.bytes) more)),
          ),
    )

pub returns : goal.returns
returns g c = λ text all.
    written_nothing (g.W.Write.contents c.args.to.now) (g.W.Write.contents c.loop-span.to) c.args.path.now text
    c.args.spans.now c.loop-span.span-index c.loop-span-test.false (c.loop-span.invariant.1 text all).1
