use Rattle.std.proofs.Common.{arith, ap, sym, ◌∙◌, length, length-append}
use Rattle.std.specs.Str.{chars}
use Rattle.explain.proofs.PlaceLemmas.{last_is, on_way, stays}
use Rattle.explain.proofs.contents.last_character.Goals as goal

pub loop-last-init : goal.loop-last-init
loop-last-init c = record { before = stays c.args.at; after = c.requires.0; some = c.requires.1 }

pub overflow_add-last : goal.overflow_add-last
overflow_add-last c =
    let is = c.loop-last.invariant in
    omega (arith, is.after.count, is.some, c.args.end.room)

pub unreachable-requires : goal.unreachable-requires
unreachable-requires c =
    let is = c.loop-last.invariant in
    omega (
      arith,
      ap length (sym is.after.whole ∙ c.in_default.ensures),
      length-append is.after.part (chars c.args.end.rest.now),
      is.some,
    )

pub loop-last-preserved : goal.loop-last-preserved
loop-last-preserved c =
    on_way c.args.at c.loop-last.last c.in-Some.after c.args.end _ c.loop-last.invariant c.in-Some.ensures.0
    c.in-Some.ensures.1 c.loop-last-test.true

pub returns : goal.returns
returns c = last_is c.args.at c.loop-last.last c.args.end c.loop-last.invariant (omega (arith, c.loop-last-test.false))
