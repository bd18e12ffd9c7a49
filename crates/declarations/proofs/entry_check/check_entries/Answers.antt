use Rattle.std.proofs.Common.{◌∙◌, ap, arith, option_copied}
use Rattle.declarations.proofs.EntryCheckLemmas.{checked_more, checked_none, place_below}
use Rattle.declarations.proofs.EntryCheckLemmas.{no_entry_error, repeated_error, unknown_error}
use Rattle.declarations.proofs.HeldLemmas.{entry_list_fault_within}
use Rattle.declarations.proofs.entry_check.check_entries.Goals as goal

pub loop-left-init : goal.loop-left-init
loop-left-init c = checked_none c.args.known.now c.args.list.now

pub bounds-seen-place : goal.bounds-seen-place
bounds-seen-place c =
    let below = place_below c.args.known.now c.in-Ok.entry c.place_of-place.result c.place_of-place.ensures
    c.if-place-known.false in
    omega (arith, below, c.requires)

pub bounds-seen-place-in-Ok : goal.bounds-seen-place-in-Ok
bounds-seen-place-in-Ok c =
    let below = place_below c.args.known.now c.in-Ok.entry c.place_of-place.result c.place_of-place.ensures
    c.if-place-known.false in
    omega (arith, below, c.requires)

pub returns-then-seen-place-clause-err : goal.returns-then-seen-place-clause-err
returns-then-seen-place-clause-err c =
    let made = c.wrong-then-seen-place.ensures in
    let spot = c.spot_of-span-then-seen-place.ensures in
    repeated_error c.args.known.now c.args.list.now c.loop-left.left.now c.in-Ok.next.now c.loop-left.seen
    c.in-Ok.entry c.place_of-place.result c.wrong-then-seen-place.result c.loop-left.invariant c.in-Ok.ensures.given
    c.place_of-place.ensures c.if-place-known.false c.requires c.if-seen-place.true made.problem
    made.at (made.span ∙ spot)
    (ap option_copied made.name ∙ c.name-then-seen-place.ensures) made.known made.expected

pub returns-then-place-known-clause-err : goal.returns-then-place-known-clause-err
returns-then-place-known-clause-err c =
    let made = c.wrong.ensures in
    unknown_error c.args.known.now c.args.list.now c.loop-left.left.now c.in-Ok.next.now c.loop-left.seen
    c.in-Ok.entry c.place_of-place.result c.wrong.result c.loop-left.invariant c.in-Ok.ensures.given
    c.place_of-place.ensures c.if-place-known.true made.problem made.at (made.span ∙ c.spot_of-span.ensures)
    (ap option_copied made.name ∙ c.name.ensures) made.known made.expected

pub returns-in-Err-clause-err : goal.returns-in-Err-clause-err
returns-in-Err-clause-err c =
    let made = c.no_entry.ensures in
    no_entry_error c.args.known.now c.args.list.now c.loop-left.left.now c.loop-left.seen c.in-Err.fault
    c.no_entry.result c.loop-left.invariant c.in-Err.ensures.given made.problem made.at made.span made.expected
    made.name made.known

pub loop-left-preserved : goal.loop-left-preserved
loop-left-preserved c =
    checked_more c.args.known.now c.args.list.now c.loop-left.left.now c.in-Ok.next.now c.loop-left.seen c.in-Ok.entry
    c.place_of-place.result c.loop-left.invariant c.in-Ok.ensures.given c.in-Ok.ensures.fewer c.place_of-place.ensures
    c.if-place-known.false c.requires c.if-seen-place.false

pub overflow_add-at : goal.overflow_add-at
overflow_add-at c =
    let within = entry_list_fault_within c.loop-left.left.now c.in-Err.fault c.in-Err.ensures.given in
    let fewer = c.loop-left.invariant.fewer in
    omega (arith, within, fewer)
