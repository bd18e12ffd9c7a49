use Rattle.std.proofs.Common.{◌≡◌, ◌∙◌, sym, ap, subst, Ok, arith, rules}
use Rattle.quoting.specs.Given.{gives, rest_of, interpolation_in, separator_of}
use Rattle.quoting.specs.Filled.{then_outcome, turns_from}
use Rattle.proc_macro2.specs.Forest.{chain}
use Rattle.proc_macro2.specs.Trees.{forest}
use Rattle.std.proofs.lemmas.Result.{err_from_is_err_and}
use Rattle.quoting.proofs.TurnLemmas.{all_turns, checked_fault, turn_fault, turn_more, turn_of, turns_begun}
use Rattle.quoting.proofs.TurnLemmas.{turns_ended}
use Rattle.quoting.proofs.FillLemmas.{IsUpTo, copy_inside, ends_fill, follows_fault, followed_by, found_onto}
use Rattle.quoting.proofs.FillLemmas.{group_step, token_step, unless_weaker}
use Rattle.quoting.proofs.FixedLemmas.{inside_stays}
use Rattle.quoting.proofs.fill.+fill_template.Goals as goal

pub repeat_onto-loop-turn-init : goal.repeat_onto-loop-turn-init
repeat_onto-loop-turn-init t c =
    turns_begun (turn_of c.args.holes.now c.args.turns.now c.in-Some.inner (forest c.trees-trees.result.now))
    (separator_of c.args.repetition.now.separator) c.args.out.now c.in-Some-2.count

pub repeat_onto-returns-in_err-check_turns-clause-fault : goal.repeat_onto-returns-in_err-check_turns-clause-fault
repeat_onto-returns-in_err-check_turns-clause-fault t c =
    let p =
    err_from_is_err_and c.from_residual-in_err-check_turns.result c.from_residual-in_err-check_turns.ensures.1 in
    rw (p.1, p.2) (checked_fault c.args.holes.now c.args.turns.now c.args.depth c.in-Some.inner c.in-Some-2.count
    c.args.repetition.now _ _
    c.requires (search rules)
    (c.trees-trees.ensures.value ∙ c.stream_ref.ensures.value) (sym c.in_ok-count.ensures ∙ c.in-Some-2.is)
    (sym c.in_err-check_turns.ensures))

pub repeat_onto-returns-in_err-fill_turn-clause-fault : goal.repeat_onto-returns-in_err-fill_turn-clause-fault
repeat_onto-returns-in_err-fill_turn-clause-fault t c =
    let p = err_from_is_err_and c.from_residual-in_err-fill_turn.result c.from_residual-in_err-fill_turn.ensures.1 in
    let between = separator_of c.args.repetition.now.separator in
    let inner = c.in-Some.inner in
    let given = turn_of c.args.holes.now c.args.turns.now inner (forest c.trees-trees.result.now) in
    let turns = turns_from given between 0 c.in-Some-2.count in
    let body : forest c.trees-trees.result.now ≡ c.args.repetition.now.body.now.stream =
    c.trees-trees.ensures.value ∙ c.stream_ref.ensures.value in
    rw (p.1, p.2) (unless_weaker c.in_err-fill_turn.field-0.0 _ _
    (λ h.
    all_turns c.args.holes.now c.args.turns.now c.args.depth inner c.in-Some-2.count c.args.repetition.now _
    c.requires (search rules) body (sym c.in_ok-count.ensures ∙ c.in-Some-2.is) (sym c.in_ok-check_turns.ensures)
    ∙ (ap (λ f. turns_from (turn_of c.args.holes.now c.args.turns.now inner f) between 0 c.in-Some-2.count) (sym body)
    ∙ follows_fault c.args.out.now turns _
    (turn_fault given between (then_outcome (Ok c.args.out.now) turns) c.loop-turn.out _ c.loop-turn.turn
    c.in-Some-2.count c.loop-turn.invariant c.loop-turn-test.true h)))
    c.in_err-fill_turn.ensures.fault)

pub repeat_onto-loop-turn-preserved : goal.repeat_onto-loop-turn-preserved
repeat_onto-loop-turn-preserved t c =
    let between = separator_of c.args.repetition.now.separator in
    let given = turn_of c.args.holes.now c.args.turns.now c.in-Some.inner (forest c.trees-trees.result.now) in
    let turns = turns_from given between 0 c.in-Some-2.count in
    let p = followed_by _ _ (given c.loop-turn.turn) c.in_ok-fill_turn.ensures.ok in
    turn_more given between (then_outcome (Ok c.args.out.now) turns) c.loop-turn.out _ p.0 c.loop-turn.turn
    c.in-Some-2.count c.loop-turn.invariant c.loop-turn-test.true p.1
    (p.2 ∙ ap (λ f. chain f p.0) c.in_ok-separate.ensures)

pub repeat_onto-returns-clause-ok : goal.repeat_onto-returns-clause-ok
repeat_onto-returns-clause-ok t c =
    let between = separator_of c.args.repetition.now.separator in
    let inner = c.in-Some.inner in
    let given = turn_of c.args.holes.now c.args.turns.now inner (forest c.trees-trees.result.now) in
    let turns = turns_from given between 0 c.in-Some-2.count in
    let body : forest c.trees-trees.result.now ≡ c.args.repetition.now.body.now.stream =
    c.trees-trees.ensures.value ∙ c.stream_ref.ensures.value in
    ap (then_outcome (Ok c.args.out.now))
    (all_turns c.args.holes.now c.args.turns.now c.args.depth inner c.in-Some-2.count c.args.repetition.now _
    c.requires (search rules) body (sym c.in_ok-count.ensures ∙ c.in-Some-2.is) (sym c.in_ok-check_turns.ensures)
    ∙ ap (λ f. turns_from (turn_of c.args.holes.now c.args.turns.now inner f) between 0 c.in-Some-2.count) (sym body))
    ∙ turns_ended given between (then_outcome (Ok c.args.out.now) turns) c.loop-turn.out c.loop-turn.turn
    c.in-Some-2.count
    c.loop-turn.invariant (omega (arith, c.loop-turn-test.false, c.loop-turn.auto.turn-end))

pub fill_onto-loop-tree-preserved-in_ok-put-in-None : goal.fill_onto-loop-tree-preserved-in_ok-put-in-None
fill_onto-loop-tree-preserved-in_ok-put-in-None t c =
    group_step (gives c.args.holes.now c.args.turns.now) c.args.depth c.args.out.now (forest c.args.template.now) _ _ _
    c.in-Some.tree.now
    c.in-Group.group _ _ c.in-Some.after.now
    c.loop-tree.invariant c.in-Some.ensures.cases.0 c.in-Group.is c.in_ok-inside-in-None.ensures.ok
    c.with_contents.ensures c.in_ok-put-in-None.ensures

pub fill_onto-loop-tree-preserved-in_ok-put-in-None-2 : goal.fill_onto-loop-tree-preserved-in_ok-put-in-None-2
fill_onto-loop-tree-preserved-in_ok-put-in-None-2 t c =
    token_step (gives c.args.holes.now c.args.turns.now) c.args.depth c.args.out.now (forest c.args.template.now) _ _
    c.in-Some.tree.now _ _
    c.in-Some.after.now
    c.loop-tree.invariant c.in-Some.ensures.cases.0 c.in_default-tree.not-Group c.in-None.ensures.found
    c.in_ok-apart_before-in-None.ensures c.in_ok-put-in-None-2.ensures

pub fill_onto-loop-tree-preserved-in-Some-Names : goal.fill_onto-loop-tree-preserved-in-Some-Names
fill_onto-loop-tree-preserved-in-Some-Names t c =
    let found = c.in-Some-Names in
    subst (IsUpTo (gives c.args.holes.now c.args.turns.now) c.args.depth c.args.out.now (forest c.args.template.now)
    c.put_name.new.out) (search rules)
    (found_onto (gives c.args.holes.now c.args.turns.now) c.args.depth c.args.out.now (forest c.args.template.now) _ _
    c.in-Some.tree.now
    (interpolation_in found.field-0) _ c.in-Some.after.now found.rest.now
    c.loop-tree.invariant c.in-Some.ensures.cases.0 found.ensures.found
    (ap rest_of (sym found.field-0-is) ∙ found.ensures.rest)
    (ap (λ f. then_outcome (Ok c.loop-tree.out)
    (gives c.args.holes.now c.args.turns.now c.args.depth (interpolation_in f)))
    found.field-0-is
    ∙ (rw found.field-0-is at c.in_ok-put_name-in-Some-Names.ensures.ok)))

pub fill_onto-loop-tree-preserved : goal.fill_onto-loop-tree-preserved
fill_onto-loop-tree-preserved t c =
    let found = c.in-Some-Repeats in
    subst (IsUpTo (gives c.args.holes.now c.args.turns.now) c.args.depth c.args.out.now (forest c.args.template.now)
    c.repeat_onto.new.out) (search rules)
    (found_onto (gives c.args.holes.now c.args.turns.now) c.args.depth c.args.out.now (forest c.args.template.now) _ _
    c.in-Some.tree.now
    (interpolation_in found.field-0) _ c.in-Some.after.now found.rest.now
    c.loop-tree.invariant c.in-Some.ensures.cases.0 found.ensures.found
    (ap rest_of (sym found.field-0-is) ∙ found.ensures.rest)
    (ap (λ f. then_outcome (Ok c.loop-tree.out)
    (gives c.args.holes.now c.args.turns.now c.args.depth (interpolation_in f)))
    found.field-0-is
    ∙ (rw found.field-0-is at c.in_ok-repeat_onto-in-Some-Repeats.ensures.ok)))

pub fill_onto-put-requires-in_default-tree : goal.fill_onto-put-requires-in_default-tree
fill_onto-put-requires-in_default-tree t c =
    copy_inside (gives c.args.holes.now c.args.turns.now) c.args.depth c.args.out.now (forest c.args.template.now) _
    c.in-Some.tree.now _ _
    c.in-Some.after.now
    c.loop-tree.invariant c.in-Some.ensures.cases.0 c.in_ok-apart_before-in-None.ensures

pub fill_onto-returns-clause-ok : goal.fill_onto-returns-clause-ok
fill_onto-returns-clause-ok t c =
    ends_fill (gives c.args.holes.now c.args.turns.now) c.args.depth c.args.out.now (forest c.args.template.now) _
    c.loop-tree.left.now
    c.loop-tree.invariant c.in_default.ensures.cases

pub filled_inside-returns-then-are_fixed-clause-ok : goal.filled_inside-returns-then-are_fixed-clause-ok
filled_inside-returns-then-are_fixed-clause-ok t c =
    let stream = c.stream_ref-template.ensures.value in
    inside_stays (gives c.args.holes.now c.args.turns.now) c.args.depth c.in-Some.inner c.args.group.now
    c.trees.result.now
    c.in_ok-clone.field-0 (search rules) (c.trees.ensures.value ∙ stream)
    (sym c.are_fixed.ensures ∙ c.if-are_fixed.true) (c.in_ok-clone.ensures.cases ∙ stream)
