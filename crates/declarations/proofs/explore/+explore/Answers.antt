use Rattle.std.proofs.Common.{◌≡◌, ◌∙◌, ap, refl, subst, sym, length, arith}
use Rattle.grammars.specs.Grammar.{Sign, Then, To}
use Rattle.declarations.specs.Syntax.{grammar_of, name_of, test_of}
use Rattle.declarations.proofs.ExploreLemmas.{lists_element, lists_end, lists_more, lists_none, lists_stuck}
use Rattle.declarations.proofs.ExploreLemmas.{sees_within}
use Rattle.declarations.proofs.ExploreLemmas.{repeats_end, repeats_more, repeats_none, repeats_stuck}
use Rattle.item_tables.specs.declared.class.SignClass.TheVariants as classes
use Rattle.declarations.proofs.ReaderLemmas.{remains_sign, remains_within}
use Rattle.declarations.proofs.GoalLemmas.{import_goes, onward_on, onward_self, segment_goes, segmented}
use Rattle.declarations.proofs.GoalLemmas.{segmented_begins, separated, to_seen}
use Rattle.declarations.specs.Explore.{Sees}
use Rattle.declarations.specs.GoalSyntax.{IsReadBy}
use Rattle.declarations.specs.ItemRest.{is_use_list}
use Rattle.declarations.specs.declared.syntax.Goal.TheVariants as goals
use Rattle.item_tables.specs.Classes.{is}
use Rattle.declarations.specs.rules.Items.{call, call_name, use_path}
use Rattle.declarations.specs.rules.Bodies.{semicolon}
use Rattle.declarations.specs.rules.Fronts.{as_name}
use Rattle.declarations.specs.rules.Names.{UsePath, one}
use Rattle.declarations.proofs.explore.+explore.Goals as goal

-- ---- lists

pub explore_list-loop-left-init : goal.explore_list-loop-left-init
explore_list-loop-left-init t c = lists_none (grammar_of c.args.item.now) c.args.trees.now

pub explore_list-returns-then-one-left : goal.explore_list-returns-then-one-left
explore_list-returns-then-one-left t c =
    let same = c.if-one-left.true in
    lists_end (grammar_of c.args.item.now) c.args.trees.now c.loop-left.left.now c.explore-one.result
    c.loop-left.invariant c.explore-one.ensures (record { left = c.loop-left.left; next = c.with_end.result })
    (omega arith) refl
    (record { classes = c.with_end.ensures.classes; end = c.with_end.ensures.end })

pub explore_list-returns-else-has_end : goal.explore_list-returns-else-has_end
explore_list-returns-else-has_end t c =
    let within = sees_within (grammar_of c.args.item.now) c.loop-left.left.now c.explore-one.result
    c.explore-one.ensures in
    let not = c.if-one-left.false in
    lists_stuck (grammar_of c.args.item.now) c.args.trees.now c.loop-left.left.now c.explore-one.result
    c.loop-left.invariant c.explore-one.ensures (omega arith) (sym c.has_end.ensures ∙ c.if-has_end.false)

pub explore_list-loop-left-preserved : goal.explore_list-loop-left-preserved
explore_list-loop-left-preserved t c =
    let within = sees_within (grammar_of c.args.item.now) c.loop-left.left.now c.explore-one.result
    c.explore-one.ensures in
    let not = c.if-one-left.false in
    lists_more (grammar_of c.args.item.now) c.args.trees.now c.loop-left.left.now c.explore-one.result
    c.loop-left.invariant c.explore-one.ensures (omega arith) (sym c.has_end.ensures ∙ c.if-has_end.true)
    c.in-Some.rest.now c.in-Some.ensures.found

pub explore_list-returns-in-None : goal.explore_list-returns-in-None
explore_list-returns-in-None t c =
    let within = sees_within (grammar_of c.args.item.now) c.loop-left.left.now c.explore-one.result
    c.explore-one.ensures in
    let not = c.if-one-left.false in
    lists_element (grammar_of c.args.item.now) c.args.trees.now c.loop-left.left.now c.explore-one.result
    c.loop-left.invariant c.explore-one.ensures (omega arith) (sym c.has_end.ensures ∙ c.if-has_end.true)
    (record { left = c.explore-one.result.left; next = c.with.result }) c.in-None.ensures.none refl
    (record {
      classes = c.with.ensures.classes;
      end = c.with.ensures.end ∙ (sym c.has_end.ensures ∙ c.if-has_end.true);
    })

pub explore_list-loop-left-smaller : goal.explore_list-loop-left-smaller
explore_list-loop-left-smaller t c =
    let within = sees_within (grammar_of c.args.item.now) c.loop-left.left.now c.explore-one.result
    c.explore-one.ensures in
    let not = c.if-one-left.false in
    let after = remains_within c.explore-one.result.left.now c.in-Some.rest.now
    (remains_sign c.explore-one.result.left.now c.in-Some.rest.now classes.Comma c.in-Some.ensures.found) in
    omega arith

-- ---- any number of times

pub explore_many-loop-seen-init : goal.explore_many-loop-seen-init
explore_many-loop-seen-init t c =
    repeats_none (grammar_of c.args.item.now) c.args.trees.now c.seen_nothing-seen.result.left.now
    c.seen_nothing-seen.result.next
    c.seen_nothing-seen.ensures.left c.seen_nothing-seen.ensures.next

pub explore_many-returns-then-one-seen : goal.explore_many-returns-then-one-seen
explore_many-returns-then-one-seen t c =
    let same = c.if-one-seen.true in
    let seen = c.loop-seen.seen in
    repeats_end (grammar_of c.args.item.now) c.args.trees.now seen.left.now seen.next c.explore-one.result
    c.loop-seen.invariant c.explore-one.ensures (record { left = seen.left; next = c.with_end.result }) (omega arith)
    refl
    (record { classes = λ x. c.with_end.ensures.classes x ∙ c.both.ensures.classes x; end = c.with_end.ensures.end })

pub explore_many-returns-else-has_end : goal.explore_many-returns-else-has_end
explore_many-returns-else-has_end t c =
    let seen = c.loop-seen.seen in
    let within = sees_within (grammar_of c.args.item.now) seen.left.now c.explore-one.result c.explore-one.ensures in
    let not = c.if-one-seen.false in
    repeats_stuck (grammar_of c.args.item.now) c.args.trees.now seen.left.now seen.next c.explore-one.result
    c.loop-seen.invariant c.explore-one.ensures (omega arith) (sym c.has_end.ensures ∙ c.if-has_end.false)

pub explore_many-loop-seen-preserved : goal.explore_many-loop-seen-preserved
explore_many-loop-seen-preserved t c =
    let seen = c.loop-seen.seen in
    let within = sees_within (grammar_of c.args.item.now) seen.left.now c.explore-one.result c.explore-one.ensures in
    let not = c.if-one-seen.false in
    repeats_more (grammar_of c.args.item.now) c.args.trees.now seen.left.now seen.next c.explore-one.result
    c.loop-seen.invariant c.explore-one.ensures (omega arith) (sym c.has_end.ensures ∙ c.if-has_end.true)

pub explore_many-loop-seen-smaller : goal.explore_many-loop-seen-smaller
explore_many-loop-seen-smaller t c =
    let seen = c.loop-seen.seen in
    let within = sees_within (grammar_of c.args.item.now) seen.left.now c.explore-one.result c.explore-one.ensures in
    let not = c.if-one-seen.false in
    omega arith

-- ---- one rule

pub explore-returns-in-Nothing : goal.explore-returns-in-Nothing
explore-returns-in-Nothing t c = rw c.in-Nothing.is c.see_nothing.ensures

pub explore-returns-in-Mark : goal.explore-returns-in-Mark
explore-returns-in-Mark t c = rw c.in-Mark.is c.see_mark.ensures

pub explore-returns-in-Sign : goal.explore-returns-in-Sign
explore-returns-in-Sign t c = rw c.in-Sign.is c.see_sign.ensures

pub explore-returns-in-Table : goal.explore-returns-in-Table
explore-returns-in-Table t c = rw c.in-Table.is c.see_table.ensures

pub explore-returns-in-Guarded : goal.explore-returns-in-Guarded
explore-returns-in-Guarded t c = rw c.in-Guarded.is c.see_guarded.ensures

pub explore-returns-in-Many : goal.explore-returns-in-Many
explore-returns-in-Many t c = rw c.in-Many.is c.explore_many.ensures

pub explore-returns-in-List : goal.explore-returns-in-List
explore-returns-in-List t c = rw c.in-List.is c.explore_list.ensures

pub explore-returns-in-Nonterminal : goal.explore-returns-in-Nonterminal
explore-returns-in-Nonterminal t c =
    rw c.in-Nonterminal.is (subst (λ g. Sees g c.args.trees.now c.explore-in-Nonterminal.result) c.rule_of.ensures.rule
    c.explore-in-Nonterminal.ensures)

pub explore-returns-then-has_end : goal.explore-returns-then-has_end
explore-returns-then-has_end t c =
    rw c.in-Then.is
    (c.joined.ensures (grammar_of c.in-Then.first.now) (grammar_of c.in-Then.second.now) c.args.trees.now
    c.explore-before.ensures (sym c.has_end.ensures ∙ c.if-has_end.true) c.explore.ensures)

pub explore-returns-else-has_end : goal.explore-returns-else-has_end
explore-returns-else-has_end t c =
    rw c.in-Then.is
    (c.stopped.ensures (grammar_of c.in-Then.first.now) (grammar_of c.in-Then.second.now) c.args.trees.now
    c.explore-before.ensures (sym c.has_end.ensures ∙ c.if-has_end.false))

pub explore-returns-then-one-trees : goal.explore-returns-then-one-trees
explore-returns-then-one-trees t c =
    rw c.in-Either.is
    (c.begun.ensures (grammar_of c.in-Either.first.now) (grammar_of c.in-Either.second.now) c.args.trees.now
    c.explore-one.ensures c.if-one-trees.true)

pub explore-returns-else-one-trees : goal.explore-returns-else-one-trees
explore-returns-else-one-trees t c =
    let all = c.if-one-trees.false in
    rw c.in-Either.is
    (c.choose.ensures (grammar_of c.in-Either.first.now) (grammar_of c.in-Either.second.now) c.args.trees.now
    c.explore-one.ensures (λ less. omega arith) c.explore-else-one-trees.ensures)

pub explore-returns-in-Ok : goal.explore-returns-in-Ok
explore-returns-in-Ok t c =
    let found = c.in-Ok.ensures in
    rw c.in-To.is
    (to_seen (test_of c.in-To.test) (name_of c.in-To.goal) c.args.trees.now c.in-Ok.rest.now found.0
    c.explore_goal.result found.1 found.2 c.explore_goal.ensures)

pub explore-returns-in-Err : goal.explore-returns-in-Err
explore-returns-in-Err t c =
    rw c.in-To.is
    (c.in-Err.ensures.1 (To (test_of c.in-To.test) (name_of c.in-To.goal)) (λ x. refl) refl)

-- ---- macro calls

pub explore_call-loop-left-init : goal.explore_call-loop-left-init
explore_call-loop-left-init t c = onward_self call c.args.trees.now

pub explore_call-loop-left-preserved : goal.explore_call-loop-left-preserved
explore_call-loop-left-preserved t c =
    onward_on call c.args.trees.now c.loop-left.left.now c.in-Ok.rest.now c.loop-left.invariant c.in-Ok.ensures.1

pub explore_call-loop-left-smaller : goal.explore_call-loop-left-smaller
explore_call-loop-left-smaller t c = let fewer = c.in-Ok.ensures.0 in omega arith

pub explore_call-returns-then-one-left : goal.explore_call-returns-then-one-left
explore_call-returns-then-one-left t c =
    c.loop-left.invariant c.begun.result.left.now c.begun.result.next
    (c.begun.ensures (Then (one classes.Exclamation) call_name) separated c.loop-left.left.now c.explore-one.ensures
    c.if-one-left.true)

pub explore_call-returns-in-Err : goal.explore_call-returns-in-Err
explore_call-returns-in-Err t c =
    c.loop-left.invariant c.choose.result.left.now c.choose.result.next
    (c.choose.ensures (Then (one classes.Exclamation) call_name) separated c.loop-left.left.now c.explore-one.ensures
    (λ less. let not = c.if-one-left.false in omega arith) c.in-Err.ensures)

-- ---- imports

pub explore_use_path-loop-rest-init : goal.explore_use_path-loop-rest-init
explore_use_path-loop-rest-init t c = onward_self use_path c.args.trees.now

pub explore_use_path-loop-rest-preserved : goal.explore_use_path-loop-rest-preserved
explore_use_path-loop-rest-preserved t c =
    let one = c.in-Ok.ensures in
    let two = c.in-Ok-first_that_passes.ensures in
    onward_on use_path c.args.trees.now c.loop-rest.left.now c.in-Ok-first_that_passes.after.now c.loop-rest.invariant
    (import_goes c.loop-rest.left.now c.in-Ok.rest.now one.0 one.1 one.2 c.in-Ok-first_that_passes.after.now two.0
    two.1 two.2).1

pub explore_use_path-returns-in-Err-first_that_passes : goal.explore_use_path-returns-in-Err-first_that_passes
explore_use_path-returns-in-Err-first_that_passes t c =
    let one = c.in-Ok.ensures in
    let stuck = c.in-Err-first_that_passes.ensures in
    c.loop-rest.invariant c.choose.result.left.now c.choose.result.next
    (segment_goes c.loop-rest.left.now c.in-Ok.rest.now one.0 one.1 one.2 c.choose.result.left.now
    c.choose.result.next
    (c.choose.ensures (To (is classes.PathSeparator) UsePath) (Then as_name semicolon) c.in-Ok.rest.now
    (stuck.1 (To (is classes.PathSeparator) UsePath) (λ x. refl) refl)
    (λ less. let same = ap length stuck.0 in omega arith) c.explore.ensures))

pub explore_use_path-returns-in-Err : goal.explore_use_path-returns-in-Err
explore_use_path-returns-in-Err t c =
    let stuck = c.in-Err.ensures in
    c.loop-rest.invariant c.choose-in-Err.result.left.now c.choose-in-Err.result.next
    (c.choose-in-Err.ensures segmented (Then (Sign is_use_list) semicolon) c.loop-rest.left.now
    (stuck.1 segmented segmented_begins refl) (λ less. let same = ap length stuck.0 in omega arith)
    c.explore-in-Err.ensures)

-- ---- named rules

pub explore_goal-returns-in-Data : goal.explore_goal-returns-in-Data
explore_goal-returns-in-Data t c =
    let led = subst (IsReadBy c.args.goal) c.in-Data.is c.reader_of.ensures in
    subst (λ g. Sees g c.args.trees.now c.explore.result) led.0 c.explore.ensures

pub explore_goal-returns-in-Call : goal.explore_goal-returns-in-Call
explore_goal-returns-in-Call t c =
    let called : c.args.goal ≡ goals.Call = subst (IsReadBy c.args.goal) c.in-Call.is c.reader_of.ensures in
    rw called c.explore_call.ensures

pub explore_goal-returns-in-UsePath : goal.explore_goal-returns-in-UsePath
explore_goal-returns-in-UsePath t c =
    let called : c.args.goal ≡ goals.UsePath = subst (IsReadBy c.args.goal) c.in-UsePath.is c.reader_of.ensures in
    rw called c.explore_use_path.ensures
