use Rattle.std.proofs.Common.{ap, arith, map}
use Rattle.std.specs.Prelude.{option_copied}
use Rattle.std.proofs.lemmas.List.{nil_from_length}
use Rattle.outline.specs.Outline.{entry_of_value}
use Rattle.outline.proofs.OnlyLemmas.{closed_stops, item_stops, requires_item, requires_pop, requires_start}
use Rattle.outline.proofs.OnlyLemmas.{empty_nil, some_never}
use Rattle.outline.proofs.OutlineLemmas.{begins_with, completes_all, completes_item, completes_pop, completes_start}
use Rattle.outline.proofs.OutlineLemmas.{is_put, items_left, kind_and_name_copied}
use Rattle.outline.proofs.entries.entries.Goals as goal

pub returns-in-Err-clause-none : goal.returns-in-Err-clause-none
returns-in-Err-clause-none c = λ outline are. c.in-Err.ensures.none are.0 are.1 are.2

pub walk-init : goal.walk-init
walk-init c = record {
  all = completes_start items_left c.args.trees.now c.in-Ok.items (map entry_of_value c.new-entries.result.items)
      c.new-levels.result.items c.push.new.self.items c.in-Ok.ensures.ok
      (ap (map entry_of_value) c.new-entries.ensures.items)
      c.new-levels.ensures.items c.in_ok-push.ensures.items;
  only = requires_start items_left c.args.trees.now c.in-Ok.items c.new-levels.result.items c.push.new.self.items
      c.in-Ok.ensures.ok c.new-levels.ensures.items c.in_ok-push.ensures.items;
}

pub returns-in_default-clause-ok : goal.returns-in_default-clause-ok
returns-in_default-clause-ok c =
    completes_all items_left c.args.trees.now (map entry_of_value c.walk.entries.items) c.walk.levels.items
    (nil_from_length c.walk.levels.items (omega (arith, c.in_default.ensures.cases.0))) c.walk.invariant.all

pub walk-preserved-then-is_empty : goal.walk-preserved-then-is_empty
walk-preserved-then-is_empty c = record {
  all = completes_pop items_left c.args.trees.now (map entry_of_value c.walk.entries.items) c.in-Some.here
      c.walk.levels.items
      c.pop.new.self.items (empty_nil c.in-Some.here.left.now c.if-is_empty.ensures) c.in-Some.ensures.items
      c.walk.invariant.all;
  only = requires_pop items_left c.args.trees.now c.in-Some.here c.walk.levels.items c.pop.new.self.items
      c.in-Some.ensures.items c.walk.invariant.only;
}

pub returns-in-Err-found-clause-none : goal.returns-in-Err-found-clause-none
returns-in-Err-found-clause-none c =
    let gives = rw c.in-Err-found.is at c.in-Some-next.ensures.steps in
    item_stops items_left c.args.trees.now c.in-Some.here c.walk.levels.items c.pop.new.self.items
    c.walk.invariant.only c.in-Some.ensures.items (some_never c.in-Some.here.left.now c.if-is_empty.ensures)
    gives.0.nothing

pub returns-in-Err-open_item-clause-none : goal.returns-in-Err-open_item-clause-none
returns-in-Err-open_item-clause-none c =
    let gives = rw c.in-Ok-found.is at c.in-Some-next.ensures.steps in
    let it = c.in-Ok-found.item in
    closed_stops items_left c.args.trees.now c.in-Some.here c.walk.levels.items c.pop.new.self.items it.trees.now
    c.next.new.self.left.now it.kind (option_copied it.name) c.walk.invariant.only c.in-Some.ensures.items gives.0
    (kind_and_name_copied c.in-Some.here.left.now c.next.new.self.left.now it gives.1) c.in-Err-open_item.ensures.none

pub walk-preserved : goal.walk-preserved
walk-preserved c =
    let gives = rw c.in-Ok-found.is at c.in-Some-next.ensures.steps in
    let it = c.in-Ok-found.item in
    let entry = c.in-Ok-open_item.both.0 in
    let inside = c.in-Ok-open_item.both.1 in
    let less = c.pop.new.self.items in
    let begins = begins_with c.in-Some.here.left.now c.next.new.self.left.now c.len.result it entry inside gives.0
    gives.1 c.in-Ok-open_item.ensures.ok in
    record {
      all = completes_item items_left c.args.trees.now (map entry_of_value c.walk.entries.items)
          (map entry_of_value c.push_listed.new.entries.items) c.in-Some.here c.next.new.self inside c.walk.levels.items
          less
          c.push-in-walk.new.self.items c.push-in-walk-2.new.self.items it.kind (option_copied it.name)
          entry.header.now c.walk.invariant.all c.in-Some.ensures.items begins
          (is_put c.walk.entries.items c.push_listed.new.entries.items entry c.len.result _ it inside
          c.in-Ok-open_item.ensures.ok (omega arith) c.in_ok-push_listed.ensures) c.in_ok-push-2.ensures.items
          c.in_ok-push-3.ensures.items;
      only = requires_item items_left c.args.trees.now c.in-Some.here c.next.new.self inside c.walk.levels.items less
          c.push-in-walk.new.self.items c.push-in-walk-2.new.self.items it.kind (option_copied it.name)
          entry.header.now c.walk.invariant.only c.in-Some.ensures.items begins c.in_ok-push-2.ensures.items
          c.in_ok-push-3.ensures.items;
    }
