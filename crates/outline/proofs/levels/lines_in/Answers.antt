use Rattle.std.proofs.Common.{[], ap, arith, map, refl, string_bytes}
use Rattle.std.proofs.lemmas.List.{nil_from_length}
use Rattle.token_buffer.specs.Reads.{left}
use Rattle.declarations.specs.File.{body_of}
use Rattle.outline.specs.Levels.{level_left, trees_left}
use Rattle.outline.proofs.LevelLemmas.{begins_taken, body_comes, holds_body, lines_all, lines_alone}
use Rattle.outline.proofs.LevelLemmas.{lines_item, never_body, nil_left, no_body, some_left, stop_holds, takes_within}
use Rattle.outline.proofs.OnlyLemmas.{closed_stops, requires_alone, requires_item, requires_pop, requires_start}
use Rattle.outline.proofs.OutlineLemmas.{completes_pop, completes_start}
use Rattle.outline.proofs.levels.lines_in.Goals as goal

pub returns-in-Err-clause-none : goal.returns-in-Err-clause-none
returns-in-Err-clause-none c = λ outline are.
    let none = rw c.in-Err.is at c.in_ok-level.ensures.none in none are.0 are.1 are.2

pub walk-init : goal.walk-init
walk-init c =
    let reads = rw c.in-Ok.is at c.in_ok-level.ensures.ok in
    record {
      all = λ text of. record {
        found = [];
        are = ap (map string_bytes) c.new-lines.ensures.items;
        all = completes_start level_left (trees_left c.args.file) c.in-Ok.level [] c.new-levels.result.items
            c.push.new.self.items reads refl c.new-levels.ensures.items c.in_ok-push.ensures.items;
      };
      only = requires_start level_left (trees_left c.args.file) c.in-Ok.level c.new-levels.result.items
          c.push.new.self.items reads c.new-levels.ensures.items c.in_ok-push.ensures.items;
    }

pub returns-in_default-clause-ok : goal.returns-in_default-clause-ok
returns-in_default-clause-ok c = λ text of.
    lines_all c.args.form c.args.path.now text (trees_left c.args.file) (map string_bytes c.walk.lines.items)
    c.walk.levels.items (nil_from_length c.walk.levels.items (omega (arith, c.in_default.ensures.cases.0)))
    (c.walk.invariant.all text of)

pub walk-preserved-then-eof : goal.walk-preserved-then-eof
walk-preserved-then-eof c = record {
  all = λ text of.
      let lines = c.walk.invariant.all text of in
      record {
        found = lines.found;
        are = lines.are;
        all = completes_pop level_left (trees_left c.args.file) lines.found c.in-Some.level c.walk.levels.items
            c.pop.new.self.items (nil_left (left c.in-Some.level.rest) c.if-eof.ensures) c.in-Some.ensures.items
            lines.all;
      };
  only = requires_pop level_left (trees_left c.args.file) c.in-Some.level c.walk.levels.items c.pop.new.self.items
      c.in-Some.ensures.items c.walk.invariant.only;
}

pub returns-in-Err-2-clause-none : goal.returns-in-Err-2-clause-none
returns-in-Err-2-clause-none c =
    stop_holds level_left (trees_left c.args.file) c.in-Some.level c.walk.levels.items c.pop.new.self.items
    c.walk.invariant.only c.in-Some.ensures.items (some_left (left c.in-Some.level.rest) c.if-eof.ensures)
    (rw c.in-Err-2.is at c.in_ok-step.ensures.none)

pub advance-requires : goal.advance-requires
advance-requires c =
    let takes = rw c.in-Ok-2.is at c.in_ok-step.ensures.ok in
    record {
      within = takes_within c.args.map.now c.args.form c.args.path.now c.len.result (level_left c.in-Some.level)
          c.in-Some.level.trees.items c.in-Some.level.at c.in-Ok-2.step takes c.in-Some.level.even;
      some = takes.some;
      last = c.past-last.ensures;
    }

pub walk-preserved-then-not-has_body : goal.walk-preserved-then-not-has_body
walk-preserved-then-not-has_body c =
    let files = c.args.map.now in
    let form = c.args.form in
    let path = c.args.path.now in
    let depth = c.len.result in
    let old = c.in-Some.level in
    let new = c.advance.result in
    let step = c.in-Ok-2.step in
    let less = c.pop.new.self.items in
    let once = c.push-in-walk.new.self.items in
    let takes = rw c.in-Ok-2.is at c.in_ok-step.ensures.ok in
    let begins = begins_taken files form path depth (level_left old) [] (level_left new) step takes
    (no_body files form path depth (level_left old) step takes c.if-not-has_body.true) c.advance.ensures in
    record {
      all = λ text of.
          lines_alone files form path text (trees_left c.args.file) (map string_bytes c.walk.lines.items)
          (map string_bytes c.push_line.new.lines.items) old new c.walk.levels.items less once step depth takes of
          (c.walk.invariant.all text of) c.in-Some.ensures.items (omega arith) c.in_ok-push_line.ensures begins
          c.in_ok-push-2.ensures.items;
      only = requires_alone level_left (trees_left c.args.file) old new c.walk.levels.items less once takes.kind
          takes.name takes.header c.walk.invariant.only c.in-Some.ensures.items begins c.in_ok-push-2.ensures.items;
    }

pub inside_of-requires : goal.inside_of-requires
inside_of-requires c =
    let takes = rw c.in-Ok-2.is at c.in_ok-step.ensures.ok in
    let body = body_comes c.args.map.now c.args.form c.args.path.now c.len.result (level_left c.in-Some.level)
    c.in-Ok-2.step c.past-last.result takes c.if-not-has_body.false c.past-last.ensures in
    (body.group, body.begins)

pub returns-in-Err-3-clause-none : goal.returns-in-Err-3-clause-none
returns-in-Err-3-clause-none c =
    let takes = rw c.in-Ok-2.is at c.in_ok-step.ensures.ok in
    let body = body_comes c.args.map.now c.args.form c.args.path.now c.len.result (level_left c.in-Some.level)
    c.in-Ok-2.step c.past-last.result takes c.if-not-has_body.false c.past-last.ensures in
    let none = rw c.in-Err-3.is at c.in_ok-inside.ensures.none in
    closed_stops level_left (trees_left c.args.file) c.in-Some.level c.walk.levels.items c.pop.new.self.items
    takes.part takes.rest takes.kind takes.name c.walk.invariant.only c.in-Some.ensures.items takes.read
    takes.kind_and_name
    (λ attributes header items front inside.
    never_body (body_of takes.kind takes.part) body.group body.is (none body.group body.begins) items inside)

pub walk-preserved : goal.walk-preserved
walk-preserved c =
    let files = c.args.map.now in
    let form = c.args.form in
    let path = c.args.path.now in
    let depth = c.len.result in
    let old = c.in-Some.level in
    let new = c.advance.result in
    let inside = c.in-Ok-3.inside in
    let step = c.in-Ok-2.step in
    let less = c.pop.new.self.items in
    let once = c.push-in-walk.new.self.items in
    let twice = c.push-in-Ok-3.new.self.items in
    let takes = rw c.in-Ok-2.is at c.in_ok-step.ensures.ok in
    let body = body_comes files form path depth (level_left old) step c.past-last.result takes
    c.if-not-has_body.false c.past-last.ensures in
    let are = rw c.in-Ok-3.is at c.in_ok-inside.ensures.ok in
    let begins = begins_taken files form path depth (level_left old) (level_left inside) (level_left new) step takes
    (holds_body (body_of takes.kind takes.part) body.group (level_left inside) body.is (are body.group body.begins))
    c.advance.ensures in
    record {
      all = λ text of.
          lines_item files form path text (trees_left c.args.file) (map string_bytes c.walk.lines.items)
          (map string_bytes c.push_line.new.lines.items) old new inside c.walk.levels.items less once twice step depth
          takes of (c.walk.invariant.all text of) c.in-Some.ensures.items (omega arith) c.in_ok-push_line.ensures
          begins c.in_ok-push-2.ensures.items c.in_ok-push-in-Ok-3.ensures.items;
      only = requires_item level_left (trees_left c.args.file) old new inside c.walk.levels.items less once twice
          takes.kind takes.name takes.header c.walk.invariant.only c.in-Some.ensures.items begins
          c.in_ok-push-2.ensures.items c.in_ok-push-in-Ok-3.ensures.items;
    }
