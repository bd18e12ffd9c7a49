use Rattle.std.proofs.Common.{◌∙◌, ◌≤◌, ap, arith, drop, length, refl}
use Rattle.declarations.specs.File.{body_of}
use Rattle.outline.specs.Levels.{level_left}
use Rattle.outline.proofs.LevelLemmas.{at_within, some_body, stops_entry, stops_reading, takes}
use Rattle.outline.proofs.levels.step_of.Goals as goal

pub split_at-requires : goal.split_at-requires
split_at-requires c =
    let level = c.args.level.now in
    let within : level.at ≤ length level.trees.items =
    at_within level.trees.items (level_left level) level.at level.even c.requires in
    omega (arith, within, ap length c.as_slice.ensures.value)

pub returns-in-Err-clause-none : goal.returns-in-Err-clause-none
returns-in-Err-clause-none c =
    let level = c.args.level.now in
    stops_reading c.split_at.result.1.now (level_left level)
    (c.split_at.ensures.back ∙ ap (drop level.at) c.as_slice.ensures.value ∙ level.even)
    c.in-Err.ensures.fault.nothing

pub returns-in-Err-entry_of-clause-none : goal.returns-in-Err-entry_of-clause-none
returns-in-Err-entry_of-clause-none c =
    let level = c.args.level.now in
    stops_entry c.split_at.result.1.now c.in-Ok.field-0-1.now (level_left level) c.in-Ok.item
    (c.split_at.ensures.back ∙ ap (drop level.at) c.as_slice.ensures.value ∙ level.even)
    c.in-Ok.ensures.ok c.in-Ok.ensures.kind_and_name c.in-Err-entry_of.ensures.none

pub returns-clause-ok : goal.returns-clause-ok
returns-clause-ok c =
    let level = c.args.level.now in
    let it = c.in-Ok.item in
    takes c.args.map.now c.args.form c.args.path.now c.args.depth c.split_at.result.1.now c.in-Ok.field-0-1.now
    (level_left level) it c.in-Ok-entry_of.entry _
    (c.split_at.ensures.back ∙ ap (drop level.at) c.as_slice.ensures.value ∙ level.even)
    c.in-Ok.ensures.ok c.in-Ok.ensures.kind_and_name c.in-Ok-entry_of.ensures.ok c.in_ok-line.ensures refl
    (c.is_some.ensures ∙ some_body c.body.result (body_of it.kind it.trees.now) c.body.ensures)
