use Rattle.explain.proofs.ExplainingLemmas.{left_answer, opened_by, read, read_at, read_whole, refused_explained}
use Rattle.explain.proofs.ExplainingLemmas.{stops_at, stops_there, stuck_explained}
use Rattle.explain.proofs.StandLemmas.{all_lost, all_reverse}
use Rattle.explain.proofs.explaining.explain_at.Goals as goal

pub explain_closer-requires-clause-stands : goal.explain_closer-requires-clause-stands
explain_closer-requires-clause-stands c =
    (_, (stops_at _ _ c.in_ok-rest.field-0.opened.items _ c.in_ok-rest.ensures.stops c.in-Some.closer c.in-Some.is).0)

pub returns-in-Some : goal.returns-in-Some
returns-in-Some c =
    let all = c.in_ok-rest.ensures.reads in
    let h = opened_by _ _ _ _ _ _ _ _ all in
    let stop = stops_at _ _ c.in_ok-rest.field-0.opened.items _ c.in_ok-rest.ensures.stops c.in-Some.closer
    c.in-Some.is in
    let x = c.explain_closer.result in
    let whole = read_whole _ _ _ _ _ _ h in
    let place = read_at _ _ _ _ _ _ h in
    refused_explained _ _ _ _ _ _ h x c.in-Some.closer stop.0 (stop.1 h.groups h.around) c.explain_closer.ensures.reason
    c.explain_closer.ensures.open
    (all_lost _ _ x.innermost x.outer.items c.explain_closer.ensures.kept (all_reverse _ _ all.takes.takes.stand))
    (c.explain_closer.ensures.before _ (read _ _ _ _ _ _ h) whole place)
    (c.explain_closer.ensures.at _ (read _ _ _ _ _ _ h) stop.0.front stop.0.rest whole place stop.0.whole stop.0.chars)

pub returns-then-is_done : goal.returns-then-is_done
returns-then-is_done c =
    let all = c.in_ok-rest.ensures.reads in
    left_answer _ _ _ _ _ _ (opened_by _ _ _ _ _ _ _ _ all) (all_reverse _ _ all.takes.takes.stand)
    (c.is_done.ensures.done c.if-is_done.true) c.left_open.result c.left_open.ensures

pub stuck-requires-clause-some : goal.stuck-requires-clause-some
stuck-requires-clause-some c = c.is_done.ensures.more c.if-is_done.false

pub returns : goal.returns
returns c =
    let all = c.in_ok-rest.ensures.reads in
    stuck_explained _ _ _ _ _ _ (opened_by _ _ _ _ _ _ _ _ all) c.stuck.result
    (c.is_done.ensures.more c.if-is_done.false)
    (stops_there _ _ c.in_ok-rest.field-0.opened.items _ c.in_ok-rest.ensures.stops c.in_default.is)
    c.stuck.ensures.stuck c.stuck.ensures.open
    (all_lost _ _ c.stuck.result.innermost c.stuck.result.outer.items c.stuck.ensures.kept
    (all_reverse _ _ all.takes.takes.stand))
