use Rattle.std.proofs.Common.{◌∙◌, ◌+◌, ◌∷◌, sym, subst, drop, get_or}
use Rattle.std.proofs.lemmas.List.{drop_all}
use Rattle.quoting.specs.Visited.{join_visited}
use Rattle.quoting.proofs.JoinLemmas.{IsJoining, begin_joining, enter_visit, join_visit, joined_result, next_visit}
use Rattle.quoting.proofs.JoinLemmas.{no_visit, reach_visit, visits_end, visits_missed}
use Rattle.quoting.proofs.join.join_marks.Goals as goal
use Rattle.quoting.proofs.join.join_marks.Goals.{in-Group+in_ok-push, in_default-tree+in_ok-join_next}

pub loop-visit-init : goal.loop-visit-init
loop-visit-init c =
    begin_joining c.new-here.result c.new-outer.result.items c.args.stream.now c.args.visits.now
    c.new-here.ensures.done c.new-here.ensures.count c.new-here.ensures.left c.new-outer.ensures.items

pub returns-in_default : goal.returns-in_default
returns-in_default c =
    joined_result c.close_all.result _ c.args.stream.now c.args.visits.now c.close_all.ensures
    (visits_missed _ c.keep_before.new.self c.closed_to.new.outer.items
    (get_or c.args.visits.now c.loop-visit.visit-index no_visit)
    (drop (c.loop-visit.visit-index + 1) c.args.visits.now)
    c.in_ok-here.ensures.few c.keep_before.ensures.reached
    (λ depth place. c.in_default.ensures (depth ∙ (sym c.closed_to.new.outer.ok.0 ∙ sym c.len.ensures)) place)
    (reach_visit _ c.loop-visit.here c.in_ok-here.here c.keep_before.new.self c.loop-visit.outer.items
    c.closed_to.new.outer.items _ _ c.in_ok-here.ensures c.keep_before.ensures
    (next_visit _ _ _ c.args.visits.now c.loop-visit.visit-index c.loop-visit-test.true c.loop-visit.invariant)))

pub loop-visit-preserved : goal.loop-visit-preserved
loop-visit-preserved c =
    let visits = c.args.visits.now in
    let answer = join_visited 0 0 c.args.stream.now visits in
    let visit = get_or visits c.loop-visit.visit-index no_visit in
    let later = drop (c.loop-visit.visit-index + 1) visits in
    let reached : IsJoining answer c.keep_before.new.self c.closed_to.new.outer.items (visit ∷ later) =
    reach_visit answer c.loop-visit.here c.in_ok-here.here c.keep_before.new.self c.loop-visit.outer.items
    c.closed_to.new.outer.items visit later c.in_ok-here.ensures c.keep_before.ensures
    (next_visit answer _ _ visits c.loop-visit.visit-index c.loop-visit-test.true c.loop-visit.invariant) in
    elim c.match-tree.branch [
      | in-Group+in_ok-push w ↦
          subst (λ o. IsJoining answer c.match-tree.here o.items later) (sym w.outer-is)
          (subst (λ h. IsJoining answer h w.push.new.self.items later) (sym w.here-is)
          (enter_visit answer c.keep_before.new.self w.new-here-in-Group.result c.closed_to.new.outer.items
          w.push.new.self.items c.in-Some.tree.now c.in-Some.after.now w.in-Group.group visit later
          c.in-Some.ensures.0 w.in-Group.is (w.new-here-in-Group.ensures.whole ∙ w.stream_ref.ensures.value)
          w.new-here-in-Group.ensures.done w.new-here-in-Group.ensures.count
          (w.new-here-in-Group.ensures.left ∙ w.stream_ref.ensures.value)
          w.in_ok-push.ensures.items (c.in-Some.ensures.1 ∙ (c.len.ensures ∙ c.closed_to.new.outer.ok.0))
          c.in-Some.ensures.2 reached))
      | in_default-tree+in_ok-join_next w ↦
          subst (λ o. IsJoining answer c.match-tree.here o.items later) (sym w.outer-is)
          (subst (λ h. IsJoining answer h c.closed_to.new.outer.items later) (sym w.here-is)
          (join_visit answer c.keep_before.new.self w.join_next.new.list c.closed_to.new.outer.items
          c.in-Some.tree.now c.in-Some.after.now visit later
          c.in-Some.ensures.0 w.in_default-tree.not-Group w.in_ok-join_next.ensures
          (c.in-Some.ensures.1 ∙ (c.len.ensures ∙ c.closed_to.new.outer.ok.0)) c.in-Some.ensures.2 reached))
    ]

pub returns : goal.returns
returns c =
    joined_result c.close_all-2.result _ c.args.stream.now c.args.visits.now c.close_all-2.ensures
    (visits_end _ c.loop-visit.here c.loop-visit.outer.items
    (subst (IsJoining _ c.loop-visit.here c.loop-visit.outer.items)
    (drop_all c.loop-visit.visit-index c.args.visits.now c.loop-visit-test.false) c.loop-visit.invariant))
