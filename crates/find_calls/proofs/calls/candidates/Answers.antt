use Rattle.std.proofs.Common.{sym, ap, subst, reverse, ◌∙◌, inl, inr, refl}
use Rattle.lexical.specs.Token as tokens
use Rattle.token_buffer.specs.Reads.{left, Begins, literal_text}
use Rattle.find_calls.specs.Calls.{calls}
use Rattle.find_calls.specs.Opened.{is_in_angle}
use Rattle.find_calls.proofs.SearchLemmas.{at, in_no_angle, match_none, match_some, moves_group, moves_name}
use Rattle.find_calls.proofs.SearchLemmas.{moves_noted, moves_opened, moves_out, moves_plain}
use Rattle.find_calls.proofs.SearchLemmas.{opened_in_angle, AreAll}
use Rattle.find_calls.proofs.calls.candidates.Goals as goal
use Rattle.find_calls.proofs.calls.candidates.Goals.{else-is_text-via-then-is_text+else-not-follows_fn}
use Rattle.find_calls.proofs.calls.candidates.Goals.{else-is_text-via-else-is_text}

pub loop-first-preserved-in_default : goal.loop-first-preserved-in_default
loop-first-preserved-in_default c =
    let moves = moves_out c.args.name.now c.loop-first.found.items c.loop-first.defined (left c.loop-first.cursor)
    (reverse c.loop-first.opened.items) (left c.in-Some-leave.next) (reverse c.leave.new.opened.items)
    c.in_default.ensures c.in-Some-leave.ensures in (
      moves.all _ c.loop-first.invariant.0,
      c.is_in_arguments-in_arguments.ensures ∙ ap (λ xs. is_in_angle (reverse xs)) c.as_slice.ensures.value,
    )

pub loop-first-smaller-in-Some-2 : goal.loop-first-smaller-in-Some-2
loop-first-smaller-in-Some-2 c =
    let begins = subst (λ t. Begins t c.loop-first.cursor c.in-Some.after) c.in-Ident.is c.in-Some.ensures in
    let opens = match_some c.in_ok-inside-in-Ident.field-0 c.in-Some-2.inside _ _ c.in-Some-2.is
    c.in_ok-inside-in-Ident.ensures in
    let moves = moves_opened c.args.name.now c.loop-first.found.items c.loop-first.defined (left c.loop-first.cursor)
    _ _
    begins.0 begins.1 (left c.in-Some.after) (left c.in-Some-2.inside) c.loop-first.opened.items
    c.note.new.opened.items c.note.new.found.items begins.2 c.if-not-follows_fn.true
    (sym c.is_text.ensures ∙ c.if-is_text.true) opens in
    moves.less

pub loop-first-preserved-in-Some-2 : goal.loop-first-preserved-in-Some-2
loop-first-preserved-in-Some-2 c =
    let begins = subst (λ t. Begins t c.loop-first.cursor c.in-Some.after) c.in-Ident.is c.in-Some.ensures in
    let opens = match_some c.in_ok-inside-in-Ident.field-0 c.in-Some-2.inside _ _ c.in-Some-2.is
    c.in_ok-inside-in-Ident.ensures in
    let moves = moves_opened c.args.name.now c.loop-first.found.items c.loop-first.defined (left c.loop-first.cursor)
    _ _
    begins.0 begins.1 (left c.in-Some.after) (left c.in-Some-2.inside) c.loop-first.opened.items
    c.note.new.opened.items c.note.new.found.items begins.2 c.if-not-follows_fn.true
    (sym c.is_text.ensures ∙ c.if-is_text.true) opens in (
      moves.all _ c.loop-first.invariant.0,
      opened_in_angle c.loop-first.opened.items c.note.new.opened.items _ opens.opens,
    )

pub loop-first-preserved-in_default-2 : goal.loop-first-preserved-in_default-2
loop-first-preserved-in_default-2 c =
    let begins = subst (λ t. Begins t c.loop-first.cursor c.in-Some.after) c.in-Ident.is c.in-Some.ensures in
    let noted = match_none c.in_ok-inside-in-Ident.field-0 _ _ c.in_default-2.is c.in_ok-inside-in-Ident.ensures in
    let moves = moves_noted c.args.name.now c.loop-first.found.items c.loop-first.defined (left c.loop-first.cursor) _ _
    begins.0 begins.1 (left c.in-Some.after) c.loop-first.opened.items c.note.new.opened.items
    c.note.new.found.items begins.2 c.if-not-follows_fn.true (sym c.is_text.ensures ∙ c.if-is_text.true) noted in (
      subst (λ b. AreAll c.args.name.now (at c.note.new.found.items b (left c.in-Some.after)
          (reverse c.note.new.opened.items)) (calls c.args.name.now (left c.args.cursor))) (sym c.is_fn-defined.ensures)
          (moves.all _ c.loop-first.invariant.0),
      c.loop-first.invariant.1 ∙ ap (λ xs. is_in_angle (reverse xs)) (sym noted.same),
    )

pub loop-first-preserved-else-is_text : goal.loop-first-preserved-else-is_text
loop-first-preserved-else-is_text c =
    let begins = subst (λ t. Begins t c.loop-first.cursor c.in-Some.after) c.in-Ident.is c.in-Some.ensures in
    let moves = moves_name c.args.name.now c.loop-first.found.items c.loop-first.defined (left c.loop-first.cursor)
    (reverse c.loop-first.opened.items) _ _ begins.0 begins.1 (left c.in-Some.after) begins.2
    (elim c.else-is_text.branch [
      | else-is_text-via-then-is_text+else-not-follows_fn w ↦ inr w.if-not-follows_fn.false
      | else-is_text-via-else-is_text w ↦ inl (sym c.is_text.ensures ∙ w.if-is_text.false)
    ]) in (
      subst (λ b. AreAll c.args.name.now (at c.loop-first.found.items b (left c.in-Some.after)
          (reverse c.loop-first.opened.items)) (calls c.args.name.now (left c.args.cursor))) (sym
          c.is_fn-defined.ensures)
          (moves.all _ c.loop-first.invariant.0),
      c.loop-first.invariant.1,
    )

pub loop-first-preserved-in-Group-1 : goal.loop-first-preserved-in-Group-1
loop-first-preserved-in-Group-1 c =
    let begins = subst (λ t. Begins t c.loop-first.cursor c.in-Some.after) c.in-Group.is c.in-Some.ensures in
    let moves = moves_group c.args.name.now c.loop-first.found.items c.loop-first.defined (left c.loop-first.cursor) _
    begins.0 begins.1 (left c.in-Group.inside) c.in-Some.after c.loop-first.opened.items c.open_group.new.opened.items
    begins.2 c.in_ok-open_group-in-Group.ensures in (
      moves.all _ c.loop-first.invariant.0,
      in_no_angle c.loop-first.opened.items c.open_group.new.opened.items c.in-Some.after
          c.in_ok-open_group-in-Group.ensures,
    )

pub loop-first-preserved : goal.loop-first-preserved
loop-first-preserved c =
    let begins = subst (λ t. Begins t c.loop-first.cursor c.in-Some.after) c.in_default-first.is c.in-Some.ensures in
    let moves = moves_plain c.args.name.now c.loop-first.found.items c.loop-first.defined (left c.loop-first.cursor)
    (reverse c.loop-first.opened.items) (tokens.Literal (literal_text c.in_default-first.field-0)) begins.0 begins.1
    (left c.in-Some.after) begins.2 refl refl refl in
    (moves.all _ c.loop-first.invariant.0, c.loop-first.invariant.1)
