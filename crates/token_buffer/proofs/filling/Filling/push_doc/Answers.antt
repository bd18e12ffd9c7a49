use Rattle.std.proofs.Common.{[], ◌∷◌, sym, subst}
use Rattle.pm_stream.proofs.ReadingLemmas.{on_ok}
use Rattle.token_buffer.specs.Filled.{Puts, doc_entries, doc_group_entries}
use Rattle.token_buffer.proofs.FilledLemmas.{puts_then}
use Rattle.token_buffer.proofs.filling.Filling.push_doc.Goals as goal
use Rattle.token_buffer.proofs.filling.Filling.push_doc.Goals.{then-inner+in_ok-push-2, else-inner}

pub returns : goal.returns
returns c =
    let old = c.args.self.now in
    let new = c.push-6.new.self in
    let text = c.args.text in
    let at = c.args.at in
    let end = c.args.end in
    on_ok c.push-6.result (λ last.
    let first = subst (λ e. Puts old c.push.new.self (e ∷ [])) c.alone.ensures c.in_ok-push.ensures in
    let equals = subst (λ e. Puts c.push-3.new.self c.push-4.new.self (e ∷ [])) c.alone-2.ensures
    c.in_ok-push-5.ensures in
    let group : Puts c.if-inner.self new (doc_group_entries text at end) =
    puts_then _ _ _ _ _ c.in_ok-push-3.ensures (puts_then _ _ _ _ _ c.in_ok-push-4.ensures
    (puts_then _ _ _ _ _ equals (puts_then _ _ _ _ _ c.in_ok-push-6.ensures last))) in
    elim c.if-inner.branch [
      | then-inner+in_ok-push-2 w ↦
          subst (λ b. Puts old new (doc_entries b text at end)) (sym w.if-inner.true)
          (puts_then _ _ _ _ _ first (puts_then _ _ _ _ _
          (subst (λ e. Puts c.push.new.self w.push-then-inner.new.self (e ∷ [])) w.alone-then-inner.ensures
          w.in_ok-push-2.ensures)
          (subst (λ f. Puts f new (doc_group_entries text at end)) w.self-is group)))
      | else-inner w ↦
          subst (λ b. Puts old new (doc_entries b text at end)) (sym w.if-inner.false)
          (puts_then _ _ _ _ _ first (subst (λ f. Puts f new (doc_group_entries text at end)) w.self-is group))
    ]) c.push-6.ensures
