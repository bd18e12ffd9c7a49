use Rattle.std.proofs.Common.{sym, subst, ◌∙◌}
use Rattle.explain.specs.Walk.{IsFaulty}
use Rattle.explain.specs.declared.reason.Reason.TheVariants.{Content}
use Rattle.explain.proofs.PlaceLemmas.{faulty_all, faulty_last}
use Rattle.explain.proofs.contents.faulty.Goals as goal
use Rattle.explain.proofs.contents.faulty.Goals.{then-is_of_last, else-is_of_last}

pub returns : goal.returns
returns c = elim c.if-is_of_last.branch [
  | then-is_of_last w ↦
      subst (λ a. IsFaulty c.args.error c.args.at c.args.after (record {
        reason = Content c.args.error;
        at = a;
        after = c.args.after;
      })) (sym w.at-is)
      (faulty_last c.args.at c.args.after _ c.args.error (sym c.is_of_last.ensures ∙ w.if-is_of_last.true)
      w.last_character-at.ensures)
  | else-is_of_last w ↦
      subst (λ a. IsFaulty c.args.error c.args.at c.args.after (record {
        reason = Content c.args.error;
        at = a;
        after = c.args.after;
      })) (sym w.at-is)
      (faulty_all c.args.at c.args.after c.args.error (sym c.is_of_last.ensures ∙ w.if-is_of_last.false) c.requires.0)
]
