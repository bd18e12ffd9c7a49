use Rattle.std.proofs.Common.{◌∙◌, subst, sym}
use Rattle.declarations.specs.EntryExpects.{ExpectsCommaAfter}
use Rattle.declarations.proofs.entry.fault_without_comma.Goals as goal

pub returns-clause-expected : goal.returns-clause-expected
returns-clause-expected c =
    subst (ExpectsCommaAfter c.args.trees.now c.args.entry.now c.args.rest.now) (sym c.expecting.ensures.expected)
    (record {
      onward = c.onward-next.result;
      goes_on = c.onward-next.ensures;
      signs = record {
        classes = λ x. c.with_end.ensures.classes x ∙ c.with.ensures.classes x;
        end = c.with_end.ensures.end;
      };
    })
