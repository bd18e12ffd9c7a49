use Rattle.std.proofs.Common.{◌∙◌, subst, sym}
use Rattle.declarations.specs.Explore.{ExpectsComma}
use Rattle.declarations.specs.Syntax.{grammar_of}
use Rattle.declarations.proofs.explore.fault_at_comma.Goals as goal

pub returns-clause-expected : goal.returns-clause-expected
returns-clause-expected c =
    subst (ExpectsComma (grammar_of c.args.syntax.now) c.args.trees.now) (sym c.expecting.ensures.expected)
    (record {
      onward = c.expected_by-onward.result;
      goes_on = c.expected_by-onward.ensures;
      signs = record {
        classes = λ x. c.with_end.ensures.classes x ∙ c.with.ensures.classes x;
        end = c.with_end.ensures.end;
      };
    })
