use Rattle.std.proofs.Common.{subst}
use Rattle.declarations.specs.Signs.{BeginsWith}
use Rattle.declarations.proofs.ParamRuleLemmas.{no_word_here, word_fails, word_here, word_none}
use Rattle.declarations.proofs.param_parts.word_of.Goals as goal

pub returns-in_default-clause-rule : goal.returns-in_default-clause-rule
returns-in_default-clause-rule c = word_none c.args.trees.now c.in_default.ensures

pub returns-in-Word-clause-rule : goal.returns-in-Word-clause-rule
returns-in-Word-clause-rule c =
    word_here c.args.trees.now c.in-Some.rest.now c.in-Word.field-0
    (subst (λ class. BeginsWith c.args.trees.now class c.in-Some.rest.now) c.in-Word.is c.in-Some.ensures)

pub returns-in_default-class : goal.returns-in_default-class
returns-in_default-class c = record {
  parts = word_fails c.args.trees.now c.in-Some.rest.now c.in-Some.class c.in-Some.ensures
      c.in_default-class.not-Word;
  rule = no_word_here c.args.trees.now c.in-Some.rest.now c.in-Some.class c.in-Some.ensures
      c.in_default-class.not-Word;
}
