use Rattle.std.proofs.Common.{◌≡◌, rules, arith, subst}
use Rattle.std.proofs.lemmas.Grind.{common_steps}
use Rattle.std.proofs.lemmas.Result.{err_from_is_err_and}
use Rattle.declarations.proofs.ParamLemmas.{const_fails}
use Rattle.declarations.specs.Signs.{BeginsWith}
use Rattle.item_tables.specs.declared.class.SignClass.TheVariants as classes
use Rattle.item_tables.specs.declared.class.Keyword.TheVariants as keywords
use Rattle.declarations.proofs.ParamRuleLemmas.{const_leads, const_sticks, lifetime_leads, no_parameter}
use Rattle.declarations.proofs.ParamRuleLemmas.{other_parameter, word_leads}
use Rattle.declarations.proofs.param_parts.name_of.Goals as goal
use Rattle.declarations.proofs.param_parts.name_of.Goals.{in_default-class-via-in-Keyword+in_default}
use Rattle.declarations.proofs.param_parts.name_of.Goals.{in_default-class-via-in_default}

pub returns-in_err-name-in-Keyword-Const-clause-nothing : goal.returns-in_err-name-in-Keyword-Const-clause-nothing
returns-in_err-name-in-Keyword-Const-clause-nothing c =
    let p = err_from_is_err_and c.from_residual.result c.from_residual.ensures.1 in
    let begins : BeginsWith c.args.trees.now (classes.Keyword keywords.Const) c.in-Some.rest.now =
    first_of (search rules, grind (arith, common_steps), search (rules, c.in-Keyword-Const.field-0-is)) in
    rw (p.1, p.2) (λ kind. const_fails kind c.args.trees.now c.in-Some.rest.now
    c.in_err-name-in-Keyword-Const.field-0.0.now begins c.in_err-name-in-Keyword-Const.ensures.parts)

pub returns-in-Lifetime-clause-ok : goal.returns-in-Lifetime-clause-ok
returns-in-Lifetime-clause-ok c = record {
  begins = subst (λ d. BeginsWith c.args.trees.now d c.in-Some.rest.now) c.in-Lifetime.is c.in-Some.ensures;
  whole = c.before-in-Lifetime.ensures;
}

pub returns-in-Word-clause-ok : goal.returns-in-Word-clause-ok
returns-in-Word-clause-ok c = record {
  word = c.in-Word.field-0;
  sign = record {
    begins = subst (λ d. BeginsWith c.args.trees.now d c.in-Some.rest.now) c.in-Word.is c.in-Some.ensures;
    whole = c.before-in-Word.ensures;
  };
}

pub returns-in-Lifetime-clause-rule : goal.returns-in-Lifetime-clause-rule
returns-in-Lifetime-clause-rule c =
    lifetime_leads c.args.trees.now c.in-Some.rest.now
    (subst (λ d. BeginsWith c.args.trees.now d c.in-Some.rest.now) c.in-Lifetime.is c.in-Some.ensures)

pub returns-in-Word-clause-rule : goal.returns-in-Word-clause-rule
returns-in-Word-clause-rule c =
    word_leads c.args.trees.now c.in-Some.rest.now c.in-Word.field-0
    (subst (λ d. BeginsWith c.args.trees.now d c.in-Some.rest.now) c.in-Word.is c.in-Some.ensures)

pub returns-in_default-clause-rule : goal.returns-in_default-clause-rule
returns-in_default-clause-rule c = no_parameter c.args.trees.now c.in_default.ensures

pub returns-in_err-name-in-Keyword-Const-clause-rule : goal.returns-in_err-name-in-Keyword-Const-clause-rule
returns-in_err-name-in-Keyword-Const-clause-rule c =
    let p = err_from_is_err_and c.from_residual.result c.from_residual.ensures.1 in
    let begins : BeginsWith c.args.trees.now (classes.Keyword keywords.Const) c.in-Some.rest.now =
    first_of (search rules, grind (arith, common_steps), search (rules, c.in-Keyword-Const.field-0-is)) in
    rw (p.1, p.2) (const_sticks c.args.trees.now c.in-Some.rest.now begins
    c.in_err-name-in-Keyword-Const.field-0.0.now c.in_err-name-in-Keyword-Const.ensures.rule)

pub returns-in_ok-name-in-Keyword-Const-clause-rule : goal.returns-in_ok-name-in-Keyword-Const-clause-rule
returns-in_ok-name-in-Keyword-Const-clause-rule c =
    let begins : BeginsWith c.args.trees.now (classes.Keyword keywords.Const) c.in-Some.rest.now =
    first_of (search rules, grind (arith, common_steps), search (rules, c.in-Keyword-Const.field-0-is)) in
    let name = c.in_ok-name-in-Keyword-Const.ensures.parts in
    const_leads c.args.trees.now c.in-Some.rest.now begins c.in_ok-name-in-Keyword-Const.after.now name.word
    name.sign.begins

pub returns-in_default-class-clause-rule : goal.returns-in_default-class-clause-rule
returns-in_default-class-clause-rule c = elim c.in_default-class.branch [
  | in_default-class-via-in-Keyword+in_default w ↦
      let no_const : c.in-Some.class ≡ classes.Keyword keywords.Const → ⊥ = search rules in
      other_parameter c.args.trees.now c.in-Some.rest.now c.in-Some.class c.in-Some.ensures
      w.in_default-class.not-Lifetime w.in_default-class.not-Word no_const
  | in_default-class-via-in_default w ↦
      let no_const : c.in-Some.class ≡ classes.Keyword keywords.Const → ⊥ = search rules in
      other_parameter c.args.trees.now c.in-Some.rest.now c.in-Some.class c.in-Some.ensures
      w.in_default-class.not-Lifetime w.in_default-class.not-Word no_const
]
