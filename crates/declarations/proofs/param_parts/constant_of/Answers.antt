use Rattle.std.proofs.Common.{◌≡◌, true, false, subst, List, [], Result, Ok, Err, MatchResult}
use Rattle.pm_stream.specs.declared.stream.TokenTree.{TokenTree}
use Rattle.declarations.proofs.ParamLemmas.{back_more, back_sign, minus_fails, no_sign, type_found}
use Rattle.declarations.specs.Forms.{IsType}
use Rattle.declarations.specs.Param.{Fails, ReadsConstant, is_constant, negative, of_type, one_sign}
use Rattle.declarations.specs.Reading.{Reads}
use Rattle.declarations.specs.Signs.{BeginsWith}
use Rattle.item_tables.specs.declared.class.SignClass.TheVariants as classes
use Rattle.declarations.proofs.ParamRuleLemmas.{constant_finds, negative_finds, negative_sticks, none_other}
use Rattle.declarations.proofs.ParamRuleLemmas.{other_reads, sign_other}
use Rattle.declarations.proofs.param_parts.constant_of.Goals as goal

-- no trees are a constant
no_constant : (trees : List TokenTree) → trees ≡ [] → (left : List TokenTree) → Fails (Reads IsType) trees left
    → (part rest : List TokenTree) → ReadsConstant trees part rest → ⊥
no_constant trees none left fails part rest (one_sign class is sign) = no_sign class trees none rest sign.begins
no_constant trees none left fails part rest (negative after begins number whole) =
    no_sign classes.Minus trees none after begins
no_constant trees none left fails part rest (of_type reads) = fails.nothing part rest reads

missing : {T E : Type 0} → (r : Result T E) (part rest : T → List TokenTree) (fault : E → List TokenTree)
    (trees : List TokenTree) → trees ≡ []
    → MatchResult r (λ f. Reads IsType trees (part f) (rest f)) (λ e. Fails (Reads IsType) trees (fault e))
    → MatchResult r (λ f. ReadsConstant trees (part f) (rest f)) (λ e. Fails ReadsConstant trees (fault e))
missing (Ok f) part rest fault trees none reads = of_type reads
missing (Err e) part rest fault trees none fails =
    record { back = fails.back; nothing = no_constant trees none (fault e) fails }

pub before-requires-in-Some-past_sign : goal.before-requires-in-Some-past_sign
before-requires-in-Some-past_sign c =
    back_more c.args.trees.now c.in-Some.rest.now c.in-Some-past_sign.after.now
    (back_sign c.args.trees.now c.in-Some.class c.in-Some.rest.now c.in-Some.ensures)
    (back_sign c.in-Some.rest.now classes.Literal c.in-Some-past_sign.after.now c.in-Some-past_sign.ensures.found)

pub returns-then-is_constant-clause-parts : goal.returns-then-is_constant-clause-parts
returns-then-is_constant-clause-parts c =
    let is : is_constant c.in-Some.class ≡ true = cc in
    one_sign c.in-Some.class is (record { begins = c.in-Some.ensures; whole = c.before-then-is_constant.ensures })

pub returns-in-Some-past_sign-clause-parts : goal.returns-in-Some-past_sign-clause-parts
returns-in-Some-past_sign-clause-parts c =
    negative c.in-Some.rest.now
    (subst (λ class. BeginsWith c.args.trees.now class c.in-Some.rest.now) c.in-Minus.is c.in-Some.ensures)
    c.in-Some-past_sign.ensures.found c.before-in-Some-past_sign.ensures

pub returns-in-None-clause-parts : goal.returns-in-None-clause-parts
returns-in-None-clause-parts c =
    minus_fails c.args.trees.now c.in-Some.rest.now
    (subst (λ class. BeginsWith c.args.trees.now class c.in-Some.rest.now) c.in-Minus.is c.in-Some.ensures)
    c.in-None.ensures.none

pub returns-in_default-class-clause-parts : goal.returns-in_default-class-clause-parts
returns-in_default-class-clause-parts c =
    let other : is_constant c.in-Some.class ≡ false = cc in
    type_found c.type_of-in_default-class.result (λ f. f.0.now) (λ f. f.1.now) (λ e. e.now) c.args.trees.now
    c.in-Some.rest.now c.in-Some.class c.in-Some.ensures other c.in_default-class.not-Minus
    c.type_of-in_default-class.ensures.parts

pub returns-then-is_constant-clause-rule : goal.returns-then-is_constant-clause-rule
returns-then-is_constant-clause-rule c =
    let is : is_constant c.in-Some.class ≡ true = cc in
    constant_finds c.args.trees.now c.in-Some.rest.now c.in-Some.class c.in-Some.ensures is

pub returns-in-Some-past_sign-clause-rule : goal.returns-in-Some-past_sign-clause-rule
returns-in-Some-past_sign-clause-rule c =
    negative_finds c.args.trees.now c.in-Some.rest.now c.in-Some-past_sign.after.now
    (subst (λ class. BeginsWith c.args.trees.now class c.in-Some.rest.now) c.in-Minus.is c.in-Some.ensures)
    c.in-Some-past_sign.ensures.found

pub returns-in-None-clause-rule : goal.returns-in-None-clause-rule
returns-in-None-clause-rule c =
    negative_sticks c.args.trees.now c.in-Some.rest.now
    (subst (λ class. BeginsWith c.args.trees.now class c.in-Some.rest.now) c.in-Minus.is c.in-Some.ensures)
    c.in-None.ensures.heads

pub returns-in_default-class-clause-rule : goal.returns-in_default-class-clause-rule
returns-in_default-class-clause-rule c =
    let other : is_constant c.in-Some.class ≡ false = cc in
    other_reads c.args.trees.now c.type_of-in_default-class.result
    (sign_other c.args.trees.now c.in-Some.rest.now c.in-Some.class c.in-Some.ensures other
    c.in_default-class.not-Minus) c.type_of-in_default-class.ensures.rule

pub returns-in_default-clause-rule : goal.returns-in_default-clause-rule
returns-in_default-clause-rule c =
    other_reads c.args.trees.now c.type_of.result (none_other c.args.trees.now c.in_default.ensures)
    c.type_of.ensures.rule

pub returns-in_default-clause-parts : goal.returns-in_default-clause-parts
returns-in_default-clause-parts c =
    missing c.type_of.result (λ f. f.0.now) (λ f. f.1.now) (λ e. e.now) c.args.trees.now c.in_default.ensures
    c.type_of.ensures.parts
