use Rattle.std.proofs.Common.{◌||◌, ◌∙◌, ◌≡◌, Bool, ap, false, refl, subst, sym, true}
use Rattle.declarations.specs.Expected.{HasSigns, holds, holds_end}
use Rattle.declarations.specs.Syntax.{test_of}
use Rattle.declarations.specs.declared.expected.Expected.{Expected}
use Rattle.declarations.specs.declared.syntax.Test.{Test}
use Rattle.declarations.specs.declared.syntax.Test.TheVariants as tests
use Rattle.item_tables.specs.Classes.{is}
use Rattle.item_tables.specs.declared.class.SignClass.{SignClass}
use Rattle.declarations.proofs.ExpectedLemmas.{all_steps}
use Rattle.declarations.proofs.explore.all_passing.Goals as goal

or_false : (b : Bool) → (b || false) ≡ b
or_false true = refl
or_false false = refl

-- the set of no signs with one class
one_class : (class : SignClass) (test : Test) (none set : Expected) → test ≡ tests.Is class
    → HasSigns none (λ other. false) false
    → HasSigns set (λ other. is class other || holds none other) (holds_end none)
    → HasSigns set (test_of test) false
one_class class test none set same n s =
    subst (λ t. HasSigns set (test_of t) false) (sym same) (record {
      classes = λ other.
          s.classes other ∙ (ap (λ b. is class other || b) (n.classes other) ∙ or_false (is class other));
      end = s.end ∙ n.end;
    })

pub returns-in_default : goal.returns-in_default
returns-in_default c = all_steps (test_of c.args.test) c.passing.result c.passing.ensures

pub returns-in-Is : goal.returns-in-Is
returns-in-Is c =
    one_class c.in-Is.class c.args.test c.nothing.result c.with.result c.in-Is.is c.nothing.ensures c.with.ensures
