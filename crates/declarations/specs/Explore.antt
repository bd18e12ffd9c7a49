-- How far a rule reads, and with what signs it can go on.
use Rattle.std.specs.Prelude.{◌≡◌, ◌<◌, ◌||◌, true, false, List, [], ◌∷◌, ℕ, length, Result, MatchResult}
use Rattle.std.specs.Borrow.{Bor}
use Rattle.grammars.specs.Deterministic.{IsStart}
use Rattle.grammars.specs.First.{may_begin}
use Rattle.grammars.specs.Grammar.{Then, To, Either}
use Rattle.grammars.specs.Machine.{is_nullable}
use Rattle.grammars.specs.Next as machine
use Rattle.pm_stream.specs.declared.stream.TokenTree.{TokenTree}
use Rattle.declarations.specs.Expected.{Expects, HasSigns, holds, holds_end}
use Rattle.declarations.specs.Reader.{Remains, classes_in}
use Rattle.declarations.specs.Reading.{FaultAt}
use Rattle.declarations.specs.Whole.{IsWhole}
use Rattle.item_tables.specs.declared.class.SignClass.TheVariants as classes
use Rattle.declarations.specs.declared.expected.Expected.{Expected}
use Rattle.declarations.specs.declared.explore.Seen.{Seen}
use Rattle.item_tables.specs.Classes.{is}
use Rattle.declarations.specs.Signs.{BeginsWith}
use Rattle.declarations.specs.Syntax.{test_of}
use Rattle.declarations.specs.declared.syntax.Test.{Test}
use Rattle.item_tables.specs.declared.class.SignClass.{SignClass}
use Rattle.declarations.specs.rules.Fronts.{is_segment}
use Rattle.declarations.specs.rules.Items.{call}
use Rattle.declarations.specs.rules.Names.{Call, G, one}
use Rattle.declarations.specs.rules.Pieces.{ByRule}
use Rattle.declarations.specs.rules.Rules.{follows, rules}

-- the rule reads the signs before the left trees, and cannot go on with the next one. The set has exactly the classes
-- with which it could go on, and the end if it may end there
pub record Explores (g : G) (trees left : List TokenTree) (next : Expected) : Type 0 where
  pub remains : Remains left trees
  pub sees : machine.Sees rules (g ∷ []) (classes_in trees) (classes_in left) (holds next) (holds_end next)

-- what is seen by a rule
abbrev pub Sees : G → List TokenTree → Seen → Type 0
Sees g trees seen = Explores g trees seen.left.now seen.next

-- what the rule `h` sees in the rest the rule `g` sees in the trees
abbrev pub Onward : G → List TokenTree → G → List TokenTree → Type 0
Onward g trees h rest =
    (left : List TokenTree) (next : Expected) → Explores h rest left next → Explores g trees left next

-- the result is the trees after a first sign that passes the test, or what is seen by each rule that needs such a sign
abbrev pub Passes : Test → List TokenTree → Result (Bor (List TokenTree)) Seen → Type 0
Passes test trees result =
    MatchResult result
    (λ rest. (class : SignClass) × BeginsWith trees class rest.now × (test_of test class ≡ true))
    (λ seen. (seen.left.now ≡ trees)
    × ((g : G) → ((c : SignClass) → may_begin g c ≡ test_of test c) → is_nullable g ≡ false → Sees g trees seen))

-- the result is the trees after `::` and a segment of the path of a macro call, or what is seen there
abbrev pub SeparatesCall : List TokenTree → Result (Bor (List TokenTree)) Seen → Type 0
SeparatesCall trees result =
    MatchResult result (λ rest. (length rest.now < length trees) × Onward call trees call rest.now)
    (λ seen. Sees (Then (one classes.PathSeparator) (To is_segment Call)) trees seen)

-- what is seen by two rules, one after the other, if the first may end
abbrev pub Joins : Seen → Seen → Seen → Type 0
Joins first second seen =
    (a b : G) (trees : List TokenTree) → Sees a trees first → holds_end first.next ≡ true
    → Sees b first.left.now second
    → Sees (Then a b) trees seen

-- what is seen by two rules, one after the other, if the first may not end
abbrev pub StopsFirst : Seen → Seen → Type 0
StopsFirst first seen =
    (a b : G) (trees : List TokenTree) → Sees a trees first → holds_end first.next ≡ false → Sees (Then a b) trees seen

-- what is seen by one of two rules, if the first reads a sign
abbrev pub BeginsFirst : Seen → Seen → Type 0
BeginsFirst first seen =
    (a b : G) (trees : List TokenTree) → Sees a trees first → length first.left.now < length trees
    → Sees (Either a b) trees seen

-- what is seen by one of two rules, if the first reads no sign
abbrev pub Chooses : Seen → Seen → Seen → Type 0
Chooses first second seen =
    (a b : G) (trees : List TokenTree) → Sees a trees first → (length first.left.now < length trees → ⊥)
    → Sees b trees second
    → Sees (Either a b) trees seen

-- if the trees are not one part by the rule, the set has exactly the signs that could come at the error
abbrev pub ExpectsWhole : G → List TokenTree → Expected → Type 0
ExpectsWhole g trees set =
    IsStart rules follows (g ∷ []) → (at : ℕ) → FaultAt (IsWhole (ByRule g)) trees at → Expects (ByRule g) trees at set

-- if the trees begin with a part by the rule, and other trees come after it, the set has exactly `,` and the signs with
-- which the part could go on, and the end
pub record ExpectsComma (g : G) (trees : List TokenTree) (set : Expected) : Type 0 where
  pub onward : Expected
  pub goes_on : ExpectsWhole g trees onward
  pub signs : HasSigns set (λ class. is classes.Comma class || holds onward class) true
