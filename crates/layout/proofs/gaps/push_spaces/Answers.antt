use Rattle.std.proofs.Common.{◌≡◌, ℕ, List, ◌++◌, ◌-◌, OnOk, sym, ap, ◌∙◌, append_assoc, codes}
use Rattle.std.specs.Prelude.{Result, Ok, Err}
use Rattle.std.specs.Str.{chars}
use Rattle.layout.specs.Writing.{spaces}
use Rattle.layout.proofs.GapLemmas.{eight_chars, eight_first, spaces_chars}
use Rattle.layout.proofs.gaps.push_spaces.Goals as goal

pub loop-left-preserved : goal.loop-left-preserved
loop-left-preserved c =
    ap (λ t. t ++ spaces (c.loop-left.left - 8))
    (c.in_ok-push_text.ensures.ok ∙ ap (λ s. c.loop-left.text ++ s) eight_chars)
    ∙ (append_assoc c.loop-left.text (codes "        ") (spaces (c.loop-left.left - 8))
    ∙ (ap (λ s. c.loop-left.text ++ s) (sym (eight_first c.loop-left.left c.loop-left-test.true))
    ∙ c.loop-left.invariant))

-- what is appended may be replaced by an equal text
append_equal : {E : Type 0} (r : Result (Unit {0}) E) (new one other : List ℕ) → OnOk r (new ≡ one) → one ≡ other
    → OnOk r (new ≡ other)
append_equal (Ok v) new one other e f = e ∙ f
append_equal (Err v) new one other e f = tt

pub returns : goal.returns
returns c =
    append_equal c.push_text-2.result _ _ _ c.push_text-2.ensures.ok
    (ap (λ s. c.loop-left.text ++ s) (ap chars c.few_spaces.ensures ∙ spaces_chars c.loop-left.left)
    ∙ c.loop-left.invariant)
