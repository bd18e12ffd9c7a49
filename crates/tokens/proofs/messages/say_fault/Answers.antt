use Rattle.std.proofs.KnownBytes.{Appends-trans}
use Rattle.std.proofs.lemmas.Result.{IfOk-weaker}
use Rattle.tokens.proofs.KnownLemmas.{AppendsFront-more, AppendsFront-after}
use Rattle.tokens.proofs.messages.say_fault.Goals as goal

pub returns-in_err-write_all-clause-front : goal.returns-in_err-write_all-clause-front
returns-in_err-write_all-clause-front g c = AppendsFront-more _ _ _ _ c.write_all.ensures.front

pub returns-in_err-say_number-clause-front : goal.returns-in_err-say_number-clause-front
returns-in_err-say_number-clause-front g c =
    AppendsFront-after _ _ _ _ _ c.in_ok-write_all.ensures.ok (AppendsFront-more _ _ _ _ c.say_number.ensures.front)

pub returns-in_err-write_all-2-clause-front : goal.returns-in_err-write_all-2-clause-front
returns-in_err-write_all-2-clause-front g c =
    AppendsFront-after _ _ _ _ _ c.in_ok-write_all.ensures.ok
    (AppendsFront-after _ _ _ _ _ c.in_ok-say_number.ensures.ok (AppendsFront-more _ _ _ _ c.write_all-2.ensures.front))

pub returns-in_err-say_number-2-clause-front : goal.returns-in_err-say_number-2-clause-front
returns-in_err-say_number-2-clause-front g c =
    AppendsFront-after _ _ _ _ _ c.in_ok-write_all.ensures.ok
    (AppendsFront-after _ _ _ _ _ c.in_ok-say_number.ensures.ok
    (AppendsFront-after _ _ _ _ _ c.in_ok-write_all-2.ensures.ok
    (AppendsFront-more _ _ _ _ c.say_number-2.ensures.front)))

pub returns-clause-front : goal.returns-clause-front
returns-clause-front g c =
    AppendsFront-after _ _ _ _ _ c.in_ok-write_all.ensures.ok
    (AppendsFront-after _ _ _ _ _ c.in_ok-say_number.ensures.ok
    (AppendsFront-after _ _ _ _ _ c.in_ok-write_all-2.ensures.ok
    (AppendsFront-after _ _ _ _ _ c.in_ok-say_number-2.ensures.ok c.write_all-3.ensures.front)))

pub returns-clause-ok : goal.returns-clause-ok
returns-clause-ok g c =
    IfOk-weaker c.write_all-3.result _ _ (λ _ last.
    Appends-trans _ _ _ _ _ c.in_ok-write_all.ensures.ok
    (Appends-trans _ _ _ _ _ c.in_ok-say_number.ensures.ok
    (Appends-trans _ _ _ _ _ c.in_ok-write_all-2.ensures.ok
    (Appends-trans _ _ _ _ _ c.in_ok-say_number-2.ensures.ok last)))) c.write_all-3.ensures.ok
