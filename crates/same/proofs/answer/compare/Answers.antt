use Rattle.std.specs.Str.{chars}
use Rattle.same.proofs.AnswerLemmas.{differ_answer, same_answer}
use Rattle.same.proofs.answer.compare.Goals as goal

pub returns-in-None : goal.returns-in-None
returns-in-None g c =
    same_answer c.args.comments (chars c.args.first.text.now) (chars c.args.second.text.now)
    (rw c.in-None.is at c.in_ok-difference.ensures)

pub returns-in_ok-write_places-in-Some : goal.returns-in_ok-write_places-in-Some
returns-in_ok-write_places-in-Some g c =
    differ_answer c.args.comments (chars c.args.first.text.now) (chars c.args.second.text.now)
    (c.in-Some.one, c.in-Some.other) (rw c.in-Some.is at c.in_ok-difference.ensures)
