use Rattle.std.proofs.Common.{rules, refl}
use Rattle.std.specs.Str.{chars}
use Rattle.lexical.proofs.RuleSteps.{text_passes, text_lacks}
use Rattle.lexical.proofs.cursor.TextCursor.past.Goals as goal

pub returns-in_err-rest : goal.returns-in_err-rest
returns-in_err-rest c =
    let nothing = text_lacks c.args.front.now (chars c.args.self.rest.now) c.in_err-rest.ensures.split in
    search (rules, nothing)

pub returns : goal.returns
returns c = text_passes c.args.front.now c.args.self _ c.in_ok-rest.ensures.split refl
