use Rattle.std.proofs.Common.{◌+◌, refl, ap}
use Rattle.lexical.specs.Token.{Mark}
use Rattle.pm_stream.specs.Events.{One}
use Rattle.pm_stream.proofs.ReadingLemmas.{on_ok}
use Rattle.token_buffer.specs.declared.entry.Entry.TheVariants as entries
use Rattle.token_buffer.proofs.FilledLemmas.{fills_token}
use Rattle.token_buffer.proofs.filling.FillingTokenSink.mark.Goals as goal

pub returns : goal.returns
returns c =
    let lexed = c.args.lexed in
    on_ok c.push.result (λ step to.
    fills_token c.args.self.now lexed to c.push.new.self
    (entries.Mark c.args.joint c.args.mark lexed.at (lexed.at + lexed.piece.chars)) (Mark c.args.mark c.args.joint)
    step (ap (λ n. One (Mark c.args.mark c.args.joint) lexed.at (lexed.at + n)) to.is.found.chars) refl tt)
    c.push.ensures
