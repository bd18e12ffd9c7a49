use Rattle.std.proofs.Common.{◌≡◌, length, refl, rules}
use Rattle.token_buffer.specs.declared.filling.OpenGroup.{OpenGroup}
use Rattle.token_buffer.proofs.FilledLemmas.{fills_open}
use Rattle.token_buffer.proofs.filling.FillingTokenSink.open.Goals as goal

pub returns : goal.returns
returns c =
    let group : OpenGroup =
    record { delimiter = c.args.delimiter; lo = c.args.lexed.at; index = c.len-index.result } in
    let index : c.len-index.result ≡ length c.args.self.now.entries.items = search rules in (
      refl,
      λ can.
          fills_open c.args.self.now c.push.new.self can.to.before can.to.is.found.front group can.to.takes
          c.in_ok-push.ensures index,
    )
