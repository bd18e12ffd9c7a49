use Rattle.std.proofs.Common.{arith}
use Rattle.std.specs.Str.{chars}
use Rattle.token_buffer.proofs.CutLemmas.{name_fits}
use Rattle.pm_stream.proofs.ReadingLemmas.{on_ok}
use Rattle.token_buffer.proofs.FilledLemmas.{fills_name}
use Rattle.token_buffer.proofs.filling.FillingTokenSink.name.Goals as goal

pub overflow_cast-lo : goal.overflow_cast-lo
overflow_cast-lo c =
    let is = c.requires.0.is in
    let lexed = c.args.lexed in
    let fits = name_fits is.first (chars lexed.text.now) lexed.piece c.args.raw c.args.name is.found c.requires.1 in
    omega (arith, fits, c.bytes-hi.ensures.ends)

pub overflow_sub-lo : goal.overflow_sub-lo
overflow_sub-lo c =
    let is = c.requires.0.is in
    let lexed = c.args.lexed in
    let fits = name_fits is.first (chars lexed.text.now) lexed.piece c.args.raw c.args.name is.found c.requires.1 in
    omega (arith, fits, c.bytes-hi.ensures.ends)

pub returns : goal.returns
returns c =
    on_ok c.push.result (λ step to.
    fills_name c.args.self.now c.args.lexed to c.push.new.self c.args.raw c.args.name _ _ c.requires.1
    (c.bytes-hi.ensures.begins to) c.bytes-hi.ensures.ends step) c.push.ensures
