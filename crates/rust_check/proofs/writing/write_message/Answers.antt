use Rattle.std.proofs.Common.{OnOk, subst, sym}
use Rattle.std.specs.Io.KnownBytes.{Appends}
use Rattle.rust_check.specs.Message.{long, message, finding_of}
use Rattle.rust_check.proofs.writing.write_message.Goals as goal

pub returns-in-Coloured : goal.returns-in-Coloured
returns-in-Coloured g c =
    let bytes = g.W.Write.contents in
    let line_written = c.write_long-in-Coloured in
    let path = c.args.path.now in
    let found = finding_of c.args.finding.now in
    subst (λ f. OnOk line_written.result
    (Appends (bytes c.args.writer.now) (bytes line_written.new.writer) (message f path found)))
    (sym c.in-Coloured.is)
    (subst (λ k. OnOk line_written.result
    (Appends (bytes c.args.writer.now) (bytes line_written.new.writer) (long k path found)))
    c.terminal.ensures line_written.ensures)
