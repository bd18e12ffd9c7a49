use Rattle.std.proofs.Common.{ap, arith}
use Rattle.pm_span.proofs.FileTextLemmas.{ascii_offset}
use Rattle.pm_span.proofs.file_info.FileInfo.byte_range.Goals as goal

pub returns-in-Ascii : goal.returns-in-Ascii
returns-in-Ascii c =
    let text = ap (λ file. file.text) c.self.view_is in
    let size = c.self.invariant.size in
    let within = c.requires.within in
    record {
      start = ascii_offset c.args.start c.in-Ascii.is size text (omega (arith, c.requires.ordered, within));
      end = ascii_offset c.args.end c.in-Ascii.is size text within;
    }
