use Rattle.item_headers.proofs.LawLemmas.{header_reads}
use Rattle.item_headers.proofs.laws.header_reads.Goals as goal

pub returns : goal.returns
returns c = header_reads
