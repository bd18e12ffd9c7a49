use Rattle.item_headers.proofs.LawLemmas.{header_with_clause}
use Rattle.item_headers.proofs.laws.header_with_clause_reads.Goals as goal

pub returns : goal.returns
returns c = header_with_clause
