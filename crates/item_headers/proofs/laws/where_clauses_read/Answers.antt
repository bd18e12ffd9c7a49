use Rattle.item_headers.proofs.LawLemmas.{bounded_clause_reads, clause_reads}
use Rattle.item_headers.proofs.laws.where_clauses_read.Goals as goal

pub returns : goal.returns
returns c = record { item = clause_reads; bounded = bounded_clause_reads }
