use Rattle.pm_stream.proofs.LawLemmas as laws
use Rattle.proc_macro2.proofs.laws.one_cover.Goals as goal

pub returns : goal.returns
returns c = record {
  cover = laws.one_cover;
  stream = laws.one_parse;
  outcome = laws.has_outcome;
  apart = laws.parses_or_not;
  fault = laws.one_fault;
}
