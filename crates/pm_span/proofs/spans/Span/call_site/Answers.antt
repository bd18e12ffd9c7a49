use Rattle.pm_span.proofs.FileLemmas.{holds_nowhere}
use Rattle.pm_span.proofs.spans.Span.call_site.Goals as goal

pub returns-clause-held : goal.returns-clause-held
returns-clause-held c = holds_nowhere
