use Rattle.std.proofs.Common.{rules, ap}
use Rattle.pm_stream.specs.Size.{is_nil}
use Rattle.pm_stream.proofs.TreeLemmas.{is_nil-forest}
use Rattle.pm_stream.proofs.stream.TokenStream.is_empty.Goals as goal

pub returns : goal.returns
returns c = let e = is_nil-forest c.trees.result.now in search (rules, e, ap is_nil c.trees.ensures.value)
