use Rattle.std.proofs.Common.{Err, None, ap}
use Rattle.messages.proofs.ParsedLemmas.{unparsed_may_fail}
use Rattle.proc_macro2.specs.declared.TokenStream.{TokenStream}
use Rattle.outline.proofs.answer.lines_by_trees.Goals as goal

pub returns-in-Err-clause-err : goal.returns-in-Err-clause-err
returns-in-Err-clause-err c =
    let full = rw c.new-map.ensures at c.in-Err.ensures.map_full.0 in
    unparsed_may_fail TokenStream _ None _ _ _ (rw c.new-map.ensures at c.in-Err.ensures.kept)
    (rw c.new-map.ensures at c.in-Err.ensures.fault.lex) (λ is. full (ap Err is))
    c.parse_failure.ensures.fault c.parse_failure.ensures.map_full c.parse_failure.ensures.memory
