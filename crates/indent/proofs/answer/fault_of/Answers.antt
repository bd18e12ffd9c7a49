use Rattle.std.proofs.Common.{Err, ap}
use Rattle.messages.proofs.ParsedLemmas.{unparsed_may_fail}
use Rattle.proc_macro2.specs.declared.TokenStream.{TokenStream}
use Rattle.indent.proofs.answer.fault_of.Goals as goal

pub returns : goal.returns
returns c = λ known.
    let full = rw c.new-map.ensures at c.in-Err.ensures.map_full.0 in
    unparsed_may_fail TokenStream _ known _ _ _ (rw c.new-map.ensures at c.in-Err.ensures.kept)
    (rw c.new-map.ensures at c.in-Err.ensures.fault.lex) (λ is. full (ap Err is))
    c.parse_failure.ensures.fault c.parse_failure.ensures.map_full c.parse_failure.ensures.memory

pub unreachable-requires : goal.unreachable-requires
unreachable-requires c =
    let none = rw c.new-map.ensures at c.in-Ok.ensures.fault.apart in none c.requires.0 c.requires.1
