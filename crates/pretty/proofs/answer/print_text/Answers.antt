use Rattle.std.proofs.Common.{Err, ap}
use Rattle.messages.proofs.ParsedLemmas.{unparsed_may_fail}
use Rattle.proc_macro2.proofs.Returns.{parsed_spaced}
use Rattle.proc_macro2.specs.declared.TokenStream.{TokenStream}
use Rattle.pretty.proofs.answer.print_text.Goals as goal

pub print_stream-requires : goal.print_stream-requires
print_stream-requires g c = parsed_spaced _ _ _ c.in-Ok.ensures.ok

pub returns-clause-err : goal.returns-clause-err
returns-clause-err g c =
    let full = rw c.new-map.ensures at c.in-Err.ensures.map_full.0 in
    rw (← c.split_script.ensures.code)
    (unparsed_may_fail TokenStream _ _ _ _ _ (rw c.new-map.ensures at c.in-Err.ensures.kept)
    (rw c.new-map.ensures at c.in-Err.ensures.fault.lex) (λ is. full (ap Err is))
    c.parse_failure.ensures.fault c.parse_failure.ensures.map_full c.parse_failure.ensures.memory)

pub returns-in-Ok-clause-err : goal.returns-in-Ok-clause-err
returns-in-Ok-clause-err g c = c.in-Err-print_stream.ensures.err _
