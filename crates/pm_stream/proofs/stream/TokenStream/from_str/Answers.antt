use Rattle.std.proofs.lemmas.Result.{IfOk-from_err}
use Rattle.std.specs.Str.{chars}
use Rattle.pm_stream.proofs.FaultLemmas.{parsed_held}
use Rattle.pm_stream.proofs.LawLemmas.{parsed_reported}
use Rattle.pm_stream.proofs.SpanLemmas.{parsed_spans}
use Rattle.pm_stream.proofs.stream.TokenStream.from_str.Goals as goal

pub returns-clause-spans : goal.returns-clause-spans
returns-clause-spans c =
    parsed_spans c.args.map.now c.add_file.new.map c.in-Some.lo (chars c.args.text.now) c.parse-parsed.result
    c.in-Some.ensures.found.1 c.in_ok-add_file.ensures.ok c.parse-parsed.ensures.ok

pub returns-clause-fault : goal.returns-clause-fault
returns-clause-fault c =
    parsed_reported c.in-Some.lo _ (chars c.args.text.now) c.parse-parsed.result c.in-Some.ensures.found.1
    c.parse-parsed.ensures.ok c.parse-parsed.ensures.lex

pub returns-clause-held : goal.returns-clause-held
returns-clause-held c =
    parsed_held c.args.map.now c.add_file.new.map c.in-Some.lo
    (chars c.args.text.now) c.parse-parsed.result c.in-Some.ensures.found.1 c.in_ok-add_file.ensures.ok
    c.parse-parsed.ensures.lex

pub returns-clause-ok : goal.returns-clause-ok
returns-clause-ok c = rw (← c.in-Some.ensures.found.1) c.parse-parsed.ensures.ok

pub returns-clause-built : goal.returns-clause-built
returns-clause-built c = c.parse-parsed.ensures.built

pub returns-clause-within : goal.returns-clause-within
returns-clause-within c = λ read. c.in-Some.ensures.found.0

pub returns-in_default-clause-ok : goal.returns-in_default-clause-ok
returns-in_default-clause-ok c = tt

pub returns-in_default-clause-built : goal.returns-in_default-clause-built
returns-in_default-clause-built c = tt

pub returns-in_default-clause-spans : goal.returns-in_default-clause-spans
returns-in_default-clause-spans c = tt

pub returns-in_err-add_file-clause-ok : goal.returns-in_err-add_file-clause-ok
returns-in_err-add_file-clause-ok c = IfOk-from_err c.from_residual.result _ c.from_residual.ensures.0
