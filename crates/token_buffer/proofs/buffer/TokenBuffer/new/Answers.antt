use Rattle.std.proofs.Common.{◌<◌, ◌≤◌, ◌^◌, inr, length, subst, arith, rules}
use Rattle.std.specs.Str.{chars}
use Rattle.pm_span.specs.Files.{new_map, next_lo}
use Rattle.pm_stream.proofs.LawLemmas.{parsed_faultless, refused_only}
use Rattle.token_buffer.specs.Many.{HasManyTokens}
use Rattle.token_buffer.proofs.BuiltLemmas.{parsed_text_built}
use Rattle.token_buffer.proofs.FilledLemmas.{filled_few, filled_many, filled_parses}
use Rattle.token_buffer.proofs.buffer.TokenBuffer.new.Goals as goal

pub returns-in_err-read-clause-fault : goal.returns-in_err-read-clause-fault
returns-in_err-read-clause-fault c =
    let only = refused_only _ (next_lo new_map) (chars c.args.text.now) c.read.result c.in-Some.ensures.found.1
    c.read.ensures.lex in
    record { apart = search rules; lex = search rules; only = search rules }

pub returns-then-len-clause-many : goal.returns-then-len-clause-many
returns-then-len-clause-many c =
    let size : 2 ^ 32 ≤ length c.read.new.sink.entries.items = search rules in
    inr (subst (λ base. HasManyTokens base (chars c.args.text.now)) c.in-Some.ensures.found.1
    (filled_many _ _ c.read.new.sink c.in_ok-read.ensures.ok size))

pub invariant_of-result : goal.invariant_of-result
invariant_of-result c =
    let all = c.in_ok-read.ensures.ok in
    let size : length c.read.new.sink.entries.items < 2 ^ 32 = search rules in (
      all.takes.entries size,
      parsed_text_built _ c.args.text.now _ c.utf8.text (filled_parses _ _ c.read.new.sink all),
    )

pub returns-clause-fault : goal.returns-clause-fault
returns-clause-fault c = record {
  apart =
      parsed_faultless _ (next_lo new_map) (chars c.args.text.now) _ c.in-Some.ensures.found.1
      c.in_ok-read.ensures.ok.parses;
  lex = tt;
  only = tt;
}

pub returns-clause-few : goal.returns-clause-few
returns-clause-few c =
    let size : length c.read.new.sink.entries.items < 2 ^ 32 = search rules in
    (omega arith, filled_few _ _ c.read.new.sink c.in_ok-read.ensures.ok size)
