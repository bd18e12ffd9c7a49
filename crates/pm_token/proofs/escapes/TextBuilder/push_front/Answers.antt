use Rattle.std.proofs.Common.{◌++◌, codes, ap, ◌∙◌}
use Rattle.std.specs.Str.Chunks.{utf8_chunk_valid, utf8_chunks_rest}
use Rattle.pm_token.specs.Escaped.{hex_pair}
use Rattle.pm_token.proofs.CStringLemmas.{chunk_whole, chunk_long, front_and_byte, front_alone}
use Rattle.pm_token.proofs.escapes.TextBuilder.push_front.Goals as goal

pub returns-in_ok-push_hex-in-Some-split_first-clause-ok : goal.returns-in_ok-push_hex-in-Some-split_first-clause-ok
returns-in_ok-push_hex-in-Some-split_first-clause-ok c =
    let left = utf8_chunks_rest c.utf8_chunks.result in
    let whole =
    chunk_whole c.args.bytes.now left
    (utf8_chunk_valid c.in-Some.chunk) c.valid-text.result.now _ c.utf8_chunks.ensures.rest
    c.in-Some.ensures.steps.0 c.valid-text.ensures in
    let long =
    chunk_long c.args.bytes.now left (utf8_chunk_valid c.in-Some.chunk) c.valid-text.result.now
    c.utf8_chunks.ensures.rest c.in-Some.ensures.steps.3.0 c.valid-text.ensures in
    front_and_byte c.args.bytes.now c.valid-text.result.now _ c.in-Some-split_first.rest.now c.args.self.now
    c.push_hex.new.self c.in-Some-split_first.field-0-0.now
    c.valid-text.utf8 whole long c.in-Some-split_first.ensures.cases.0 c.requires.nonzero
    (c.in_ok-push_hex-in-Some-split_first.ensures.ok
    ∙ ap (λ x. x ++ (codes "\\x" ++ hex_pair c.in-Some-split_first.field-0-0.now))
    c.in_ok-push_content.ensures.ok)

pub returns-in-None-clause-ok : goal.returns-in-None-clause-ok
returns-in-None-clause-ok c =
    let whole =
    chunk_whole c.args.bytes.now (utf8_chunks_rest c.utf8_chunks.result)
    (utf8_chunk_valid c.in-Some.chunk) c.valid-text.result.now _ c.utf8_chunks.ensures.rest
    c.in-Some.ensures.steps.0 c.valid-text.ensures in
    front_alone c.args.bytes.now c.valid-text.result.now _ c.args.self.now c.push_content.new.self
    c.valid-text.utf8 whole c.in-None.ensures.cases c.requires.nonzero c.requires.some c.in_ok-push_content.ensures.ok
