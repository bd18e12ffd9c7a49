use Rattle.std.proofs.Common.{◌∙◌}
use Rattle.lexical.proofs.CountLemmas.{front_range}
use Rattle.highlight.proofs.EscapeLemmas.{bare_line_after, bare_shown}
use Rattle.highlight.proofs.writing.Sheet.push_bare.Goals as goal

pub returns-clause-shown : goal.returns-clause-shown
returns-clause-shown c =
    bare_shown _ _ c.args.self.now.line c.args.text.now c.bare_size-size.result c.range.result.now _
    (rw c.as_bytes.ensures.value at c.bare_size-size.ensures.within)
    (λ k below. rw c.as_bytes.ensures.value at c.bare_size-size.ensures.bare k below)
    (c.range.ensures.value ∙ front_range _ _)
    c.range_from.ensures.value c.in_ok-push_str.ensures.bytes

pub returns-clause-line : goal.returns-clause-line
returns-clause-line c =
    bare_line_after c.args.self.now.line c.args.text.now c.bare_size-size.result _
    (rw c.as_bytes.ensures.value at c.bare_size-size.ensures.within)
    (λ k below. rw c.as_bytes.ensures.value at c.bare_size-size.ensures.bare k below) c.range_from.ensures.value
