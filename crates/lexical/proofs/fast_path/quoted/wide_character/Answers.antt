use Rattle.std.proofs.Common.{get_or, ◌∙◌, refl, sym, ap}
use Rattle.lexical.proofs.FastLiteralLemmas.{ends, wide_fits, wide_read}
use Rattle.lexical.proofs.fast_path.quoted.wide_character.Goals as goal

pub overflow_sub-bytes : goal.overflow_sub-bytes
overflow_sub-bytes c =
    wide_fits c.args.text.now c.in_ok-quote.inside.now c.in_ok-c.after.now c.in_ok-rest.rest.now c.in_ok-quote.quote
    c.in_ok-c.c c.utf8.text c.in_ok-rest.ensures.utf8 c.in_ok-quote.ensures.split c.if-quote-ne39.false
    c.in_ok-c.ensures.split c.in_ok-rest.ensures.split

pub returns : goal.returns
returns c first =
    let next = c.byte_at.ensures ∙ ap (λ t. get_or t 0 32) c.as_bytes.ensures.value in
    wide_read first c.args.text.now c.in_ok-quote.inside.now c.in_ok-c.after.now c.in_ok-rest.rest.now
    c.in_ok-quote.quote c.in_ok-c.c _ c.utf8.text c.in_ok-rest.ensures.utf8 c.in_ok-quote.ensures.split
    c.if-quote-ne39.false c.in_ok-c.ensures.split c.in_ok-rest.ensures.split (sym c.if-not-stands_bare.ensures)
    (ap ends (sym next) ∙ sym c.if-not-ends_literal.ensures) refl refl refl
