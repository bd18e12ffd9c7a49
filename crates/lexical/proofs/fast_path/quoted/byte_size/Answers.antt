use Rattle.std.proofs.Common.{get_or, drop, sym, ap, ◌∙◌}
use Rattle.std.proofs.lemmas.List.{take_rest}
use Rattle.lexical.proofs.FastSingleLemmas.{byte_read}
use Rattle.lexical.proofs.fast_path.quoted.byte_size.Goals as goal

pub returns : goal.returns
returns c =
    let same = c.as_bytes-bytes.ensures.value in
    byte_read c.args.text.now _ _
    (ap (λ t. get_or t 0 32) (sym same) ∙ (sym c.byte_at.ensures ∙ c.if-byte_at-ne98.false))
    (ap (λ t. get_or t 1 32) (sym same) ∙ (sym c.byte_at-else-byte_at-ne98.ensures ∙ c.if-byte_at-ne39.false))
    (take_rest c.as_bytes-bytes.result.now 2 ∙ ap (drop 2) same) c.in_ok-single_size.ensures
