use Rattle.std.proofs.Common.{get_or, drop, sym, ap, ◌∙◌}
use Rattle.std.proofs.lemmas.List.{take_rest}
use Rattle.lexical.proofs.FastSingleLemmas.{character_read}
use Rattle.lexical.proofs.fast_path.quoted.character_size.Goals as goal

pub returns : goal.returns
returns c =
    let same = c.as_bytes-bytes.ensures.value in
    character_read c.args.text.now _ _
    (ap (λ t. get_or t 0 32) (sym same) ∙ (sym c.byte_at.ensures ∙ c.if-byte_at-ne39.false))
    (take_rest c.as_bytes-bytes.result.now 1 ∙ ap (drop 1) same) c.in_ok-single_size.ensures
