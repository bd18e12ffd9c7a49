use Rattle.std.proofs.lemmas.List.{take_rest}
use Rattle.lexical.proofs.FastSingleLemmas.{character_extent}
use Rattle.lexical.proofs.fast_path.quoted.letter_character.Goals as goal

pub returns : goal.returns
returns c =
    character_extent c.args.text.now c.as_bytes-bytes.result.now _ _ _ _ c.as_bytes-bytes.ensures.value
    c.byte_at.ensures c.if-byte_at-ne39.false (take_rest c.as_bytes-bytes.result.now 1) c.in_ok-size.ensures
    c.ascii_extent.ensures.bytes c.ascii_extent.ensures.chars
