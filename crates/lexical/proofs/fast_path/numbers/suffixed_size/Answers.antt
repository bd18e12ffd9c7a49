use Rattle.std.proofs.Common.{sym, ◌∙◌}
use Rattle.std.proofs.lemmas.List.{take_rest}
use Rattle.lexical.proofs.FastNumberLemmas.{suffixed_read}
use Rattle.lexical.proofs.fast_path.numbers.suffixed_size.Goals as goal

pub returns : goal.returns
returns c =
    suffixed_read c.args.bytes.now _ c.args.digits c.byte_at.result c.in_ok-suffix.suffix c.requires.first
    c.requires.count c.byte_at.ensures (sym c.if-not-begins_suffix.false ∙ c.begins_suffix.ensures)
    (take_rest c.args.bytes.now c.args.digits) c.in_ok-suffix.ensures.end c.in_ok-suffix.ensures.ascii
