use Rattle.std.proofs.Common.{get_or, refl, sym}
use Rattle.std.proofs.lemmas.List.{take_rest}
use Rattle.lexical.proofs.FastExponentLemmas.{dotless_read}
use Rattle.lexical.proofs.fast_path.numbers.dotless_size.Goals as goal

pub returns : goal.returns
returns c =
    let bytes = c.args.bytes.now in
    dotless_read bytes bytes _ (get_or bytes 0 32) c.args.digits c.byte_at.result c.in_ok-end.end refl refl
    (sym c.requires.first) c.requires.count c.byte_at.ensures c.if-not-holds_ascii.ensures
    (take_rest bytes c.args.digits) c.in_ok-end.ensures.end
