use Rattle.std.proofs.Common.{refl}
use Rattle.lexical.proofs.FastPathLemmas.{ascii_piece, literal_at}
use Rattle.lexical.proofs.fast_path.long_number.Goals as goal

pub returns : goal.returns
returns c first =
    ascii_piece first _ _ _ _ (literal_at first _ _ c.in_ok-long_number_size.ensures) tt
    refl c.ascii_extent.ensures.bytes c.ascii_extent.ensures.chars
