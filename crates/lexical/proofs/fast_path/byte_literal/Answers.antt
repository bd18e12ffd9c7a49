use Rattle.std.proofs.Common.{refl}
use Rattle.lexical.proofs.FastPathLemmas.{ascii_piece}
use Rattle.lexical.proofs.FastLiteralLemmas.{byte_literal, byte_string_literal, literal_piece}
use Rattle.lexical.proofs.FastStringLemmas.{found_other}
use Rattle.lexical.proofs.fast_path.byte_literal.Goals as goal

pub returns-in-Some : goal.returns-in-Some
returns-in-Some c first =
    ascii_piece first _ _ _ _ (literal_piece _ first _ _ byte_literal c.in-Some.ensures) tt
    refl c.ascii_extent.ensures.bytes c.ascii_extent.ensures.chars

pub count_extent-requires : goal.count_extent-requires
count_extent-requires c = found_other _ _ _ _ byte_string_literal c.in_ok-byte_string_size-in-None.ensures
