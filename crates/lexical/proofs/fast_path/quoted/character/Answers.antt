use Rattle.std.proofs.Common.{refl}
use Rattle.lexical.proofs.FastPathLemmas.{ascii_piece}
use Rattle.lexical.proofs.FastLiteralLemmas.{character_literal, literal_piece}
use Rattle.lexical.proofs.fast_path.quoted.character.Goals as goal

pub returns : goal.returns
returns c first =
    ascii_piece first _ _ _ _ (literal_piece _ first _ _ character_literal c.in_ok-character_size.ensures) tt
    refl c.ascii_extent.ensures.bytes c.ascii_extent.ensures.chars
