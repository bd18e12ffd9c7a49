use Rattle.lexical.proofs.FastLiteralLemmas.{byte_literal, byte_string_literal, character_literal, number_literal}
use Rattle.lexical.proofs.FastLiteralLemmas.{string_literal}
use Rattle.lexical.proofs.FastStringLemmas.{ascii_found, found_other, some_found, some_literal}
use Rattle.lexical.proofs.fast_path.fast_literal.Goals as goal

pub returns-in-Some : goal.returns-in-Some
returns-in-Some c = found_other _ _ _ _ number_literal (ascii_found _ c.args.text.now _ c.in-Some.ensures)

pub returns-in-None : goal.returns-in-None
returns-in-None c = some_literal _ c.args.text.now _ number_literal c.long_number_size.ensures

pub returns-in-DoubleQuote : goal.returns-in-DoubleQuote
returns-in-DoubleQuote c = some_found _ c.args.text.now _ string_literal c.string_size.ensures

pub returns-in-Quote : goal.returns-in-Quote
returns-in-Quote c = some_literal _ c.args.text.now _ character_literal c.character_size.ensures

pub returns-in-Some-byte_size : goal.returns-in-Some-byte_size
returns-in-Some-byte_size c =
    found_other _ _ _ _ byte_literal (ascii_found _ c.args.text.now _ c.in-Some-byte_size.ensures)

pub returns-in-None-byte_size : goal.returns-in-None-byte_size
returns-in-None-byte_size c = some_found _ c.args.text.now _ byte_string_literal c.byte_string_size.ensures
