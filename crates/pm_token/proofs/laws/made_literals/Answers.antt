use Rattle.pm_token.proofs.KindLawLemmas.{byte_strings_are_byte_strings, bytes_are_bytes, c_strings_are_c_strings}
use Rattle.pm_token.proofs.KindLawLemmas.{characters_are_characters, strings_are_strings}
use Rattle.pm_token.proofs.laws.made_literals.Goals as goal

pub returns : goal.returns
returns c = record {
  strings = strings_are_strings;
  byte_strings = byte_strings_are_byte_strings;
  c_strings = c_strings_are_c_strings;
  characters = characters_are_characters;
  bytes = bytes_are_bytes;
}
