use Rattle.pm_token.proofs.CStringValueLemmas.{c_strings_come_back}
use Rattle.pm_token.proofs.ValueLawLemmas.{byte_strings_come_back, bytes_come_back, characters_come_back}
use Rattle.pm_token.proofs.ValueLawLemmas.{strings_come_back}
use Rattle.pm_token.proofs.laws.values_come_back.Goals as goal

pub returns : goal.returns
returns c = record {
  strings = strings_come_back;
  byte_strings = byte_strings_come_back;
  c_strings = c_strings_come_back;
  characters = characters_come_back;
  bytes = bytes_come_back;
}
