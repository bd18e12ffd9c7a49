use Rattle.pm_token.proofs.SingleValueLemmas.{byte_values_come_back, bytes_have_units, character_values_come_back}
use Rattle.pm_token.proofs.SingleValueLemmas.{characters_have_units}
use Rattle.pm_token.proofs.laws.single_values.Goals as goal

pub returns : goal.returns
returns c = record {
  characters = characters_have_units;
  bytes = bytes_have_units;
  made_characters = character_values_come_back;
  made_bytes = byte_values_come_back;
}
