use Rattle.pm_token.proofs.CookedValueLemmas.{byte_strings_have_values, c_strings_have_values, strings_have_values}
use Rattle.pm_token.proofs.laws.cooked_values.Goals as goal

pub returns : goal.returns
returns c = record {
  strings = strings_have_values;
  byte_strings = byte_strings_have_values;
  c_strings =
      c_strings_have_values;
}
