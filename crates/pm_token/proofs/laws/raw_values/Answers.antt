use Rattle.pm_token.proofs.RawValueLemmas.{raw_byte_strings, raw_c_strings, raw_strings}
use Rattle.pm_token.proofs.laws.raw_values.Goals as goal

pub returns : goal.returns
returns c = record { strings = raw_strings; byte_strings = raw_byte_strings; c_strings = raw_c_strings }
