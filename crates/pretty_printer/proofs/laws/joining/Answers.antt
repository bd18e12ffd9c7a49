use Rattle.pretty_printer.proofs.JoiningLemmas.{joins_once, nothing_wanted, only_spacing, stays_well_spaced}
use Rattle.pretty_printer.proofs.JoiningLemmas.{was_well_spaced}
use Rattle.pretty_printer.proofs.PrettyTextLemmas.{as_in_its_text}
use Rattle.pretty_printer.proofs.laws.joining.Goals as goal

pub returns : goal.returns
returns c = record {
  spacing = only_spacing;
  once = joins_once;
  spaced = stays_well_spaced;
  before = was_well_spaced;
  nothing = nothing_wanted;
  same = as_in_its_text;
}
