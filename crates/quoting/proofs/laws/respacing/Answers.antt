use Rattle.quoting.proofs.SpacingLemmas.{respace_spaces, hopeless, only_spacing, keeps, respacing_unchanged}
use Rattle.quoting.proofs.laws.respacing.Goals as goal

pub returns : goal.returns
returns c = record {
  spaced = respace_spaces;
  hopeless = hopeless;
  spacing = only_spacing;
  keeps = keeps;
  unchanged = respacing_unchanged;
}
