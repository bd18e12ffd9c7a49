use Rattle.layout.proofs.CoverLemmas.{layout_returns}
use Rattle.layout.proofs.PrintedLemmas.{printed_layout}
use Rattle.layout.proofs.laws.layouts_come_back.Goals as goal

pub returns : goal.returns
returns c = record { back = layout_returns; printed = λ stream built w. printed_layout stream w }
