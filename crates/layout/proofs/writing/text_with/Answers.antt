use Rattle.std.specs.Prelude.{string_bytes}
use Rattle.std.specs.Str.{chars}
use Rattle.layout.proofs.CoverLemmas.{layout_returns}
use Rattle.layout.proofs.WrittenLemmas.{written_layout}
use Rattle.layout.proofs.writing.text_with.Goals as goal

pub returns-clause-layout : goal.returns-clause-layout
returns-clause-layout g c =
    written_layout g.C.Chooser.gap_gives _ _ c.args.stream.now (chars (string_bytes c.in_ok-text.text))
    c.in_ok-text.ensures

pub returns-clause-back : goal.returns-clause-back
returns-clause-back g c = λ base.
    let text = chars (string_bytes c.in_ok-text.text) in
    layout_returns base c.args.stream.now text c.is_well_spaced.ensures.built
    (c.is_well_spaced.ensures.value.0 c.if-not-is_well_spaced.false)
    (written_layout g.C.Chooser.gap_gives _ _ c.args.stream.now text c.in_ok-text.ensures)
