use Rattle.std.proofs.Common.{true, ◌++◌, refl, ap, ◌∙◌, subst}
use Rattle.std.specs.Str.{encode_utf8_all}
use Rattle.std.proofs.Output.{has_written_of_eq}
use Rattle.pm_stream.proofs.PrintLemmas.{written_more}
use Rattle.token_buffer.specs.Entries.{AreWithin}
use Rattle.token_buffer.proofs.PartLemmas.{all_printed, printed_first, printed_last}
use Rattle.token_buffer.proofs.display.CursorDisplay.fmt.Goals as goal

pub loop-entry-preserved : goal.loop-entry-preserved
loop-entry-preserved g c =
    let text = c.args.self.now.text.now in
    let first = c.in-Some.ensures.cases.0 in
    record {
      written = λ plain.
          let now = c.loop-entry.invariant.written plain in
          let more = c.in_ok-print_part.ensures now.1.plain (refl {a = true}) in
          written_more _ _ _ _ _ _ _ _ now.1 more
          (ap (λ x. now.0 ++ x) (printed_first text c.loop-entry.entries.now c.in-Some.entry.now c.in-Some.after.now
          c.part_of-first.result c.loop-entry.gap c.gap_after-gap.result first c.part_of-first.ensures
          c.gap_after-gap.ensures) ∙ now.2);
      within = (subst (AreWithin text) first c.loop-entry.invariant.within).1;
    }

pub returns-clause-writes : goal.returns-clause-writes
returns-clause-writes g c = λ plain ok.
    let text = c.args.self.now.text.now in
    let now = c.loop-entry.invariant.written plain in
    has_written_of_eq _ _ _ _ _
    (ap encode_utf8_all (printed_last text c.loop-entry.entries.now c.loop-entry.gap now.0 _ c.in_default.ensures.cases
    now.2 ∙ all_printed text c.args.self.now.entries.now c.args.self.now.holds))
    now.1
