use Rattle.std.proofs.Common.{◌≡◌, ◌++◌, true, codes, refl, ap, ◌∙◌}
use Rattle.std.specs.Str.{chars}
use Rattle.pm_token.specs.Escaped.{string_text}
use Rattle.pm_stream.specs.Printed.{space}
use Rattle.pm_stream.specs.PrinterState.{doc_front}
use Rattle.pm_stream.proofs.ReprintLemmas.{chars_doc_front}
use Rattle.pm_stream.proofs.ReprintLemmas.{prints_doc}
use Rattle.pm_stream.proofs.reprinting.Printer.push_doc.Goals as goal

pub returns : goal.returns
returns c =
    let old = c.args.self.now in
    let front : c.write.new.self.text_out ≡ old.text_out ++ (space old.gap ++ doc_front c.args.inner)
    = c.in_ok-write.ensures.ok ∙ ap (λ x. old.text_out ++ (space old.gap ++ x))
    (ap chars c.doc_front.ensures ∙ chars_doc_front c.args.inner) in
    record {
      ok = λ lo hi.
          prints_doc old (record { text_out = c.push.new.self; gap = true }) lo hi
          c.args.inner (chars c.args.text.now)
          (c.in_ok-push.ensures.ok ∙ ap (λ d. d ++ codes "]")
          (c.in_ok-push_string.ensures.ok ∙ ap (λ d. d ++ string_text (chars c.args.text.now)) front))
          refl;
    }
