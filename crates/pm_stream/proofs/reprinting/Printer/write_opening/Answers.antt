use Rattle.std.proofs.Common.{◌≡◌, ◌++◌, sym, ap, ◌∙◌, subst, OnOk}
use Rattle.std.proofs.lemmas.Str.{chars-nil}
use Rattle.pm_stream.specs.Delimited.{opening}
use Rattle.pm_stream.specs.Printed.{space}
use Rattle.pm_stream.proofs.reprinting.Printer.write_opening.Goals as goal

pub returns-in-None : goal.returns-in-None
returns-in-None c = record {
  ok = subst (λ x. OnOk c.write.result (c.write.new.self.text_out
      ≡ c.args.self.now.text_out ++ (space c.args.self.now.gap ++ x)))
      (chars-nil ∙ sym (ap opening c.in-None.is)) c.write.ensures.ok;
}
