use Rattle.std.proofs.Common.{rules}
use Rattle.pm_c.proofs.session.Session.file_name.Goals as goal

pub returns-in-Ok : goal.returns-in-Ok
returns-in-Ok c = record {
  codes = search rules;
  done = λ _. record { text = rw c.in-Some.ensures.found.0 at c.in-Ok.ensures.ok; count = search rules };
  not_held = search rules;
  unchanged = search rules;
  rest = search rules;
}
