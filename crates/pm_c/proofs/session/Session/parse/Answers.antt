use Rattle.std.proofs.Common.{rules}
use Rattle.pm_c.proofs.session.Session.parse.Goals as goal

pub returns-in-Err : goal.returns-in-Err
returns-in-Err c = record {
  codes = search rules;
  done = search rules;
  fault = c.in-Err.ensures.fault;
  not_utf8 = c.in-Err.ensures.not_utf8;
  map_full = c.in-Err.ensures.map_full;
  too_long = search rules;
  left = record {
    not_utf8 = search rules;
    map_full = search rules;
    fault = search rules;
    memory = search rules;
    too_long = search rules;
    streams = search rules;
    rest = search rules;
  };
}
